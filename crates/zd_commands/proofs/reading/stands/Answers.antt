use Rattle.std.proofs.Common.{◌≡◌, ◌∙◌, Bool, Some, codes, cond, true, false}
use Rattle.clap.specs.Words.{found_of, one_of, rows_of}
use Rattle.clap.proofs.WalkLemmas.{one_text-rows}
use Rattle.zd_commands.proofs.reading.stands.Goals as goal

pub returns : goal.returns
returns c = go
  where
    go : (b : Bool) → one_of c.args.name.now (rows_of (found_of c.args.found.now)) ≡ Some (cond b (codes "true") (codes "false")) → c.get_flag.result ≡ b
    go true h = c.get_flag.ensures.value (one_text-rows (found_of c.args.found.now) c.args.name.now ∙ h)
    go false h = c.get_flag.ensures.other (one_text-rows (found_of c.args.found.now) c.args.name.now ∙ h)
