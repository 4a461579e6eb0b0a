use Rattle.std.proofs.Common.{◌∙◌, ℕ, List, ap}
use Rattle.std.specs.Int.{w32, to_le_bytes}
use Rattle.zd_model.specs.Bytes.{overwrite, u32_at}
use Rattle.zd_map.proofs.EntryLaws.{named_there, stays}
use Rattle.zd_map.proofs.put_zone.Goals as goal

pub returns-clause-zone : goal.returns-clause-zone
returns-clause-zone c =
    named_there c.put_number.new.block c.args.block.now c.args.at c.args.zone c.requires.inside c.requires.zone
    (c.put_number.ensures ∙ ap (λ n. overwrite c.args.block.now c.args.at (to_le_bytes w32 n)) c.number_of.ensures)

pub returns-clause-others : goal.returns-clause-others
returns-clause-others c k apart =
    ap (λ (l : List ℕ). u32_at l k) c.put_number.ensures
    ∙ stays c.args.block.now c.args.at c.number_of.result k c.requires.inside apart
