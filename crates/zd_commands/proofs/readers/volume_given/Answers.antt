use Rattle.std.proofs.Common.{rules, ◌≡◌, ◌∙◌, sym, ap, Some, Option, List, ℕ}
use Rattle.std.specs.Prelude.{option_and_then}
use Rattle.std.specs.Option.{option_copied}
use Rattle.uuid.specs.Text.{parsed}
use Rattle.zd_commands.proofs.WordLaws.{read_as_volume}
use Rattle.zd_commands.proofs.readers.volume_given.Goals as goal

pub returns-in-Some : goal.returns-in-Some
returns-in-Some c =
    let some : c.args.word ≡ Some c.in-Some.word = search rules in
    c.ok.ensures.value ∙ read_as_volume c.try_parse.result (parsed c.in-Some.word.now) c.try_parse.ensures.ok c.try_parse.ensures.bytes
    ∙ sym (ap (λ o. option_and_then parsed (option_copied o)) some)
