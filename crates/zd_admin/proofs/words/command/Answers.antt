use Rattle.std.proofs.Common.{map}
use Rattle.std.specs.Prelude.{string_bytes}
use Rattle.zd_admin.proofs.WordLaws.{none_as, no_command, not_so}
use Rattle.zd_admin.proofs.words.command.Goals as goal

pub returns-clause-none : goal.returns-clause-none
returns-clause-none c =
    none_as c.asked_format.result (no_command (map string_bytes c.args.words.now)
    (not_so c.asks_alone.result c.if-asks_alone.false c.asks_alone.ensures)
    (not_so c.asks_alone-2.result c.if-asks_alone-2.false c.asks_alone-2.ensures)
    (not_so c.asks_alone-3.result c.if-asks_alone-3.false c.asks_alone-3.ensures)
    c.in_default.ensures.none c.in_default-asked_upgrade.ensures.none) c.asked_format.ensures.none
