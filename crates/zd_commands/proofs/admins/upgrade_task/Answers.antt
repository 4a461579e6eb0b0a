use Rattle.std.proofs.Common.{rules, ◌∙◌, sym, refl}
use Rattle.std.specs.Option.{option_copied}
use Rattle.zd_commands.proofs.AdminLaws.{no_label_upgrade, none_copied}
use Rattle.zd_commands.proofs.admins.upgrade_task.Goals as goal

pub returns-in_default-clause-none : goal.returns-in_default-clause-none
returns-in_default-clause-none c =
    no_label_upgrade (option_copied c.args.label) (option_copied c.args.seq) (option_copied c.args.uuid) c.in_default.ensures.none

pub returns-clause-some : goal.returns-clause-some
returns-clause-some c = (refl, (c.in-Some.ensures.some, none_copied c.args.seq (search rules), sym c.volume_given.ensures ∙ c.in-Some-volume_given.is))
