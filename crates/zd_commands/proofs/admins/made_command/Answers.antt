use Rattle.std.proofs.Common.{rules, refl}
use Rattle.std.specs.Option.{option_copied}
use Rattle.zd_commands.proofs.AdminLaws.{other_made}
use Rattle.zd_commands.proofs.admins.made_command.Goals as goal

pub returns-in_default-task_of-clause-none : goal.returns-in_default-task_of-clause-none
returns-in_default-task_of-clause-none c =
    other_made c.args.found.now c.in-Some-only_flag.flag (option_copied c.args.found.now.label) (option_copied c.args.found.now.seq) (option_copied c.args.found.now.uuid) refl refl refl
    (search rules) (search rules)
