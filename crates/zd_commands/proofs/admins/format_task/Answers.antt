use Rattle.std.specs.Option.{option_copied}
use Rattle.zd_commands.proofs.AdminLaws.{no_label_format}
use Rattle.zd_commands.proofs.admins.format_task.Goals as goal

pub returns-in_default-clause-none : goal.returns-in_default-clause-none
returns-in_default-clause-none c =
    no_label_format (option_copied c.args.label) (option_copied c.args.seq) (option_copied c.args.uuid) c.in_default.ensures.none
