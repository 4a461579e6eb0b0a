use Rattle.std.proofs.Common.{◌≡◌, map, drop}
use Rattle.clap.specs.Words.{app_of, new_rule}
use Rattle.zd_commands.specs.Table.{flag_rule, option_rule, texts, with_rules}
use Rattle.zd_commands.proofs.reading.with_places.Given as goal

abbrev pub invariant-loop-name : goal.invariant-loop-name
invariant-loop-name l = with_rules (app_of l.command) (map new_rule (texts (drop l.name-index l.names)))
    ≡ with_rules (app_of l.initial.command) (map new_rule (texts l.names))
