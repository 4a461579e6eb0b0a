use Rattle.std.proofs.Common.{rules, ◌≡◌, ◌∙◌, ap, List, []}
use Rattle.std.specs.List.{slice_index_or}
use Rattle.std.specs.Borrow.{Bor}
use Rattle.clap.specs.Walk.{Rule, Text}
use Rattle.clap.specs.Words.{app_of, new_rule, rule_of, with_rule}
use Rattle.zd_commands.specs.Table.{flag_rule, option_rule, with_rules}
use Rattle.zd_commands.proofs.Chains.{one_more}
use Rattle.zd_commands.proofs.reading.with_options.Goals as goal

pub loop-name-preserved : goal.loop-name-preserved
loop-name-preserved c =
    let none : Bor Text = record { ref_ptr = (0, 0); now = [] } in
    let made : rule_of c.action-option.result ≡ option_rule (slice_index_or c.args.names.now c.loop-name.name-index none).now = search rules in
    one_more (app_of c.loop-name.command) (app_of c.in_ok-command.command) _ option_rule c.args.names.now c.loop-name.name-index none (search rules)
    (c.in_ok-command.ensures.shape (search rules) ∙ ap (with_rule (app_of c.loop-name.command)) made) c.loop-name.invariant
