use Rattle.zd_steps.proofs.ScriptLaws.{is_script}
use Rattle.zd_steps.proofs.laws.plan_is_script.Goals as goal

pub returns : goal.returns
returns c z blocks limit plan below = is_script z blocks limit plan below
