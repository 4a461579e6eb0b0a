use Rattle.zd_admin.proofs.words.asked_upgrade.Goals as goal

pub returns-in_default-clause-none : goal.returns-in_default-clause-none
returns-in_default-clause-none c value asks = c.in_default.ensures.none asks.0 asks.1
