use Rattle.zd_disk.proofs.DoneLaws.{a_reset_does_all_or_nothing, a_write_does_some}
use Rattle.zd_disk.proofs.LifeLaws.{any_calls}
use Rattle.zd_disk.proofs.laws.life_laws.Goals as goal

pub returns-clause-writes : goal.returns-clause-writes
returns-clause-writes g c = a_write_does_some (λ d. g.D.ZonedDisk.view d)

pub returns-clause-resets : goal.returns-clause-resets
returns-clause-resets g c = a_reset_does_all_or_nothing (λ d. g.D.ZonedDisk.view d)

pub returns-clause-any_calls : goal.returns-clause-any_calls
returns-clause-any_calls g c = any_calls (λ d. g.D.ZonedDisk.view d)
