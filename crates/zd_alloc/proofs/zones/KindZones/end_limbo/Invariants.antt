-- Each zone freed was in limbo.
use Rattle.std.proofs.Common.{◌≡◌, map, count_by}
use Rattle.zd_alloc.specs.Zones.{after_limbo, is_limbo}
use Rattle.zd_alloc.proofs.zones.KindZones.end_limbo.Given as goal

abbrev pub invariant-loop : goal.invariant-loop
invariant-loop l = map after_limbo l.self ≡ map after_limbo l.fn.self

abbrev pub decreases-loop : goal.decreases-loop
decreases-loop l = count_by is_limbo l.self
