use Rattle.zd_base.specs.declared.geometry.Kind.TheVariants.{Conventional}
use Rattle.zd_alloc.specs.Zones.{IsLeastOf}
use Rattle.zd_write.proofs.RouteGoals.{has_place, some_there}
use Rattle.zd_write.proofs.route.place.Goals as goal
use Rattle.zd_write.proofs.route.place.Goals.{else-takes_zone-via-then-takes_zone+else-is_none, else-takes_zone-via-else-takes_zone}

pub returns-clause-some : goal.returns-clause-some
returns-clause-some g c =
    has_place c.args.v.now.plain c.args.piece.now.what c.route-place.result c.route-place.ensures
    (λ takes. elim c.else-takes_zone.branch [
      | else-takes_zone-via-then-takes_zone+else-is_none w ↦
          rw w.alloc.ensures at
          (some_there w.least_free.result (IsLeastOf Conventional w.alloc.result.now) w.if-is_none.ensures
          w.least_free.ensures.some)
      | else-takes_zone-via-else-takes_zone w ↦ absurd (let no = w.if-takes_zone.ensures.1 takes in let f : ⊥ = cc in f)
    ])
