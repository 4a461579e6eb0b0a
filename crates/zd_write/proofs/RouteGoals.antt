-- The place of a write has a zone.
use Rattle.std.proofs.Common.{◌≡◌, ◌≢◌, ℕ, true, List, Option, Some, None, IfSome, refl}
use Rattle.std.specs.Option.{is_some}
use Rattle.zd_base.specs.Geometry.{Shape}
use Rattle.zd_base.specs.declared.geometry.Kind.TheVariants.{Conventional}
use Rattle.zd_alloc.specs.Zones.{Division, IsLeastOf}
use Rattle.zd_model.specs.declared.metadata.MapEntry.{MapEntry}
use Rattle.zd_model.specs.declared.requests.What.{What}
use Rattle.zd_routes.specs.Routes.{GoesTo, HasPlace, IsGoal, TakesZone, entry_touched}
use Rattle.zd_volume.specs.Discards.{range_first}
use Rattle.zd_volume.specs.Volumes.{PlainVolume}
use Rattle.zd_volume.specs.declared.work.Place.{Place}
use Rattle.zd_volume.specs.declared.work.Place.TheVariants.{Buffer, Main, NewBuffer, NewMain}

some_of : (o : Option ℕ) → o ≢ None → (z : ℕ) × (o ≡ Some z)
some_of None some = absurd (some refl)
some_of (Some z) some = (z, refl)

pub some_there : (o : Option ℕ) (P : ℕ → Type 0) → is_some o ≡ true → IfSome o P → (z : ℕ) × P z
some_there None P there is = absurd (let f : ⊥ = cc in f)
some_there (Some z) P there is = (z, is)

-- a place has a zone, where there is one to be taken if it takes one
goal_of : (g : Shape) (pointers : List ℕ) (e : MapEntry) (first : ℕ) (d : Division) (place : Place)
    → GoesTo g pointers e first place → (TakesZone place → (z : ℕ) × IsLeastOf Conventional d z)
    → (z : ℕ) × IsGoal e d place z
goal_of g pointers e first d Main goes least = (goes.0, goes.1)
goal_of g pointers e first d NewMain goes least = least tt
goal_of g pointers e first d Buffer goes least = some_of e.buffer goes.1
goal_of g pointers e first d NewBuffer goes least = least tt

-- THE PLACE, by the route and the least free zone
pub has_place : (v : PlainVolume) (what : What) (place : Place)
    → GoesTo v.geometry v.pointers (entry_touched v what) (range_first v.geometry.zone_blocks what) place
    → (TakesZone place → (z : ℕ) × IsLeastOf Conventional v.division z) → HasPlace v what place
has_place v what place goes least =
    let goal = goal_of v.geometry v.pointers (entry_touched v what)
    (range_first v.geometry.zone_blocks what) v.division place goes least in
    (goal.0, record { goes = goes; goal = goal.1 })
