-- THE ZONE THAT A WRITE GOES TO, over what the disk reads as: it begins at the pointer of a sequential one.
use Rattle.std.proofs.Common.{◌≡◌, ℕ, ◌*◌, ◌≤◌, List, Option, Some, None, inl, refl, sym, ◌∙◌, subst, arith}
use Rattle.zd_model.specs.Image.{Image}
use Rattle.zd_model.specs.Safe.{base_at}
use Rattle.zd_model.specs.declared.requests.What.{What}
use Rattle.zd_disk.specs.Told.{WhereTold}
use Rattle.zd_disk.specs.View.{View}
use Rattle.zd_disk.proofs.ToldLaws.{Some-same}
use Rattle.zd_base.specs.Geometry.{Shape}
use Rattle.zd_volume.specs.Discards.{chunk_touched, range_first}
use Rattle.zd_volume.specs.Volumes.{IsFixed, IsKeptVolume, IsNow, PlainVolume, sets_of}
use Rattle.zd_volume.specs.declared.work.Place.{Place}
use Rattle.zd_volume.specs.declared.work.Place.TheVariants.{Buffer, Main, NewBuffer, NewMain}
use Rattle.zd_routes.specs.Routes.{GoesTo, IsGoal, IsRoute, entry_touched}
use Rattle.zd_routes.proofs.GoalLaws.{goal_alone, goal_data, goal_sequential, least_spare, no_buffer}
use Rattle.zd_routes.proofs.WritePlaces.{SuitsPlace}
use Rattle.zd_routes.proofs.WriteReads.{IsGoalZone}

module _ (v : PlainVolume) (fixed : IsFixed v) (what : What) (place : Place) (zone : ℕ)
    (route : IsRoute v what place zone) where
  abbrev c : ℕ
  c = chunk_touched v.geometry.zone_blocks what

  none_buffered : (o : Option ℕ) → (entry_touched v what).buffer ≡ o → (entry_touched v what).zone ≡ None
      → (entry_touched v what).buffer ≡ None
  none_buffered None is none = is
  none_buffered (Some b) is none = absurd (no_buffer (sets_of v) fixed.sets c b none is)

  fits : SuitsPlace (entry_touched v what) place zone
  fits = by place route.goes route.goal
    where
      by : (at : Place)
          → GoesTo v.geometry v.pointers (entry_touched v what) (range_first v.geometry.zone_blocks what) at
          → IsGoal (entry_touched v what) v.division at zone → SuitsPlace (entry_touched v what) at zone
      by Main goes goal = goal
      by NewMain goes goal = (goes, none_buffered (entry_touched v what).buffer refl goes)
      by Buffer goes goal = goal
      by NewBuffer goes goal =
          (goes.1, λ named. (least_spare v fixed what place zone route goal).new (c, inl named))

  -- what is known of it
  pub goal_zone : IsGoalZone (sets_of v) (chunk_touched v.geometry.zone_blocks what) place zone
  goal_zone = record {
    data_zone = goal_data v fixed what place zone route;
    alone = goal_alone v fixed what place zone route;
    fits = fits;
  }

  -- A SEQUENTIAL ONE is written from its pointer on
  pub starts_at_pointer : (base : List (List ℕ)) (r : Image) → IsNow v base r → v.geometry.conv ≤ zone
      → 8 * range_first v.geometry.zone_blocks what ≡ r.held zone
  starts_at_pointer base r now high =
      let goes = goal_sequential v fixed what place zone route high in
      let own : IsGoal (entry_touched v what) v.division Main zone =
      subst (λ (at : Place). IsGoal (entry_touched v what) v.division at zone) goes.0 route.goal in
      let whole = now.whole.at zone high (fixed.uses.named zone (c, inl own)) in
      let stands = now.pointers.at zone high (goal_data v fixed what place zone route).1 in
      let block = goes.1 in
      omega (arith, whole, stands, block)

-- the same, where the disk tells it
pub starts_told : (v : PlainVolume) (opening u : View) (what : What) (place : Place) (zone : ℕ) → v.stopped ≡ None
    → IsKeptVolume v opening u → IsRoute v what place zone
    → WhereTold u.zones (λ i. i.geometry.conv ≤ zone → 8 * range_first v.geometry.zone_blocks what ≡ i.held zone)
starts_told v opening u what place zone runs was route r there high =
    starts_at_pointer v was.fixed what place zone route (base_at opening.zones) r (was.reads runs r there)
    (subst (λ (g : Shape). g.conv ≤ zone)
    (Some-same r.geometry v.geometry (sym (u.agrees r there) ∙ was.tells)) high)
