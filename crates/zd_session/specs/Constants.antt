-- What no step of a session changes, as lists of numbers; that it can be read back; and when a session has a step.
use Rattle.std.specs.Prelude.{◌≡◌, ℕ, List, [], ◌∷◌, ◌++◌, length, map, Option, Some, None, false, is_some}
use Rattle.std.specs.List.{concat}
use Rattle.zd_base.specs.Geometry.{Shape}
use Rattle.zd_base.specs.declared.layout.Layout.{Layout}
use Rattle.zd_base.specs.declared.steps.Prefer.{Prefer}
use Rattle.zd_disk.specs.View.{View}
use Rattle.zd_model.specs.Image.{Image}
use Rattle.zd_model.specs.Safe.{base_at}
use Rattle.zd_model.specs.declared.requests.Request.{Request}
use Rattle.zd_model.specs.declared.requests.What.{What}
use Rattle.zd_model.specs.declared.requests.What.TheVariants.{Read, Write, Discard, Flush, ReadSectors, WriteSectors}
use Rattle.zd_progress.specs.Alone.{FliesAlone}
use Rattle.zd_steps.specs.declared.step.Step.{Step}
use Rattle.zd_session.specs.Sessions.{SessionView, ended_of, next_seen}

-- what is asked for: its kind, its first block or sector, how many, and the seed of a write
abbrev pub what_line : What → List ℕ
what_line (Read block count) = 0 ∷ block ∷ count ∷ 0 ∷ []
what_line (Write block count seed) = 1 ∷ block ∷ count ∷ seed ∷ []
what_line (Discard block count) = 2 ∷ block ∷ count ∷ 0 ∷ []
what_line Flush = 3 ∷ 0 ∷ 0 ∷ 0 ∷ []
what_line (ReadSectors sector count) = 4 ∷ sector ∷ count ∷ 0 ∷ []
what_line (WriteSectors sector count seed) = 5 ∷ sector ∷ count ∷ seed ∷ []

abbrev pub request_line : Request → List ℕ
request_line r = r.caller ∷ what_line r.what

-- 1 where a disk tells its zones
abbrev pub told_number : Option Image → ℕ
told_number None = 0
told_number (Some image) = 1

-- the other zones, and the layout
abbrev pub layout_line : Shape → Layout → List ℕ
layout_line g l = g.conv ∷ g.seq ∷ l.meta_blocks ∷ l.reserved ∷ l.chunks ∷ l.map_blocks ∷ l.bitmap_blocks ∷ []

-- WHAT A VOLUME WAS when opening ended: the bytes of its base; the blocks of a zone; its disk's counts of faults and of
-- writing calls, and its generation; whether the disk told its zones. Beside that the zones and the layout, and how many
-- bytes of the base are of each sector, without which the sectors can't be told apart
abbrev pub opened_lines : Shape → Layout → ℕ → View → List (List ℕ)
opened_lines g l generation opening =
    concat (base_at opening.zones)
    ∷ (g.zone_blocks ∷ [])
    ∷ (opening.faults ∷ opening.calls ∷ generation ∷ [])
    ∷ (told_number opening.zones ∷ [])
    ∷ layout_line g l
    ∷ map (λ (sector : List ℕ). length sector) (base_at opening.zones)
    ∷ []

-- THE CONSTANT of a session: the number of its actors, alone; a list for each request of its plan; what its volume was
-- when opening ended
abbrev pub constant_of : {D : Type 0} → (D → View) → SessionView D → List (List ℕ)
constant_of look s =
    (length s.flights ∷ [])
    ∷ (map request_line s.plan
    ++ opened_lines s.volume.plain.geometry s.volume.plain.head.layout s.volume.plain.opening_generation
    (look s.volume.opening))

-- TWO DISKS TOLD THE SAME when opening ended, as far as numbers can say it: what a stop might have left they can't
pub record IsToldAlike (u v : View) : Type 0 where
  pub base : base_at v.zones ≡ base_at u.zones
  pub told : is_some v.zones ≡ is_some u.zones
  pub calls : v.calls ≡ u.calls
  pub faults : v.faults ≡ u.faults

-- THE SAME REQUESTS AND ACTORS, OVER THE SAME VOLUME, as it was when opening ended
pub record IsSameSession {D : Type 0} (look : D → View) (from to : SessionView D) : Type 0 where
  pub actors : length to.flights ≡ length from.flights
  pub plan : to.plan ≡ from.plan
  pub geometry : to.volume.plain.geometry ≡ from.volume.plain.geometry
  pub layout : to.volume.plain.head.layout ≡ from.volume.plain.head.layout
  pub generation : to.volume.plain.opening_generation ≡ from.volume.plain.opening_generation
  pub opening : IsToldAlike (look from.volume.opening) (look to.volume.opening)

-- THE CONSTANT CAN BE READ BACK: sessions with the same one are the same
abbrev pub OneConstantIsOneSession : {D : Type 0} → (D → View) → (SessionView D → List (List ℕ)) → Type 0
OneConstantIsOneSession {D} look constant = (from to : SessionView D) → constant to ≡ constant from →
    IsSameSession look from to

-- AN ACTOR WAITS FOR OTHERS ALONE: where no other one has a piece in flight it has a step, whatever it prefers, unless
-- the session has ended
abbrev pub WaitsForOthers : {D : Type 0} → SessionView D → Type 0
WaitsForOthers s = (actor : ℕ) (prefer : Prefer) → FliesAlone s.flights actor → ended_of s ≡ false →
    (step : Step) × (next_seen s actor prefer ≡ Some step)
