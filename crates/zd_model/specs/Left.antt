-- The images that a stop may leave: each conventional sector with a value that it had since the last
-- flush that answered Ok, each sequential zone after a front of what was done to it since then.
use Rattle.std.specs.Prelude.{◌≡◌, ◌⊎◌, ℕ, zero, suc, ◌+◌, ◌<◌, ◌≤◌, ◌==◌, max, Bool, true, false}
use Rattle.std.specs.Prelude.{◌&&◌, if◌then◌else◌, List, [], ◌∷◌, ◌++◌, length, take}
use Rattle.zd_base.specs.Geometry.{zone_sectors}
use Rattle.zd_model.specs.Image.{Image, IsImage, SameZone}

-- one thing that is done to a zone: a sector gets a value, or the pointer goes back to the start
pub data Event : Type 0 where
  Put : (zone sector : ℕ) (value : List ℕ) → Event
  Clear : (zone : ℕ) → Event

abbrev pub zone_of : Event → ℕ
zone_of (Put zone sector value) = zone
zone_of (Clear zone) = zone

-- the image after it; a pointer stands behind the last sector that was put
abbrev pub apply : Image → Event → Image
apply image (Put zone sector value) =
    record {
      geometry = image.geometry;
      held = λ y. if y == zone then max (image.held y) (sector + 1) else image.held y;
      sector = λ y i. if y == zone && i == sector then value else image.sector y i;
    }
apply image (Clear zone) =
    record {
      geometry = image.geometry;
      held = λ y. if y == zone then 0 else image.held y;
      sector = image.sector;
    }

-- the image after all of them, one after another
abbrev pub replay : Image → List Event → Image
replay image [] = image
replay image (e ∷ events) = replay (apply image e) events

-- those that are done to this zone
abbrev pub on_zone : ℕ → List Event → List Event
on_zone zone [] = []
on_zone zone (e ∷ events) =
    if zone_of e == zone then e ∷ on_zone zone events else on_zone zone events

-- one of them puts this value into the sector
abbrev pub IsPut : List Event → ℕ → ℕ → List ℕ → Type 0
IsPut [] zone sector value = ⊥
IsPut (Put z i v ∷ events) zone sector value =
    ((z ≡ zone) × (i ≡ sector) × (value ≡ v)) ⊎ IsPut events zone sector value
IsPut (Clear z ∷ events) zone sector value = IsPut events zone sector value

-- Where these events came after the last flush that answered Ok, and the disk was so at that flush, a
-- stop may leave this image. Conventional sectors and zones are independent of each other.
pub record IsStop (flushed : Image) (events : List Event) (left : Image) : Type 0 where
  pub image : IsImage left
  pub geometry : left.geometry ≡ flushed.geometry
  -- the value at the flush, or one that was put there since
  pub conventional : (z i : ℕ) → z < flushed.geometry.conv → i < zone_sectors flushed.geometry →
      (left.sector z i ≡ flushed.sector z i) ⊎ IsPut events z i (left.sector z i)
  -- the zone at the flush, after the first so many of its events
  pub sequential : (z : ℕ) → flushed.geometry.conv ≤ z → (n : ℕ)
      × (n ≤ length (on_zone z events)) × SameZone (replay flushed (take n (on_zone z events))) left z

-- A writing call. A write or a reset was asked to do something, and did it, or less if it failed. One
-- that was not begun was asked for nothing.
pub data Call : Type 0 where
  Does : (asked done : List Event) → Call
  Flushes : (ok : Bool) → Call

abbrev pub asked_of : Call → List Event
asked_of (Does asked done) = asked
asked_of (Flushes ok) = []

-- the disk at the last flush that answered Ok, or at its beginning, and what was done since
pub record Since : Type 0 where
  pub flushed : Image
  pub events : List Event

abbrev pub after_call : Since → Call → Since
after_call since (Does asked done) =
    record { flushed = since.flushed; events = since.events ++ done }
after_call since (Flushes false) = since
after_call since (Flushes true) =
    record { flushed = replay since.flushed since.events; events = [] }

abbrev pub after_calls : Since → List Call → Since
after_calls since [] = since
after_calls since (c ∷ calls) = after_calls (after_call since c) calls

abbrev pub since_flush : Image → List Call → Since
since_flush first calls = after_calls (record { flushed = first; events = [] }) calls

-- what the call after the first k was asked to do, where there is one
abbrev pub under_way : List Call → ℕ → List Event
under_way [] k = []
under_way (c ∷ calls) zero = asked_of c
under_way (c ∷ calls) (suc k) = under_way calls k

-- A disk began as `first`, and then had these calls. Where k of them have returned and the next may be
-- under way, a stop may leave this image.
pub record IsLeft (first : Image) (calls : List Call) (k : ℕ) (left : Image) : Type 0 where
  pub within : k ≤ length calls
  pub stop : IsStop (since_flush first (take k calls)).flushed
      ((since_flush first (take k calls)).events ++ under_way calls k) left

-- what the disk reads as after these calls
abbrev pub now_by : Image → List Call → Image
now_by first calls = replay (since_flush first calls).flushed (since_flush first calls).events
