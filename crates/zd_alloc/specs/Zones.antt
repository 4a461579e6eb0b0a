-- The use of zones: what they are used for, and what a take, a release and a commit make of them.
use Rattle.std.specs.Prelude.{◌≡◌, ◌≢◌, ℕ, ◌*◌, ◌<◌, ◌≤◌, Bool, true, false, cond, List, ◌++◌, length, get_or, set, take, drop, count_by, nat_lt}
use Rattle.std.specs.List.{range_with_len}
use Rattle.zd_base.specs.Geometry.{Shape, zone_count}
use Rattle.zd_base.specs.Layout.{first_data_zone}
use Rattle.zd_base.specs.declared.geometry.Kind.{Kind}
use Rattle.zd_base.specs.declared.geometry.Kind.TheVariants.{Conventional, Sequential}
use Rattle.zd_base.specs.declared.layout.Layout.{Layout}
use Rattle.zd_alloc.specs.Flags.{has_number}
use Rattle.zd_alloc.specs.declared.uses.ZoneUse.{ZoneUse}
use Rattle.zd_alloc.specs.declared.uses.ZoneUse.TheVariants.{Meta, Free, Held, Limbo}

-- the use of a zone; one that isn't there is as metadata
abbrev pub use_at : List ZoneUse → ℕ → ZoneUse
use_at uses zone = get_or uses zone Meta

abbrev pub is_free : ZoneUse → Bool
is_free Free = true
is_free _ = false

abbrev pub is_limbo : ZoneUse → Bool
is_limbo Limbo = true
is_limbo _ = false

-- the use of a released zone
abbrev pub use_after_release : Bool → ZoneUse
use_after_release named = cond named Limbo Free

-- the use of a zone once limbo has ended
abbrev pub after_limbo : ZoneUse → ZoneUse
after_limbo Limbo = Free
after_limbo Meta = Meta
after_limbo Free = Free
after_limbo Held = Held

-- this zone is the least free one
pub record IsLeastFree (uses : List ZoneUse) (zone : ℕ) : Type 0 where
  pub free : use_at uses zone ≡ Free
  pub least : (other : ℕ) → other < zone → use_at uses other ≢ Free

-- a set and a number of the zones with such a use
pub record IsTally (such : ZoneUse → Bool) (uses : List ZoneUse) (flags : List ℕ) (number : ℕ) : Type 0 where
  pub room : length uses ≤ 64 * length flags
  pub tells : (zone : ℕ) → has_number flags zone ≡ such (use_at uses zone)
  pub count : number ≡ count_by such uses

-- what is kept beside the uses: sets and numbers of the free zones and of those in limbo
pub record HasTallies (uses : List ZoneUse) (free limbo : List ℕ) (free_count limbo_count : ℕ) : Type 0 where
  pub few : length uses ≤ 65536
  pub of_free : IsTally is_free uses free free_count
  pub of_limbo : IsTally is_limbo uses limbo limbo_count

-- the zones of a disk as contracts see them: the number of conventional ones, which come first, and
-- the uses of all; and the use order of all chunks, the one that was written least recently first
pub record Division : Type 0 where
  pub conv : ℕ
  pub zones : List ZoneUse
  pub order : List ℕ

abbrev pub division : List ZoneUse → List ZoneUse → List ℕ → Division
division conventional sequential order = record {
  conv = length conventional;
  zones = conventional ++ sequential;
  order = order;
}

-- a zone is of this kind
abbrev pub IsOf : Kind → ℕ → ℕ → Type 0
IsOf Conventional conv zone = zone < conv
IsOf Sequential conv zone = conv ≤ zone

-- the uses of the zones of this kind
abbrev pub uses_of : Kind → Division → List ZoneUse
uses_of Conventional d = take d.conv d.zones
uses_of Sequential d = drop d.conv d.zones

-- this zone is the least free one of its kind
pub record IsLeastOf (kind : Kind) (d : Division) (zone : ℕ) : Type 0 where
  pub inside : zone < length d.zones
  pub of_kind : IsOf kind d.conv zone
  pub free : use_at d.zones zone ≡ Free
  pub least : (other : ℕ) → IsOf kind d.conv other → other < zone → use_at d.zones other ≢ Free

-- no zone of this kind is free
abbrev pub HasNoFree : Kind → Division → Type 0
HasNoFree kind d = (zone : ℕ) → IsOf kind d.conv zone → use_at d.zones zone ≢ Free

-- the least free zone of a kind is held now, and nothing else changed
pub record TakesLeast (kind : Kind) (old new : Division) (zone : ℕ) : Type 0 where
  pub least : IsLeastOf kind old zone
  pub zones : new.zones ≡ set old.zones zone Held
  pub conv : new.conv ≡ old.conv
  pub order : new.order ≡ old.order

-- the use of a zone at the start: metadata below the data zones, held where an entry names it
abbrev pub use_at_start : ℕ → Bool → ℕ → ZoneUse
use_at_start first named zone = cond (nat_lt zone first) Meta (cond named Held Free)

-- how the zones of a disk and its chunks start
pub record IsStart (g : Shape) (l : Layout) (named : List Bool) (d : Division) : Type 0 where
  pub conv : d.conv ≡ g.conv
  pub count : length d.zones ≡ zone_count g
  pub uses : (zone : ℕ) → zone < zone_count g
      → use_at d.zones zone ≡ use_at_start (first_data_zone g l) (get_or named zone false) zone
  pub order : d.order ≡ range_with_len 0 l.chunks
