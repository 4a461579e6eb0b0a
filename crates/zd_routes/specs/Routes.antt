-- Where a write goes, and what it makes of the tables.
use Rattle.std.specs.Prelude.{◌≡◌, ◌≢◌, ◌⊎◌, ℕ, ◌<◌, ◌≤◌, Bool, true, false, cond, nat_lt}
use Rattle.std.specs.Prelude.{List, length, slice_index, set, Option, Some, None, ⊤}
use Rattle.zd_base.specs.Geometry.{Shape}
use Rattle.zd_base.specs.declared.geometry.Kind.TheVariants.{Conventional}
use Rattle.zd_alloc.specs.Zones.{Division, HasNoFree, IsLeastOf}
use Rattle.zd_alloc.specs.declared.uses.ZoneUse.{ZoneUse}
use Rattle.zd_alloc.specs.declared.uses.ZoneUse.TheVariants.{Held}
use Rattle.zd_model.specs.Requests.{operation_of, sector_count}
use Rattle.zd_model.specs.Requests.Operation.{Writing}
use Rattle.zd_model.specs.Tables.{Tables, entry_of, is_valid}
use Rattle.zd_model.specs.declared.metadata.MapEntry.{MapEntry}
use Rattle.zd_model.specs.declared.requests.What.{What}
use Rattle.zd_sets.specs.Blocks.{blocks_of}
use Rattle.zd_tables.specs.Changes.{SetsEntry, entry_block}
use Rattle.zd_tables.specs.Tables.{tables_in}
use Rattle.zd_volume.specs.Discards.{chunk_touched, range_end, range_first}
use Rattle.zd_volume.specs.Flights.{tables_now}
use Rattle.zd_volume.specs.Sets.{Sets, new_tables}
use Rattle.zd_volume.specs.Volumes.{PlainVolume}
use Rattle.zd_volume.specs.declared.work.Place.{Place}
use Rattle.zd_volume.specs.declared.work.Place.TheVariants.{Main, NewMain, Buffer, NewBuffer}

-- it is a write of sectors of one chunk of the device
pub record WritesBlocks (s : Sets) (what : What) : Type 0 where
  pub writes : operation_of what ≡ Writing
  pub some : 1 ≤ sector_count what
  pub inside : range_end s.geometry.zone_blocks what ≤ s.geometry.zone_blocks
  pub there : chunk_touched s.geometry.zone_blocks what < s.head.layout.chunks

-- a chunk's zone is sequential, and isn't written just up to this block
abbrev pub IsElsewhere : Shape → List ℕ → MapEntry → ℕ → Type 0
IsElsewhere g pointers e first =
    (z : ℕ) × (e.zone ≡ Some z) × (g.conv ≤ z) × (slice_index pointers z ≢ first)

-- WHERE A WRITE GOES, by the entry of its chunk and its first block there: a new zone for a chunk
-- without one; the chunk's zone where that is conventional, or written just up to the block; else the
-- chunk's buffer, or a new one
abbrev pub GoesTo : Shape → List ℕ → MapEntry → ℕ → Place → Type 0
GoesTo g pointers e first NewMain = e.zone ≡ None
GoesTo g pointers e first Main =
    (z : ℕ) × (e.zone ≡ Some z) × ((z < g.conv) ⊎ (slice_index pointers z ≡ first))
GoesTo g pointers e first Buffer = IsElsewhere g pointers e first × (e.buffer ≢ None)
GoesTo g pointers e first NewBuffer = IsElsewhere g pointers e first × (e.buffer ≡ None)

-- a zone is taken for it
abbrev pub TakesZone : Place → Type 0
TakesZone Main = ⊥
TakesZone NewMain = ⊤
TakesZone Buffer = ⊥
TakesZone NewBuffer = ⊤

-- the zone that is written: the chunk's, its buffer, or the least free conventional one
abbrev pub IsGoal : MapEntry → Division → Place → ℕ → Type 0
IsGoal e d Main z = e.zone ≡ Some z
IsGoal e d NewMain z = IsLeastOf Conventional d z
IsGoal e d Buffer z = e.buffer ≡ Some z
IsGoal e d NewBuffer z = IsLeastOf Conventional d z

-- the entry of the chunk, once the write is done to this zone
abbrev pub entry_with : MapEntry → Place → ℕ → MapEntry
entry_with e Main z = e
entry_with e NewMain z = record { zone = Some z; buffer = None }
entry_with e Buffer z = e
entry_with e NewBuffer z = record { zone = e.zone; buffer = Some z }

-- the chunk's other zone, in which the blocks are invalid then
abbrev pub other_zone : MapEntry → Place → Option ℕ
other_zone e Main = e.buffer
other_zone e NewMain = None
other_zone e Buffer = e.zone
other_zone e NewBuffer = e.zone

-- what the zones are used for then
abbrev pub uses_with : Place → ℕ → List ZoneUse → List ZoneUse
uses_with Main z uses = uses
uses_with NewMain z uses = set uses z Held
uses_with Buffer z uses = uses
uses_with NewBuffer z uses = set uses z Held

-- the pointers then, where the write ends before this block: that of a sequential zone is there
abbrev pub pointers_with : Shape → List ℕ → ℕ → ℕ → List ℕ
pointers_with g pointers z end = cond (nat_lt z g.conv) pointers (set pointers z end)

-- the entry is set and its block is marked where a zone is taken; else nothing changes
abbrev pub GivesEntry : Place → ℕ → MapEntry → List ℕ → List ℕ → List Bool → List Bool → Type 0
GivesEntry Main chunk entry old new dirty marked = (new ≡ old) × (marked ≡ dirty)
GivesEntry NewMain chunk entry old new dirty marked =
    SetsEntry chunk entry old new × (marked ≡ set dirty (entry_block chunk) true)
GivesEntry Buffer chunk entry old new dirty marked = (new ≡ old) × (marked ≡ dirty)
GivesEntry NewBuffer chunk entry old new dirty marked =
    SetsEntry chunk entry old new × (marked ≡ set dirty (entry_block chunk) true)

-- the entry of the chunk of a request
abbrev pub entry_touched : PlainVolume → What → MapEntry
entry_touched v what = entry_of (tables_now v) (chunk_touched v.geometry.zone_blocks what)

-- this is the place of a write, and the zone that is written
pub record IsRoute (v : PlainVolume) (what : What) (place : Place) (zone : ℕ) : Type 0 where
  pub goes : GoesTo v.geometry v.pointers (entry_touched v what)
      (range_first v.geometry.zone_blocks what) place
  pub goal : IsGoal (entry_touched v what) v.division place zone

-- this is the place of a write, and there is such a zone
abbrev pub HasPlace : PlainVolume → What → Place → Type 0
HasPlace v what place = (zone : ℕ) × IsRoute v what place zone

-- a write needs a conventional zone, and none is free
pub record LacksZone (v : PlainVolume) (what : What) : Type 0 where
  pub place : Place
  pub goes : GoesTo v.geometry v.pointers (entry_touched v what)
      (range_first v.geometry.zone_blocks what) place
  pub takes : TakesZone place
  pub none : HasNoFree Conventional v.division

-- blocks of a range are valid in one zone now, and invalid in the other; all else is as it was
pub record MovesBits (zone : ℕ) (other : Option ℕ) (first end : ℕ) (old new : Tables) : Type 0 where
  pub here : (x : ℕ) → first ≤ x → x < end → is_valid new zone x ≡ true
  pub cleared : (y x : ℕ) → other ≡ Some y → first ≤ x → x < end → is_valid new y x ≡ false
  pub outside : (y x : ℕ) → (x < first) ⊎ (end ≤ x) → is_valid new y x ≡ is_valid old y x
  pub others : (y x : ℕ) → y ≢ zone → other ≢ Some y → is_valid new y x ≡ is_valid old y x

-- THE TABLES OF A WRITE, in the blocks of a set: the chunk has this entry, its blocks are valid in
-- one zone and not in the other, and all else is as it was; the super block is not touched
pub record WritesRange (s : Sets) (chunk first end : ℕ) (entry : MapEntry) (zone : ℕ)
    (other : Option ℕ) (bytes : List ℕ) : Type 0 where
  pub here : entry_of (tables_in s.geometry s.head.layout bytes) chunk ≡ entry
  pub others : (c : ℕ) → c ≢ chunk →
      entry_of (tables_in s.geometry s.head.layout bytes) c ≡ entry_of (new_tables s) c
  pub bits : MovesBits zone other first end (new_tables s) (tables_in s.geometry s.head.layout bytes)
  pub front : blocks_of bytes 0 1 ≡ blocks_of s.new 0 1
  pub size : length bytes ≡ length s.new
