-- Which job is possible on a chunk.
use Rattle.std.specs.Prelude.{◌≡◌, ℕ, ◌<◌, ◌≤◌, Bool, true, false, nat_lt, nat_le, slice_index}
use Rattle.std.specs.Prelude.{List, Option, Some, None, if◌then◌else◌}
use Rattle.zd_base.specs.Geometry.{Shape}
use Rattle.zd_alloc.specs.Zones.{Division, use_at}
use Rattle.zd_alloc.specs.declared.uses.ZoneUse.TheVariants.{Free}
use Rattle.zd_model.specs.Tables.{Tables, entry_of}
use Rattle.zd_tables.specs.Held.{first_valid_block}
use Rattle.zd_volume.specs.Flights.{tables_now}
use Rattle.zd_volume.specs.Volumes.{PlainVolume}
use Rattle.zd_volume.specs.declared.work.JobKind.{JobKind}
use Rattle.zd_volume.specs.declared.work.JobKind.TheVariants.{Empty, Move, Append, Merge}

-- some sequential zone is free
abbrev pub HasFreeSequential : Division → Type 0
HasFreeSequential d = (z : ℕ) × (d.conv ≤ z) × (use_at d.zones z ≡ Free)

-- the job on a chunk alone in its zone, which is conventional or not, by the zone's first valid block: an Empty
-- where there is none, else a Move out of a conventional zone
abbrev pub kind_alone : Bool → Option ℕ → Option JobKind
kind_alone conventional None = Some Empty
kind_alone true (Some x) = Some Move
kind_alone false (Some x) = None

-- that on a buffered one, by the buffer's first valid block and the zone's pointer in blocks: an Append where
-- that block isn't before the pointer
abbrev pub kind_buffered : Option ℕ → ℕ → JobKind
kind_buffered None pointer = Append
kind_buffered (Some x) pointer = if nat_le pointer x then Append else Merge

-- that on a chunk with these zones
abbrev pub kind_by : Shape → List ℕ → Tables → Option ℕ → Option ℕ → Option JobKind
kind_by g pointers t None buffer = None
kind_by g pointers t (Some z) None = kind_alone (nat_lt z g.conv) (first_valid_block g.zone_blocks t z)
kind_by g pointers t (Some z) (Some b) =
    Some (kind_buffered (first_valid_block g.zone_blocks t b) (slice_index pointers z))

abbrev pub kind_on : PlainVolume → ℕ → Option JobKind
kind_on v chunk = kind_by v.geometry v.pointers (tables_now v)
    (entry_of (tables_now v) chunk).zone (entry_of (tables_now v) chunk).buffer

-- THIS JOB IS POSSIBLE on the chunk; a Move needs a free sequential zone
pub record IsPossible (v : PlainVolume) (chunk : ℕ) (kind : JobKind) : Type 0 where
  pub there : chunk < v.head.layout.chunks
  pub is_kind : kind_on v chunk ≡ Some kind
  pub free : kind ≡ Move → HasFreeSequential v.division
