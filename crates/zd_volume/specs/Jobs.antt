-- Jobs: what each chunk can be picked for, and what is true of the job under way.
use Rattle.std.specs.Prelude.{◌≡◌, ◌≢◌, ℕ, ◌+◌, ◌-◌, ◌*◌, ◌<◌, ◌≤◌, Bool, true, false, nat_le, nat_lt}
use Rattle.std.specs.Prelude.{List, slice_index, Option, Some, None, IsTrue, if◌then◌else◌, ⊤}
use Rattle.zd_base.specs.Geometry.{Shape, zone_count}
use Rattle.zd_alloc.specs.declared.job_class.JobClass.{JobClass}
use Rattle.zd_alloc.specs.declared.job_class.JobClass.TheVariants as classes
use Rattle.zd_model.specs.History.{HistoryEntry}
use Rattle.zd_model.specs.Image.{Image}
use Rattle.zd_model.specs.Safe.{last_at}
use Rattle.zd_model.specs.Tables.{NamesZone, Tables, entry_of, is_valid}
use Rattle.zd_model.specs.declared.metadata.MapEntry.{MapEntry}
use Rattle.zd_disk.specs.Steps.{piece}
use Rattle.zd_tables.specs.Held.{first_valid_block}
use Rattle.zd_volume.specs.Sets.{Sets, new_tables, old_tables}
use Rattle.zd_volume.specs.declared.work.JobKind.{JobKind}
use Rattle.zd_volume.specs.declared.work.JobKind.TheVariants.{Empty, Move, Append, Merge}
use Rattle.zd_volume.specs.declared.work.Work.{Work}

-- some entry of these tables names the zone
abbrev pub IsNamed : Tables → ℕ → Type 0
IsNamed t z = (c : ℕ) × NamesZone (entry_of t c) z

-- the class of a chunk alone in its zone, which is conventional or not, by the zone's first valid
-- block: an Empty where there is none, else a Move out of a conventional zone
abbrev pub class_alone : Bool → Option ℕ → Option JobClass
class_alone true None = Some classes.Append
class_alone false None = Some classes.Empty
class_alone true (Some x) = Some classes.Move
class_alone false (Some x) = None

-- that of a buffered one, by the buffer's first valid block and the zone's pointer in blocks: an
-- Append where that block isn't before the pointer
abbrev pub class_buffered : Option ℕ → ℕ → Option JobClass
class_buffered None pointer = Some classes.Append
class_buffered (Some x) pointer =
    Some (if nat_le pointer x then classes.Append else classes.Merge)

-- that of a chunk with these zones
abbrev pub class_by : Shape → List ℕ → Tables → Option ℕ → Option ℕ → Option JobClass
class_by g pointers t None buffer = None
class_by g pointers t (Some z) None =
    class_alone (nat_lt z g.conv) (first_valid_block g.zone_blocks t z)
class_by g pointers t (Some z) (Some b) =
    class_buffered (first_valid_block g.zone_blocks t b) (slice_index pointers z)

-- what a chunk can be picked for: the pointers are in blocks, one for each zone
abbrev pub class_in : Shape → List ℕ → Tables → ℕ → Option JobClass
class_in g pointers t c = class_by g pointers t (entry_of t c).zone (entry_of t c).buffer

-- the zone from which a job copies
abbrev pub source_of : JobKind → MapEntry → Option ℕ
source_of Empty e = None
source_of Move e = e.zone
source_of Append e = e.buffer
source_of Merge e = e.zone

-- the entry of its chunk is one on which there is such a job
abbrev pub FitsEntry : Shape → JobKind → MapEntry → Type 0
FitsEntry g Empty e = (e.zone ≢ None) × (e.buffer ≡ None)
FitsEntry g Move e = ((z : ℕ) × (e.zone ≡ Some z) × (z < g.conv)) × (e.buffer ≡ None)
FitsEntry g Append e = (e.zone ≢ None) × (e.buffer ≢ None)
FitsEntry g Merge e = (e.zone ≢ None) × (e.buffer ≢ None)

-- the zone to which it copies: none; a sequential one that no table names; the chunk's own; its
-- buffer
abbrev pub HasTarget : Shape → Tables → Tables → JobKind → MapEntry → Option ℕ → Type 0
HasTarget g old new Empty e target = target ≡ None
HasTarget g old new Move e target =
    (z : ℕ) × (target ≡ Some z) × (g.conv ≤ z) × (z < zone_count g)
    × (IsNamed old z → ⊥) × (IsNamed new z → ⊥)
HasTarget g old new Append e target = target ≡ e.zone
HasTarget g old new Merge e target = target ≡ e.buffer

-- The job under way: its chunk and its target, and how far it is. The zone of an Empty has no valid
-- block, and nothing is read for it. The run that is read is valid in the source; a sequential target
-- is written up to where the job is.
pub record IsJob (s : Sets) (pointers : List ℕ) (w : Work) : Type 0 where
  pub chunk : w.job.chunk < s.head.layout.chunks
  pub entry : FitsEntry s.geometry w.job.kind (entry_of (new_tables s) w.job.chunk)
  pub target : HasTarget s.geometry (old_tables s) (new_tables s) w.job.kind
      (entry_of (new_tables s) w.job.chunk) w.target
  pub emptied : (y x : ℕ) → w.job.kind ≡ Empty →
      (entry_of (new_tables s) w.job.chunk).zone ≡ Some y → x < s.geometry.zone_blocks →
      is_valid (new_tables s) y x ≡ false
  pub inside : w.copied + w.read ≤ s.geometry.zone_blocks
  pub few : w.read ≤ 32
  pub unread : w.job.kind ≡ Empty → w.read ≡ 0
  pub run : (y x : ℕ) → source_of w.job.kind (entry_of (new_tables s) w.job.chunk) ≡ Some y →
      w.copied ≤ x → x < w.copied + w.read → IsTrue (is_valid (new_tables s) y x)
  pub pointer : (z : ℕ) → w.target ≡ Some z → s.geometry.conv ≤ z →
      slice_index pointers z ≡ w.copied

-- there is none, or it is one
abbrev pub IsJobOrNone : Sets → List ℕ → Option Work → Type 0
IsJobOrNone s pointers None = ⊤
IsJobOrNone s pointers (Some w) = IsJob s pointers w

-- a job copies to this zone
abbrev pub IsTarget : Option Work → ℕ → Type 0
IsTarget None z = ⊥
IsTarget (Some w) z = w.target ≡ Some z

-- sector j of block x of a chunk, among the sectors of the device
abbrev pub sector_of_chunk : Shape → ℕ → ℕ → ℕ → ℕ
sector_of_chunk g chunk x j = 8 * (chunk * g.zone_blocks + x) + j

-- what a job has copied stands at its target, and what it has read stands in the copy buffer: the
-- last values of these sectors
pub record AreCopied (s : Sets) (buffer : List ℕ) (w : Work) (base : List (List ℕ))
    (history : List HistoryEntry) (i : Image) : Type 0 where
  pub copied : (y z x j : ℕ) → source_of w.job.kind (entry_of (new_tables s) w.job.chunk) ≡ Some y →
      w.target ≡ Some z → x < w.copied → IsTrue (is_valid (new_tables s) y x) → j < 8 →
      (8 * x + 8 ≤ i.held z)
      × (i.sector z (8 * x + j) ≡ last_at base history (sector_of_chunk s.geometry w.job.chunk x j))
  pub read : (x j : ℕ) → w.copied ≤ x → x < w.copied + w.read → j < 8 →
      piece buffer (8 * (x - w.copied) + j)
      ≡ last_at base history (sector_of_chunk s.geometry w.job.chunk x j)

abbrev pub HasCopies : Sets → List ℕ → Option Work → List (List ℕ) → List HistoryEntry → Image → Type 0
HasCopies s buffer None base history i = ⊤
HasCopies s buffer (Some w) base history i = AreCopied s buffer w base history i
