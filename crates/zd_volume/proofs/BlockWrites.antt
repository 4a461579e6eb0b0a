-- The writes of a commit, phase by phase: what each makes of both sets.
use Rattle.std.proofs.Common.{◌≡◌, ◌≢◌, ℕ, ◌+◌, ◌*◌, ◌/◌, ◌%◌, ◌<◌, ◌≤◌, Bool, true, false, List, length, get_or, Option, Some, None, arith}
use Rattle.zd_base.specs.Geometry.{zone_sectors}
use Rattle.zd_model.specs.Image.{Image, SameZone}
use Rattle.zd_model.specs.Super.{HasBlock, block_of}
use Rattle.zd_model.specs.declared.metadata.Super.{Super}
use Rattle.zd_model.proofs.SuperSpelling.{spells}
use Rattle.zd_disk.specs.OfGeometry.{IsImageOf}
use Rattle.zd_disk.specs.Steps.{Wrote, count_of}
use Rattle.zd_sets.specs.Blocks.{blocks_of}
use Rattle.zd_sets.specs.Equal.{head_at}
use Rattle.zd_sets.specs.Stages.{InStage, IsBetween, IsWritten, SetStays, Stage, next_head}
use Rattle.zd_sets.specs.Stages.Stage.{Before, After}
use Rattle.zd_sets.specs.Writes.{WrotePart}
use Rattle.zd_sets.proofs.BlockLaws.{block_size}
use Rattle.zd_sets.proofs.StageLaws.{IsConventionalSet, skip_same, stage_stays, written_stays, zones_stay}
use Rattle.zd_sets.proofs.StageWrites.{block_part, block_written, super_part, super_written}
use Rattle.zd_volume.specs.Phases.{after_block, after_super, block_phase, first_zone, IsNextDirty, super_phase}
use Rattle.zd_volume.specs.Sets.{AreSets, Sets, second, used}
use Rattle.zd_volume.specs.Uses.{AreFlags, IsDirtyBlock}
use Rattle.zd_volume.proofs.Choices.{first_set, inside, second_set, some_blocks}
use Rattle.zd_volume.proofs.MetaWrites.{MetaWrite}

-- the other set stays
module _ (s : Sets) (are : AreSets s) (z : ℕ) (i c : Image) (of : IsImageOf s.geometry i)
    (geometry : c.geometry ≡ i.geometry) (others : (y : ℕ) → y ≢ z → SameZone i c y) where
  first_apart : second s ≤ z → SetStays s.geometry 0 (used s) i c
  first_apart far =
      zones_stay s.geometry 0 (used s) (first_set s are) i c of geometry
      (λ k low. (let n = inside s are k low in others (0 + k / s.geometry.zone_blocks) (omega arith)))

  second_apart : z < second s → SetStays s.geometry (second s) (used s) i c
  second_apart near =
      zones_stay s.geometry (second s) (used s) (second_set s are) i c of geometry
      (λ k low. (let n = inside s are k low in others (second s + k / s.geometry.zone_blocks) (omega arith)))

  pub first_stays : (st : Stage) → second s ≤ z → InStage st s.geometry 0 (used s) s.head s.old s.new i
      → InStage st s.geometry 0 (used s) s.head s.old s.new c
  first_stays st far h = stage_stays s.geometry 0 (used s) i c (first_apart far) st s.head s.old s.new h

  pub second_stays : (st : Stage) → z < second s → InStage st s.geometry (second s) (used s) s.head s.old s.new i
      → InStage st s.geometry (second s) (used s) s.head s.old s.new c
  second_stays st near h = stage_stays s.geometry (second s) (used s) i c (second_apart near) st s.head s.old s.new h

  pub first_still : (upto : ℕ) → second s ≤ z → IsWritten s.geometry 0 (used s) s.head s.old s.new upto i
      → IsWritten s.geometry 0 (used s) s.head s.old s.new upto c
  first_still upto far h = written_stays s.geometry 0 (used s) i c (first_apart far) s.head s.old s.new upto h

  pub second_still : (upto : ℕ) → z < second s
      → IsWritten s.geometry (second s) (used s) (next_head s.head) s.old s.new upto i
      → IsWritten s.geometry (second s) (used s) (next_head s.head) s.old s.new upto c
  second_still upto near h =
      written_stays s.geometry (second s) (used s) i c (second_apart near) (next_head s.head) s.old s.new upto h

-- A BLOCK, and where the next one is
module _ (s : Sets) (are : AreSets s) (dirty : List Bool) (flags : AreFlags s dirty)
    (k : ℕ) (block : IsDirtyBlock dirty k s.head.generation) where
  low : k < used s
  low = (let size = flags.size in let b = block.1 in omega (arith, size, b))

  size_of : length (blocks_of s.new k 1) ≡ 4096
  size_of = (let size = are.new_size in let l = low in block_size s.new k (omega (arith, size, l)))

  in_zone : 8 * (k % s.geometry.zone_blocks) + count_of (blocks_of s.new k 1) ≤ zone_sectors s.geometry
  in_zone =
      let size = size_of in
      let some = some_blocks s are in
      let few : k % s.geometry.zone_blocks < s.geometry.zone_blocks = omega (arith, some) in
      omega (arith, size)

  -- the blocks up to the next dirty one are as they were committed
  abbrev upto : Option ℕ → ℕ
  upto None = used s
  upto (Some m) = m

  abbrev IsClean : ℕ → Type 0
  IsClean m = (k + 1 ≤ m) × (m ≤ used s) × ((j : ℕ) → k + 1 ≤ j → j < m → get_or dirty j true ≡ false)

  clean_upto : (next : Option ℕ) → IsNextDirty dirty (k + 1) next → IsClean (upto next)
  clean_upto None is =
      (let l = low in omega (arith, l), omega arith, λ j a b. is j (let size = flags.size in omega (arith, size, b)) a)
  clean_upto (Some m) is =
      (is.1, (let size = flags.size in let h = is.0 in omega (arith, size, h)), λ j a b. is.2 j a b)

  module _ (first : ℕ) (set : IsConventionalSet s.geometry first (used s)) (i c : Image)
      (of : IsImageOf s.geometry i) where
    part : (head : Super)
        → WrotePart (first + k / s.geometry.zone_blocks) (8 * (k % s.geometry.zone_blocks)) (blocks_of s.new k 1) i c
        → IsBetween s.geometry first (used s) head s.old s.new i
        → IsBetween s.geometry first (used s) head s.old s.new c
    part head w h = block_part s.geometry first (used s) set i c of k s.new block.0 size_of head s.old w h

    written : (head : Super) (m : ℕ) → IsClean m
        → Wrote (first + k / s.geometry.zone_blocks) (8 * (k % s.geometry.zone_blocks)) (blocks_of s.new k 1) i c
        → IsWritten s.geometry first (used s) head s.old s.new k i
        → IsWritten s.geometry first (used s) head s.old s.new m c
    written head m clean w h =
        let all = clean.1 in
        skip_same s.geometry first (used s) head s.old s.new c (k + 1) m clean.0
        (λ n from below. flags.clean n (omega (arith, all, below)) (clean.2 n from below))
        (block_written s.geometry first (used s) set i c of k s.new block.0 size_of head s.old low w h)

  pub block_write : (in_place : Bool) (next : Option ℕ) → IsNextDirty dirty (k + 1) next
      → MetaWrite s (block_phase in_place k) (after_block in_place next)
      (first_zone in_place (second s) + k / s.geometry.zone_blocks) (8 * (k % s.geometry.zone_blocks))
      (blocks_of s.new k 1)
  block_write false None is = record {
    zone = (let n = inside s are k low in omega arith);
    inside = in_zone;
    first = λ i c of of_c w st.
        first_stays s are (second s + k / s.geometry.zone_blocks) i c of w.geometry w.others Before (omega arith) st;
    second = λ i c of of_c w st. part (second s) (second_set s are) i c of s.head w st;
    first_read = λ i c of of_c w st.
        first_still s are (second s + k / s.geometry.zone_blocks) i c of w.geometry w.others 0 (omega arith) st;
    second_read = λ i c of of_c w st.
        written (second s) (second_set s are) i c of s.head (used s) (clean_upto None is) w st;
    takes_old = λ t. t;
    takes_new = λ t. t;
  }
  block_write false (Some m) is = record {
    zone = (let n = inside s are k low in omega arith);
    inside = in_zone;
    first = λ i c of of_c w st.
        first_stays s are (second s + k / s.geometry.zone_blocks) i c of w.geometry w.others Before (omega arith) st;
    second = λ i c of of_c w st. part (second s) (second_set s are) i c of s.head w st;
    first_read = λ i c of of_c w st.
        first_still s are (second s + k / s.geometry.zone_blocks) i c of w.geometry w.others 0 (omega arith) st;
    second_read = λ i c of of_c w st.
        written (second s) (second_set s are) i c of s.head m (clean_upto (Some m) is) w st;
    takes_old = λ t. t;
    takes_new = λ t. t;
  }
  block_write true None is = record {
    zone = (let n = inside s are k low in omega arith);
    inside = in_zone;
    first = λ i c of of_c w st. part 0 (first_set s are) i c of s.head w st;
    second = λ i c of of_c w st.
        second_stays s are (0 + k / s.geometry.zone_blocks) i c of w.geometry w.others After
        (let n = inside s are k low in omega arith) st;
    first_read = λ i c of of_c w st. written 0 (first_set s are) i c of s.head (used s) (clean_upto None is) w st;
    second_read = λ i c of of_c w st.
        second_still s are (0 + k / s.geometry.zone_blocks) i c of w.geometry w.others (used s)
        (let n = inside s are k low in omega arith) st;
    takes_old = λ t. t;
    takes_new = λ t. t;
  }
  block_write true (Some m) is = record {
    zone = (let n = inside s are k low in omega arith);
    inside = in_zone;
    first = λ i c of of_c w st. part 0 (first_set s are) i c of s.head w st;
    second = λ i c of of_c w st.
        second_stays s are (0 + k / s.geometry.zone_blocks) i c of w.geometry w.others After
        (let n = inside s are k low in omega arith) st;
    first_read = λ i c of of_c w st. written 0 (first_set s are) i c of s.head m (clean_upto (Some m) is) w st;
    second_read = λ i c of of_c w st.
        second_still s are (0 + k / s.geometry.zone_blocks) i c of w.geometry w.others (used s)
        (let n = inside s are k low in omega arith) st;
    takes_old = λ t. t;
    takes_new = λ t. t;
  }

-- THE SUPER BLOCK changes the choice as a whole
eight : (s : Sets) (first : ℕ) → HasBlock (head_at s.geometry first (next_head s.head))
    → count_of (block_of (head_at s.geometry first (next_head s.head))) ≡ 8
eight s first sizes =
    let n = (spells (head_at s.geometry first (next_head s.head)) sizes).bytes.count in
    omega (arith, n)

pub super_write : (s : Sets) (are : AreSets s) (in_place : Bool)
    → HasBlock (head_at s.geometry (first_zone in_place (second s)) (next_head s.head))
    → MetaWrite s (super_phase in_place) (after_super in_place) (first_zone in_place (second s)) 0
    (block_of (head_at s.geometry (first_zone in_place (second s)) (next_head s.head)))
super_write s are false sizes = record {
  zone = (let n = inside s are 0 (omega arith) in omega arith);
  inside = (let n = eight s (second s) sizes in let least = are.shape.size.least in omega arith);
  first = λ i c of of_c w st. first_stays s are (second s) i c of w.geometry w.others Before (omega arith) st;
  second = λ i c of of_c w st.
      super_part s.geometry (second s) (used s) (second_set s are) i c of s.head s.new of_c sizes w st;
  first_read = λ i c of of_c w st. first_still s are (second s) i c of w.geometry w.others 0 (omega arith) st;
  second_read = λ i c of of_c w st.
      super_written s.geometry (second s) (used s) (second_set s are) i c of s.head s.new of_c sizes s.old w st;
  takes_old = λ t. t;
  takes_new = λ t. t;
}
super_write s are true sizes = record {
  zone = (let n = inside s are 0 (omega arith) in omega arith);
  inside = (let n = eight s 0 sizes in let least = are.shape.size.least in omega arith);
  first = λ i c of of_c w st.
      super_part s.geometry 0 (used s) (first_set s are) i c of s.head s.new of_c sizes w st;
  second = λ i c of of_c w st.
      second_stays s are 0 i c of w.geometry w.others After (let n = inside s are 0 (omega arith) in omega arith) st;
  first_read = λ i c of of_c w st.
      super_written s.geometry 0 (used s) (first_set s are) i c of s.head s.new of_c sizes s.old w st;
  second_read = λ i c of of_c w st.
      second_still s are 0 i c of w.geometry w.others (used s)
      (let n = inside s are 0 (omega arith) in omega arith) st;
  takes_old = λ t. t;
  takes_new = λ t. t;
}
