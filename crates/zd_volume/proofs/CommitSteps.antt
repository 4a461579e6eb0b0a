-- The calls inside a commit, as the code makes them.
use Rattle.std.proofs.Common.{◌≡◌, ℕ, ◌+◌, ◌-◌, ◌*◌, ◌/◌, ◌%◌, ◌^◌, ◌<◌, ◌≤◌, Bool, true, false, List, Option, Some, None, sym, subst, arith}
use Rattle.zd_model.specs.Image.{Same}
use Rattle.zd_model.specs.Super.{HasBlock, block_of}
use Rattle.zd_disk.specs.Steps.{Wrote, WriteLeaves, WriteStep}
use Rattle.zd_disk.specs.Told.{next_count}
use Rattle.zd_disk.specs.View.{Calls, IsDurable, Turns, View}
use Rattle.zd_sets.specs.Blocks.{blocks_of}
use Rattle.zd_sets.specs.Equal.{head_at}
use Rattle.zd_sets.specs.Stages.{next_head}
use Rattle.zd_volume.specs.Commits.{after_phase}
use Rattle.zd_volume.specs.Phases.{after_block, after_flush, after_super, block_phase, first_zone, IsInnerFlush, IsNextDirty, super_phase}
use Rattle.zd_volume.specs.Sets.{second}
use Rattle.zd_volume.specs.Uses.{IsDirtyBlock, IsPhase}
use Rattle.zd_volume.specs.Volumes.{IsKeptVolume, PlainVolume, sets_of}
use Rattle.zd_volume.specs.declared.phase.Phase.{Phase}
use Rattle.zd_volume.specs.declared.phase.Phase.TheVariants.{Idle, Log, LogFlush, LogSuper, LogSuperFlush, InPlace, InPlaceFlush, InPlaceSuper, InPlaceSuperFlush}
use Rattle.zd_volume.proofs.BlockWrites.{block_write, super_write}
use Rattle.zd_volume.proofs.Flushes.{kept_narrow}
use Rattle.zd_volume.proofs.FlushPhases.{inner_flush}
use Rattle.zd_volume.proofs.MetaWrites.{MetaWrite, kept_meta}

pub is_block : (in_place : Bool) (k : ℕ) (dirty : List Bool) (g : ℕ) → IsPhase (block_phase in_place k) dirty g
    → IsDirtyBlock dirty k g
is_block true k dirty g is = is
is_block false k dirty g is = is

pub is_super : (in_place : Bool) (dirty : List Bool) (g : ℕ) → IsPhase (super_phase in_place) dirty g → g < 2 ^ 64 - 1
is_super true dirty g is = is
is_super false dirty g is = is

after_block_is : (in_place : Bool) (next : Option ℕ) (dirty : List Bool) (from g : ℕ) → 1 ≤ from
    → IsNextDirty dirty from next → g < 2 ^ 64 - 1 → IsPhase (after_block in_place next) dirty g
after_block_is true None dirty from g some is small = small
after_block_is true (Some k) dirty from g some is small = (omega (arith, is.1), is.0, is.3, small)
after_block_is false None dirty from g some is small = small
after_block_is false (Some k) dirty from g some is small = (omega (arith, is.1), is.0, is.3, small)

after_super_is : (in_place : Bool) (dirty : List Bool) (g : ℕ) → g < 2 ^ 64 - 1 → IsPhase (after_super in_place) dirty g
after_super_is true dirty g small = small
after_super_is false dirty g small = small

after_flush_is : (p : Phase) (next : Option ℕ) (dirty : List Bool) (g : ℕ) → IsNextDirty dirty 1 next
    → IsPhase p dirty g → IsPhase (after_flush p next) dirty g
after_flush_is Idle next dirty g is was = tt
after_flush_is (Log k) next dirty g is was = was
after_flush_is LogFlush next dirty g is was = was
after_flush_is LogSuper next dirty g is was = was
after_flush_is LogSuperFlush next dirty g is was = after_block_is true next dirty 1 g (omega arith) is was
after_flush_is (InPlace k) next dirty g is was = was
after_flush_is InPlaceFlush next dirty g is was = was
after_flush_is InPlaceSuper next dirty g is was = was
after_flush_is InPlaceSuperFlush next dirty g is was = was

module _ (v : PlainVolume) (opening d e : View) (runs : v.stopped ≡ None) (was : IsKeptVolume v opening d) where
  -- a metadata write that belongs to the phase, at the place where it is made
  pub block_meta : (in_place : Bool) (k : ℕ) (next : Option ℕ) → v.phase ≡ block_phase in_place k
      → IsNextDirty v.dirty (k + 1) next
      → MetaWrite (sets_of v) v.phase (after_block in_place next)
      (first_zone in_place (second (sets_of v)) + k / v.geometry.zone_blocks) (8 * (k % v.geometry.zone_blocks))
      (blocks_of v.fresh k 1)
  block_meta in_place k next phase is =
      let at = is_block in_place k v.dirty v.head.generation
      (subst (λ (p : Phase). IsPhase p v.dirty v.head.generation) phase was.fixed.under_way) in
      subst (λ (p : Phase). MetaWrite (sets_of v) p (after_block in_place next)
      (first_zone in_place (second (sets_of v)) + k / v.geometry.zone_blocks) (8 * (k % v.geometry.zone_blocks))
      (blocks_of v.fresh k 1)) (sym phase)
      (block_write (sets_of v) was.fixed.sets v.dirty was.fixed.flags k at in_place next is)

  pub super_meta : (in_place : Bool) → v.phase ≡ super_phase in_place
      → HasBlock (head_at v.geometry (first_zone in_place (second (sets_of v))) (next_head v.head))
      → MetaWrite (sets_of v) v.phase (after_super in_place) (first_zone in_place (second (sets_of v))) 0
      (block_of (head_at v.geometry (first_zone in_place (second (sets_of v))) (next_head v.head)))
  super_meta in_place phase sizes =
      subst (λ (p : Phase). MetaWrite (sets_of v) p (after_super in_place)
      (first_zone in_place (second (sets_of v))) 0
      (block_of (head_at v.geometry (first_zone in_place (second (sets_of v))) (next_head v.head)))) (sym phase)
      (super_write (sets_of v) was.fixed.sets in_place sizes)

  -- A BLOCK of the log or in place
  pub kept_block : (in_place : Bool) (k : ℕ) (next : Option ℕ) → v.phase ≡ block_phase in_place k
      → IsNextDirty v.dirty (k + 1) next
      → Calls (λ r. WriteStep r (first_zone in_place (second (sets_of v)) + k / v.geometry.zone_blocks)
      (8 * (k % v.geometry.zone_blocks)) (blocks_of v.fresh k 1))
      (λ r j. WriteLeaves r j (first_zone in_place (second (sets_of v)) + k / v.geometry.zone_blocks)
      (8 * (k % v.geometry.zone_blocks)) (blocks_of v.fresh k 1)) d e
      → Turns (Wrote (first_zone in_place (second (sets_of v)) + k / v.geometry.zone_blocks)
      (8 * (k % v.geometry.zone_blocks)) (blocks_of v.fresh k 1)) d e
      → IsKeptVolume (after_phase v (after_block in_place next) (next_count v.since) v.stopped) opening e
  kept_block in_place k next phase is call turns =
      let at = is_block in_place k v.dirty v.head.generation
      (subst (λ (p : Phase). IsPhase p v.dirty v.head.generation) phase was.fixed.under_way) in
      kept_meta v opening d e runs was (after_block in_place next)
      (first_zone in_place (second (sets_of v)) + k / v.geometry.zone_blocks) (8 * (k % v.geometry.zone_blocks))
      (blocks_of v.fresh k 1) (block_meta in_place k next phase is) call
      (after_block_is in_place next v.dirty (k + 1) v.head.generation (omega arith) is at.3) turns

  -- THE SUPER BLOCK of set 1 or of set 0
  pub kept_super : (in_place : Bool) → v.phase ≡ super_phase in_place
      → HasBlock (head_at v.geometry (first_zone in_place (second (sets_of v))) (next_head v.head))
      → Calls (λ r. WriteStep r (first_zone in_place (second (sets_of v))) 0
      (block_of (head_at v.geometry (first_zone in_place (second (sets_of v))) (next_head v.head))))
      (λ r j. WriteLeaves r j (first_zone in_place (second (sets_of v))) 0
      (block_of (head_at v.geometry (first_zone in_place (second (sets_of v))) (next_head v.head)))) d e
      → Turns (Wrote (first_zone in_place (second (sets_of v))) 0
      (block_of (head_at v.geometry (first_zone in_place (second (sets_of v))) (next_head v.head)))) d e
      → IsKeptVolume (after_phase v (after_super in_place) (next_count v.since) v.stopped) opening e
  kept_super in_place phase sizes call turns =
      let at = is_super in_place v.dirty v.head.generation
      (subst (λ (p : Phase). IsPhase p v.dirty v.head.generation) phase was.fixed.under_way) in
      kept_meta v opening d e runs was (after_super in_place) (first_zone in_place (second (sets_of v))) 0
      (block_of (head_at v.geometry (first_zone in_place (second (sets_of v))) (next_head v.head)))
      (super_meta in_place phase sizes) call
      (after_super_is in_place v.dirty v.head.generation at) turns

  -- A FLUSH inside a commit
  pub kept_flush : (next : Option ℕ) → IsInnerFlush v.phase → IsNextDirty v.dirty 1 next
      → Turns Same d e → Calls (λ _. Same) (λ _ _. Same) d e → IsDurable e
      → IsKeptVolume (after_phase v (after_flush v.phase next) (next_count v.since) v.stopped) opening e
  kept_flush next flush is turns call durable =
      kept_narrow v opening d e runs was turns call (after_flush v.phase next)
      (inner_flush (sets_of v) was.fixed.sets v.dirty was.fixed.flags v.phase next flush is)
      (after_flush_is v.phase next v.dirty v.head.generation is was.fixed.under_way) durable
