-- The calls of a commit as code makes them: what it keeps, and that it is a step of a commit.
use Rattle.std.proofs.Common.{◌≡◌, ◌⊎◌, ℕ, ◌+◌, ◌-◌, ◌*◌, ◌/◌, ◌%◌, ◌^◌, ◌<◌, ◌≤◌, Bool, true, false, List, length, replicate, ◌∙◌, Option, Some, None, inl, inr, refl, sym, subst, arith}
use Rattle.std.proofs.Math.Nat.{mul-le-mul_right}
use Rattle.std.proofs.lemmas.Bool.{cases_eq}
use Rattle.std.proofs.lemmas.List.{get_or-replicate, length-replicate}
use Rattle.zd_model.specs.History.{IsLegal}
use Rattle.zd_model.specs.Image.{Image, Same}
use Rattle.zd_model.specs.Plain.Answer.{Done, Fault}
use Rattle.zd_model.specs.Safe.{base_at}
use Rattle.zd_model.specs.Super.{HasBlock, block_of}
use Rattle.zd_model.specs.declared.requests.Piece.{Piece}
use Rattle.zd_alloc.specs.Zones.{Division}
use Rattle.zd_disk.specs.Steps.{Wrote, WriteStep}
use Rattle.zd_disk.specs.Told.{next_count}
use Rattle.zd_disk.specs.View.{HasFailed, IsDurable, Turns, View}
use Rattle.zd_disk.proofs.ToldLaws.{Both-by}
use Rattle.zd_sets.specs.Blocks.{blocks_of}
use Rattle.zd_sets.specs.Equal.{head_at}
use Rattle.zd_sets.specs.Stages.{next_head}
use Rattle.zd_sets.specs.Writes.{WroteBlock}
use Rattle.zd_sets.proofs.StageWrites.{next_has_block}
use Rattle.zd_base.specs.declared.numbers.Why.{Why}
use Rattle.zd_volume.specs.CommitCalls.{FlushesOnce, IsBlockDue, MakesCommitCall, MakesPhaseCall, WritesBlock, WritesSuper}
use Rattle.zd_volume.specs.Commits.{after_phase, after_end, after_failed, AreFlushes, CommitStep, EndsLimbo, flush_entries, IsLastCall, IsPhaseAfter}
use Rattle.zd_volume.specs.Phases.{after_block, after_flush, after_super, block_phase, first_zone, IsInnerFlush, IsNextDirty, super_phase}
use Rattle.zd_volume.specs.Sets.{second, used}
use Rattle.zd_volume.specs.Uses.{AreUsed, dirty_from, IsDirtyBlock, IsNamedFlags, IsPhase}
use Rattle.zd_volume.proofs.Choices.{first_set, second_set}
use Rattle.zd_volume.specs.Volumes.{IsFixed, IsKeptVolume, PlainVolume, sets_of}
use Rattle.zd_volume.specs.declared.phase.Committed.{Committed}
use Rattle.zd_volume.specs.declared.phase.Phase.{Phase}
use Rattle.zd_volume.specs.declared.phase.Phase.TheVariants.{Idle, Log, LogFlush, LogSuper, LogSuperFlush, InPlace, InPlaceFlush, InPlaceSuper, InPlaceSuperFlush}
use Rattle.zd_volume.proofs.CommitStarts.{kept_begin, kept_unphased}
use Rattle.zd_volume.proofs.CommitEnds.{EndsAs, IsAtEnd, kept_end}
use Rattle.zd_volume.proofs.CallsLeft.{dirty_more, dirty_next, none_dirty}
use Rattle.zd_volume.proofs.CommitSteps.{block_meta, is_super, kept_block, kept_flush, kept_super, super_meta}
use Rattle.zd_volume.proofs.EndUses.{ended_sets, flags_named, job_ended, used_ended}
use Rattle.zd_volume.proofs.Flushes.{kept_flush_failed}
use Rattle.zd_volume.proofs.InPhases.{next_more}
use Rattle.zd_volume.proofs.LegalEntries.{done_entries, failed_entries, legal_flushes_done, legal_flushes_failed}
use Rattle.zd_volume.proofs.MetaWrites.{kept_meta_failed}

-- a block that was written is a write
turns_wrote : (z k : ℕ) (bytes : List ℕ) (d e : View) → Turns (WroteBlock z k bytes) d e
    → Turns (Wrote z (8 * k) bytes) d e
turns_wrote z k bytes d e turns = record {
  reads = Both-by d.zones e.zones (WroteBlock z k bytes) (Wrote z (8 * k) bytes) (λ i j _ _ w. w.wrote) turns.reads;
}

-- the phase that comes next
pub phase_after_super : (in_place : Bool) (dirty : List Bool)
    → IsPhaseAfter dirty (super_phase in_place) (after_super in_place)
phase_after_super true dirty = refl
phase_after_super false dirty = refl

pub phase_after_flush : (p : Phase) (next : Option ℕ) (dirty : List Bool) → IsInnerFlush p → IsNextDirty dirty 1 next
    → IsPhaseAfter dirty p (after_flush p next)
phase_after_flush Idle next dirty f is = absurd f
phase_after_flush (Log k) next dirty f is = absurd f
phase_after_flush LogFlush next dirty f is = refl
phase_after_flush LogSuper next dirty f is = absurd f
phase_after_flush LogSuperFlush next dirty f is = (next, is, refl)
phase_after_flush (InPlace k) next dirty f is = absurd f
phase_after_flush InPlaceFlush next dirty f is = refl
phase_after_flush InPlaceSuper next dirty f is = absurd f
phase_after_flush InPlaceSuperFlush next dirty f is = absurd f

module _ (v : PlainVolume) (opening d e : View) (runs : v.stopped ≡ None) (was : IsKeptVolume v opening d) where
  legal_failed : (pieces : List Piece) → AreFlushes pieces → (r : Image) → d.zones ≡ Some r
      → IsLegal (base_at opening.zones) v.history
      → IsLegal (base_at opening.zones) (after_failed v pieces).history
  legal_failed pieces all r t legal =
      legal_flushes_failed (base_at opening.zones) v.since (next_count v.since) v.history
      (flush_entries Fault (next_count v.since) pieces) legal was.counted.by_now (was.calm runs) (next_more v.since)
      (failed_entries (next_count v.since) pieces all)

  -- A BLOCK
  module _ (in_place : Bool) (k : ℕ) (next : Option ℕ) (phase : v.phase ≡ block_phase in_place k)
      (is : IsNextDirty v.dirty (k + 1) next)
      (call : WritesBlock v (first_zone in_place (second (sets_of v))) k d e) where
    pub block_made : Turns (WroteBlock (first_zone in_place (second (sets_of v)) + k / v.geometry.zone_blocks)
        (k % v.geometry.zone_blocks) (blocks_of v.fresh k 1)) d e
        → IsKeptVolume (after_phase v (after_block in_place next) (next_count v.since) v.stopped) opening e
    block_made turns =
        kept_block v opening d e runs was in_place k next phase is call
        (turns_wrote (first_zone in_place (second (sets_of v)) + k / v.geometry.zone_blocks)
        (k % v.geometry.zone_blocks) (blocks_of v.fresh k 1) d e turns)

    pub block_failed : (pieces : List Piece) → AreFlushes pieces → HasFailed d e
        → Turns (λ i. WriteStep i (first_zone in_place (second (sets_of v)) + k / v.geometry.zone_blocks)
        (8 * (k % v.geometry.zone_blocks)) (blocks_of v.fresh k 1) i) d e
        → IsKeptVolume (after_failed v pieces) opening e
    block_failed pieces all rose turns =
        kept_meta_failed v opening d e runs was (after_block in_place next)
        (first_zone in_place (second (sets_of v)) + k / v.geometry.zone_blocks) (8 * (k % v.geometry.zone_blocks))
        (blocks_of v.fresh k 1) (block_meta v opening d e runs was in_place k next phase is) call
        (flush_entries Fault (next_count v.since) pieces) rose turns (failed_entries (next_count v.since) pieces all)
        (legal_failed pieces all)

  -- A SUPER BLOCK
  module _ (in_place : Bool) (phase : v.phase ≡ super_phase in_place)
      (sizes : HasBlock (head_at v.geometry (first_zone in_place (second (sets_of v))) (next_head v.head)))
      (call : WritesSuper v (first_zone in_place (second (sets_of v))) d e) where
    pub super_made : Turns (WroteBlock (first_zone in_place (second (sets_of v))) 0
        (block_of (head_at v.geometry (first_zone in_place (second (sets_of v))) (next_head v.head)))) d e
        → IsKeptVolume (after_phase v (after_super in_place) (next_count v.since) v.stopped) opening e
    super_made turns =
        kept_super v opening d e runs was in_place phase sizes call
        (turns_wrote (first_zone in_place (second (sets_of v))) 0
        (block_of (head_at v.geometry (first_zone in_place (second (sets_of v))) (next_head v.head))) d e turns)

    pub super_failed : (pieces : List Piece) → AreFlushes pieces → HasFailed d e
        → Turns (λ i. WriteStep i (first_zone in_place (second (sets_of v))) 0
        (block_of (head_at v.geometry (first_zone in_place (second (sets_of v))) (next_head v.head))) i) d e
        → IsKeptVolume (after_failed v pieces) opening e
    super_failed pieces all rose turns =
        kept_meta_failed v opening d e runs was (after_super in_place) (first_zone in_place (second (sets_of v))) 0
        (block_of (head_at v.geometry (first_zone in_place (second (sets_of v))) (next_head v.head)))
        (super_meta v opening d e runs was in_place phase sizes) call
        (flush_entries Fault (next_count v.since) pieces) rose turns (failed_entries (next_count v.since) pieces all)
        (legal_failed pieces all)

  -- A FLUSH
  module _ (turns : Turns Same d e) (call : FlushesOnce d e) where
    pub flush_made : (next : Option ℕ) → IsInnerFlush v.phase → IsNextDirty v.dirty 1 next → IsDurable e
        → IsKeptVolume (after_phase v (after_flush v.phase next) (next_count v.since) v.stopped) opening e
    flush_made next flush is durable = kept_flush v opening d e runs was next flush is turns call durable

    pub flush_failed : (pieces : List Piece) → AreFlushes pieces → HasFailed d e
        → IsKeptVolume (after_failed v pieces) opening e
    flush_failed pieces all rose =
        kept_flush_failed v opening d e runs was turns call (flush_entries Fault (next_count v.since) pieces) rose
        (failed_entries (next_count v.since) pieces all) (legal_failed pieces all)

    -- THE LAST ONE
    pub end_made : (alone : Bool) → IsAtEnd v alone → (pieces : List Piece) → AreFlushes pieces
        → (clean named : List Bool) (division : Division) → EndsAs v clean named division → IsDurable e
        → IsKeptVolume (after_end v alone (flush_entries Done (next_count v.since) pieces) clean named division
        (next_count v.since)) opening e
    end_made alone at_end pieces all clean named division ends durable =
        kept_end v opening d was alone at_end (flush_entries Done (next_count v.since) pieces) clean named division ends
        (done_entries (next_count v.since) pieces all) e runs
        (λ r t legal. legal_flushes_done (base_at opening.zones) v.since (next_count v.since) v.history
        (flush_entries Done (next_count v.since) pieces) legal was.counted.by_now (was.calm runs) (next_more v.since)
        (done_entries (next_count v.since) pieces all))
        turns call durable

-- WHAT THE CODE NEEDS. The next super block of either set has a block
pub next_super : (v : PlainVolume) → IsFixed v → (in_place : Bool) → v.phase ≡ super_phase in_place
    → HasBlock (head_at v.geometry (first_zone in_place (second (sets_of v))) (next_head v.head))
next_super v fixed in_place phase =
    next_has_block v.geometry (first_zone in_place (second (sets_of v))) v.head fixed.sets.sizes
    (let g = is_super in_place v.dirty v.head.generation
    (subst (λ (p : Phase). IsPhase p v.dirty v.head.generation) phase fixed.under_way) in omega (arith, g))
    (own_fits in_place)
  where
    room : second (sets_of v) < v.geometry.conv
    room = (let r = fixed.sets.fits.conventional_data in omega arith)

    own_fits : (in_place : Bool) → first_zone in_place (second (sets_of v)) * v.geometry.zone_blocks < 2 ^ 64
    own_fits true = omega arith
    own_fits false =
        let most = fixed.sets.shape.count.most in
        let few = fixed.sets.shape.size.most in
        let r = room in
        let below : second (sets_of v) ≤ 65536 = omega (arith, most, r) in
        let less = mul-le-mul_right v.geometry.zone_blocks below in
        omega (arith, less, few)

-- the last flush, by the call that is left
pub at_end : (v : PlainVolume) (alone : Bool) → IsLastCall alone v.phase v.dirty → IsAtEnd v alone
at_end v true last = record { phase = last.0; none = λ _. none_dirty v.dirty 1 last.1 }
at_end v false last = record { phase = last; none = λ no. absurd (let f : ⊥ = cc in f) }

pub ends_as : (v : PlainVolume) → IsFixed v → (named : List Bool) (division : Division)
    → EndsLimbo v.division division → IsNamedFlags division v.job named
    → EndsAs v (replicate (length v.dirty) false) named division
ends_as v fixed named division limbo flags = record {
  size = length-replicate (length v.dirty) false ∙ fixed.flags.size;
  front = get_or-replicate (length v.dirty) 0 false true (let s = fixed.flags.size in omega (arith, s));
  uses = uses;
  names = flags_named (ended_sets v.head.generation (sets_of v)) v.pointers v.job division named uses
      (job_ended (sets_of v) v.head.generation v.pointers v.job fixed.job) flags;
  order = limbo.order;
}
  where
    uses : AreUsed (ended_sets v.head.generation (sets_of v)) v.job division
    uses = used_ended (sets_of v) v.head.generation v.job v.division division limbo.zones limbo.conv limbo.order
        fixed.uses

-- A BLOCK THAT IS DUE, in its phase or as the first of a commit
pub due_block : (v : PlainVolume) (in_place : Bool) (k : ℕ) → IsFixed v → IsBlockDue in_place v k
    → IsDirtyBlock v.dirty k v.head.generation
due_block v true k fixed due = subst (λ (p : Phase). IsPhase p v.dirty v.head.generation) due fixed.under_way
due_block v false k fixed (inl phase) =
    subst (λ (p : Phase). IsPhase p v.dirty v.head.generation) phase fixed.under_way
due_block v false k fixed (inr begins) =
    let first = begins.1 in (omega (arith, first.1), first.0, first.3, begins.2)

pub due_inside : (v : PlainVolume) (in_place : Bool) (k : ℕ) → IsFixed v → IsBlockDue in_place v k
    → (k < used (sets_of v)) × (first_zone in_place (second (sets_of v)) + k / v.geometry.zone_blocks < v.geometry.conv)
due_inside v in_place k fixed due =
    let low : k < used (sets_of v) = (let b = (due_block v in_place k fixed due).1 in
    let size = fixed.flags.size in omega (arith, b, size)) in
    (low, zone in_place low)
  where
    zone : (in_place : Bool) → k < used (sets_of v)
        → first_zone in_place (second (sets_of v)) + k / v.geometry.zone_blocks < v.geometry.conv
    zone true low = (first_set (sets_of v) fixed.sets).inside k low
    zone false low = (second_set (sets_of v) fixed.sets).inside k low

pub phase_after_due : (v : PlainVolume) (in_place : Bool) (k : ℕ) (next : Option ℕ) → IsBlockDue in_place v k
    → IsNextDirty v.dirty (k + 1) next → IsPhaseAfter v.dirty v.phase (after_block in_place next)
phase_after_due v true k next due is =
    subst (λ (p : Phase). IsPhaseAfter v.dirty p (after_block true next)) (sym due) (next, is, refl)
phase_after_due v false k next (inl phase) is =
    subst (λ (p : Phase). IsPhaseAfter v.dirty p (after_block false next)) (sym phase) (next, is, refl)
phase_after_due v false k next (inr begins) is =
    subst (λ (p : Phase). IsPhaseAfter v.dirty p (after_block false next)) (sym begins.0) (k, next, begins.1, is, refl)

module _ (v : PlainVolume) (opening d e : View) (runs : v.stopped ≡ None) (was : IsKeptVolume v opening d) (k : ℕ)
    (next : Option ℕ) (is : IsNextDirty v.dirty (k + 1) next) where
  begun : IsNextDirty v.dirty 1 (Some k) → v.phase ≡ Idle → v.head.generation < 2 ^ 64 - 1
      → IsKeptVolume (record v { phase = Log k }) opening d
  begun first idle small = kept_begin v k opening d was idle first small

  pub due_made : (in_place : Bool) → IsBlockDue in_place v k
      → WritesBlock v (first_zone in_place (second (sets_of v))) k d e
      → Turns (WroteBlock (first_zone in_place (second (sets_of v)) + k / v.geometry.zone_blocks)
      (k % v.geometry.zone_blocks) (blocks_of v.fresh k 1)) d e
      → IsKeptVolume (after_phase v (after_block in_place next) (next_count v.since) v.stopped) opening e
  due_made true due call turns = block_made v opening d e runs was true k next due is call turns
  due_made false (inl phase) call turns = block_made v opening d e runs was false k next phase is call turns
  due_made false (inr begins) call turns =
      block_made (record v { phase = Log k }) opening d e runs (begun begins.1 begins.0 begins.2) false k next refl is
      call turns

  pub due_failed : (in_place : Bool) → IsBlockDue in_place v k
      → WritesBlock v (first_zone in_place (second (sets_of v))) k d e
      → (pieces : List Piece) → AreFlushes pieces → HasFailed d e
      → Turns (λ i. WriteStep i (first_zone in_place (second (sets_of v)) + k / v.geometry.zone_blocks)
      (8 * (k % v.geometry.zone_blocks)) (blocks_of v.fresh k 1) i) d e
      → IsKeptVolume (after_failed v pieces) opening e
  due_failed true due call pieces all rose turns =
      block_failed v opening d e runs was true k next due is call pieces all rose turns
  due_failed false (inl phase) call pieces all rose turns =
      block_failed v opening d e runs was false k next phase is call pieces all rose turns
  due_failed false (inr begins) call pieces all rose turns =
      kept_unphased (after_failed (record v { phase = Log k }) pieces) v.phase Why.Device opening e begins.0 refl
      (block_failed (record v { phase = Log k }) opening d e runs
      (begun begins.1 begins.0 begins.2) false k next refl is
      call pieces all rose turns)

-- WHICH CALL a step made: only at the last generation none
pub phase_call : (v w : PlainVolume) (pieces : List Piece) (result : Committed) (d e : View)
    → (v.head.generation < 2 ^ 64 - 1) ⊎ (dirty_from v.dirty 1 ≡ 0) → CommitStep v w pieces result
    → MakesPhaseCall v.phase v d e → MakesCommitCall result v d e
phase_call v w pieces Committed.More d e small step call = call
phase_call v w pieces Committed.Ended d e small step call = call
phase_call v w pieces (Committed.Stopped Why.Device) d e small step call = call
phase_call v w pieces (Committed.Stopped Why.Memory) d e small step call = call
phase_call v w pieces (Committed.Stopped Why.Generation) d e (inl small) step call =
    absurd (omega (arith, small, step.2))
phase_call v w pieces (Committed.Stopped Why.Generation) d e (inr none) step call = absurd (omega (arith, none, step.1))

pub due_call : (v : PlainVolume) (in_place : Bool) (k : ℕ) (d e : View) → IsBlockDue in_place v k
    → WritesBlock v (first_zone in_place (second (sets_of v))) k d e → MakesPhaseCall v.phase v d e
due_call v true k d e due call = subst (λ (p : Phase). MakesPhaseCall p v d e) (sym due) call
due_call v false k d e (inl phase) call = subst (λ (p : Phase). MakesPhaseCall p v d e) (sym phase) call
due_call v false k d e (inr begins) call =
    subst (λ (p : Phase). MakesPhaseCall p v d e) (sym begins.0) (inr (k, begins.1, call))

pub alone_call : (v : PlainVolume) (d e : View) → v.phase ≡ Idle → dirty_from v.dirty 1 ≡ 0 → FlushesOnce d e
    → MakesPhaseCall v.phase v d e
alone_call v d e idle none call = subst (λ (p : Phase). MakesPhaseCall p v d e) (sym idle) (inl (none, call))

-- there is a next generation
pub generation_left : (v : PlainVolume) → IsFixed v → (v.head.generation ≡ 2 ^ 64 - 1 → ⊥)
    → v.head.generation < 2 ^ 64 - 1
generation_left v fixed other =
    let low = fixed.sets.sizes.generation in
    elim (cases_eq v.head.generation (2 ^ 64 - 1)) [
      | inl last ↦ absurd (other last)
      | inr less ↦ omega (arith, low, less)
    ]

-- a block is dirty
pub some_dirty : (dirty : List Bool) (k : ℕ) → IsNextDirty dirty 1 (Some k) → 0 < dirty_from dirty 1
some_dirty dirty k is =
    let same = dirty_next dirty 1 k is in
    let more = dirty_more dirty k is.0 is.3 in
    omega (arith, same, more)
