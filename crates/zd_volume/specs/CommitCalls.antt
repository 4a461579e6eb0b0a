-- Which call of the disk a step of a commit makes.
use Rattle.std.specs.Prelude.{◌≡◌, ◌⊎◌, ℕ, ◌+◌, ◌-◌, ◌*◌, ◌/◌, ◌%◌, ◌^◌, ◌<◌, Some, Bool, true, false}
use Rattle.zd_base.specs.declared.numbers.Why.{Why}
use Rattle.zd_model.specs.Image.{Same}
use Rattle.zd_model.specs.Super.{block_of}
use Rattle.zd_disk.specs.Steps.{WriteLeaves, WriteStep}
use Rattle.zd_disk.specs.View.{Calls, HasFailed, IsDurable, OnlyReads, View}
use Rattle.zd_sets.specs.Blocks.{blocks_of}
use Rattle.zd_sets.specs.Equal.{head_at}
use Rattle.zd_sets.specs.Stages.{next_head}
use Rattle.zd_volume.specs.Phases.{IsNextDirty}
use Rattle.zd_volume.specs.Sets.{second}
use Rattle.zd_volume.specs.Uses.{dirty_from}
use Rattle.zd_volume.specs.Volumes.{PlainVolume, sets_of}
use Rattle.zd_volume.specs.declared.phase.Committed.{Committed}
use Rattle.zd_volume.specs.declared.phase.Phase.{Phase}
use Rattle.zd_volume.specs.declared.phase.Phase.TheVariants.{Idle, Log, LogFlush, LogSuper}
use Rattle.zd_volume.specs.declared.phase.Phase.TheVariants.{LogSuperFlush, InPlace, InPlaceFlush}
use Rattle.zd_volume.specs.declared.phase.Phase.TheVariants.{InPlaceSuper, InPlaceSuperFlush}

-- block k of the set that begins in zone `first` is written as it is now
abbrev pub WritesBlock : PlainVolume → ℕ → ℕ → View → View → Type 0
WritesBlock v first k =
    Calls
    (λ r. WriteStep r (first + k / v.geometry.zone_blocks) (8 * (k % v.geometry.zone_blocks))
    (blocks_of v.fresh k 1))
    (λ r j. WriteLeaves r j (first + k / v.geometry.zone_blocks) (8 * (k % v.geometry.zone_blocks))
    (blocks_of v.fresh k 1))

-- the super block of that set is written, with the next generation
abbrev pub WritesSuper : PlainVolume → ℕ → View → View → Type 0
WritesSuper v first =
    Calls
    (λ r. WriteStep r first 0 (block_of (head_at v.geometry first (next_head v.head))))
    (λ r j. WriteLeaves r j first 0 (block_of (head_at v.geometry first (next_head v.head))))

abbrev pub FlushesOnce : View → View → Type 0
FlushesOnce = Calls (λ _. Same) (λ _ _. Same)

-- the one call that belongs to a phase; in Idle that of a commit that begins
abbrev pub MakesPhaseCall : Phase → PlainVolume → View → View → Type 0
MakesPhaseCall Idle v d e =
    ((dirty_from v.dirty 1 ≡ 0) × FlushesOnce d e)
    ⊎ ((k : ℕ) × IsNextDirty v.dirty 1 (Some k) × WritesBlock v (second (sets_of v)) k d e)
MakesPhaseCall (Log k) v d e = WritesBlock v (second (sets_of v)) k d e
MakesPhaseCall LogFlush v d e = FlushesOnce d e
MakesPhaseCall LogSuper v d e = WritesSuper v (second (sets_of v)) d e
MakesPhaseCall LogSuperFlush v d e = FlushesOnce d e
MakesPhaseCall (InPlace k) v d e = WritesBlock v 0 k d e
MakesPhaseCall InPlaceFlush v d e = FlushesOnce d e
MakesPhaseCall InPlaceSuper v d e = WritesSuper v 0 d e
MakesPhaseCall InPlaceSuperFlush v d e = FlushesOnce d e

-- the call of a step: the phase's, done or failed, and none where there is no next generation
abbrev pub MakesCommitCall : Committed → PlainVolume → View → View → Type 0
MakesCommitCall (Committed.Stopped Why.Generation) v d e = OnlyReads d e × (e.read_calls ≡ d.read_calls)
MakesCommitCall result v d e = MakesPhaseCall v.phase v d e

-- where a step stops the volume as a failure of the disk, the disk's count of faults rose
abbrev pub StopsByDevice : Committed → View → View → Type 0
StopsByDevice result d e = result ≡ Committed.Stopped Why.Device → HasFailed d e

-- block k is the one that is written next, to set 1 or to set 0 in place; to set 1 also where the commit
-- begins with it
abbrev pub IsBlockDue : Bool → PlainVolume → ℕ → Type 0
IsBlockDue false v k =
    (v.phase ≡ Log k)
    ⊎ ((v.phase ≡ Idle) × IsNextDirty v.dirty 1 (Some k) × (v.head.generation < 2 ^ 64 - 1))
IsBlockDue true v k = v.phase ≡ InPlace k

-- where a step ends a commit, a stop then leaves what the disk reads as alone
abbrev pub EndsDurable : Committed → View → Type 0
EndsDurable result e = result ≡ Committed.Ended → IsDurable e
