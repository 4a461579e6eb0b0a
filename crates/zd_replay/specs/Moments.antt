-- The moments of a run: those before opening ended, and those from then on.
use Rattle.std.specs.Prelude.{◌≡◌, ℕ, ◌+◌, ◌-◌, ◌<◌, ◌≤◌, ◌^◌, Some}
use Rattle.zd_disk.specs.Told.{WhereTold}
use Rattle.zd_disk.specs.View.{IsDurable, LeavesBy, OnlyReads, ReadsNone, Turns, View}
use Rattle.zd_examine.specs.Opened.{IsKept, IsLeftOrKept, open_calls}
use Rattle.zd_model.specs.Image.{Image}
use Rattle.zd_model.specs.Volume.{chosen}
use Rattle.zd_model.specs.declared.texts.Outcome.{Outcome}
use Rattle.zd_sets.specs.Choice.{chosen_of}
use Rattle.zd_sets.specs.declared.choice.Chosen.{Chosen as Choice}
use Rattle.zd_tell.specs.Stages.{RunStage, stage_order}
use Rattle.zd_tell.specs.Stages.RunStage.{Opening, Run}
use Rattle.zd_replay.specs.Ends.{no_device}

-- no call came to the disk
pub record IsUncalled (u v : View) : Type 0 where
  pub reads : OnlyReads u v
  pub none : ReadsNone u v
  pub faults : v.faults ≡ u.faults

-- So many writing calls had returned when opening ended, or the run did where it ended before. They are
-- those of one opening by the chosen set, while their count is below its end.
pub record OpenedAfter (stage : RunStage) (opened : ℕ) (u v : View) : Type 0 where
  pub first : u.calls ≤ opened
  pub last : opened ≤ v.calls
  pub before : stage_order stage < stage_order Run → opened ≡ v.calls
  pub counted : stage ≡ Run → opened < 2 ^ 64 - 1 → WhereTold u.zones (λ image.
      (c : Choice) × (chosen image ≡ Some (chosen_of c)) × (opened ≡ u.calls + open_calls c image))

-- The last moment of opening. Where a volume was opened, the moment at which it ended is the first of the
-- run itself, since the run's first call may be under way then.
abbrev pub last_of_opening : RunStage → ℕ → ℕ
last_of_opening Run opened = opened - 1
last_of_opening stage opened = opened

-- What a stop leaves of a disk until opening ends, or until the run does where it ends before. Where no
-- stage came that calls the disk, there is one moment, and nothing changes.
pub record LeavesOpening (stage : RunStage) (outcome : Outcome) (opened : ℕ) (u v : View) : Type 0 where
  -- as it could at first, or the volume that the disk read as
  pub way : v.calls < 2 ^ 64 - 1 → WhereTold u.zones (λ image.
      LeavesBy (IsLeftOrKept image) u.calls u.left (last_of_opening stage opened) v.left)
  -- what the disk read as, or the same volume, once the first flush was answered: where the disk failed in
  -- opening, a second writing call shows that it was
  pub settled : (stage ≡ Opening → outcome ≡ no_device → u.calls + 2 ≤ opened) → v.calls < 2 ^ 64 - 1 →
      WhereTold u.zones (λ image. (k : ℕ) (i : Image) → u.calls + 1 ≤ k → k ≤ last_of_opening stage opened →
      v.left k i → IsKept image i)
  -- the same from the first moment on, where a stop would have left what the disk read as alone
  pub kept : v.calls < 2 ^ 64 - 1 → IsDurable u → WhereTold u.zones (λ image.
      (k : ℕ) (i : Image) → u.calls ≤ k → k ≤ last_of_opening stage opened → v.left k i → IsKept image i)
  -- where no volume was opened, it reads as what it read as, or is the same volume
  pub reads : stage_order stage < stage_order Run → Turns IsKept u v
