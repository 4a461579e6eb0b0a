-- What contracts see of a volume.
use Rattle.std.specs.Prelude.{◌≡◌, ℕ, ◌+◌, ◌≤◌}
use Rattle.zd_volume.specs.Volumes.{PlainVolume}
use Rattle.zd_volume.specs.declared.flight.Ran.{Ran}
use Rattle.zd_volume.specs.declared.phase.Committed.{Committed}

-- a volume without its disk: its values, and how many entries, and blocks of a write, it takes
-- without memory
pub record KeptState : Type 0 where
  pub plain : PlainVolume
  pub spare : ℕ
  pub room : ℕ

-- with its disk, as it is now and as it was when opening ended
pub record Seen (D : Type 0) : Type 0 where
  pub disk : D
  pub opening : D
  pub plain : PlainVolume
  pub spare : ℕ
  pub room : ℕ

-- the disk with which it began and the room for writes stay, and so many entries at most are entered
pub record SameSession {D : Type 0} (entries : ℕ) (old new : Seen D) : Type 0 where
  pub opening : new.opening ≡ old.opening
  pub room : new.room ≡ old.room
  pub spare : old.spare ≤ new.spare + entries

-- how many entries a step of a read takes, and one of a commit for which so many flushes wait: none
-- while more is left
abbrev pub entries_of_read : Ran → ℕ
entries_of_read Ran.More = 0
entries_of_read Ran.Entered = 1

abbrev pub entries_of_commit : Committed → ℕ → ℕ
entries_of_commit Committed.More flushes = 0
entries_of_commit Committed.Ended flushes = flushes
entries_of_commit (Committed.Stopped why) flushes = flushes
