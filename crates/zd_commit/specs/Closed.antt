-- What a whole commit, and the closing of a volume, make of it.
use Rattle.std.specs.Prelude.{◌≡◌, ◌⊎◌, ℕ, ◌+◌, ◌-◌, ◌^◌, ◌<◌, Bool, true, false}
use Rattle.std.specs.Prelude.{List, length, replicate, Some}
use Rattle.zd_base.specs.declared.numbers.Why.{Why}
use Rattle.zd_alloc.specs.Zones.{Division, use_at}
use Rattle.zd_disk.specs.View.{Stays, View}
use Rattle.zd_alloc.specs.declared.uses.ZoneUse.TheVariants.{Limbo}
use Rattle.zd_volume.specs.Abandons.{IsAbandoned}
use Rattle.zd_volume.specs.declared.phase.Phase.{Phase}
use Rattle.zd_volume.specs.Commits.{EndsLimbo, IsLastCall, after_phase, calls_left}
use Rattle.zd_volume.specs.Phases.{end_generation, with_generation}
use Rattle.zd_volume.specs.Uses.{dirty_from}
use Rattle.zd_volume.specs.Volumes.{PlainVolume}
use Rattle.zd_volume.specs.declared.phase.Phase.TheVariants.{Idle}

-- some zone is in limbo
abbrev pub HasLimbo : Division → Type 0
HasLimbo d = (z : ℕ) × (use_at d.zones z ≡ Limbo)

-- A commit has ended: the new tables are the committed ones, nothing is dirty, limbo has ended. The
-- generation is one greater, but just where no commit was under way and nothing was dirty (`alone`).
-- All else, the history too, is as it was.
pub record IsCommitted (from to : PlainVolume) : Type 0 where
  pub alone : Bool
  pub idle : alone ≡ true → IsLastCall true from.phase from.dirty
  pub only : IsLastCall true from.phase from.dirty → alone ≡ true
  pub limbo : EndsLimbo from.division to.division
  pub rest : to ≡ record from {
    phase = Idle;
    head = with_generation (end_generation alone from.head.generation) from.head;
    committed = from.fresh;
    dirty = replicate (length from.dirty) false;
    named = to.named;
    division = to.division;
    since = to.since;
  }

-- a commit that stopped the volume: the disk failed in one of its calls, or there is no next generation
-- and none was made. What was answered is as it was
abbrev pub StopsCommitting : PlainVolume → PlainVolume → Why → Type 0
StopsCommitting from to Why.Device =
    to ≡ record from { phase = to.phase; since = to.since; stopped = Some Why.Device }
StopsCommitting from to Why.Generation =
    (from.phase ≡ Idle) × (0 < dirty_from from.dirty 1) × (from.head.generation ≡ 2 ^ 64 - 1)
    × (to ≡ record from { stopped = Some Why.Generation })
StopsCommitting from to Why.Memory = ⊥

-- Inside a whole commit: the phase and the count of calls alone have changed, both only once a call was
-- made, and those that were made and those that are left are together as many as at first.
pub record IsInCommit (from to : PlainVolume) (u v : View) : Type 0 where
  pub rest : to ≡ after_phase from to.phase to.since from.stopped
  pub begun : to.phase ≡ Idle → to ≡ from
  pub only : IsLastCall true from.phase from.dirty → to ≡ from
  pub stays : Stays u v
  pub left : v.calls < 2 ^ 64 - 1 →
      v.calls + calls_left to.dirty to.phase ≡ u.calls + calls_left from.dirty from.phase

-- the commit that was under way has ended; where none was, nothing has changed
abbrev pub Finishes : Phase → PlainVolume → PlainVolume → Type 0
Finishes Idle from to = to ≡ from
Finishes phase from to = IsCommitted from to

-- how many calls that takes
abbrev pub calls_to_finish : List Bool → Phase → ℕ
calls_to_finish dirty Idle = 0
calls_to_finish dirty phase = calls_left dirty phase

-- how many calls closing takes: after a commit that was under way nothing is dirty, and one flush is left
abbrev pub calls_to_close : List Bool → Phase → ℕ
calls_to_close dirty Idle = calls_left dirty Idle
calls_to_close dirty phase = calls_left dirty phase + 1

-- Closing: a job under way was given up, a commit under way has ended, and then a whole commit was made.
pub record IsClosed (from to : PlainVolume) : Type 0 where
  pub left : PlainVolume
  pub given_up : IsAbandoned from left
  pub finished : PlainVolume
  pub finishes : Finishes left.phase left finished
  pub last : IsCommitted finished to

-- closing that stopped: in the commit that was under way, or in the last one
pub record StopsClosing (from to : PlainVolume) (why : Why) : Type 0 where
  pub left : PlainVolume
  pub given_up : IsAbandoned from left
  pub stops : StopsCommitting left to why
      ⊎ ((finished : PlainVolume) × Finishes left.phase left finished × StopsCommitting finished to why)
