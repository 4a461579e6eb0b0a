-- The steps of a commit, as changes of a volume's values.
use Rattle.std.specs.Prelude.{◌≡◌, ℕ, ◌+◌, ◌-◌, ◌*◌, ◌^◌, ◌<◌, Bool, true, false, ◌==◌}
use Rattle.std.specs.Prelude.{List, ◌++◌, map, replicate, length, Option, Some, None, if◌then◌else◌}
use Rattle.std.specs.List.{AllByRecursion}
use Rattle.zd_base.specs.declared.numbers.Why.{Why}
use Rattle.zd_alloc.specs.Zones.{Division, after_limbo}
use Rattle.zd_model.specs.History.{HistoryEntry}
use Rattle.zd_model.specs.Plain.{Answer}
use Rattle.zd_model.specs.Plain.{Answer as answers}
use Rattle.zd_model.specs.declared.requests.Piece.{Piece}
use Rattle.zd_model.specs.declared.requests.What.TheVariants.{Flush}
use Rattle.zd_disk.specs.Told.{next_count}
use Rattle.zd_volume.specs.declared.phase.Committed.{Committed}
use Rattle.zd_volume.specs.declared.phase.Phase.{Phase}
use Rattle.zd_volume.specs.declared.phase.Phase.TheVariants.{Idle, Log, LogFlush, LogSuper}
use Rattle.zd_volume.specs.declared.phase.Phase.TheVariants.{LogSuperFlush, InPlace, InPlaceFlush}
use Rattle.zd_volume.specs.declared.phase.Phase.TheVariants.{InPlaceSuper, InPlaceSuperFlush}
use Rattle.zd_volume.specs.Phases.{after_block, IsNextDirty}
use Rattle.zd_volume.specs.Phases.{end_generation, with_generation}
use Rattle.zd_volume.specs.Uses.{dirty_from}
use Rattle.zd_volume.specs.Volumes.{PlainVolume}

-- pieces that wait for a commit: each is a flush
abbrev pub AreFlushes : List Piece → Type 0
AreFlushes pieces = AllByRecursion (λ (p : Piece). p.what ≡ Flush) pieces

-- the flushes of these pieces, as a commit enters them
abbrev pub flush_entries : Answer → ℕ → List Piece → List HistoryEntry
flush_entries reply at pieces =
    map (λ (p : Piece). record {
      caller = p.caller;
      request = p.request;
      piece = p.piece;
      what = p.what;
      reply = reply;
      at = at;
    }) pieces

-- how many calls of the disk are left of a commit in this phase; of one that hasn't begun all
abbrev pub calls_left : List Bool → Phase → ℕ
calls_left dirty Idle = if dirty_from dirty 1 == 0 then 1 else 2 * dirty_from dirty 1 + 6
calls_left dirty (Log k) = dirty_from dirty k + dirty_from dirty 1 + 6
calls_left dirty LogFlush = dirty_from dirty 1 + 6
calls_left dirty LogSuper = dirty_from dirty 1 + 5
calls_left dirty LogSuperFlush = dirty_from dirty 1 + 4
calls_left dirty (InPlace k) = dirty_from dirty k + 3
calls_left dirty InPlaceFlush = 3
calls_left dirty InPlaceSuper = 2
calls_left dirty InPlaceSuperFlush = 1

-- the phase that comes next, where the call of this one was made and isn't the last: of a commit that
-- begins, that after its first block
abbrev pub IsPhaseAfter : List Bool → Phase → Phase → Type 0
IsPhaseAfter dirty Idle to = (k : ℕ) × (next : Option ℕ)
    × IsNextDirty dirty 1 (Some k) × IsNextDirty dirty (k + 1) next × (to ≡ after_block false next)
IsPhaseAfter dirty (Log k) to =
    (next : Option ℕ) × IsNextDirty dirty (k + 1) next × (to ≡ after_block false next)
IsPhaseAfter dirty LogFlush to = to ≡ LogSuper
IsPhaseAfter dirty LogSuper to = to ≡ LogSuperFlush
IsPhaseAfter dirty LogSuperFlush to =
    (next : Option ℕ) × IsNextDirty dirty 1 next × (to ≡ after_block true next)
IsPhaseAfter dirty (InPlace k) to =
    (next : Option ℕ) × IsNextDirty dirty (k + 1) next × (to ≡ after_block true next)
IsPhaseAfter dirty InPlaceFlush to = to ≡ InPlaceSuper
IsPhaseAfter dirty InPlaceSuper to = to ≡ InPlaceSuperFlush
IsPhaseAfter dirty InPlaceSuperFlush to = ⊥

-- the volume goes on, or the disk failed
abbrev pub stopped_by : Bool → Option Why
stopped_by done = if done then None else Some Why.Device

-- the volume after a call inside a commit: another phase, one more call; or it is stopped
abbrev pub after_phase : PlainVolume → Phase → ℕ → Option Why → PlainVolume
after_phase v phase since stopped = record v { phase = phase; since = since; stopped = stopped }

-- THE FLUSH THAT ENDS A COMMIT, alone or the last of many: the new tables are the committed ones,
-- nothing is dirty, limbo has ended, and the flushes that wait are entered
abbrev pub after_end : PlainVolume → Bool → List HistoryEntry → List Bool → List Bool → Division → ℕ
    → PlainVolume
after_end v alone entries clean named division since = record v {
  phase = Idle;
  head = with_generation (end_generation alone v.head.generation) v.head;
  committed = v.fresh;
  dirty = clean;
  named = named;
  division = division;
  history = v.history ++ entries;
  since = since;
}

-- the next call of a commit was made, and it isn't the last: the phase and the count of calls alone
-- are others
pub record Advances (from to : PlainVolume) : Type 0 where
  pub phase : IsPhaseAfter from.dirty from.phase to.phase
  pub rest : to ≡ after_phase from to.phase (next_count from.since) from.stopped

-- the next call is the last: the only one where nothing is dirty (`alone`), or the ninth phase's
abbrev pub IsLastCall : Bool → Phase → List Bool → Type 0
IsLastCall true phase dirty = (phase ≡ Idle) × (dirty_from dirty 1 ≡ 0)
IsLastCall false phase dirty = phase ≡ InPlaceSuperFlush

-- limbo has ended, and all else of the zones is as it was
pub record EndsLimbo (from to : Division) : Type 0 where
  pub zones : to.zones ≡ map after_limbo from.zones
  pub conv : to.conv ≡ from.conv
  pub order : to.order ≡ from.order

-- The last call was made. Where it wasn't the only one, the generation is one greater.
pub record EndsCommit (from to : PlainVolume) (flushes : List Piece) : Type 0 where
  pub alone : Bool
  pub last : IsLastCall alone from.phase from.dirty
  pub limbo : EndsLimbo from.division to.division
  pub rest : to ≡ after_end from alone
      (flush_entries answers.Done (next_count from.since) flushes)
      (replicate (length from.dirty) false) to.named to.division (next_count from.since)

-- the call failed: the volume is stopped, and the flushes that wait are entered with Fault
abbrev pub after_failed : PlainVolume → List Piece → PlainVolume
after_failed v flushes = record v {
  history = v.history ++ flush_entries answers.Fault (next_count v.since) flushes;
  since = next_count v.since;
  stopped = Some Why.Device;
}

-- a commit that fails, or that has no next generation and makes no call
abbrev pub StopsCommit : PlainVolume → PlainVolume → List Piece → Why → Type 0
StopsCommit from to flushes Why.Device = to ≡ after_failed from flushes
StopsCommit from to flushes Why.Generation =
    (from.phase ≡ Idle) × (0 < dirty_from from.dirty 1) × (from.head.generation ≡ 2 ^ 64 - 1)
    × (to ≡ record from { stopped = Some Why.Generation })
StopsCommit from to flushes Why.Memory = ⊥

-- one step of a commit
abbrev pub CommitStep : PlainVolume → PlainVolume → List Piece → Committed → Type 0
CommitStep from to flushes Committed.More = Advances from to
CommitStep from to flushes Committed.Ended = EndsCommit from to flushes
CommitStep from to flushes (Committed.Stopped why) = StopsCommit from to flushes why
