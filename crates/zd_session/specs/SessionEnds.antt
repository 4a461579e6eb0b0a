-- How a session begins, and how it ends.
use Rattle.std.specs.Prelude.{◌≡◌, ℕ, ◌-◌, ◌^◌, ◌<◌, List, map, replicate, slice_get, Option, Some, None}
use Rattle.zd_base.specs.declared.numbers.Why.{Why}
use Rattle.zd_commit.specs.Closed.{IsClosed, StopsClosing}
use Rattle.zd_disk.specs.Moments.{AtEach}
use Rattle.zd_disk.specs.Told.{WhereTold}
use Rattle.zd_disk.specs.View.{HasFailed, View}
use Rattle.zd_model.specs.History.{HistoryEntry, IsLegal, IsOrdered, mark_of_entry, mark_of_piece, marks_of_caller}
use Rattle.zd_model.specs.Image.{Image}
use Rattle.zd_model.specs.Safe.{IsSafe, base_at}
use Rattle.zd_model.specs.declared.requests.Ending.{Ending}
use Rattle.zd_model.specs.declared.requests.Request.{Request}
use Rattle.zd_base.specs.Layout.{device_blocks}
use Rattle.zd_state.specs.ClosedImages.{IsClosedImage}
use Rattle.zd_state.specs.Seen.{Seen}
use Rattle.zd_volume.specs.FaultCounts.{TellsFaults}
use Rattle.zd_volume.specs.Volumes.{CountsSince, PlainVolume}
use Rattle.zd_session.specs.Sessions.{IsFree, SessionView, pieces_on}
use Rattle.zd_session.specs.declared.actor.Actor.{Actor}

-- A VOLUME IS AS IT WAS, but for room that was made
pub record IsRoomier {D : Type 0} (from to : Seen D) : Type 0 where
  pub disk : to.disk ≡ from.disk
  pub opening : to.opening ≡ from.opening
  pub plain : to.plain ≡ from.plain

-- A SESSION BEGINS: over this volume, with this plan and so many actors, none of which has a piece in flight
pub record BeginsSession {D : Type 0} (volume : Seen D) (plan : List Request) (actors : ℕ) (s : SessionView D) : Type 0
  where
    pub over : IsRoomier volume s.volume
    pub plan_is : s.plan ≡ plan
    pub flights : s.flights ≡ replicate actors None
    pub free : (i : ℕ) (a : Actor) → slice_get s.actors i ≡ Some a → IsFree a

-- what stopped a session that ended so
abbrev pub stop_in : Ending → Option Why
stop_in Ending.Ok = None
stop_in (Ending.Stopped why) = Some why

-- closing: the volume is closed; or closing stopped it, for the disk only where it failed
abbrev pub ClosesWith : PlainVolume → PlainVolume → View → View → Ending → Type 0
ClosesWith from last u x Ending.Ok = IsClosed from last
ClosesWith from last u x (Ending.Stopped why) = StopsClosing from last why × (why ≡ Why.Device → HasFailed u x)

-- a volume that had stopped is left as it is, another one is closed
abbrev pub EndsVolume : PlainVolume → PlainVolume → View → View → Ending → Option Why → Type 0
EndsVolume from last u x ending (Some why) = (ending ≡ Ending.Stopped why) × (last ≡ from)
EndsVolume from last u x ending None = ClosesWith from last u x ending

-- each caller's pieces are in the history, in their order, and nothing else
abbrev pub EntersAll : PlainVolume → List Request → List HistoryEntry → Type 0
EntersAll v plan history = (caller : ℕ) →
    marks_of_caller caller (map mark_of_entry history)
    ≡ marks_of_caller caller (map mark_of_piece (pieces_on v plan))

-- the history keeps each caller's order
abbrev pub KeepsOrder : PlainVolume → List Request → List HistoryEntry → Type 0
KeepsOrder v plan history = IsOrdered v.geometry.zone_blocks (device_blocks v.geometry v.head.layout) plan history

-- WHAT IS TRUE OF A HISTORY over a disk that told this when opening ended, and tells that now, with the last values of
-- the volume: it is legal, and safe at each moment since opening
pub record IsHistoryOf (last : PlainVolume) (history : List HistoryEntry) (opening now : View) : Type 0 where
  pub shows : WhereTold opening.zones (λ _. (i : Image) × (now.zones ≡ Some i))
  pub counted : CountsSince last opening.calls now.calls
  pub faulted : TellsFaults history last.stopped opening.faults now.faults
  pub legal : now.calls < 2 ^ 64 - 1 → WhereTold now.zones (λ _. IsLegal (base_at opening.zones) history)
  pub safe : now.calls < 2 ^ 64 - 1 → WhereTold now.zones (λ _.
      AtEach (IsSafe (base_at opening.zones) history) opening.calls now.calls now.left)
  pub earlier : now.calls < 2 ^ 64 - 1 → WhereTold now.zones (λ _.
      (k : ℕ) (i : Image) → k < opening.calls → now.left k i → opening.left k i)

-- A SESSION IS FINISHED: its history and its disk are handed out, and a volume that goes on is closed first
pub record FinishesSession {D : Type 0} (look : D → View) (from : SessionView D) (history : List HistoryEntry)
    (disk : D) (ending : Ending) : Type 0 where
  pub last : PlainVolume
  pub same : history ≡ from.volume.plain.history
  pub last_history : last.history ≡ history
  pub ends : EndsVolume from.volume.plain last (look from.volume.disk) (look disk) ending from.volume.plain.stopped
  pub stopped : last.stopped ≡ stop_in ending
  pub ordered : KeepsOrder from.volume.plain from.plan history
  pub all : ending ≡ Ending.Ok → EntersAll from.volume.plain from.plan history
  pub history_of : IsHistoryOf last history (look from.volume.opening) (look disk)
  pub closed : ending ≡ Ending.Ok → (look disk).calls < 2 ^ 64 - 1 → WhereTold (look disk).zones (λ _.
      (i : Image) → (look disk).left (look disk).calls i →
      IsClosedImage (base_at (look from.volume.opening).zones) history i)
