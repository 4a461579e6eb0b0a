-- What the functions of a step ask and leave, over the volume and how far the requests have come.
use Rattle.std.specs.Prelude.{◌≡◌, ℕ, ◌*◌, ◌<◌, ◌≤◌, List, [], length, set, slice_get, Option, Some, None, ⊤, true}
use Rattle.zd_base.specs.declared.steps.StepKind.TheVariants.{Remap}
use Rattle.zd_disk.specs.Told.{WhereTold}
use Rattle.zd_disk.specs.View.{View}
use Rattle.zd_model.specs.History.{last_array}
use Rattle.zd_model.specs.Image.{Image}
use Rattle.zd_model.specs.Requests.{sector_count}
use Rattle.zd_model.specs.Room.{ListWithRoom}
use Rattle.zd_model.specs.Safe.{base_at}
use Rattle.zd_model.specs.declared.requests.Piece.{Piece}
use Rattle.zd_model.specs.declared.requests.Request.{Request}
use Rattle.zd_state.specs.Seen.{Seen}
use Rattle.zd_steps.specs.Queues.{MayServe, QueueState, head_of}
use Rattle.zd_steps.specs.Runs.{is_ready}
use Rattle.zd_steps.specs.declared.step.Step.{Step}
use Rattle.zd_steps.specs.declared.step.Step.TheVariants.{Begin, Commit, Serve, Work}
use Rattle.zd_volume.specs.Flights.{serves}
use Rattle.zd_volume.specs.Sets.{device_sectors}
use Rattle.zd_volume.specs.Volumes.{IsFixed, PlainVolume, sets_of}
use Rattle.zd_volume.specs.declared.flight.Flight.{Flight}
use Rattle.zd_volume.specs.declared.phase.Phase.TheVariants.{Idle}
use Rattle.zd_session.specs.Serving.{IsReadOf}
use Rattle.zd_session.specs.SessionSteps.{CallsAtMostOnce}
use Rattle.zd_session.specs.Sessions.{HasSpace, IsProgress, IsSession, SessionView, no_edges}
use Rattle.zd_session.specs.Standings.{has_job, kind_next, standing_of}
use Rattle.zd_session.specs.declared.actor.Actor.{Actor}
use Rattle.zd_session.specs.declared.progress.Progress.{Progress}

abbrev pub IsGoing : {D : Type 0} → (D → View) → Seen D → Progress → Type 0
IsGoing look v g =
    IsProgress v.plain v.spare v.room (look v.opening).zones g.queue g.actors.items g.replies.items

-- the session that these make up
abbrev pub seen_by : {D : Type 0} → Seen D → List Request → Progress → SessionView D
seen_by v plan g = record { volume = v; plan = plan; flights = g.queue.flights; actors = g.actors.items }

-- an actor may serve this piece over a volume that goes on
pub record CanMove {D : Type 0} (look : D → View) (v : Seen D) (g : Progress) (actor : ℕ) (p : Piece) : Type 0 where
  pub running : v.plain.stopped ≡ None
  pub going : IsGoing look v g
  pub inside : actor < length g.queue.flights
  pub serve : MayServe g.queue actor p

-- A STEP WAS MADE, with one call at most, and all that is always true is so again
pub record HasMoved {D : Type 0} (look : D → View) (v w : Seen D) (g h : Progress) : Type 0 where
  pub going : IsGoing look w h
  pub calls : CallsAtMostOnce (look v.disk) (look w.disk)
  pub opening : w.opening ≡ v.opening
  pub room : w.room ≡ v.room
  pub pieces : h.queue.callers.pieces ≡ g.queue.callers.pieces
  pub count : length h.queue.flights ≡ length g.queue.flights
  pub geometry : w.plain.geometry ≡ v.plain.geometry
  pub layout : w.plain.head.layout ≡ v.plain.head.layout
  pub generation : w.plain.opening_generation ≡ v.plain.opening_generation

-- What a volume tells of itself: it is sound; its disk tells what it reads as where it did when opening ended, and then
-- alone; and while it goes on it serves the last values
pub record StandsSo {D : Type 0} (look : D → View) (v : Seen D) : Type 0 where
  pub fixed : IsFixed v.plain
  pub shows : WhereTold (look v.opening).zones (λ _. (i : Image) × ((look v.disk).zones ≡ Some i))
  pub showed : v.plain.stopped ≡ None →
      WhereTold (look v.disk).zones (λ _. (i : Image) × ((look v.opening).zones ≡ Some i))
  pub based : v.plain.stopped ≡ None → WhereTold (look v.opening).zones (λ _.
      length (base_at (look v.opening).zones) ≡ device_sectors (sets_of v.plain))
  pub serving : v.plain.stopped ≡ None → WhereTold (look v.disk).zones (λ i.
      serves v.plain i ≡ last_array (base_at (look v.opening).zones) v.plain.history)

-- the read that an actor goes on with is taken from it, or one is begun with the room that its reply has
abbrev pub LeavesReplies : Option Flight → Progress → Progress → Piece → Flight → Type 0
LeavesReplies None g h p f = (512 * sector_count p.what ≤ f.bytes.room)
    × (h.replies.items ≡ set g.replies.items (head_of g.queue.callers p.caller) None)
LeavesReplies (Some read) g h p f = h.replies.items ≡ g.replies.items

-- that room is taken
pub record BeginsReply (g h : Progress) (p : Piece) (bytes : ListWithRoom ℕ) : Type 0 where
  pub empty : bytes.items ≡ []
  pub room : 512 * sector_count p.what ≤ bytes.room
  pub queue : h.queue ≡ g.queue
  pub actors : h.actors ≡ g.actors
  pub replies : h.replies.items ≡ set g.replies.items (head_of g.queue.callers p.caller) None

pub record TakesRead (g h : Progress) (actor : ℕ) (p : Piece) (f : Flight) : Type 0 where
  pub a : Actor
  pub was : slice_get g.actors.items actor ≡ Some a
  pub is : IsReadOf a.read p f
  pub queue : h.queue ≡ g.queue
  pub actors : h.actors.items ≡ set g.actors.items actor (record a { read = None })
  pub replies : LeavesReplies a.read g h p f

-- an actor that has no read under way has space for the reply of its piece
abbrev pub HasReplyIfNone : Option Flight → Progress → Piece → Type 0
HasReplyIfNone None g p =
    HasSpace (512 * sector_count p.what) (slice_get g.replies.items (head_of g.queue.callers p.caller))
HasReplyIfNone (Some read) g p = Unit {0}

-- a step that may be made over a volume that goes on: a piece that the actor may serve and that is ready; a commit; a
-- job, where none is under way, nor a commit, and one can be picked; and the next step of the job under way, which
-- doesn't end beside a commit
abbrev pub MayMake : PlainVolume → QueueState → ℕ → Step → Type 0
MayMake v q actor (Serve p) = MayServe q actor p × (is_ready (standing_of v no_edges) p ≡ true)
MayMake v q actor Commit = ⊤
MayMake v q actor Begin = (v.phase ≡ Idle) × (v.job ≡ None) × (has_job v ≡ true)
MayMake v q actor (Work kind) = (kind_next v v.job ≡ Some kind) × (kind ≡ Remap → v.phase ≡ Idle)

-- WHAT A SESSION KEEPS, with a list of this capacity for the flushes of a commit
pub record IsKeptSession {D : Type 0} (look : D → View) (v : Seen D) (plan : List Request) (g : Progress) (list : ℕ)
    : Type 0 where
  pub session : IsSession v.plain v.spare v.room (look v.opening).zones plan g.queue g.actors.items g.replies.items
  pub list_room : 64 ≤ list
