-- What the step of a piece makes of a session.
use Rattle.std.specs.Prelude.{◌≡◌, ◌⊎◌, ℕ, Bool, true, false, [], set, slice_get, Option, Some, None, option_and_then}
use Rattle.zd_base.specs.declared.numbers.Why.{Why}
use Rattle.zd_disk.specs.View.{HasFailed, OnlyReads, ReadsOnce, View}
use Rattle.zd_model.specs.Plain.Answer.{Range}
use Rattle.zd_model.specs.Requests.{Operation, operation_of}
use Rattle.zd_model.specs.Requests.Operation.{Reading, Writing, Discarding, Flushing}
use Rattle.zd_model.specs.declared.requests.Piece.{Piece}
use Rattle.zd_volume.specs.Flights.{ReadStep, with_entry}
use Rattle.zd_volume.specs.declared.flight.Flight.{Flight}
use Rattle.zd_volume.specs.declared.flight.Ran.{Ran}
use Rattle.zd_routes.specs.Edges.{ReadsEdge}
use Rattle.zd_write.specs.Tries.{DiscardsPiece, TriesCall, TriesWrite}
use Rattle.zd_write.specs.declared.steps.Tried.{Tried}
use Rattle.zd_session.specs.Sessions.{IsFree, SessionView, standing_seen}
use Rattle.zd_session.specs.declared.actor.Actor.{Actor}

-- an actor has this in flight now, and has read this of it; the others have what they had
pub record GivesActor {D : Type 0} (actor : ℕ) (flight : Option Piece) (a : Actor) (from to : SessionView D) : Type 0
  where
    pub flights : to.flights ≡ set from.flights actor flight
    pub actors : to.actors ≡ set from.actors actor a

-- the piece is entered: the actor has nothing in flight
pub record LandsActor {D : Type 0} (actor : ℕ) (from to : SessionView D) : Type 0 where
  pub a : Actor
  pub gives : GivesActor actor None a from to
  pub free : IsFree a

-- all actors have what they had
pub record KeepsActors {D : Type 0} (from to : SessionView D) : Type 0 where
  pub flights : to.flights ≡ from.flights
  pub actors : to.actors ≡ from.actors

-- the read that an actor goes on with, or one of which nothing is read
abbrev pub IsReadOf : Option Flight → Piece → Flight → Type 0
IsReadOf None p f = (f.piece ≡ p) × (f.done ≡ 0) × (f.bytes.items ≡ [])
IsReadOf (Some g) p f = f ≡ g

abbrev pub read_of : {D : Type 0} → SessionView D → ℕ → Option Flight
read_of s actor = option_and_then (λ (a : Actor). a.read) (slice_get s.actors actor)

-- after a run that isn't the last the piece is in flight, else it has landed
abbrev pub AfterRun : {D : Type 0} → ℕ → Piece → Flight → Ran → SessionView D → SessionView D → Type 0
AfterRun actor p f Ran.More from to =
    (a : Actor) × (a.read ≡ Some f) × GivesActor actor (Some p) a from to
AfterRun actor p f Ran.Entered from to = LandsActor actor from to

-- A READ: its next run, which enters it where it is the last, or where the disk fails
pub record ServesRead {D : Type 0} (look : D → View) (from to : SessionView D) (actor : ℕ) (p : Piece) : Type 0 where
  pub flight : Flight
  pub is : IsReadOf (read_of from actor) p flight
  pub next : Flight
  pub ran : Ran
  pub step : ReadStep from.volume.plain to.volume.plain (look from.volume.disk) (look to.volume.disk) flight next ran
  pub after : AfterRun actor p next ran from to

-- AN EDGE OF A WRITE is read: the next that is due, and the piece is in flight
pub record ReadsEdgeOf {D : Type 0} (look : D → View) (from to : SessionView D) (actor : ℕ) (p : Piece) : Type 0 where
  pub old : Actor
  pub was : slice_get from.actors actor ≡ Some old
  pub new : Actor
  pub read : ReadsEdge from.volume.plain (look from.volume.disk).zones p.what old.edges new.edges
  pub volume : to.volume.plain ≡ from.volume.plain
  pub gives : GivesActor actor (Some p) new from to

-- the disk failed to read it: the volume is stopped, and nothing is entered
pub record FailsEdge {D : Type 0} (look : D → View) (from to : SessionView D) : Type 0 where
  pub volume : to.volume.plain ≡ record from.volume.plain { stopped = Some Why.Device }
  pub flights : to.flights ≡ from.flights
  pub failed : HasFailed (look from.volume.disk) (look to.volume.disk)

pub record ServesEdge {D : Type 0} (look : D → View) (from to : SessionView D) (actor : ℕ) (p : Piece) : Type 0 where
  pub call : ReadsOnce (look from.volume.disk) (look to.volume.disk)
  pub reads : OnlyReads (look from.volume.disk) (look to.volume.disk)
  pub did : ReadsEdgeOf look from to actor p ⊎ FailsEdge look from to

-- what became of a write that lacks no zone
abbrev pub EntersTried : Tried → Type 0
EntersTried Tried.Entered = Unit {0}
EntersTried Tried.NoZone = ⊥
EntersTried Tried.Stopped = Unit {0}

-- A WRITE: done or failed it is entered
pub record ServesWrite {D : Type 0} (look : D → View) (from to : SessionView D) (actor : ℕ) (p : Piece) : Type 0 where
  pub tried : Tried
  pub enters : EntersTried tried
  pub tries : TriesWrite from.volume.plain to.volume.plain p tried
  pub call : TriesCall tried (look from.volume.disk) (look to.volume.disk)
  pub lands : LandsActor actor from to

-- A DISCARD, without a call of the disk
pub record ServesDiscard {D : Type 0} (from to : SessionView D) (actor : ℕ) (p : Piece) : Type 0 where
  pub discards : DiscardsPiece from.volume.plain to.volume.plain p
  pub disk : to.volume.disk ≡ from.volume.disk
  pub lands : LandsActor actor from to

-- A PIECE THAT ENDS PAST THE DEVICE is answered Range, and all else is as it was
pub record ServesPast {D : Type 0} (from to : SessionView D) (actor : ℕ) (p : Piece) : Type 0 where
  pub enters : to.volume.plain ≡ with_entry from.volume.plain p Range
  pub disk : to.volume.disk ≡ from.volume.disk
  pub lands : LandsActor actor from to

-- a piece in range by its operation, a write of which has an edge to be read or hasn't; a flush isn't served
abbrev pub ServesIn : {D : Type 0} → (D → View) → SessionView D → SessionView D → ℕ → Piece → Operation → Bool → Type 0
ServesIn look from to actor p Reading merges = ServesRead look from to actor p
ServesIn look from to actor p Writing true = ServesEdge look from to actor p
ServesIn look from to actor p Writing false = ServesWrite look from to actor p
ServesIn look from to actor p Discarding merges = ServesDiscard from to actor p
ServesIn look from to actor p Flushing merges = ⊥

abbrev pub ServesBy : {D : Type 0} → (D → View) → SessionView D → SessionView D → ℕ → Piece → Bool → Type 0
ServesBy look from to actor p true = ServesPast from to actor p
ServesBy look from to actor p false =
    ServesIn look from to actor p (operation_of p.what) ((standing_seen from actor).merges p)

-- THE STEP OF A PIECE
abbrev pub Serves : {D : Type 0} → (D → View) → SessionView D → SessionView D → ℕ → Piece → Type 0
Serves look from to actor p = ServesBy look from to actor p p.range
