-- What a session is given as it begins: nothing is entered, and all room is there.
use Rattle.std.specs.Prelude.{◌≡◌, ◌⊎◌, ℕ, ◌*◌, ◌≤◌, All, Contains, List, length, replicate, slice_get}
use Rattle.std.specs.Prelude.{[], Option, Some, None, false}
use Rattle.zd_model.specs.Requests.{block_count, operation_of, sector_count}
use Rattle.zd_model.specs.Requests.Operation.{Reading, Writing}
use Rattle.zd_model.specs.Room.{ListWithRoom}
use Rattle.zd_model.specs.declared.requests.Piece.{Piece}
use Rattle.zd_steps.specs.Queues.{HasEntered}
use Rattle.zd_session.specs.Sessions.{HasBlocksFor, HasSpace, IsFree}
use Rattle.zd_session.specs.declared.actor.Actor.{Actor}
use Rattle.zd_session.specs.declared.progress.Progress.{Progress}

-- an actor that has read nothing, with room for two edges
pub record IsNewActor (a : Actor) : Type 0 where
  pub free : IsFree a
  pub first : 4096 ≤ a.edges.first.room
  pub last : 4096 ≤ a.edges.last.room

-- so many of them
pub record AreNewActors (count : ℕ) (actors : List Actor) : Type 0 where
  pub count_is : length actors ≡ count
  pub each : All IsNewActor actors

-- what stands ready for a piece: space for its bytes, where it is a read in range; else nothing
pub record IsReadyFor (p : Piece) (reply : Option (Option (ListWithRoom ℕ))) : Type 0 where
  pub space : p.range ≡ false → operation_of p.what ≡ Reading → HasSpace (512 * sector_count p.what) reply
  pub none : ((p.range ≡ false) × (operation_of p.what ≡ Reading) → ⊥) → reply ≡ Some None

-- so it is for each piece
pub record AreReadyFor (pieces : List Piece) (replies : List (Option (ListWithRoom ℕ))) : Type 0 where
  pub count : length replies ≡ length pieces
  pub each : (i : ℕ) (p : Piece) → slice_get pieces i ≡ Some p → IsReadyFor p (slice_get replies i)

-- a write in range of so many blocks
pub record IsWriteOf (blocks : ℕ) (p : Piece) : Type 0 where
  pub range : p.range ≡ false
  pub writes : operation_of p.what ≡ Writing
  pub count : block_count p.what ≡ blocks

-- THE LONGEST WRITE in range has so many blocks; 0 where there is none
pub record IsLongestWrite (pieces : List Piece) (blocks : ℕ) : Type 0 where
  pub most : All (HasBlocksFor blocks) pieces
  pub reached : (blocks ≡ 0) ⊎ ((p : Piece) × Contains pieces p × IsWriteOf blocks p)

-- NOTHING IS ENTERED of these pieces, and so many actors have nothing in flight
pub record IsUnbegun (pieces : List Piece) (chunk_blocks actors : ℕ) (g : Progress) : Type 0 where
  pub pieces_are : g.queue.callers.pieces ≡ pieces
  pub chunks : g.queue.chunk_blocks ≡ chunk_blocks
  pub flights : g.queue.flights ≡ replicate actors None
  pub none : HasEntered g.queue.callers []
  pub free : AreNewActors actors g.actors.items
  pub ready : AreReadyFor pieces g.replies.items
