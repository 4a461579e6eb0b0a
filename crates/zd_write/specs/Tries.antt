-- What a step of a write, and a discard, make of a volume.
use Rattle.std.specs.Prelude.{◌≡◌, ℕ}
use Rattle.zd_disk.specs.View.{HasFailed, OnlyReads, ReadsNone, View}
use Rattle.zd_model.specs.declared.requests.Piece.{Piece}
use Rattle.zd_routes.specs.Promotions.{IsBare, PromotesChunk}
use Rattle.zd_routes.specs.Routes.{LacksZone}
use Rattle.zd_routes.specs.Writes.{CallsOnce, WritesPiece, with_failed_write}
use Rattle.zd_volume.specs.Abandons.{IsAbandoned}
use Rattle.zd_volume.specs.Discards.{DropsRange, NoJobOn, chunk_touched}
use Rattle.zd_volume.specs.Volumes.{PlainVolume}
use Rattle.zd_volume.specs.declared.work.Place.{Place}
use Rattle.zd_volume.specs.declared.work.Place.TheVariants.{Buffer, Main, NewBuffer, NewMain}
use Rattle.zd_write.specs.declared.steps.Tried.{Tried}

-- it's the chunk's buffer, one that is there or a new one
abbrev pub IsBufferPlace : Place → Type 0
IsBufferPlace Main = ⊥
IsBufferPlace NewMain = ⊥
IsBufferPlace Buffer = Unit {0}
IsBufferPlace NewBuffer = Unit {0}

-- a job on this chunk is given up; where there is none, nothing changes
pub record GivesUpOn (from to : PlainVolume) (chunk : ℕ) : Type 0 where
  pub on : (NoJobOn from.job chunk → ⊥) → IsAbandoned from to
  pub off : NoJobOn from.job chunk → to ≡ from

-- a chunk whose zone has no valid block is promoted, where it is buffered; else nothing changes
pub record Settles (from to : PlainVolume) (chunk : ℕ) : Type 0 where
  pub bare : (zone buffer : ℕ) → IsBare from chunk zone buffer → PromotesChunk from to chunk zone buffer
  pub others : ((zone buffer : ℕ) → IsBare from chunk zone buffer → ⊥) → to ≡ from

-- A WRITE THAT WAS DONE: a job on its chunk is given up, it goes to its place, and its chunk is settled
pub record EntersWrite (from to : PlainVolume) (p : Piece) : Type 0 where
  pub given : PlainVolume
  pub gives : GivesUpOn from given (chunk_touched from.geometry.zone_blocks p.what)
  pub place : Place
  pub zone : ℕ
  pub written : PlainVolume
  pub writes : WritesPiece given written p place zone
  pub settles : Settles written to (chunk_touched from.geometry.zone_blocks p.what)

-- one that failed: a job on its chunk is given up, and it is entered so
pub record FailsWrite (from to : PlainVolume) (p : Piece) : Type 0 where
  pub given : PlainVolume
  pub gives : GivesUpOn from given (chunk_touched from.geometry.zone_blocks p.what)
  pub fails : to ≡ with_failed_write given p

-- what a step of a write does; where it needs a zone and none is free, nothing
abbrev pub TriesWrite : PlainVolume → PlainVolume → Piece → Tried → Type 0
TriesWrite from to p Tried.Entered = EntersWrite from to p
TriesWrite from to p Tried.NoZone = LacksZone from p.what × (to ≡ from)
TriesWrite from to p Tried.Stopped = FailsWrite from to p

-- its calls of the disk: one writing call, or none where it did nothing
abbrev pub TriesCall : Tried → View → View → Type 0
TriesCall Tried.Entered u x = CallsOnce u x
TriesCall Tried.NoZone u x = OnlyReads u x × ReadsNone u x
TriesCall Tried.Stopped u x = CallsOnce u x × HasFailed u x

-- A DISCARD: a job on its chunk is given up, its blocks are invalid, and its chunk is settled
pub record DiscardsPiece (from to : PlainVolume) (p : Piece) : Type 0 where
  pub given : PlainVolume
  pub gives : GivesUpOn from given (chunk_touched from.geometry.zone_blocks p.what)
  pub dropped : PlainVolume
  pub drops : DropsRange given dropped p
  pub settles : Settles dropped to (chunk_touched from.geometry.zone_blocks p.what)
