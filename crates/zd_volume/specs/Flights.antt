-- Reads under way, pieces that are entered, and what the steps of both make of a volume.
use Rattle.std.specs.Prelude.{◌≡◌, ◌⊎◌, ℕ, ◌+◌, ◌-◌, ◌*◌, ◌/◌, ◌%◌, ◌<◌, ◌≤◌, min, false}
use Rattle.std.specs.Prelude.{List, [], ◌∷◌, ◌++◌, length, slice_range, Option, Some, None}
use Rattle.std.specs.List.{concat}
use Rattle.zd_base.specs.Geometry.{zone_sectors}
use Rattle.zd_model.specs.History.{HistoryEntry}
use Rattle.zd_model.specs.Image.{Image}
use Rattle.zd_model.specs.Places.{IsPlacedRun, place_in}
use Rattle.zd_model.specs.Plain.{Answer, reply_within}
use Rattle.zd_model.specs.Plain.Answer.{Fault, Got}
use Rattle.zd_model.specs.Requests.{block_count, first_sector, operation_of, sector_count}
use Rattle.zd_model.specs.Requests.Operation.{Reading}
use Rattle.zd_model.specs.Tables.{Tables, entry_of, served}
use Rattle.zd_model.specs.declared.requests.Piece.{Piece}
use Rattle.zd_model.specs.declared.requests.What.{What}
use Rattle.zd_disk.specs.Told.{WhereTold}
use Rattle.zd_disk.specs.View.{HasFailed, ReadsNone, ReadsOnce, View}
use Rattle.zd_volume.specs.Sets.{new_tables}
use Rattle.zd_volume.specs.Volumes.{PlainVolume, sets_of}
use Rattle.zd_volume.specs.declared.flight.Flight.{Flight}
use Rattle.zd_volume.specs.declared.flight.Ran.{Ran}

-- the map and the bits as they are now, and the sectors that they serve from an image
abbrev pub tables_now : PlainVolume → Tables
tables_now v = new_tables (sets_of v)

abbrev pub serves : PlainVolume → Image → List (List ℕ)
serves v i = served v.geometry.zone_blocks (tables_now v) i.sector

-- the zone in which block x of a chunk is valid, or none
abbrev pub place_now : PlainVolume → ℕ → ℕ → Option ℕ
place_now v chunk = place_in (tables_now v) (entry_of (tables_now v) chunk)

-- the entry of a piece that was answered when so many writing calls had returned
abbrev pub answered : Piece → Answer → ℕ → HistoryEntry
answered p reply at = record {
  caller = p.caller;
  request = p.request;
  piece = p.piece;
  what = p.what;
  reply = reply;
  at = at;
}

-- the volume with this piece entered now, and all else as it was
abbrev pub with_entry : PlainVolume → Piece → Answer → PlainVolume
with_entry v p reply = record v { history = v.history ++ answered p reply v.since ∷ [] }

-- the chunk in which a request begins, and the place of its first sector there
abbrev pub chunk_of : PlainVolume → What → ℕ
chunk_of v what = first_sector what / zone_sectors v.geometry

abbrev pub first_in_chunk : PlainVolume → What → ℕ
first_in_chunk v what = first_sector what % zone_sectors v.geometry

-- a piece in range touches some sectors, all of one chunk of the device
pub record IsPieceIn (v : PlainVolume) (p : Piece) : Type 0 where
  pub range : p.range ≡ false
  pub some : 1 ≤ sector_count p.what
  pub device : chunk_of v p.what < v.head.layout.chunks
  pub chunk : first_in_chunk v p.what + sector_count p.what ≤ zone_sectors v.geometry

-- how many of the sectors of a request stand in the first blocks that it touches, so many
abbrev pub sectors_within : What → ℕ → ℕ
sectors_within what blocks = min (sector_count what) (8 * blocks - first_sector what % 8)

-- a read has all bytes that it takes of the blocks that are read, as the volume serves them, and room
-- for the others
pub record HasRead (v : PlainVolume) (told : Option Image) (f : Flight) : Type 0 where
  pub size : length f.bytes.items ≡ 512 * sectors_within f.piece.what f.done
  pub bytes : WhereTold told (λ i. f.bytes.items ≡ concat (slice_range (serves v i)
      (first_sector f.piece.what)
      (first_sector f.piece.what + sectors_within f.piece.what f.done)))
  pub room : 512 * sector_count f.piece.what ≤ length f.bytes.items + f.bytes.room

-- A READ UNDER WAY, of which blocks are left
pub record IsFlight (v : PlainVolume) (told : Option Image) (f : Flight) : Type 0 where
  pub reads : operation_of f.piece.what ≡ Reading
  pub piece : IsPieceIn v f.piece
  pub more : f.done < block_count f.piece.what
  pub read : HasRead v told f

-- the sector of the chunk that comes next, the one behind the piece, and the one behind a run of so
-- many blocks
abbrev pub next_sector : PlainVolume → Flight → ℕ
next_sector v f = first_in_chunk v f.piece.what + sectors_within f.piece.what f.done

abbrev pub end_sector : PlainVolume → Flight → ℕ
end_sector v f = first_in_chunk v f.piece.what + sector_count f.piece.what

abbrev pub stop_sector : PlainVolume → Flight → ℕ → ℕ
stop_sector v f count = min (end_sector v f) (8 * (next_sector v f / 8 + count))

-- so many blocks from the next one on have this place, before the end of the piece or a block that has
-- another one
abbrev pub IsRunOfRead : PlainVolume → Flight → Option ℕ → ℕ → Type 0
IsRunOfRead v f =
    IsPlacedRun (place_now v (chunk_of v f.piece.what))
    (first_in_chunk v f.piece.what / 8 + f.done)
    (first_in_chunk v f.piece.what / 8 + block_count f.piece.what)

-- a run with a place takes one reading call, another one none
abbrev pub ReadsPlace : Option ℕ → View → View → Type 0
ReadsPlace None u x = ReadsNone u x
ReadsPlace (Some zone) u x = ReadsOnce u x

-- one run more was read
pub record ReadsRun (v : PlainVolume) (u x : View) (old new : Flight) : Type 0 where
  pub zone : Option ℕ
  pub count : ℕ
  pub run : IsRunOfRead v old zone count
  pub calls : ReadsPlace zone u x
  pub piece : new.piece ≡ old.piece
  pub done : new.done ≡ old.done + count
  pub read : HasRead v u.zones new

-- the call for a run failed
pub record FailsRun (v : PlainVolume) (u x : View) (old new : Flight) : Type 0 where
  pub zone : ℕ
  pub count : ℕ
  pub run : IsRunOfRead v old (Some zone) count
  pub calls : ReadsOnce u x
  pub failed : HasFailed u x
  pub piece : new.piece ≡ old.piece

-- A STEP OF A READ. A run was read, and blocks are left: nothing of the volume changes
pub record GoesOn (v w : PlainVolume) (u x : View) (old new : Flight) : Type 0 where
  pub run : ReadsRun v u x old new
  pub flight : IsFlight v u.zones new
  pub volume : w ≡ v

-- the last run was read: the piece is entered with all its bytes, which the flight gives away
pub record EndsRead (v w : PlainVolume) (u x : View) (old new : Flight) : Type 0 where
  pub zone : Option ℕ
  pub run : IsRunOfRead v old zone (block_count old.piece.what - old.done)
  pub calls : ReadsPlace zone u x
  pub bytes : List ℕ
  pub size : length bytes ≡ 512 * sector_count old.piece.what
  pub reply : WhereTold u.zones (λ i. Got bytes ≡ reply_within (serves v i) old.piece.what)
  pub volume : w ≡ with_entry v old.piece (Got bytes)
  pub piece : new.piece ≡ old.piece
  pub emptied : new.bytes.items ≡ []

-- the call failed: the piece is entered with Fault
pub record FailsRead (v w : PlainVolume) (u x : View) (old new : Flight) : Type 0 where
  pub run : FailsRun v u x old new
  pub volume : w ≡ with_entry v old.piece Fault

abbrev pub ReadStep : PlainVolume → PlainVolume → View → View → Flight → Flight → Ran → Type 0
ReadStep v w u x old new Ran.More = GoesOn v w u x old new
ReadStep v w u x old new Ran.Entered = EndsRead v w u x old new ⊎ FailsRead v w u x old new
