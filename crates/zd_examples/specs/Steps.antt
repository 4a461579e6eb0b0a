-- Requests under way and volumes: chunks of 16 blocks, a device of 128 blocks, four conventional data zones.
use Rattle.std.specs.Prelude.{ℕ, ◌/◌, Bool, true, false, nat_le, List, [], ◌∷◌, map, take}
use Rattle.std.specs.Prelude.{Option, Some, None}
use Rattle.zd_base.specs.declared.steps.StepKind.{StepKind}
use Rattle.zd_model.specs.History.{mark_of_piece}
use Rattle.zd_model.specs.Pieces.{pieces_of}
use Rattle.zd_model.specs.Requests.{first_block}
use Rattle.zd_model.specs.declared.requests.Piece.{Piece}
use Rattle.zd_model.specs.declared.requests.Request.{Request}
use Rattle.zd_model.specs.declared.requests.What.{What}
use Rattle.zd_model.specs.declared.requests.What.TheVariants.{Read, Write, Discard, Flush}
use Rattle.zd_model.specs.declared.requests.What.TheVariants.{ReadSectors, WriteSectors}
use Rattle.zd_steps.specs.Runs.{Run, Standing}
use Rattle.zd_examples.specs.Requests.{request_by}

-- the only piece of a request, by its number
abbrev pub only_piece : ℕ → ℕ → What → Piece
only_piece caller request what =
    record { caller = caller; request = request; piece = 0; what = what; range = false }

-- the first pieces of a plan are entered, so many, and the actors have these in flight
abbrev pub run_at : List Request → ℕ → List (Option Piece) → Run
run_at plan entered flights =
    let pieces = pieces_of 16 128 plan in
    record {
      chunk_blocks = 16;
      pieces = pieces;
      entered = map mark_of_piece (take entered pieces);
      flights = flights;
    }

-- a write needs a zone where its chunk is one of those from c on
abbrev pub is_chunk_from : ℕ → Piece → Bool
is_chunk_from c p = nat_le c (first_block p.what / 16)

-- so many conventional zones are free, chunks from c on have none, and the next step of a job is this
abbrev pub working : Option StepKind → ℕ → ℕ → Standing
working job free c = record {
  stopped = false;
  commits = false;
  job = job;
  picks = true;
  free = free;
  limbo = 0;
  data_zones = 4;
  has_limbo = false;
  needs_zone = is_chunk_from c;
  merges = λ p. false;
}

abbrev pub quiet : ℕ → ℕ → Standing
quiet free c = working None free c

abbrev pub committing : ℕ → ℕ → Standing
committing free c = record (quiet free c) { commits = true }

-- no zone is free and one is in limbo
abbrev pub with_limbo : ℕ → Standing
with_limbo c = record (quiet 0 c) { limbo = 1; has_limbo = true }

abbrev pub nobody_flies : List (Option Piece)
nobody_flies = None ∷ None ∷ []

-- caller 0 writes to four chunks, then caller 1 writes to the first and reads it twice
abbrev pub two_callers : List Request
two_callers =
    request_by 0 (Write 0 2 1) ∷ request_by 0 (Write 16 1 2) ∷ request_by 0 (Write 32 1 3) ∷ request_by 0 (Write 48 1 4)
    ∷ request_by 1 (Write 0 1 9) ∷ request_by 1 (Read 0 2) ∷ request_by 1 (Read 0 2) ∷ []

abbrev pub two_reads : List Request
two_reads = request_by 0 (Read 0 2) ∷ request_by 0 (Read 0 1) ∷ []

-- four chunks are written, a flush, a fifth chunk, a read
abbrev pub five_chunks : List Request
five_chunks =
    request_by 0 (Write 0 1 1) ∷ request_by 0 (Write 16 1 2) ∷ request_by 0 (Write 32 1 3) ∷ request_by 0 (Write 48 1 4)
    ∷ request_by 0 Flush ∷ request_by 0 (Write 64 1 5) ∷ request_by 0 (Read 0 1) ∷ []

-- a write and a flush, and beside them a read
abbrev pub flush_and_read : List Request
flush_and_read = request_by 0 (Write 16 1 2) ∷ request_by 0 Flush ∷ request_by 1 (Read 0 2) ∷ []

-- a read, and what others want of its chunk and elsewhere
abbrev pub one_chunk : List Request
one_chunk =
    request_by 0 (Read 0 2) ∷ request_by 1 (Write 0 1 5) ∷ request_by 2 (Discard 4 1) ∷ request_by 3 (Write 127 2 5)
    ∷ request_by 4 Flush ∷ request_by 5 (Discard 16 1) ∷ []

-- a write of sectors that touches two blocks of chunk 0 in part, and a read of that chunk
abbrev pub part_write : What
part_write = WriteSectors 7 2 5

abbrev pub part_plan : List Request
part_plan =
    request_by 0 part_write ∷ request_by 1 (ReadSectors 0 8) ∷ request_by 2 Flush ∷ request_by 3 (Discard 16 1) ∷ []

-- in flight with actor 0
abbrev pub part_flight : List (Option Piece)
part_flight = Some (only_piece 0 1 part_write) ∷ None ∷ []

-- it has an edge to be read
abbrev pub merging : Standing → Standing
merging v = record v { merges = λ p. true }
