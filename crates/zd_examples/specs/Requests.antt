-- Requests, pieces and entries of the examples.
use Rattle.std.specs.Prelude.{ℕ, ◌*◌, Bool, false, List, [], ◌∷◌, map, flat_map, replicate}
use Rattle.std.specs.List.{range_with_len}
use Rattle.zd_model.specs.Bytes.{zero_sector}
use Rattle.zd_model.specs.History.{HistoryEntry}
use Rattle.zd_model.specs.Plain.{Answer, pattern}
use Rattle.zd_model.specs.declared.requests.Piece.{Piece}
use Rattle.zd_model.specs.declared.requests.Request.{Request}
use Rattle.zd_model.specs.declared.requests.What.{What}
use Rattle.zd_model.specs.declared.requests.What.TheVariants.{Read, Write, Flush, Discard}

-- a request of a caller, and one of caller 0
abbrev pub request_by : ℕ → What → Request
request_by caller what = record { caller = caller; what = what }

abbrev pub request : What → Request
request what = request_by 0 what

-- a piece of a caller, and one of caller 0
abbrev pub piece_by : ℕ → ℕ → ℕ → What → Bool → Piece
piece_by caller number part what range = record {
  caller = caller;
  request = number;
  piece = part;
  what = what;
  range = range;
}

abbrev pub piece : ℕ → ℕ → What → Bool → Piece
piece number part what range = piece_by 0 number part what range

-- an entry of a caller, and one of caller 0
abbrev pub entry_by : ℕ → ℕ → ℕ → What → Answer → ℕ → HistoryEntry
entry_by caller number part what reply at = record {
  caller = caller;
  request = number;
  piece = part;
  what = what;
  reply = reply;
  at = at;
}

abbrev pub entry : ℕ → ℕ → What → Answer → ℕ → HistoryEntry
entry number part what reply at = entry_by 0 number part what reply at

-- so many sectors from sector i on, under one seed
abbrev pub patterns : ℕ → ℕ → ℕ → List (List ℕ)
patterns seed i n = map (pattern seed) (range_with_len i n)

-- the bytes of n blocks from block b on, under one seed
abbrev pub patterned : ℕ → ℕ → ℕ → List ℕ
patterned seed b n = flat_map (λ i. pattern seed i) (range_with_len (8 * b) (8 * n))

-- a device of 128 blocks of zeros, and one of two
unfoldable pub zero_volume : List (List ℕ)
zero_volume = replicate 1024 zero_sector

abbrev pub two_blocks : List (List ℕ)
two_blocks = replicate 16 zero_sector

-- a request over two chunks of 16 blocks; one over three; callers who take turns
abbrev pub two_chunks_plan : List Request
two_chunks_plan = request (Write 14 4 3) ∷ request (Read 14 4) ∷ []

abbrev pub two_chunks_pieces : List Piece
two_chunks_pieces =
    piece 1 0 (Write 14 2 3) false
    ∷ piece 1 1 (Write 16 2 3) false
    ∷ piece 2 0 (Read 14 2) false
    ∷ piece 2 1 (Read 16 2) false
    ∷ []

abbrev pub three_chunks_plan : List Request
three_chunks_plan = request_by 5 (Discard 15 18) ∷ request_by 6 Flush ∷ []

abbrev pub three_chunks_pieces : List Piece
three_chunks_pieces =
    piece_by 5 1 0 (Discard 15 1) false
    ∷ piece_by 5 1 1 (Discard 16 16) false
    ∷ piece_by 5 1 2 (Discard 32 1) false
    ∷ piece_by 6 2 0 Flush false
    ∷ []
