-- The pieces of a request, one for each chunk that it touches.
use Rattle.std.specs.Prelude.{ℕ, ◌+◌, ◌-◌, ◌*◌, ◌/◌, min, max, if◌then◌else◌, List, [], ◌∷◌, map}
use Rattle.std.specs.Prelude.{flat_map}
use Rattle.std.specs.List.{range_with_len, enumerate_from}
use Rattle.zd_model.specs.Requests.{first_sector, sector_count, at_sectors}
use Rattle.zd_model.specs.Plain.{ends_past}
use Rattle.zd_model.specs.declared.requests.What.{What}
use Rattle.zd_model.specs.declared.requests.What.TheVariants.{Flush}
use Rattle.zd_model.specs.declared.requests.Request.{Request}
use Rattle.zd_model.specs.declared.requests.Piece.{Piece}

-- the part in the i-th chunk of z blocks that is touched
abbrev pub part_of : ℕ → What → ℕ → What
part_of z what i =
    let first = first_sector what in
    let chunk = first / (8 * z) + i in
    let from = max first (8 * z * chunk) in
    at_sectors what from (min (first + sector_count what) (8 * z * chunk + 8 * z) - from)

-- from the chunk of the first sector to that of the last
abbrev pub chunks_touched : ℕ → What → ℕ
chunks_touched z what =
    let first = first_sector what in
    (first + sector_count what - 1) / (8 * z) - first / (8 * z) + 1

-- one for each chunk; a flush is one part, and so is what ends past a device of this many blocks
abbrev pub parts_of : ℕ → ℕ → What → List What
parts_of z blocks Flush = Flush ∷ []
parts_of z blocks what =
    if ends_past (8 * blocks) what
    then what ∷ []
    else map (part_of z what) (range_with_len 0 (chunks_touched z what))

-- the piece of a numbered part of a numbered request
abbrev pub piece_of : ℕ → ℕ × Request → ℕ × What → Piece
piece_of blocks r p = record {
  caller = r.1.caller;
  request = r.0;
  piece = p.0;
  what = p.1;
  range = ends_past (8 * blocks) r.1.what;
}

-- the pieces of a numbered request, counted from 0
abbrev pub pieces_of_request : ℕ → ℕ → ℕ × Request → List Piece
pieces_of_request z blocks r =
    map (piece_of blocks r) (enumerate_from 0 (parts_of z blocks r.1.what))

-- the pieces of a plan, whose requests count from 1; chunks have z blocks, the device so many
abbrev pub pieces_of : ℕ → ℕ → List Request → List Piece
pieces_of z blocks plan = flat_map (pieces_of_request z blocks) (enumerate_from 1 plan)
