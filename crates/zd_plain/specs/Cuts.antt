-- The pieces of a request that lies in the device, one by one.
use Rattle.std.specs.Prelude.{ℕ, false}
use Rattle.zd_model.specs.Pieces.{part_of}
use Rattle.zd_model.specs.declared.requests.Request.{Request}
use Rattle.zd_model.specs.declared.requests.Piece.{Piece}

-- piece i of request n, where chunks have z blocks
abbrev pub piece_at : ℕ → ℕ → Request → ℕ → Piece
piece_at z n r i = record {
  caller = r.caller;
  request = n;
  piece = i;
  what = part_of z r.what i;
  range = false;
}
