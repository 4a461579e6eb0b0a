-- The blocks of zones as pairs.
use Rattle.std.specs.Prelude.{ℕ, Bool, not, ◌&&◌, List, map}
use Rattle.std.specs.List.{range_with_len}
use Rattle.zd_base.specs.Geometry.{Shape}
use Rattle.zd_model.specs.Faults.{is_right_bit}
use Rattle.zd_model.specs.Tables.{Tables, is_valid}

-- block p.1 of zone p.0 is valid, and it is wrong that it is
abbrev pub is_bad_pair : Shape → (ℕ → ℕ) → Tables → ℕ × ℕ → Bool
is_bad_pair g pointer t p = is_valid t p.0 p.1 && not (is_right_bit g pointer t p)

-- the blocks of a zone as such pairs
abbrev pub pairs_of : Shape → ℕ → List (ℕ × ℕ)
pairs_of g zone = map (λ x. (zone, x)) (range_with_len 0 g.zone_blocks)
