-- The first rule that tables break, in the order in which it is told.
use Rattle.std.specs.Prelude.{ℕ, ◌+◌, ◌*◌, Bool, true, false, not, ◌&&◌, ◌||◌, nat_lt, nat_le, ◌==◌}
use Rattle.std.specs.Prelude.{if◌then◌else◌, List, [], ◌∷◌, ◌++◌, map, find, flat_map, Option, Some}
use Rattle.std.specs.Prelude.{None}
use Rattle.std.specs.List.{range_with_len, list_any, list_all}
use Rattle.std.specs.Option.{option_map_or}
use Rattle.zd_base.specs.Geometry.{Shape, zone_count, is_conventional}
use Rattle.zd_base.specs.Layout.{first_data_zone}
use Rattle.zd_model.specs.Tables.{Tables, is_valid, named_zones, zones_of}
use Rattle.zd_base.specs.declared.layout.Layout.{Layout}
use Rattle.zd_model.specs.declared.metadata.MapEntry.{MapEntry}

-- the list has this zone
abbrev pub has : List ℕ → ℕ → Bool
has zs z = list_any (λ y. y == z) zs

-- a data zone that no earlier chunk names
abbrev pub is_new_zone : Shape → Layout → List ℕ → ℕ → Bool
is_new_zone g l earlier z =
    nat_le (first_data_zone g l) z && nat_lt z (zone_count g) && not (has earlier z)

-- a conventional buffer beside a zone that isn't conventional
abbrev pub is_right_buffer : Shape → Option ℕ → ℕ → Bool
is_right_buffer g zone b =
    is_conventional g b && option_map_or (λ z. not (is_conventional g z)) zone false

-- an entry, where earlier chunks name these zones
abbrev pub is_right_entry : Shape → Layout → List ℕ → MapEntry → Bool
is_right_entry g l earlier e =
    list_all (is_new_zone g l earlier) (zones_of e)
    && option_map_or (is_right_buffer g e.zone) e.buffer true

-- the least chunk whose entry is wrong, counted from this one
abbrev pub bad_chunk : Shape → Layout → List ℕ → ℕ → List MapEntry → Option ℕ
bad_chunk g l earlier chunk [] = None
bad_chunk g l earlier chunk (e ∷ entries) =
    if is_right_entry g l earlier e
    then bad_chunk g l (earlier ++ zones_of e) (chunk + 1) entries
    else Some chunk

-- the buffer of this chunk is the pair's zone, and the pair's block is valid in the chunk's zone
abbrev pub is_twice : Tables → ℕ × ℕ → MapEntry → Bool
is_twice t p e =
    option_map_or (λ b. b == p.0) e.buffer false
    && option_map_or (λ z. is_valid t z p.1) e.zone false

-- a valid bit, as a pair of a zone and a block: the zone is named, the whole block stands below the
-- pointer, and a buffer's block isn't valid in the chunk's zone too
abbrev pub is_right_bit : Shape → (ℕ → ℕ) → Tables → ℕ × ℕ → Bool
is_right_bit g pointer t p =
    has (named_zones t) p.0
    && (is_conventional g p.0 || nat_le (8 * p.1 + 8) (pointer p.0))
    && list_all (λ e. not (is_twice t p e)) t.entries

-- all pairs of a zone and a block, in their order
abbrev pub all_pairs : Shape → List (ℕ × ℕ)
all_pairs g =
    flat_map
    (λ z. map (λ x. (z, x)) (range_with_len 0 g.zone_blocks))
    (range_with_len 0 (zone_count g))

-- the least pair whose bit is valid and wrong
abbrev pub bad_bit : Shape → (ℕ → ℕ) → Tables → Option (ℕ × ℕ)
bad_bit g pointer t =
    find (λ p. is_valid t p.0 p.1 && not (is_right_bit g pointer t p)) (all_pairs g)
