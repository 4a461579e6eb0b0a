-- When pieces follow each other, cover a range of sectors, and lie in one chunk each.
use Rattle.std.specs.Prelude.{◌≡◌, ℕ, ◌+◌, ◌-◌, ◌*◌, ◌/◌, ◌≤◌, List, [], ◌∷◌}
use Rattle.zd_model.specs.Requests.{first_sector, sector_count}
use Rattle.zd_model.specs.declared.requests.What.{What}

-- the parts go from one sector up to another; chunks have z blocks
abbrev pub IsCut : ℕ → ℕ → ℕ → List What → Type 0
IsCut z from to [] = from ≡ to
IsCut z from to (p ∷ parts) =
    (first_sector p ≡ from)
    × (1 ≤ sector_count p)
    × (from / (8 * z) ≡ (from + sector_count p - 1) / (8 * z))
    × IsCut z (from + sector_count p) to parts
