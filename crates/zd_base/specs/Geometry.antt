-- The zones of a disk: all of one size, the conventional ones first.
use Rattle.std.specs.Prelude.{ℕ, ◌+◌, ◌*◌, ◌/◌, ◌<◌, ◌≤◌, ◌^◌, ◌==◌, max, Bool, nat_lt, if◌then◌else◌, IsTrue, [], ◌∷◌}
use Rattle.std.specs.List.{list_any}
use Rattle.zd_base.specs.declared.geometry.BadGeometry.{BadGeometry}
use Rattle.zd_base.specs.declared.geometry.BadGeometry.TheVariants.{Size, Count}
use Rattle.zd_base.specs.declared.geometry.Kind.{Kind}
use Rattle.zd_base.specs.declared.geometry.Kind.TheVariants.{Conventional, Sequential}

-- a geometry, as contracts see it: zones of so many blocks, so many of each kind
pub record Shape : Type 0 where
  pub zone_blocks : ℕ
  pub conv : ℕ
  pub seq : ℕ

-- the zones of both kinds
abbrev pub zone_count : Shape → ℕ
zone_count g = g.conv + g.seq

-- the sectors of a zone
abbrev pub zone_sectors : Shape → ℕ
zone_sectors g = 8 * g.zone_blocks

-- the bitmap blocks of a zone: a block has 32,768 bits
abbrev pub per : Shape → ℕ
per g = max 1 (g.zone_blocks / 32768)

-- zones below the number of conventional ones are conventional
abbrev pub is_conventional : Shape → ℕ → Bool
is_conventional g zone = nat_lt zone g.conv

abbrev pub kind_of : Shape → ℕ → Kind
kind_of g zone = if is_conventional g zone then Conventional else Sequential

-- a power of two from 8 to 65,536
pub record IsZoneSize (blocks : ℕ) : Type 0 where
  pub least : 8 ≤ blocks
  pub most : blocks ≤ 65536
  pub power : IsTrue (list_any (λ k. 2 ^ k == blocks)
      (3 ∷ 4 ∷ 5 ∷ 6 ∷ 7 ∷ 8 ∷ 9 ∷ 10 ∷ 11 ∷ 12 ∷ 13 ∷ 14 ∷ 15 ∷ 16 ∷ []))

-- at least one conventional zone, and at most 65,536 zones
pub record IsZoneCount (conv seq : ℕ) : Type 0 where
  pub some_conventional : 0 < conv
  pub most : conv + seq ≤ 65536

pub record IsShape (g : Shape) : Type 0 where
  pub size : IsZoneSize g.zone_blocks
  pub count : IsZoneCount g.conv g.seq

-- when numbers are refused: the size decides first
abbrev pub RefusesGeometry : BadGeometry → ℕ → ℕ → ℕ → Type 0
RefusesGeometry Size zone_blocks conv seq = IsZoneSize zone_blocks → ⊥
RefusesGeometry Count zone_blocks conv seq = IsZoneSize zone_blocks × (IsZoneCount conv seq → ⊥)
