-- What the map has each zone do.
use Rattle.std.specs.Prelude.{◌≡◌, ℕ, ◌<◌, Bool, true, false, not, List, Option, Some, None, length, map}
use Rattle.std.specs.Prelude.{slice_index_or, slice_set}
use Rattle.std.specs.List.{flat_map, range_with_len}
use Rattle.zd_base.specs.Geometry.{Shape, zone_count}
use Rattle.zd_model.specs.Faults.{has}
use Rattle.zd_model.specs.Tables.{zones_of}
use Rattle.zd_model.specs.declared.metadata.MapEntry.{MapEntry}
use Rattle.zd_examine.specs.declared.roles.Role.{Role}
use Rattle.zd_examine.specs.declared.roles.Role.TheVariants.{Unnamed, Main, Buffer}

abbrev pub is_unnamed : Role → Bool
is_unnamed Unnamed = true
is_unnamed Main = false
is_unnamed (Buffer main) = false

-- the zones that are no longer unnamed are these
pub record AreNamed (g : Shape) (earlier : List ℕ) (roles : List Role) : Type 0 where
  pub count : length roles ≡ zone_count g
  pub unnamed : (z : ℕ) → z < zone_count g →
      is_unnamed (slice_index_or roles z Main) ≡ not (has earlier z)

-- an entry that has the zone so: as the zone of its chunk, or as the buffer beside this zone
abbrev pub GivesRole : ℕ → Role → MapEntry → Type 0
GivesRole zone Unnamed e = ⊥
GivesRole zone Main e = e.zone ≡ Some zone
GivesRole zone (Buffer main) e = (e.zone ≡ Some main) × (e.buffer ≡ Some zone)

-- the roles after those of an entry's zone and buffer
abbrev pub roles_with : Option ℕ → Option ℕ → List Role → List Role
roles_with None buffer roles = roles
roles_with (Some z) None roles = slice_set roles z Main
roles_with (Some z) (Some b) roles = slice_set (slice_set roles z Main) b (Buffer z)

-- what the first k entries have each zone do
pub record AreRoles (g : Shape) (entry : ℕ → MapEntry) (k : ℕ) (roles : List Role) : Type 0 where
  pub named : AreNamed g (flat_map zones_of (map entry (range_with_len 0 k))) roles
  pub given : (z : ℕ) (role : Role) → z < zone_count g → slice_index_or roles z Main ≡ role →
      is_unnamed role ≡ false → (c : ℕ) × (c < k) × GivesRole z role (entry c)

-- what the first k entries have this zone do
pub record IsRole (g : Shape) (entry : ℕ → MapEntry) (k z : ℕ) (role : Role) : Type 0 where
  pub unnamed : is_unnamed role ≡ not (has (flat_map zones_of (map entry (range_with_len 0 k))) z)
  pub given : is_unnamed role ≡ false → (c : ℕ) × (c < k) × GivesRole z role (entry c)
