-- The zones of a volume and the entries of its chunks, as jobs change them.
use Rattle.std.specs.Prelude.{◌≡◌, ◌≢◌, ℕ, ◌+◌, ◌<◌, ◌≤◌, Bool, false, nat_lt, List, length, count_by}
use Rattle.std.specs.Prelude.{Option, Some, None, IsSomeAnd}
use Rattle.zd_base.specs.declared.geometry.Kind.{Kind}
use Rattle.zd_base.specs.declared.geometry.Kind.TheVariants.{Conventional, Sequential}
use Rattle.zd_alloc.specs.Zones.{Division, is_free, is_limbo, use_at, uses_of}
use Rattle.zd_alloc.specs.declared.uses.ZoneUse.TheVariants.{Held, Meta}
use Rattle.zd_model.specs.Tables.{NamesZone, entry_in_map}
use Rattle.zd_model.specs.declared.metadata.MapEntry.{MapEntry}

-- what zones are used for, and the entry of each chunk
pub record Stock : Type 0 where
  pub division : Division
  pub entries : List MapEntry

-- how many zones of a kind are free, how many are in limbo, and how many of either kind are in limbo
abbrev pub free_of : Kind → Stock → ℕ
free_of kind s = count_by is_free (uses_of kind s.division)

abbrev pub limbo_of : Kind → Stock → ℕ
limbo_of kind s = count_by is_limbo (uses_of kind s.division)

abbrev pub in_limbo : Stock → ℕ
in_limbo s = limbo_of Conventional s + limbo_of Sequential s

-- a zone, where one is named, is among the first n
abbrev pub is_below : ℕ → Option ℕ → Bool
is_below n None = false
is_below n (Some zone) = nat_lt zone n

-- how many entries have a conventional zone
abbrev pub on_count : ℕ → List MapEntry → ℕ
on_count conv entries = count_by (λ (e : MapEntry). is_below conv e.zone) entries

-- an entry of a chunk names the zone
pub record IsNamedIn (entries : List MapEntry) (zone : ℕ) : Type 0 where
  pub chunk : ℕ
  pub inside : chunk < length entries
  pub names : NamesZone (entry_in_map entries chunk) zone

-- WHAT IS TRUE OF A STOCK while no job is under way, the data zones beginning at `first`: a zone that is held is
-- named, and a buffer is a conventional zone beside a sequential one
pub record IsStocked (first : ℕ) (s : Stock) : Type 0 where
  pub conventional : first < s.division.conv
  pub kinds : s.division.conv ≤ length s.division.zones
  pub data_zones : (z : ℕ) → first ≤ z → z < length s.division.zones → use_at s.division.zones z ≢ Meta
  pub held : (z : ℕ) → first ≤ z → z < length s.division.zones → use_at s.division.zones z ≡ Held
      → IsNamedIn s.entries z
  pub buffers : (c b : ℕ) → (entry_in_map s.entries c).buffer ≡ Some b →
      (b < s.division.conv) × IsSomeAnd (entry_in_map s.entries c).zone (λ z. s.division.conv ≤ z)

-- no chunk can be moved or dropped off a conventional zone: where one stands there, no sequential zone is free
abbrev pub HasNoMove : Stock → Type 0
HasNoMove s = (c z : ℕ) → (entry_in_map s.entries c).zone ≡ Some z → z < s.division.conv
    → free_of Sequential s ≡ 0

abbrev pub HasNoBuffer : Stock → Type 0
HasNoBuffer s = (c : ℕ) → (entry_in_map s.entries c).buffer ≡ None

-- HOW A JOB IS PICKED on a chunk, which will give this zone back and leave this entry: it gives a conventional zone
-- back. Or no job does, and it is a Merge, or where no chunk is buffered an Empty
pub data IsPickedFor (s : Stock) (chunk source : ℕ) (result : MapEntry) : Type 0 where
  gives : source < s.division.conv → IsPickedFor s chunk source result
  merges : HasNoMove s → (b : ℕ) → (entry_in_map s.entries chunk).buffer ≡ Some b → result.zone ≡ Some b
      → IsPickedFor s chunk source result
  empties : HasNoMove s → HasNoBuffer s → (entry_in_map s.entries chunk).zone ≡ Some source
      → IsPickedFor s chunk source result

-- THE END OF A JOB, by the entry of its chunk: which zone it gives back, and what it leaves
pub data IsJobEnd (conv source : ℕ) (e result : MapEntry) : Type 0 where
  empties : e.zone ≡ Some source → result ≡ record { zone = None; buffer = None } → IsJobEnd conv source e result
  moves : source < conv → e.zone ≡ Some source → result.buffer ≡ None → IsJobEnd conv source e result
  appends : source < conv → e.buffer ≡ Some source → result ≡ record { zone = e.zone; buffer = None }
      → IsJobEnd conv source e result
  merges : (b : ℕ) → e.zone ≡ Some source → e.buffer ≡ Some b → result ≡ record { zone = Some b; buffer = None }
      → IsJobEnd conv source e result
