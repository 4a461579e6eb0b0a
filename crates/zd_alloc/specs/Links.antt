-- Links: a list of places that is kept as a ring, with the next place and the one before for each,
-- and a last place, the end, at which the ring closes.
use Rattle.std.specs.Prelude.{◌≡◌, ℕ, zero, suc, ◌+◌, ◌-◌, ◌<◌, ◌≤◌, List, [], ◌∷◌, ◌++◌, length, slice_index, set, if◌then◌else◌, ◌==◌}

-- the next place, and the one before, of each place
pub record LinkTables : Type 0 where
  pub next : List ℕ
  pub prev : List ℕ

-- the place at which the ring closes
abbrev pub end_of : LinkTables → ℕ
end_of t = length t.next - 1

abbrev pub next_of : LinkTables → ℕ → ℕ
next_of t place = slice_index t.next place

abbrev pub prev_of : LinkTables → ℕ → ℕ
prev_of t place = slice_index t.prev place

-- tables of one size, that name no place past the end
pub record AreLinks (t : LinkTables) : Type 0 where
  pub same : length t.prev ≡ length t.next
  pub some : 0 < length t.next
  pub few : length t.next ≤ 65537
  pub next : (place : ℕ) → next_of t place < length t.next
  pub prev : (place : ℕ) → prev_of t place < length t.next

-- one place leads to another
pub record IsStep (t : LinkTables) (first second : ℕ) : Type 0 where
  pub next : next_of t first ≡ second
  pub prev : prev_of t second ≡ first

-- how often a place stands in a list
abbrev pub times : ℕ → List ℕ → ℕ
times place [] = 0
times place (other ∷ places) = times place places + (if other == place then 1 else 0)

-- the places of this list lead from the first place to the last
abbrev pub IsWay : LinkTables → ℕ → List ℕ → ℕ → Type 0
IsWay t first [] last = IsStep t first last
IsWay t first (place ∷ places) last = IsStep t first place × IsWay t place places last

-- the ring goes from the end through these places, each at most once, and back to the end; both
-- tables have one size
pub record IsRing (t : LinkTables) (places : List ℕ) : Type 0 where
  pub same : length t.prev ≡ length t.next
  pub way : IsWay t (end_of t) places (end_of t)
  pub once : (place : ℕ) → times place places ≤ 1
  pub inside : (place : ℕ) → end_of t ≤ place → times place places ≡ 0

-- the tables once the first place leads to the second
abbrev pub joined : ℕ → ℕ → LinkTables → LinkTables
joined first second t = record {
  next = set t.next first second;
  prev = set t.prev second first;
}

-- the ring goes past this place now
abbrev pub Removes : ℕ → LinkTables → LinkTables → Type 0
Removes place old new = (before after : List ℕ)
    → IsRing old (before ++ place ∷ after) → IsRing new (before ++ after)

-- the ring goes through this place last now
abbrev pub Appends : ℕ → LinkTables → LinkTables → Type 0
Appends place old new = (places : List ℕ)
    → IsRing old places → times place places ≡ 0 → IsRing new (places ++ place ∷ [])

-- so many places, as they follow this one
abbrev pub places_from : List ℕ → ℕ → ℕ → List ℕ
places_from next zero place = []
places_from next (suc count) place =
    slice_index next place ∷ places_from next count (slice_index next place)

-- the places below the end, as they follow the end
abbrev pub order_of : LinkTables → List ℕ
order_of t = places_from t.next (end_of t) (end_of t)

-- the ring goes through all places below the end, of which there is one
pub record IsFullRing (t : LinkTables) (order : List ℕ) : Type 0 where
  pub ring : IsRing t order
  pub all : (place : ℕ) → place < end_of t → times place order ≡ 1
  pub count : length order ≡ end_of t
  pub some : 0 < end_of t
