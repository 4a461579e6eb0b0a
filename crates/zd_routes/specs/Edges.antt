-- The edges of a write: blocks that it touches in part.
use Rattle.std.specs.Prelude.{◌≡◌, ◌≢◌, ℕ, ◌+◌, ◌-◌, ◌*◌, ◌/◌, ◌%◌, ◌<◌, ◌≤◌, Bool, true, not, ◌&&◌, nat_le}
use Rattle.std.specs.Prelude.{List, [], ◌∷◌, length, Option, None, IsSomeAnd}
use Rattle.zd_disk.specs.Steps.{piece}
use Rattle.zd_disk.specs.Told.{WhereTold}
use Rattle.zd_model.specs.Bytes.{zero_sector}
use Rattle.zd_model.specs.Image.{Image, run_of}
use Rattle.zd_model.specs.Plain.{put_by}
use Rattle.zd_model.specs.Requests.{block_count, first_block, first_sector, sector_count}
use Rattle.zd_model.specs.Stops.{Covers}
use Rattle.zd_model.specs.declared.requests.What.{What}
use Rattle.zd_volume.specs.Flights.{place_now, tables_now}
use Rattle.zd_volume.specs.Sets.{sector_by}
use Rattle.zd_volume.specs.Volumes.{PlainVolume, sets_of}
use Rattle.zd_routes.specs.declared.edges.Edge.{Edge}
use Rattle.zd_routes.specs.declared.edges.Edge.TheVariants.{First, Last}
use Rattle.zd_routes.specs.declared.edges.Edges.{Edges}

-- some sector of the block isn't one of those that are touched
abbrev pub is_in_part : What → ℕ → Bool
is_in_part what block =
    not (nat_le (first_sector what) (8 * block)
    && nat_le (8 * block + 8) (first_sector what + sector_count what))

-- the block at this edge: the first that is touched, or the last
abbrev pub edge_block : What → Edge → ℕ
edge_block what First = first_block what
edge_block what Last = first_block what + block_count what - 1

-- the request has this edge: its block is touched in part. One block has a first edge alone
abbrev pub HasEdge : What → Edge → Type 0
HasEdge what First = is_in_part what (first_block what) ≡ true
HasEdge what Last = (2 ≤ block_count what) × (is_in_part what (first_block what + block_count what - 1) ≡ true)

-- the block is valid, in its chunk's zone or in the buffer, and so has to be read before it is written
pub record NeedsEdge (v : PlainVolume) (what : What) (edge : Edge) : Type 0 where
  pub has : HasEdge what edge
  pub valid : place_now v (edge_block what edge / v.geometry.zone_blocks)
      (edge_block what edge % v.geometry.zone_blocks) ≢ None

-- the bytes of an edge
abbrev pub bytes_at : Edges → Edge → List ℕ
bytes_at e First = e.first.items
bytes_at e Last = e.last.items

-- the bytes of a block of the device, as a volume serves it from an image
abbrev pub block_served : PlainVolume → Image → ℕ → List ℕ
block_served v i block = run_of (sector_by (sets_of v) (tables_now v) i) (8 * block) 8

-- a whole block, as the volume serves it from what is told
pub record HoldsEdge (v : PlainVolume) (told : Option Image) (what : What) (edge : Edge)
    (bytes : List ℕ) : Type 0 where
  pub size : length bytes ≡ 4096
  pub value : WhereTold told (λ i. bytes ≡ block_served v i (edge_block what edge))

-- EACH EDGE THAT IS NEEDED IS THERE, and another one is empty
pub record AreEdges (v : PlainVolume) (told : Option Image) (what : What) (e : Edges) : Type 0 where
  pub needed : (edge : Edge) → NeedsEdge v what edge → HoldsEdge v told what edge (bytes_at e edge)
  pub others : (edge : Edge) → (NeedsEdge v what edge → ⊥) → bytes_at e edge ≡ []

-- the same of edges of which some that are needed may not be read yet, with room for them
pub record MayBeEdges (v : PlainVolume) (told : Option Image) (what : What) (e : Edges) : Type 0 where
  pub read : (edge : Edge) → bytes_at e edge ≢ [] →
      NeedsEdge v what edge × HoldsEdge v told what edge (bytes_at e edge)
  pub first_room : 4096 ≤ length e.first.items + e.first.room
  pub last_room : 4096 ≤ length e.last.items + e.last.room

-- it is needed, and not read yet
pub record IsDue (v : PlainVolume) (what : What) (e : Edges) (edge : Edge) : Type 0 where
  pub needs : NeedsEdge v what edge
  pub empty : bytes_at e edge ≡ []

-- the edge that is read next: the first before the last
abbrev pub IsNextEdge : PlainVolume → What → Edges → Edge → Type 0
IsNextEdge v what e First = IsDue v what e First
IsNextEdge v what e Last = IsDue v what e Last × (IsDue v what e First → ⊥)

-- the other edge is as it was
abbrev pub KeepsOther : Edge → Edges → Edges → Type 0
KeepsOther First old new = new.last ≡ old.last
KeepsOther Last old new = new.first ≡ old.first

-- ONE EDGE WAS READ, the next one
pub record ReadsEdge (v : PlainVolume) (told : Option Image) (what : What) (old new : Edges) : Type 0 where
  pub edge : Edge
  pub next : IsNextEdge v what old edge
  pub holds : HoldsEdge v told what edge (bytes_at new edge)
  pub other : KeepsOther edge old new

-- sector j of an edge, zeros where it is empty
abbrev pub edge_sector : List ℕ → ℕ → List ℕ
edge_sector [] j = zero_sector
edge_sector (b ∷ bytes) j = piece (b ∷ bytes) j

-- THE BLOCKS OF A WRITE: its sectors have what it puts there, all others what the edges have, or zeros
pub record FillsBlocks (what : What) (first last : List ℕ) (bytes : List ℕ) : Type 0 where
  pub size : length bytes ≡ 4096 * block_count what
  pub puts : (n : ℕ) → Covers what n →
      IsSomeAnd (put_by what) (λ put. piece bytes (n - 8 * first_block what) ≡ put n)
  pub before : (j : ℕ) → j < 8 → (Covers what (8 * first_block what + j) → ⊥) →
      piece bytes j ≡ edge_sector first j
  pub behind : 2 ≤ block_count what → (j : ℕ) → j < 8 →
      (Covers what (8 * (first_block what + block_count what - 1) + j) → ⊥) →
      piece bytes (8 * (block_count what - 1) + j) ≡ edge_sector last j

-- The blocks of a write, over what the sectors of the device were: its sectors have what it puts there,
-- all others are as they were
pub record IsMerged (what : What) (was : ℕ → List ℕ) (bytes : List ℕ) : Type 0 where
  pub size : length bytes ≡ 4096 * block_count what
  pub puts : (n : ℕ) → Covers what n →
      IsSomeAnd (put_by what) (λ put. piece bytes (n - 8 * first_block what) ≡ put n)
  pub keeps : (j : ℕ) → j < 8 * block_count what → (Covers what (8 * first_block what + j) → ⊥) →
      piece bytes j ≡ was (8 * first_block what + j)
