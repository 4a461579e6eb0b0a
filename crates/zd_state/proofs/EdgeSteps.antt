-- The edges of a write after the read of one of them, which answered this.
use Rattle.std.proofs.Common.{◌≡◌, ◌≢◌, ℕ, ◌+◌, ◌≤◌, [], length, Option, Result, Ok, Err, OnErr, OnOk, refl}
use Rattle.zd_model.specs.Image.{Image}
use Rattle.zd_model.specs.Room.{ListWithRoom}
use Rattle.zd_model.specs.declared.requests.What.{What}
use Rattle.zd_disk.specs.Told.{WhereTold}
use Rattle.zd_volume.specs.Volumes.{PlainVolume}
use Rattle.zd_routes.specs.Edges.{HoldsEdge, IsNextEdge, KeepsOther, MayBeEdges, NeedsEdge, ReadsEdge, block_served, bytes_at, edge_block}
use Rattle.zd_routes.specs.declared.edges.Edge.{Edge}
use Rattle.zd_routes.specs.declared.edges.Edge.TheVariants.{First, Last}
use Rattle.zd_routes.specs.declared.edges.Edges.{Edges}

module _ {T E : Type 0} (v : PlainVolume) (told : Option Image) (what : What) (old : Edges) (r : Result T E)
    (bytes : ListWithRoom ℕ) where
  -- what a read of this edge has to show
  pub record ReadsInto (edge : Edge) : Type 0 where
    pub next : IsNextEdge v what old edge
    pub size : OnOk r (length bytes.items ≡ 4096)
    pub value : OnOk r (WhereTold told (λ i. bytes.items ≡ block_served v i (edge_block what edge)))
    pub err : OnErr r (bytes.items ≡ [])
    pub room : 4096 ≤ length bytes.items + bytes.room

  -- the bytes are the block, where it answered Ok
  holds : (edge : Edge) → (q : Result T E) → OnOk q (length bytes.items ≡ 4096)
      → OnOk q (WhereTold told (λ i. bytes.items ≡ block_served v i (edge_block what edge)))
      → OnOk q (HoldsEdge v told what edge bytes.items)
  holds edge (Ok x) size value = record { size = size; value = value }
  holds edge (Err e) size value = tt

  -- and there are some only there
  read_one : (edge : Edge) → NeedsEdge v what edge → (q : Result T E) → OnOk q (HoldsEdge v told what edge bytes.items)
      → OnErr q (bytes.items ≡ []) → bytes.items ≢ [] → NeedsEdge v what edge × HoldsEdge v told what edge bytes.items
  read_one edge needs (Ok x) held none some = (needs, held)
  read_one edge needs (Err e) held none some = absurd (some none)

  reads_by : (edge : Edge) (new : Edges) (q : Result T E) → IsNextEdge v what old edge
      → OnOk q (HoldsEdge v told what edge (bytes_at new edge))
      → KeepsOther edge old new → OnOk q (ReadsEdge v told what old new)
  reads_by edge new (Ok x) next held other = record { edge = edge; next = next; holds = held; other = other }
  reads_by edge new (Err e) next held other = tt

  module _ (is : ReadsInto First) where
    pub first_read : OnOk r (ReadsEdge v told what old (record { first = bytes; last = old.last }))
    first_read =
        reads_by First (record { first = bytes; last = old.last }) r is.next (holds First r is.size is.value) refl

    pub first_may_be : MayBeEdges v told what old → MayBeEdges v told what (record { first = bytes; last = old.last })
    first_may_be was = record {
      read = λ edge. elim edge as (λ (e : Edge). bytes_at (record { first = bytes; last = old.last }) e ≢ []
          → NeedsEdge v what e × HoldsEdge v told what e (bytes_at (record { first = bytes; last = old.last }) e)) [
            | First ↦ read_one First is.next.needs r (holds First r is.size is.value) is.err
            | Last ↦ was.read Last
          ];
      first_room = is.room;
      last_room = was.last_room;
    }

  module _ (is : ReadsInto Last) where
    pub last_read : OnOk r (ReadsEdge v told what old (record { first = old.first; last = bytes }))
    last_read =
        reads_by Last (record { first = old.first; last = bytes }) r is.next (holds Last r is.size is.value) refl

    pub last_may_be : MayBeEdges v told what old → MayBeEdges v told what (record { first = old.first; last = bytes })
    last_may_be was = record {
      read = λ edge. elim edge as (λ (e : Edge). bytes_at (record { first = old.first; last = bytes }) e ≢ []
          → NeedsEdge v what e × HoldsEdge v told what e (bytes_at (record { first = old.first; last = bytes }) e)) [
            | First ↦ was.read First
            | Last ↦ read_one Last is.next.0.needs r (holds Last r is.size is.value) is.err
          ];
      first_room = was.first_room;
      last_room = is.room;
    }
