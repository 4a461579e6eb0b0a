-- The edges of a write in flight: what is read of them is what the volume serves, and stays so in the words of the
-- history.
use Rattle.std.proofs.Common.{◌≡◌, ◌≢◌, ◌⊎◌, inl, inr, ℕ, ◌+◌, ◌-◌, ◌*◌, ◌/◌, ◌%◌, ◌<◌, ◌≤◌, false, ◌&&◌, List, [], ◌∷◌, length, Option, Some, None, refl, sym, ap, ◌∙◌, subst, arith, Decides}
use Rattle.std.specs.Prelude.{is_some, slice_index_or}
use Rattle.std.proofs.lemmas.Bool.{and_from, and_parts, false≢true, le-leb, leb-true}
use Rattle.std.proofs.lemmas.Bool.Decides.{Decides-and, Decides-like, Decides-or}
use Rattle.std.proofs.lemmas.Option.{none-some}
use Rattle.zd_disk.specs.Told.{WhereTold}
use Rattle.zd_model.specs.Bytes.{zero_sector}
use Rattle.zd_model.specs.History.{last_array}
use Rattle.zd_model.specs.Image.{Image, run_of}
use Rattle.zd_model.specs.Requests.{block_count, first_block}
use Rattle.zd_model.specs.Room.{ListWithRoom}
use Rattle.zd_model.specs.Safe.{base_at, last_at}
use Rattle.zd_model.specs.declared.requests.Piece.{Piece}
use Rattle.zd_model.specs.declared.requests.What.{What}
use Rattle.zd_model.proofs.ContentLaws.{length-served, served-at}
use Rattle.zd_model.proofs.ServedLaws.{same_joined}
use Rattle.zd_volume.specs.Flights.{place_now, serves, tables_now}
use Rattle.zd_volume.specs.Sets.{sector_by}
use Rattle.zd_volume.specs.Volumes.{PlainVolume, sets_of}
use Rattle.zd_volume.proofs.Images.{length-device}
use Rattle.zd_routes.specs.Edges.{AreEdges, HasEdge, HoldsEdge, IsDue, IsNextEdge, KeepsOther, MayBeEdges, NeedsEdge, ReadsEdge, block_served, bytes_at, edge_block, is_in_part}
use Rattle.zd_routes.specs.Routes.{WritesBlocks}
use Rattle.zd_routes.specs.declared.edges.Edge.{Edge}
use Rattle.zd_routes.specs.declared.edges.Edge.TheVariants.{First, Last}
use Rattle.zd_routes.specs.declared.edges.Edges.{Edges}
use Rattle.zd_routes.proofs.WriteCovers.{within_device}
use Rattle.zd_session.specs.Sessions.{HasNoEdges, HoldsBlock, HoldsEdges}
use Rattle.zd_session.specs.Standings.{has_edge, is_edge_due, is_unread, lacks_edge}
use Rattle.zd_session.proofs.HeldLaws.{edge_touched}

empty_or_not : (bytes : List ℕ) → (bytes ≡ []) ⊎ (bytes ≢ [])
empty_or_not [] = inl refl
empty_or_not (b ∷ bytes) = inr (λ is. let f : ⊥ = cc in f)

-- AN EDGE IS DUE exactly where the test says so
unread_decides : (bytes : List ℕ) → Decides (is_unread bytes) (bytes ≡ [])
unread_decides [] = (λ _. refl, λ _. refl)
unread_decides (b ∷ bytes) = (λ is. absurd (false≢true is), λ is. absurd (let f : ⊥ = cc in f))

edge_decides : (what : What) (edge : Edge) → Decides (has_edge what edge) (HasEdge what edge)
edge_decides what First = (λ is. is, λ is. is)
edge_decides what Last = (
  λ is. (let both = and_parts _ (is_in_part what (first_block what + block_count what - 1)) is in
      (leb-true 2 (block_count what) both.0, both.1)),
  λ is. and_from _ (is_in_part what (first_block what + block_count what - 1)) (le-leb 2 (block_count what) is.0) is.1,
)

some_decides : (o : Option ℕ) → Decides (is_some o) (o ≢ None)
some_decides None = (λ is. absurd (false≢true is), λ some. absurd (some refl))
some_decides (Some x) = (λ _ is. none-some x (sym is), λ _. refl)

module _ (v : PlainVolume) (e : Edges) (p : Piece) where
  due_decides : (edge : Edge) → Decides (is_edge_due v e p.what edge) (IsDue v p.what e edge)
  due_decides edge =
      let block : ℕ = edge_block p.what edge in
      let place : Option ℕ = place_now v (block / v.geometry.zone_blocks) (block % v.geometry.zone_blocks) in
      Decides-like (is_edge_due v e p.what edge)
      (λ all. record { needs = record { has = all.0.1; valid = all.1 }; empty = all.0.0 })
      (λ due. ((due.empty, due.needs.has), due.needs.valid))
      (Decides-and (is_unread (bytes_at e edge) && has_edge p.what edge) (is_some place)
      (Decides-and (is_unread (bytes_at e edge)) (has_edge p.what edge) (unread_decides (bytes_at e edge))
      (edge_decides p.what edge))
      (some_decides place))

  pub lacks_decides : Decides (lacks_edge v e p) ((edge : Edge) × IsDue v p.what e edge)
  lacks_decides =
      Decides-like (lacks_edge v e p)
      (λ either. elim either [ inl first ↦ (First, first) | inr last ↦ (Last, last) ])
      (λ due. by due.0 due.1)
      (Decides-or (is_edge_due v e p.what First) (is_edge_due v e p.what Last) (due_decides First) (due_decides Last))
    where
      by : (edge : Edge) → IsDue v p.what e edge → IsDue v p.what e First ⊎ IsDue v p.what e Last
      by First due = inl due
      by Last due = inr due

-- the next edge is due
pub next_is_due : (v : PlainVolume) (what : What) (e : Edges) (edge : Edge) → IsNextEdge v what e edge
    → IsDue v what e edge
next_is_due v what e First next = next
next_is_due v what e Last next = next.0

-- WHERE NONE IS DUE all that are needed are there
pub edges_there : (v : PlainVolume) (told : Option Image) (what : What) (e : Edges) → MayBeEdges v told what e
    → ((edge : Edge) → IsDue v what e edge → ⊥) → AreEdges v told what e
edges_there v told what e may none = record {
  needed = λ edge needs. elim (empty_or_not (bytes_at e edge)) [
    | inl empty ↦ absurd (none edge (record { needs = needs; empty = empty }))
    | inr some ↦ (may.read edge some).1
  ];
  others = λ edge unneeded. elim (empty_or_not (bytes_at e edge)) [
    | inl empty ↦ empty
    | inr some ↦ absurd (unneeded (may.read edge some).0)
  ];
}

module _ (v : PlainVolume) (told : Option Image) (p : Piece) (range : p.range ≡ false) (is : WritesBlocks (sets_of v) p.what)
  where
    -- of a write that begins nothing is read
    pub none_held : (e : Edges) → HasNoEdges e → HoldsEdges v told p e
    none_held e none = record { in_range = range; writes = is; read = λ edge some. absurd (by edge some) }
      where
        by : (edge : Edge) → bytes_at e edge ≢ [] → ⊥
        by First some = some none.0
        by Last some = some none.1

    module _ (disk : Option Image) (serving : WhereTold disk (λ i. serves v i ≡ last_array (base_at told) v.history)) where
      -- a block of the write, as the volume serves it
      block_last : (i : Image) → disk ≡ Some i → (block : ℕ) → first_block p.what ≤ block
          → block < first_block p.what + block_count p.what
          → block_served v i block ≡ run_of (last_at (base_at told) v.history) (8 * block) 8
      block_last i at block low high =
          same_joined (sector_by (sets_of v) (tables_now v) i) (last_at (base_at told) v.history) (8 * block) (8 * block) 8
          (λ k few.
          let n : ℕ = 8 * block + k in
          let inside = within_device (sets_of v) p.what is n (omega (arith, high, few)) in
          let entries = length-served v.geometry.zone_blocks (tables_now v) i.sector in
          let all = length-device (sets_of v) v.fresh i in
          sym (served-at v.geometry.zone_blocks (tables_now v) i.sector n zero_sector (omega (arith, inside, entries, all)))
          ∙ ap (λ (xs : List (List ℕ)). slice_index_or xs n zero_sector) (serving i at))

      block_of : (edge : Edge) → HasEdge p.what edge
          → (first_block p.what ≤ edge_block p.what edge) × (edge_block p.what edge < first_block p.what + block_count p.what)
      block_of edge has = edge_touched p.what edge is.some has

      -- WHAT IS HELD of edges is read of them
      module _ (showed : WhereTold disk (λ _. (o : Image) × (told ≡ Some o))) where
        pub held_edges : (e : Edges) → HoldsEdges v told p e → 4096 ≤ length e.first.items + e.first.room
            → 4096 ≤ length e.last.items + e.last.room → MayBeEdges v disk p.what e
        held_edges e holds first last = record {
          read = λ edge some.
              let one = holds.read edge some in
              let block = block_of edge one.0.has in (
                one.0,
                record {
                  size = one.1.size;
                  value = λ i at.
                      let o = showed i at in
                      one.1.last o.0 o.1 ∙ sym (block_last i at (edge_block p.what edge) block.0 block.1);
                },
              );
          first_room = first;
          last_room = last;
        }

      -- AN EDGE THAT IS READ is held
      module _ (shows : WhereTold told (λ _. (i : Image) × (disk ≡ Some i))) where
        now_held : (edge : Edge) (bytes : List ℕ) → NeedsEdge v p.what edge → HoldsEdge v disk p.what edge bytes
            → HoldsBlock told v.history (edge_block p.what edge) bytes
        now_held edge bytes needs holds =
            let block = block_of edge needs.has in
            record {
              size = holds.size;
              last = λ o at.
                  let i = shows o at in
                  holds.value i.0 i.1 ∙ block_last i.0 i.1 (edge_block p.what edge) block.0 block.1;
            }

        pub read_held : (old new : Edges) → HoldsEdges v told p old → ReadsEdge v disk p.what old new
            → HoldsEdges v told p new
        read_held old new holds did = record {
          in_range = range;
          writes = is;
          read = λ edge some. by did.edge edge (next_is_due v p.what old did.edge did.next).needs did.holds did.other some;
        }
          where
            kept : (edge : Edge) → bytes_at new edge ≡ bytes_at old edge → bytes_at new edge ≢ []
                → NeedsEdge v p.what edge × HoldsBlock told v.history (edge_block p.what edge) (bytes_at new edge)
            kept edge same some =
                let was = holds.read edge (λ none. some (same ∙ none)) in
                (was.0, subst (HoldsBlock told v.history (edge_block p.what edge)) (sym same) was.1)

            by : (read edge : Edge) → NeedsEdge v p.what read → HoldsEdge v disk p.what read (bytes_at new read)
                → KeepsOther read old new → bytes_at new edge ≢ []
                → NeedsEdge v p.what edge × HoldsBlock told v.history (edge_block p.what edge) (bytes_at new edge)
            by First First needs held other some = (needs, now_held First (bytes_at new First) needs held)
            by Last Last needs held other some = (needs, now_held Last (bytes_at new Last) needs held)
            by First Last needs held other some = kept Last (ap (λ (b : ListWithRoom ℕ). b.items) other) some
            by Last First needs held other some = kept First (ap (λ (b : ListWithRoom ℕ). b.items) other) some
