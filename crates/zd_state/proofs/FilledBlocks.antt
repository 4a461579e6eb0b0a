-- Bytes of which some whole sectors are written over, sector by sector.
use Rattle.std.proofs.Common.{◌≡◌, ◌≢◌, ◌⊎◌, ℕ, ◌+◌, ◌-◌, ◌*◌, ◌/◌, ◌%◌, ◌<◌, ◌≤◌, true, List, [], ◌∷◌, ◌++◌, length, take, drop, replicate}
use Rattle.std.proofs.Common.{Option, Some, IsSomeAnd, inl, inr, refl, sym, ap, ◌∙◌, subst, arith}
use Rattle.std.proofs.Math.Seq.{drop-append_seam}
use Rattle.std.proofs.lemmas.Bool.{cases_Bool, cases_lt}
use Rattle.std.proofs.lemmas.List.{drop-drop, drop-replicate, drop-take, length-append, length-drop, length-take-le, take-append-le, take-replicate, take_all}
use Rattle.std.proofs.lemmas.Slice.{drop-put_mid, take-put_mid_below}
use Rattle.zd_disk.specs.Steps.{piece}
use Rattle.zd_model.specs.Bytes.{zero_sector}
use Rattle.zd_model.specs.Image.{Image}
use Rattle.zd_model.specs.Plain.{pattern, put_by}
use Rattle.zd_model.specs.Requests.{block_count, first_block, first_sector, sector_count}
use Rattle.zd_model.specs.Stops.{Covers}
use Rattle.zd_model.specs.declared.requests.What.{What}
use Rattle.zd_model.proofs.FaultLaws.{none_some}
use Rattle.zd_volume.specs.Flights.{place_now}
use Rattle.zd_volume.specs.Volumes.{PlainVolume}
use Rattle.zd_volume.proofs.PlaceLaws.{cases_place}
use Rattle.zd_routes.specs.Edges.{AreEdges, FillsBlocks, HasEdge, bytes_at, edge_block, edge_sector, is_in_part}
use Rattle.zd_routes.specs.declared.edges.Edge.{Edge}
use Rattle.zd_routes.specs.declared.edges.Edge.TheVariants.{First, Last}
use Rattle.zd_routes.specs.declared.edges.Edges.{Edges}
use Rattle.zd_routes.proofs.MergedBlocks.{in_part_by}
use borrow.Rule.Slice.PartMut.{post_of, put_mid}

-- a sector stands at the end of the bytes up to its own
at_end : (bytes : List ℕ) (j : ℕ) → piece bytes j ≡ drop (512 * j) (take (512 * j + 512) bytes)
at_end bytes j = sym (drop-take (512 * j) 512 bytes)

-- a sector of the front
front_piece : (front rest : List ℕ) (j : ℕ) → 512 * j + 512 ≤ length front → piece (front ++ rest) j ≡ piece front j
front_piece front rest j fits =
    at_end (front ++ rest) j
    ∙ ap (drop (512 * j)) (take-append-le (512 * j + 512) front rest fits)
    ∙ sym (at_end front j)

-- a sector behind the front
rest_piece : (front rest : List ℕ) (at j : ℕ) → length front ≡ 512 * at → piece (front ++ rest) (at + j) ≡ piece rest j
rest_piece front rest at j size =
    ap (take 512)
    (ap (λ (n : ℕ). drop n (front ++ rest)) (let e : 512 * (at + j) ≡ length front + 512 * j = omega (arith, size) in e)
    ∙ sym (drop-drop (512 * j) (length front) (front ++ rest))
    ∙ ap (drop (512 * j)) (drop-append_seam front rest))

-- n sectors from sector `at` on are these, and the others are as they were
pub record PutsSectors (at n : ℕ) (bytes old new : List ℕ) : Type 0 where
  pub size : length new ≡ length old
  pub put : (j : ℕ) → j < n → piece new (at + j) ≡ piece bytes j
  pub others : (j : ℕ) → (j < at) ⊎ (at + n ≤ j) → piece new j ≡ piece old j

-- what a write to a part of a slice leaves, where that is whole sectors
module _ (old bytes : List ℕ) (at n a k : ℕ) (starts : a ≡ 512 * at) (long : k ≡ 512 * n)
    (size : length bytes ≡ 512 * n) (fits : 512 * (at + n) ≤ length old) where
  total : length (put_mid a k old bytes) ≡ length old
  total =
      let front = length-take-le a old (omega (arith, starts, fits)) in
      omega (
        arith,
        starts,
        long,
        size,
        fits,
        front,
        length-append (take a old) (bytes ++ post_of a k old),
        length-append bytes (post_of a k old),
        length-drop k (drop a old),
        length-drop a old,
      )

  pub puts_sectors : PutsSectors at n bytes old (put_mid a k old bytes)
  puts_sectors = record {
    size = total;
    put = λ j low.
        rest_piece (take a old) (bytes ++ post_of a k old) at j
        (length-take-le a old (omega (arith, starts, fits)) ∙ starts)
        ∙ front_piece bytes (post_of a k old) j (omega (arith, size, low));
    others = λ j out. elim out [
      | inl before ↦
          at_end (put_mid a k old bytes) j
          ∙ ap (drop (512 * j))
          (take-put_mid_below a k old bytes (512 * j + 512) (omega (arith, starts, before))
          (omega (arith, starts, fits)))
          ∙ sym (at_end old j)
      | inr behind ↦
          ap (take 512)
          (drop-put_mid a k old bytes (512 * j) (omega (arith, starts, long, behind)) (omega (arith, starts, fits))
          (omega (arith, size, long)))
    ];
  }

-- one sector
pub whole_piece : (bytes : List ℕ) → length bytes ≡ 512 → piece bytes 0 ≡ bytes
whole_piece bytes size = take_all 512 bytes (omega (arith, size))

-- sectors of zeros
pub zero_pieces : (j : ℕ) → j < 8 → piece (replicate 4096 0) j ≡ zero_sector
unfolding zero_sector
zero_pieces j low =
    ap (take 512) (drop-replicate {X = ℕ} (512 * j) 4096 0)
    ∙ take-replicate {X = ℕ} 512 (4096 - 512 * j) 0 (omega (arith, low))

-- an edge that is there
pub full_edge : (bytes : List ℕ) (j : ℕ) → bytes ≢ [] → edge_sector bytes j ≡ piece bytes j
full_edge [] j some = absurd (some refl)
full_edge (b ∷ bytes) j some = refl

-- THE BLOCKS OF A WRITE, whose patterns were put over the edges
module _ (what : What) (first last edged bytes : List ℕ) (seed : ℕ) (size : length bytes ≡ 4096 * block_count what)
    (by : put_by what ≡ Some (pattern seed))
    (has_first : is_in_part what (first_block what) ≡ true
    → (j : ℕ) → j < 8 → piece edged j ≡ edge_sector first j)
    (has_last : 2 ≤ block_count what → is_in_part what (first_block what + block_count what - 1) ≡ true
    → (j : ℕ) → j < 8 → piece edged (8 * (block_count what - 1) + j) ≡ edge_sector last j)
    (put : (j : ℕ) → j < sector_count what
    → piece bytes (first_sector what % 8 + j) ≡ pattern seed (first_sector what + j))
    (others : (j : ℕ) → (j < first_sector what % 8) ⊎ (first_sector what % 8 + sector_count what ≤ j)
    → piece bytes j ≡ piece edged j) where
  -- a sector that isn't touched is as the edges have it
  untouched : (j : ℕ) → (Covers what (8 * first_block what + j) → ⊥) → piece bytes j ≡ piece edged j
  untouched j off = elim (cases_lt j (first_sector what % 8)) [
    | inl before ↦ others j (inl before)
    | inr from ↦ elim (cases_lt j (first_sector what % 8 + sector_count what)) [
      | inl inside ↦ absurd (off (omega (arith, from), omega (arith, inside)))
      | inr behind ↦ others j (inr behind)
    ]
  ]

  put_at : (n : ℕ) → Covers what n → piece bytes (n - 8 * first_block what) ≡ pattern seed n
  put_at n covers =
      let from = covers.0 in
      let below = covers.1 in
      let j : ℕ = n - first_sector what in
      ap (piece bytes) (let e : n - 8 * first_block what ≡ first_sector what % 8 + j = omega (arith, from) in e)
      ∙ put j (omega (arith, from, below))
      ∙ ap (pattern seed) (let e : first_sector what + j ≡ n = omega (arith, from) in e)

  pub fills_blocks : FillsBlocks what first last bytes
  fills_blocks = record {
    size = size;
    puts = λ n covers.
        subst (λ (o : Option (ℕ → List ℕ)). IsSomeAnd o (λ put. piece bytes (n - 8 * first_block what) ≡ put n))
        (sym by) (put_at n covers);
    before = λ j few off.
        untouched j off
        ∙ has_first (in_part_by what (first_block what) (8 * first_block what + j) (omega (arith, few)) off) j few;
    behind = λ two j few off.
        let place : 8 * (first_block what + block_count what - 1) + j
        ≡ 8 * first_block what + (8 * (block_count what - 1) + j) = omega (arith, two) in
        untouched (8 * (block_count what - 1) + j) (λ covers. off (subst (Covers what) (sym place) covers))
        ∙ has_last two
        (in_part_by what (first_block what + block_count what - 1)
        (8 * (first_block what + block_count what - 1) + j) (omega (arith, few)) off)
        j few;
  }

-- an edge of a write is empty or whole
module _ (v : PlainVolume) (told : Option Image) (what : What) (e : Edges) (edges : AreEdges v told what e) where
  whole_if : (edge : Edge) → (HasEdge what edge) ⊎ (HasEdge what edge → ⊥)
      → (bytes_at e edge ≡ []) ⊎ (length (bytes_at e edge) ≡ 4096)
  whole_if edge (inr without) = inl (edges.others edge (λ needs. without needs.has))
  whole_if edge (inl has) = elim (cases_place (place_now v (edge_block what edge / v.geometry.zone_blocks)
      (edge_block what edge % v.geometry.zone_blocks))) [
        | inl none ↦ inl (edges.others edge (λ needs. needs.valid none))
        | inr at ↦ inr (edges.needed edge (record { has = has; valid = λ none. none_some at.0 (sym none ∙ at.1) })).size
      ]

  has_edge : (edge : Edge) → (HasEdge what edge) ⊎ (HasEdge what edge → ⊥)
  has_edge First = elim (cases_Bool (is_in_part what (first_block what))) [
    | inl part ↦ inl part
    | inr whole ↦ inr (λ has. let f : ⊥ = cc in f)
  ]
  has_edge Last = elim (cases_Bool (is_in_part what (first_block what + block_count what - 1))) [
    | inl part ↦ elim (cases_lt (block_count what) 2) [
      | inl one ↦ inr (λ has. let f : ⊥ = omega (arith, one, has.0) in f)
      | inr more ↦ inl (more, part)
    ]
    | inr whole ↦ inr (λ has. let part = has.1 in let f : ⊥ = cc in f)
  ]

  pub whole_edge : (edge : Edge) → (bytes_at e edge ≡ []) ⊎ (length (bytes_at e edge) ≡ 4096)
  whole_edge edge = whole_if edge (has_edge edge)
