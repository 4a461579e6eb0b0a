-- The blocks of a write are right where its edges are: all sectors of them that it doesn't touch are as they were.
use Rattle.std.proofs.Common.{◌≡◌, ℕ, ◌+◌, ◌-◌, ◌*◌, ◌/◌, ◌%◌, ◌<◌, ◌≤◌, Bool, true, not, ◌&&◌, List, []}
use Rattle.std.proofs.Common.{◌∷◌, length, Option, Some, None, inl, inr, refl, sym, ap, ◌∙◌, subst, arith}
use Rattle.std.specs.Prelude.{nat_le}
use Rattle.std.proofs.Math.Bool.{and-false}
use Rattle.std.proofs.lemmas.Bool.{cases_lt, lt-leb}
use Rattle.zd_model.specs.Image.{Image}
use Rattle.zd_model.specs.Places.{spot, zone_at}
use Rattle.zd_model.specs.Requests.{block_count, first_block, first_sector, sector_count}
use Rattle.zd_model.specs.Stops.{Covers}
use Rattle.zd_model.specs.declared.requests.What.{What}
use Rattle.zd_model.proofs.FaultLaws.{none_some}
use Rattle.zd_model.proofs.ServedLaws.{placed, unplaced}
use Rattle.zd_disk.specs.OfGeometry.{IsImageOf}
use Rattle.zd_disk.specs.Steps.{piece}
use Rattle.zd_disk.specs.Told.{WhereTold}
use Rattle.zd_disk.specs.View.{View}
use Rattle.zd_disk.proofs.ToldLaws.{Some-same}
use Rattle.zd_sets.proofs.MixLaws.{piece_at}
use Rattle.zd_tables.specs.Rules.{AreBelow}
use Rattle.zd_volume.specs.Flights.{place_now, tables_now}
use Rattle.zd_volume.specs.Sets.{AreSets, Sets, new_tables, sector_by}
use Rattle.zd_volume.specs.Volumes.{IsKeptVolume, PlainVolume, sets_of}
use Rattle.zd_volume.proofs.Choices.{some_blocks}
use Rattle.zd_volume.proofs.PlaceLaws.{cases_place, held_place}
use Rattle.zd_routes.specs.Edges.{AreEdges, FillsBlocks, HasEdge, HoldsEdge, IsMerged, NeedsEdge}
use Rattle.zd_routes.specs.Edges.{edge_block, edge_sector, is_in_part}
use Rattle.zd_routes.specs.declared.edges.Edge.{Edge}
use Rattle.zd_routes.specs.declared.edges.Edge.TheVariants.{First, Last}
use Rattle.zd_routes.specs.declared.edges.Edges.{Edges}

-- a block with a sector that the request doesn't touch is touched in part
pub in_part_by : (what : What) (block n : ℕ) → n / 8 ≡ block → (Covers what n → ⊥) → is_in_part what block ≡ true
in_part_by what block n at off = elim (cases_lt (8 * block) (first_sector what)) [
  | inl before ↦
      ap (λ (b : Bool). not (b && nat_le (8 * block + 8) (first_sector what + sector_count what)))
      (lt-leb (first_sector what) (8 * block) before)
  | inr from ↦ elim (cases_lt (first_sector what + sector_count what) (8 * block + 8)) [
    | inl short ↦
        ap (λ (b : Bool). not (nat_le (first_sector what) (8 * block) && b))
        (lt-leb (8 * block + 8) (first_sector what + sector_count what) short)
        ∙ ap not (and-false (nat_le (first_sector what) (8 * block)))
    | inr whole ↦ absurd (off (omega (arith, at, from), omega (arith, at, whole)))
  ]
]

-- an edge that is there
edge_full : (bytes : List ℕ) (j : ℕ) → length bytes ≡ 4096 → edge_sector bytes j ≡ piece bytes j
edge_full [] j size = absurd (let f : ⊥ = omega (arith, size) in f)
edge_full (b ∷ bytes) j size = refl

-- WHAT AN EDGE HAS is what its block was: a block that isn't valid is one of zeros
module _ (v : PlainVolume) (told : Option Image) (what : What) (edge : Edge) (bytes : List ℕ) (has : HasEdge what edge)
    (needed : NeedsEdge v what edge → HoldsEdge v told what edge bytes)
    (others : (NeedsEdge v what edge → ⊥) → bytes ≡ []) (r : Image) (there : told ≡ Some r)
    (sized : (n z : ℕ) → zone_at v.geometry.zone_blocks (tables_now v) n ≡ Some z
    → length (sector_by (sets_of v) (tables_now v) r n) ≡ 512) where
  abbrev place : Option ℕ
  place = place_now v (edge_block what edge / v.geometry.zone_blocks) (edge_block what edge % v.geometry.zone_blocks)

  -- each sector of the block has its place
  in_block : (n : ℕ) → n / 8 ≡ edge_block what edge
      → zone_at v.geometry.zone_blocks (tables_now v) n
      ≡ place_now v (edge_block what edge / v.geometry.zone_blocks)
      (edge_block what edge % v.geometry.zone_blocks)
  in_block n at =
      ap (λ (x : ℕ). place_now v (x / v.geometry.zone_blocks) (x % v.geometry.zone_blocks)) at

  held : (z j : ℕ) → j < 8 → place ≡ Some z
      → edge_sector bytes j ≡ sector_by (sets_of v) (tables_now v) r (8 * edge_block what edge + j)
  held z j few is =
      let holds = needed (record { has = has; valid = λ none. none_some z (sym none ∙ is) }) in
      edge_full bytes j holds.size
      ∙ ap (λ (xs : List ℕ). piece xs j) (holds.value r there)
      ∙ piece_at (sector_by (sets_of v) (tables_now v) r) (8 * edge_block what edge) 8 j
      (λ n from below. sized n z (in_block n (omega (arith, from, below)) ∙ is)) few

  pub edge_is : (j : ℕ) → j < 8
      → edge_sector bytes j ≡ sector_by (sets_of v) (tables_now v) r (8 * edge_block what edge + j)
  edge_is j few = elim (cases_place place) [
    | inr at ↦ held at.0 j few at.1
    | inl none ↦
        ap (λ (xs : List ℕ). edge_sector xs j) (others (λ needs. needs.valid none))
        ∙ sym (unplaced v.geometry.zone_blocks (tables_now v) r.sector (8 * edge_block what edge + j)
        (in_block (8 * edge_block what edge + j) (omega (arith, few)) ∙ none))
  ]

module _ (v : PlainVolume) (told : Option Image) (what : What) (e : Edges) (bytes : List ℕ)
    (edges : AreEdges v told what e) (fills : FillsBlocks what e.first.items e.last.items bytes) (r : Image)
    (there : told ≡ Some r)
    (sized : (n z : ℕ) → zone_at v.geometry.zone_blocks (tables_now v) n ≡ Some z
    → length (sector_by (sets_of v) (tables_now v) r n) ≡ 512) where
  abbrev was : ℕ → List ℕ
  was = sector_by (sets_of v) (tables_now v) r

  in_first : (j : ℕ) → j < 8 → (Covers what (8 * first_block what + j) → ⊥)
      → piece bytes j ≡ sector_by (sets_of v) (tables_now v) r (8 * first_block what + j)
  in_first j few off =
      fills.before j few off
      ∙ edge_is v told what First e.first.items
      (in_part_by what (first_block what) (8 * first_block what + j) (omega (arith, few)) off)
      (edges.needed First) (edges.others First) r there sized j few

  in_last : (j k : ℕ) → 2 ≤ block_count what → j ≡ 8 * (block_count what - 1) + k → k < 8
      → (Covers what (8 * first_block what + j) → ⊥)
      → piece bytes j ≡ sector_by (sets_of v) (tables_now v) r (8 * first_block what + j)
  in_last j k two at few off =
      let place : 8 * first_block what + j ≡ 8 * (first_block what + block_count what - 1) + k =
      omega (arith, two, at) in
      let uncovered : Covers what (8 * (first_block what + block_count what - 1) + k) → ⊥ =
      λ covers. off (subst (Covers what) (sym place) covers) in
      ap (piece bytes) at
      ∙ fills.behind two k few uncovered
      ∙ edge_is v told what Last e.last.items (
        two,
        in_part_by what (first_block what + block_count what - 1)
            (8 * (first_block what + block_count what - 1) + k) (omega (arith, few)) uncovered,
      )
      (edges.needed Last) (edges.others Last) r there sized k few
      ∙ ap was (sym place)

  kept_sector : (j : ℕ) → j < 8 * block_count what → (Covers what (8 * first_block what + j) → ⊥)
      → piece bytes j ≡ sector_by (sets_of v) (tables_now v) r (8 * first_block what + j)
  kept_sector j low off = elim (cases_lt j 8) [
    | inl front ↦ in_first j front off
    | inr behind ↦ elim (cases_lt j (8 * (block_count what - 1))) [
      | inl middle ↦ absurd (off (omega (arith, behind), omega (arith, middle)))
      | inr end ↦
          in_last j (j - 8 * (block_count what - 1)) (omega (arith, behind, low)) (omega (arith, end))
          (omega (arith, low, end)) off
    ]
  ]

  pub merged_of : IsMerged what (sector_by (sets_of v) (tables_now v) r) bytes
  merged_of = record { size = fills.size; puts = fills.puts; keeps = kept_sector }

-- a sector with a place is one of the image
sized_in : (s : Sets) → AreSets s → (r : Image) → IsImageOf s.geometry r → AreBelow s.geometry r.held (new_tables s)
    → (n z : ℕ) → zone_at s.geometry.zone_blocks (new_tables s) n ≡ Some z
    → length (sector_by s (new_tables s) r n) ≡ 512
sized_in s are r of below n z is =
    ap length (placed s.geometry.zone_blocks (new_tables s) r.sector n z is)
    ∙ (of.image.sectors z (spot s.geometry.zone_blocks n)
    (held_place s.geometry s.head.layout (some_blocks s are) (new_tables s) are.new_rules.map r of below n z is)).0

-- THE BLOCKS ARE MERGED
pub merged_by : (v : PlainVolume) (opening u : View) (what : What) (e : Edges) (bytes : List ℕ) → v.stopped ≡ None
    → IsKeptVolume v opening u → AreEdges v u.zones what e → FillsBlocks what e.first.items e.last.items bytes
    → WhereTold u.zones (λ r. IsMerged what (sector_by (sets_of v) (tables_now v) r) bytes)
merged_by v opening u what e bytes runs was edges fills r there =
    merged_of v u.zones what e bytes edges fills r there
    (sized_in (sets_of v) was.fixed.sets r
    (record {
      image = u.shaped r there;
      geometry = Some-same r.geometry v.geometry (sym (u.agrees r there) ∙ was.tells);
    })
    (was.reads runs r there).read.below)
