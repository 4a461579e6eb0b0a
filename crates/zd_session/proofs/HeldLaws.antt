-- What an actor holds of its piece it holds on, after a step that doesn't touch the chunk of the piece.
use Rattle.std.proofs.Common.{◌≡◌, ◌≢◌, ℕ, ◌+◌, ◌-◌, ◌*◌, ◌/◌, ◌%◌, ◌<◌, ◌≤◌, List, Option, Some, None, sym, ap, ◌∙◌, subst, arith}
use Rattle.std.proofs.Math.Arith.{mod-mul}
use Rattle.std.proofs.lemmas.Nat.{div-add-mod', div-mul-add}
use Rattle.zd_base.specs.Geometry.{Shape, zone_sectors}
use Rattle.zd_base.specs.declared.layout.Layout.{Layout}
use Rattle.zd_model.specs.Image.{Image}
use Rattle.zd_model.specs.Requests.{Operation, block_count, first_block, first_sector, operation_of, sector_count}
use Rattle.zd_model.specs.Requests.Operation.{Reading, Writing, Discarding, Flushing}
use Rattle.zd_model.specs.Safe.{base_at, last_at}
use Rattle.zd_model.specs.declared.requests.Piece.{Piece}
use Rattle.zd_model.specs.declared.requests.What.{What}
use Rattle.zd_model.proofs.ServedLaws.{same_joined}
use Rattle.zd_volume.specs.Discards.{chunk_touched, range_end}
use Rattle.zd_volume.specs.Flights.{IsPieceIn, place_now, sectors_within}
use Rattle.zd_volume.specs.Volumes.{PlainVolume, sets_of}
use Rattle.zd_volume.specs.declared.flight.Flight.{Flight}
use Rattle.zd_routes.specs.Edges.{HasEdge, NeedsEdge, bytes_at, edge_block}
use Rattle.zd_routes.specs.Routes.{WritesBlocks}
use Rattle.zd_routes.specs.declared.edges.Edge.{Edge}
use Rattle.zd_routes.specs.declared.edges.Edge.TheVariants.{First, Last}
use Rattle.zd_routes.specs.declared.edges.Edges.{Edges}
use Rattle.zd_session.specs.Sessions.{AreLast, HasInHand, HoldsBy, HoldsEdges, HoldsRead}
use Rattle.zd_session.specs.declared.actor.Actor.{Actor}
use Rattle.zd_session.proofs.SparedLaws.{IsValidAt, Spares, chunk_at}

-- a sector of the blocks that a piece touches is of its chunk
pub in_first_chunk : (z : ℕ) (what : What) → 0 < z → range_end z what ≤ z → (n : ℕ) → first_block what ≤ n / 8
    → n / 8 < first_block what + block_count what → n / 8 / z ≡ chunk_touched z what
in_first_chunk z what some inside n low high =
    let whole = div-add-mod' (first_block what) z in
    let c : ℕ = chunk_touched z what in
    let r : ℕ = n / 8 - c * z in
    let at : n / 8 ≡ c * z + r = omega (arith, whole, low) in
    let few : r < z = omega (arith, whole, low, high, inside) in
    ap (λ (k : ℕ). k / z) at ∙ div-mul-add c z r few

-- the blocks of a read in one chunk end there
pub blocks_inside : (z : ℕ) (what : What) → 1 ≤ z → first_sector what % (8 * z) + sector_count what ≤ 8 * z
    → range_end z what ≤ z
blocks_inside z what some inside =
    let order : z * 8 ≡ 8 * z = omega arith in
    let split : first_sector what % (8 * z) ≡ first_sector what / 8 % z * 8 + first_sector what % 8 =
    subst (λ (n : ℕ). first_sector what % n ≡ first_sector what / 8 % z * 8 + first_sector what % 8) order
    (mod-mul (first_sector what) some (omega arith)) in
    omega (arith, split, inside)

-- the block at an edge is one that the piece touches
pub edge_touched : (what : What) (edge : Edge) → 1 ≤ sector_count what → HasEdge what edge
    → (first_block what ≤ edge_block what edge) × (edge_block what edge < first_block what + block_count what)
edge_touched what First some has = (omega arith, omega (arith, some))
edge_touched what Last some has = (let two = has.0 in (omega (arith, two), omega (arith, two)))

module _ (told : Option Image) (Touched : ℕ → Type 0) (v w : PlainVolume) (spared : Spares told Touched v w)
    (some : 0 < v.geometry.zone_blocks) where
  -- what is said of the device alone
  pub device_stays : (P : Shape → Layout → Type 0) → P v.geometry v.head.layout → P w.geometry w.head.layout
  device_stays P is =
      subst (λ (l : Layout). P w.geometry l) (sym spared.layout)
      (subst (λ (g : Shape). P g v.head.layout) (sym spared.geometry) is)

  pub piece_stays : (p : Piece) → IsPieceIn v p → IsPieceIn w p
  piece_stays p is = record {
    range = is.range;
    some = is.some;
    device = device_stays (λ (g : Shape) (l : Layout). first_sector p.what / zone_sectors g < l.chunks) is.device;
    chunk = device_stays (λ (g : Shape) (l : Layout).
        first_sector p.what % zone_sectors g + sector_count p.what ≤ zone_sectors g) is.chunk;
  }

  pub write_stays : (what : What) → WritesBlocks (sets_of v) what → WritesBlocks (sets_of w) what
  write_stays what is = record {
    writes = is.writes;
    some = is.some;
    inside = device_stays (λ (g : Shape) (l : Layout). range_end g.zone_blocks what ≤ g.zone_blocks) is.inside;
    there = device_stays (λ (g : Shape) (l : Layout). chunk_touched g.zone_blocks what < l.chunks) is.there;
  }

  module _ (what : What) (inside : range_end v.geometry.zone_blocks what ≤ v.geometry.zone_blocks)
      (off : Touched (chunk_touched v.geometry.zone_blocks what) → ⊥) where
    untouched : (n : ℕ) → first_block what ≤ n / 8 → n / 8 < first_block what + block_count what
        → Touched (chunk_at v n) → ⊥
    untouched n low high =
        subst (λ (c : ℕ). Touched c → ⊥) (sym (in_first_chunk v.geometry.zone_blocks what some inside n low high)) off

    last_stays : (first count : ℕ) (bytes : List ℕ) → 8 * first_block what ≤ first
        → first + count ≤ 8 * (first_block what + block_count what) → AreLast told v.history first count bytes
        → AreLast told w.history first count bytes
    last_stays first count bytes low high was i is =
        was i is ∙ same_joined (last_at (base_at told) v.history) (last_at (base_at told) w.history) first first count
        (λ k few. sym (spared.last i is (first + k) (untouched (first + k) (omega (arith, low)) (omega (arith, high, few)))))

    edge_stays : 1 ≤ sector_count what → (edge : Edge) → NeedsEdge v what edge → NeedsEdge w what edge
    edge_stays some edge needs =
        let z : ℕ = v.geometry.zone_blocks in
        let block : ℕ = edge_block what edge in
        let touched = edge_touched what edge some needs.has in
        let at : 8 * block / 8 ≡ block = omega arith in
        let was : IsValidAt v (8 * block) =
        subst (λ (b : ℕ). place_now v (b / z) (b % z) ≢ None) (sym at) needs.valid in
        let is : IsValidAt w (8 * block) =
        spared.valid (8 * block) (untouched (8 * block) (omega (arith, at, touched.0)) (omega (arith, at, touched.1))) was in
        record {
          has = needs.has;
          valid = subst (λ (b : ℕ). place_now w (b / w.geometry.zone_blocks) (b % w.geometry.zone_blocks) ≢ None) at is;
        }

  module _ (p : Piece) (off : Touched (chunk_touched v.geometry.zone_blocks p.what) → ⊥) where
    read_stays : (f : Flight) → HoldsRead v told p f → HoldsRead w told p f
    read_stays f holds =
        let inside = blocks_inside v.geometry.zone_blocks p.what (omega (arith, some)) holds.inside.chunk in
        let least = holds.inside.some in
        record {
          piece = holds.piece;
          inside = piece_stays p holds.inside;
          some = holds.some;
          more = holds.more;
          size = holds.size;
          room = holds.room;
          last = last_stays p.what inside off (first_sector p.what) (sectors_within p.what f.done) f.bytes.items
              (omega arith) (omega arith) holds.last;
        }

    edges_stay : (e : Edges) → HoldsEdges v told p e → HoldsEdges w told p e
    edges_stay e holds = record {
      in_range = holds.in_range;
      writes = write_stays p.what holds.writes;
      read = λ edge some_bytes.
          let was = holds.read edge some_bytes in
          let touched = edge_touched p.what edge holds.writes.some was.0.has in (
            edge_stays p.what holds.writes.inside off holds.writes.some edge was.0,
            record {
              size = was.1.size;
              last = last_stays p.what holds.writes.inside off (8 * edge_block p.what edge) 8 (bytes_at e edge)
                  (omega (arith, touched.0)) (omega (arith, touched.1)) was.1.last;
            },
          );
    }

    hand_by : (a : Actor) (o : Operation) → HoldsBy v told p a o → HoldsBy w told p a o
    hand_by a Reading holds = ((holds.0.0, holds.0.1, read_stays holds.0.0 holds.0.2), holds.1)
    hand_by a Writing holds = (holds.0, edges_stay a.edges holds.1)
    hand_by a Discarding holds = holds
    hand_by a Flushing holds = holds

    -- WHAT AN ACTOR HOLDS
    pub hand_stays : (a : Actor) → HasInHand v told (Some p) a → HasInHand w told (Some p) a
    hand_stays a holds = hand_by a (operation_of p.what) holds
