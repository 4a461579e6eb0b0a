-- The pieces that a plan is cut into can be served.
use Rattle.std.proofs.Common.{◌≡◌, ℕ, zero, suc, ◌+◌, ◌*◌, ◌/◌, ◌%◌, ◌<◌, ◌≤◌, All, Bool, true, false, List, []}
use Rattle.std.proofs.Common.{◌∷◌, map, slice_get, Some, refl, sym, ap, ◌∙◌, subst, arith}
use Rattle.std.proofs.Math.Arith.{mod-mul}
use Rattle.std.proofs.Math.Nat.{div-div-eq-div-mul, div-lt_iff_lt-mul}
use Rattle.std.proofs.lemmas.List.Elements.{All-head, All-tail}
use Rattle.std.proofs.lemmas.Option.{none-some, same_Some}
use Rattle.std.specs.List.{AllByRecursion, enumerate_from, flat_map, range_with_len}
use Rattle.zd_base.specs.Layout.{device_blocks}
use Rattle.zd_model.specs.Cut.{IsCut}
use Rattle.zd_model.specs.Pieces.{chunks_touched, part_of, parts_of, piece_of, pieces_of_request}
use Rattle.zd_model.specs.Plain.{ends_past}
use Rattle.zd_model.specs.Requests.{Moves, Operation, first_sector, operation_of, sector_count}
use Rattle.zd_model.specs.Requests.Operation.{Reading, Writing, Discarding, Flushing}
use Rattle.zd_model.specs.declared.requests.Piece.{Piece}
use Rattle.zd_model.specs.declared.requests.Request.{Request}
use Rattle.zd_model.specs.declared.requests.What.{What}
use Rattle.zd_model.specs.declared.requests.What.TheVariants.{Read, Write, Discard, Flush, ReadSectors}
use Rattle.zd_model.specs.declared.requests.What.TheVariants.{WriteSectors}
use Rattle.zd_model.proofs.ArrayLaws.{ends_inside, ends_within}
use Rattle.zd_model.proofs.CutLaws.{cut_up, in_one_chunk, parts_cut, parts_past, parts_within}
use Rattle.zd_model.proofs.SectorLaws.{each-append}
use Rattle.zd_plain.specs.Plan.{IsPlan, IsRequest}
use Rattle.zd_volume.specs.Discards.{chunk_touched, range_end}
use Rattle.zd_volume.specs.Flights.{chunk_of}
use Rattle.zd_volume.specs.Sets.{AreSets, device_sectors}
use Rattle.zd_volume.specs.Volumes.{PlainVolume, sets_of}
use Rattle.zd_session.specs.Sessions.{CanServe, CanServeBy, CanServeIn, pieces_on}

-- what holds of each piece holds of the one at a place
each_at : (P : Piece → Type 0) (xs : List Piece) (i : ℕ) (p : Piece) → AllByRecursion P xs → slice_get xs i ≡ Some p
    → P p
each_at P [] i p all at = absurd (none-some p at)
each_at P (x ∷ xs) zero p all at = subst P (same_Some x p at) all.0
each_at P (x ∷ xs) (suc i) p all at = each_at P xs i p all.1 at

module _ (v : PlainVolume) (are : AreSets (sets_of v)) where
  abbrev z : ℕ
  z = v.geometry.zone_blocks

  abbrev blocks : ℕ
  blocks = device_blocks v.geometry v.head.layout

  some_blocks : 1 ≤ z
  some_blocks = (let least = are.shape.size.least in omega (arith, least))

  -- the blocks that a part touches end in its chunk
  ends_in_chunk : (w : What) → first_sector w % (8 * z) + sector_count w ≤ 8 * z → range_end z w ≤ z
  ends_in_chunk w inside =
      let order : z * 8 ≡ 8 * z = omega arith in
      let split : first_sector w % (8 * z) ≡ first_sector w / 8 % z * 8 + first_sector w % 8 =
      subst (λ (n : ℕ). first_sector w % n ≡ first_sector w / 8 % z * 8 + first_sector w % 8) order
      (mod-mul (first_sector w) some_blocks (omega arith)) in
      omega (arith, split, inside)

  -- its chunk is one of the device
  begins_in_device : (w : What) → 1 ≤ sector_count w → first_sector w + sector_count w ≤ 8 * blocks
      → chunk_of v w < v.head.layout.chunks
  begins_in_device w some fits =
      let whole : 8 * (v.head.layout.chunks * z) ≡ v.head.layout.chunks * (8 * z) = omega arith in
      let least = some_blocks in
      (div-lt_iff_lt-mul {k = 8 * z} {x = first_sector w} {y = v.head.layout.chunks} (omega (arith, least))).1
      (omega (arith, whole, some, fits))

  touched_in_device : (w : What) → 1 ≤ sector_count w → first_sector w + sector_count w ≤ 8 * blocks
      → chunk_touched z w < v.head.layout.chunks
  touched_in_device w some fits =
      subst (λ (n : ℕ). n < v.head.layout.chunks) (sym (div-div-eq-div-mul (first_sector w) 8 z))
      (begins_in_device w some fits)

  -- A PART in the device, of one chunk
  part_can : (p : Piece) (o : Operation) → p.range ≡ false → operation_of p.what ≡ o → 1 ≤ sector_count p.what
      → first_sector p.what % (8 * z) + sector_count p.what ≤ 8 * z
      → first_sector p.what + sector_count p.what ≤ 8 * blocks → CanServeIn v p o
  part_can p Reading range is some inside fits = record {
    range = range;
    some = some;
    device = begins_in_device p.what some fits;
    chunk = inside;
  }
  part_can p Writing range is some inside fits = record {
    writes = is;
    some = some;
    inside = ends_in_chunk p.what inside;
    there = touched_in_device p.what some fits;
  }
  part_can p Discarding range is some inside fits = record {
    discards = is;
    inside = ends_in_chunk p.what inside;
    there = touched_in_device p.what some fits;
  }
  part_can p Flushing range is some inside fits = tt

  -- a part as a piece, marked so
  abbrev piece : Request → ℕ → Bool → ℕ × What → Piece
  piece r number past part =
      record { caller = r.caller; request = number; piece = part.0; what = part.1; range = past }

  -- the parts of a cut that ends inside the device
  cut_can : (r : Request) (number k from to : ℕ) (is : List ℕ) → to ≤ 8 * blocks
      → IsCut z from to (map (part_of z r.what) is)
      → AllByRecursion (CanServe v) (map (piece r number false) (enumerate_from k (map (part_of z r.what) is)))
  cut_can r number k from to [] fits cut = tt
  cut_can r number k from to (i ∷ is) fits cut =
      let part : What = part_of z r.what i in
      let up = cut_up z (from + sector_count part) to (map (part_of z r.what) is) cut.3 in (
        part_can (piece r number false (k, part)) (operation_of part) refl refl
            cut.1
            (subst (λ (n : ℕ). n % (8 * z) + sector_count part ≤ 8 * z) (sym cut.0)
            (in_one_chunk (8 * z) from (sector_count part)
            (let least = some_blocks in omega (arith, least)) cut.1 cut.2))
            (let first = cut.0 in omega (arith, first, up, fits)),
        cut_can r number (k + 1) (from + sector_count part) to is fits cut.3,
      )

  -- a request that moves sectors, by whether it ends past the device
  moving_can : (r : Request) (number : ℕ) → Moves (operation_of r.what) → 1 ≤ sector_count r.what
      → (past : Bool) → ends_past (8 * blocks) r.what ≡ past
      → AllByRecursion (CanServe v) (map (piece r number past) (enumerate_from 0 (parts_of z blocks r.what)))
  moving_can r number moves some true is =
      let same : 8 * blocks ≡ device_sectors (sets_of v) = omega arith in
      rw (parts_past z blocks r.what is) (ap (λ (n : ℕ). ends_past n r.what) (sym same) ∙ is, tt)
  moving_can r number moves some false is =
      rw (parts_within z blocks r.what is)
      (cut_can r number 0 (first_sector r.what) (first_sector r.what + sector_count r.what)
      (range_with_len 0 (chunks_touched z r.what)) (ends_within (8 * blocks) r.what is)
      (parts_cut z r.what some_blocks moves some))

  request_can : (number : ℕ) (r : Request) → IsRequest r
      → AllByRecursion (CanServe v) (pieces_of_request z blocks (number, r))
  request_can number r may = by_operation r.what refl
    where
      moving : Moves (operation_of r.what) → AllByRecursion (CanServe v) (pieces_of_request z blocks (number, r))
      moving moves = moving_can r number moves (may.some moves) (ends_past (8 * blocks) r.what) refl

      by_operation : (w : What) → r.what ≡ w → AllByRecursion (CanServe v) (pieces_of_request z blocks (number, r))
      by_operation (Read b c) is = moving (subst (λ (w : What). Moves (operation_of w)) (sym is) tt)
      by_operation (Write b c s) is = moving (subst (λ (w : What). Moves (operation_of w)) (sym is) tt)
      by_operation (Discard b c) is = moving (subst (λ (w : What). Moves (operation_of w)) (sym is) tt)
      by_operation (ReadSectors b c) is = moving (subst (λ (w : What). Moves (operation_of w)) (sym is) tt)
      by_operation (WriteSectors b c s) is = moving (subst (λ (w : What). Moves (operation_of w)) (sym is) tt)
      by_operation Flush is =
          let flush : Piece = piece_of blocks (number, record { caller = r.caller; what = Flush }) (0, Flush) in
          rw is (
            subst (λ (b : Bool). CanServeBy v flush b)
                (sym (ends_inside (8 * blocks) Flush (omega arith))) tt,
            tt,
          )

  plan_can : (number : ℕ) (plan : List Request) → All IsRequest plan
      → AllByRecursion (CanServe v) (flat_map (pieces_of_request z blocks) (enumerate_from number plan))
  plan_can number [] each = tt
  plan_can number (r ∷ plan) each =
      each-append (CanServe v) (pieces_of_request z blocks (number, r)) _
      (request_can number r (All-head IsRequest r plan each))
      (plan_can (number + 1) plan (All-tail IsRequest r plan each))

  -- THE PIECES OF A PLAN
  pub pieces_can : (plan : List Request) → IsPlan plan → (i : ℕ) (p : Piece) → slice_get (pieces_on v plan) i ≡ Some p
      → CanServe v p
  pieces_can plan is i p at = each_at (CanServe v) (pieces_on v plan) i p (plan_can 1 plan is.each) at
