-- The requests that numbers make are right ones of few blocks, so their plan is that of a script.
use Rattle.std.proofs.Common.{◌≡◌, ℕ, zero, suc, ◌+◌, ◌-◌, ◌*◌, ◌%◌, ◌^◌, ◌<◌, ◌≤◌, false, List, [], ◌∷◌, ◌++◌}
use Rattle.std.proofs.Common.{map, min, length, sym, arith, lit<, lit≤}
use Rattle.std.specs.Prelude.{sum_by}
use Rattle.std.specs.List.{AllByRecursion, flat_map, range_with_len}
use Rattle.std.proofs.lemmas.Fmt.{length-decimal-le}
use Rattle.std.proofs.lemmas.List.{append-nil, length-append}
use Rattle.std.proofs.lemmas.List.FromFn.{length-map-range_with_len}
use Rattle.std.proofs.lemmas.List.Sums.{sum_by-le}
use Rattle.zd_model.specs.Plain.{ends_past}
use Rattle.zd_model.specs.Requests.{Operation}
use Rattle.zd_model.specs.Requests.Operation.{Reading, Writing, Discarding, Flushing}
use Rattle.zd_model.specs.Script.{HasNumbers, discarded_blocks, letters_of, line_text, moved_blocks, numbers_of}
use Rattle.zd_model.specs.Text.{numeral}
use Rattle.zd_model.specs.declared.requests.Request.{Request}
use Rattle.zd_model.specs.declared.requests.What.{What}
use Rattle.zd_model.specs.declared.requests.What.TheVariants.{Read, Write, Discard, Flush, ReadSectors, WriteSectors}
use Rattle.zd_model.proofs.ArrayLaws.{ends_inside}
use Rattle.zd_model.proofs.Decimals.{numeral_decimal}
use Rattle.zd_model.proofs.SectorLaws.{each-at}
use Rattle.zd_model.proofs.TouchLaws.{count_is_own}
use Rattle.zd_plain.specs.Plan.{AsksForSome, IsPlan, IsRequest}
use Rattle.zd_script.specs.Generator.{AreInDevice, Draws, IsWritten, block_made, count_made, draws_of, made}
use Rattle.zd_script.specs.Generator.{request_of, what_made}
use Rattle.zd_script.proofs.PlanLaws.{AllByRecursion-map}

-- LINES
length-numeral : (n : ℕ) → n < 2 ^ 64 → length (numeral n) ≤ 20
length-numeral n small = rw (numeral_decimal n small) (length-decimal-le 20 n (lit< tt) (omega arith) small)

short_fields : (ns : List ℕ) → AllByRecursion (λ n. n < 2 ^ 64) ns
    → length (flat_map (λ n. 32 ∷ numeral n) ns) ≤ 21 * length ns
short_fields [] small = lit≤ tt
short_fields (n ∷ ns) small =
    let first = length-numeral n small.0 in
    let rest = short_fields ns small.1 in
    omega (arith, length-append (numeral n) (flat_map (λ m. 32 ∷ numeral m) ns))

short_letters : (what : What) → length (letters_of what) ≤ 2
short_letters (Read block count) = lit≤ tt
short_letters (Write block count seed) = lit≤ tt
short_letters (Discard block count) = lit≤ tt
short_letters Flush = lit≤ tt
short_letters (ReadSectors sector count) = lit≤ tt
short_letters (WriteSectors sector count seed) = lit≤ tt

few_numbers : (what : What) → length (numbers_of what) ≤ 3
few_numbers (Read block count) = lit≤ tt
few_numbers (Write block count seed) = lit≤ tt
few_numbers (Discard block count) = lit≤ tt
few_numbers Flush = lit≤ tt
few_numbers (ReadSectors sector count) = lit≤ tt
few_numbers (WriteSectors sector count seed) = lit≤ tt

small_numbers : (what : What) → HasNumbers what → AllByRecursion (λ n. n < 2 ^ 64) (numbers_of what)
small_numbers (Read block count) has = (has.place_most, (let c = has.count_most in omega arith, tt))
small_numbers (Write block count seed) has =
    (has.0.place_most, (let c = has.0.count_most in omega arith, (let s = has.1 in omega arith, tt)))
small_numbers (Discard block count) has = (has.place_most, (let c = has.count_most in omega arith, tt))
small_numbers Flush has = tt
small_numbers (ReadSectors sector count) has = (has.place_most, (let c = has.count_most in omega arith, tt))
small_numbers (WriteSectors sector count seed) has =
    (has.0.place_most, (let c = has.0.count_most in omega arith, (let s = has.1 in omega arith, tt)))

short_text : (xs ys : List ℕ) → length xs ≤ 2 → length ys ≤ 84 → length (xs ++ ys ++ 10 ∷ []) ≤ 128
short_text xs ys few short = omega (arith, length-append (xs ++ ys) (10 ∷ []), length-append xs ys)

-- the line of a request with numbers of 64 bits
short_line : (r : Request) → HasNumbers r.what → r.caller ≤ 63 → length (line_text r) ≤ 128
unfolding line_text
short_line r has caller =
    let ns : List ℕ = r.caller ∷ numbers_of r.what in
    let each = short_fields ns (omega arith, small_numbers r.what has) in
    let few = few_numbers r.what in
    short_text (letters_of r.what) (flat_map (λ n. 32 ∷ numeral n) ns) (short_letters r.what) (omega arith)

-- PLANS OF SMALL REQUESTS
-- a right request of at most 8 blocks
pub record IsSmall (r : Request) : Type 0 where
  pub numbers : HasNumbers r.what
  pub caller : r.caller ≤ 63
  pub moved : moved_blocks r.what ≤ 8
  pub discarded : discarded_blocks r.what ≤ 8

few_in_all : (f : Request → ℕ) (plan : List Request) → AllByRecursion (λ r. f r ≤ 8) plan
    → sum_by f plan ≤ length plan * 8
few_in_all f plan each = sum_by-le f 8 plan (each-at (λ r. f r ≤ 8) plan each)

short_in_all : (plan : List Request) → AllByRecursion IsSmall plan
    → length (flat_map line_text plan) ≤ 128 * length plan
short_in_all [] each = lit≤ tt
short_in_all (r ∷ plan) each =
    let first = short_line r each.0.numbers each.0.caller in
    let rest = short_in_all plan each.1 in
    omega (arith, length-append (line_text r) (flat_map line_text plan))

-- so many of them are within the limits of a script
pub written : (plan : List Request) → AllByRecursion IsSmall plan → length plan ≤ 4096 → IsWritten plan
written plan each few = record {
  size = let short = short_in_all plan each in omega arith;
  lines = record {
    text = sym (append-nil (flat_map line_text plan));
    numbers = AllByRecursion-map IsSmall (λ r. HasNumbers r.what) (λ r h. h.numbers) plan each;
    callers = AllByRecursion-map IsSmall (λ r. r.caller ≤ 63) (λ r h. h.caller) plan each;
    limits = record {
      requests = omega arith;
      moved = let most = few_in_all (λ r. moved_blocks r.what) plan
          (AllByRecursion-map IsSmall (λ r. moved_blocks r.what ≤ 8) (λ r h. h.moved) plan each) in omega arith;
      discarded = let most = few_in_all (λ r. discarded_blocks r.what) plan
          (AllByRecursion-map IsSmall (λ r. discarded_blocks r.what ≤ 8) (λ r h. h.discarded) plan each) in omega arith;
    };
  };
}

-- WHAT IS MADE
has_numbers : (operation : Operation) (block count seed : ℕ) → block < 2 ^ 64 → 1 ≤ count → count ≤ 8 → seed < 2 ^ 32
    → HasNumbers (what_made operation block count seed)
has_numbers Reading block count seed place some few known =
    record { place_most = place; some = some; count_most = omega arith }
has_numbers Writing block count seed place some few known =
    (record { place_most = place; some = some; count_most = omega arith }, known)
has_numbers Discarding block count seed place some few known =
    record { place_most = place; some = some; count_most = omega arith }
has_numbers Flushing block count seed place some few known = tt

moves_few : (operation : Operation) (block count seed : ℕ) → count ≤ 8
    → moved_blocks (what_made operation block count seed) ≤ 8
moves_few Reading block count seed few = rw (count_is_own block count) few
moves_few Writing block count seed few = rw (count_is_own block count) few
moves_few Discarding block count seed few = lit≤ tt
moves_few Flushing block count seed few = lit≤ tt

discards_few : (operation : Operation) (block count seed : ℕ) → count ≤ 8
    → discarded_blocks (what_made operation block count seed) ≤ 8
discards_few Reading block count seed few = lit≤ tt
discards_few Writing block count seed few = lit≤ tt
discards_few Discarding block count seed few = rw (count_is_own block count) few
discards_few Flushing block count seed few = lit≤ tt

asks_for_some : (operation : Operation) (block count seed : ℕ) → 1 ≤ count
    → AsksForSome (what_made operation block count seed)
asks_for_some Reading block count seed some moves = omega arith
asks_for_some Writing block count seed some moves = omega arith
asks_for_some Discarding block count seed some moves = omega arith
asks_for_some Flushing block count seed some moves = absurd moves

in_device : (operation : Operation) (block count seed blocks : ℕ) → block + count ≤ blocks
    → ends_past (8 * blocks) (what_made operation block count seed) ≡ false
in_device Reading block count seed blocks fits = ends_inside (8 * blocks) (Read block count) (omega arith)
in_device Writing block count seed blocks fits = ends_inside (8 * blocks) (Write block count seed) (omega arith)
in_device Discarding block count seed blocks fits = ends_inside (8 * blocks) (Discard block count) (omega arith)
in_device Flushing block count seed blocks fits = ends_inside (8 * blocks) Flush (omega arith)

-- blocks of the device, from one to eight
pub record IsPart (blocks block count : ℕ) : Type 0 where
  pub place : block < blocks
  pub some : 1 ≤ count
  pub few : count ≤ 8
  pub fits : block + count ≤ blocks

is_part : (blocks x y : ℕ) → 1 ≤ blocks → IsPart blocks (x % blocks) (min (1 + y % 8) (blocks - x % blocks))
is_part blocks x y device = record { place = omega arith; some = omega arith; few = omega arith; fits = omega arith }

module _ (seed blocks : ℕ) (device : 1 ≤ blocks) where
  abbrev request_at : ℕ → Request
  request_at q = request_of blocks q (draws_of seed q)

  part : (q : ℕ) → IsPart blocks (block_made blocks (draws_of seed q)) (count_made blocks (draws_of seed q))
  part q = let d : Draws = draws_of seed q in is_part blocks (65537 * d.high + d.low) d.count device

  small_request : (q : ℕ) → blocks < 2 ^ 64 → q < 2 ^ 32 → IsSmall (request_at q)
  small_request q small known =
      let p = part q in
      let place : block_made blocks (draws_of seed q) < 2 ^ 64 = let low = p.place in omega arith in
      record {
        numbers = has_numbers _ _ _ q place p.some p.few known;
        caller = omega arith;
        moved = moves_few _ _ _ q p.few;
        discarded = discards_few _ _ _ q p.few;
      }

  right_request : (q : ℕ) → IsRequest (request_at q)
  right_request q = record { caller = omega arith; some = asks_for_some _ _ _ q (part q).some }

  all_made : (P : Request → Type 0) (a n most : ℕ) → a + n ≤ most
      → ((q : ℕ) → q < most → P (request_at q)) → AllByRecursion P (map request_at (range_with_len a n))
  all_made P a zero most low each = tt
  all_made P a (suc n) most low each =
      (each a (omega arith), all_made P (a + 1) n most (omega arith) each)

  pub plan_made : (n : ℕ) → n < 2 ^ 32 → IsPlan (made seed n blocks)
  plan_made n few = record {
    count = rw (length-map-range_with_len request_at 1 n) few;
    each = each-at IsRequest (made seed n blocks)
        (all_made IsRequest 1 n (1 + n) (omega arith) (λ q low. right_request q));
  }

  pub made_inside : (n : ℕ) → AreInDevice blocks (made seed n blocks)
  made_inside n =
      all_made (λ r. ends_past (8 * blocks) r.what ≡ false) 1 n (1 + n) (omega arith)
      (λ q low. in_device _ _ _ q blocks (part q).fits)

  pub made_written : (n : ℕ) → n ≤ 4096 → blocks < 2 ^ 64 → IsWritten (made seed n blocks)
  made_written n few small =
      written (made seed n blocks)
      (all_made IsSmall 1 n (1 + n) (omega arith) (λ q low. small_request q small (omega arith)))
      (rw (length-map-range_with_len request_at 1 n) few)
