-- The pieces of a plan stand in the order of the script, each is of its request's caller, and no flush ends past the
-- device.
use Rattle.std.proofs.Common.{◌≡◌, ℕ, zero, suc, ◌+◌, ◌*◌, ◌<◌, ◌≤◌, true, false, cond, leb, List, [], ◌∷◌, ◌++◌}
use Rattle.std.proofs.Common.{map, slice_get, Some, All, flat_map, refl, sym, ◌∙◌, inl, inr, subst, arith}
use Rattle.std.specs.List.{AllByRecursion, enumerate_from, range_with_len}
use Rattle.std.proofs.lemmas.Bool.{cases_Bool, cond_both, false≢true, le-leb, not_from_true}
use Rattle.std.proofs.lemmas.Option.{none-some, same_Some}
use Rattle.std.proofs.lemmas.List.Elements.{All-head, All-tail}
use Rattle.zd_model.specs.Pieces.{piece_of, part_of, chunks_touched, parts_of, pieces_of_request, pieces_of}
use Rattle.zd_model.specs.Plain.{ends_past}
use Rattle.zd_model.specs.Requests.{operation_of}
use Rattle.zd_model.specs.declared.requests.What.{What}
use Rattle.zd_model.specs.declared.requests.What.TheVariants.{Read, Write, Discard, Flush, ReadSectors, WriteSectors}
use Rattle.zd_model.specs.declared.requests.Piece.{Piece}
use Rattle.zd_model.specs.declared.requests.Request.{Request}
use Rattle.zd_steps.specs.Queues.{AreInOrder, IsScriptOf, Precedes}
use Rattle.zd_steps.specs.Runs.{flushes, is_flushing}

each_more : {X : Type 0} (P : X → Type 0) (xs ys : List X) → AllByRecursion P xs → AllByRecursion P ys → AllByRecursion P (xs ++ ys)
each_more P [] ys h k = k
each_more P (x ∷ xs) ys h k = (h.0, each_more P xs ys h.1 k)

each_weaker : {X : Type 0} (P Q : X → Type 0) → ((x : X) → P x → Q x) → (xs : List X) → AllByRecursion P xs → AllByRecursion Q xs
each_weaker P Q w [] h = tt
each_weaker P Q w (x ∷ xs) h = (w x h.0, each_weaker P Q w xs h.1)

each_at : {X : Type 0} (P : X → Type 0) (xs : List X) (i : ℕ) (x : X) → AllByRecursion P xs → slice_get xs i ≡ Some x → P x
each_at P [] i x h at = absurd (none-some x at)
each_at P (y ∷ ys) zero x h at = subst P (same_Some y x at) h.0
each_at P (y ∷ ys) (suc i) x h at = each_at P ys i x h.1 at

-- each piece precedes all that follow
abbrev Ascends : List Piece → Type 0
Ascends [] = Unit {0}
Ascends (p ∷ ps) = AllByRecursion (Precedes p) ps × Ascends ps

in_order : (ps : List Piece) → Ascends ps → AreInOrder ps
in_order [] h i j p q l at_i at_j = absurd (none-some p at_i)
in_order (x ∷ xs) h i zero p q l at_i at_j = absurd (omega (arith, l))
in_order (x ∷ xs) h zero (suc j) p q l at_i at_j = subst (λ y. Precedes y q) (same_Some x p at_i) (each_at (Precedes x) xs j q h.0 at_j)
in_order (x ∷ xs) h (suc i) (suc j) p q l at_i at_j = in_order xs h.1 i j p q (omega (arith, l)) at_i at_j

ascends_more : (n : ℕ) (ps qs : List Piece) → Ascends ps → Ascends qs → AllByRecursion (λ p. p.request < n) ps → AllByRecursion (λ q. n ≤ q.request) qs → Ascends (ps ++ qs)
ascends_more n [] qs h k low high = k
ascends_more n (p ∷ ps) qs h k low high =
    let first = low.0 in (
      each_more (Precedes p) ps qs h.0 (each_weaker (λ q. n ≤ q.request) (Precedes p) (λ q l. inl (omega (arith, first, l))) qs high),
      ascends_more n ps qs h.1 k low.1 high,
    )

-- the numbered parts of a request
record IsPart (r : ℕ × Request) (k : ℕ) (p : Piece) : Type 0 where
  request : p.request ≡ r.0
  piece : k ≤ p.piece
  caller : p.caller ≡ r.1.caller

parts_are : (blocks : ℕ) (r : ℕ × Request) (k : ℕ) (parts : List What) → AllByRecursion (IsPart r k) (map (piece_of blocks r) (enumerate_from k parts))
parts_are blocks r k [] = tt
parts_are blocks r k (w ∷ ws) = (
  record { request = refl; piece = omega arith; caller = refl },
  each_weaker (IsPart r (k + 1)) (IsPart r k) (λ p h. let up = h.piece in record { request = h.request; piece = omega (arith, up); caller = h.caller }) (map (piece_of blocks r) (enumerate_from (k + 1) ws)) (parts_are blocks r (k + 1) ws),
)

parts_ascend : (blocks : ℕ) (r : ℕ × Request) (k : ℕ) (parts : List What) → Ascends (map (piece_of blocks r) (enumerate_from k parts))
parts_ascend blocks r k [] = tt
parts_ascend blocks r k (w ∷ ws) = (
  each_weaker (IsPart r (k + 1)) (Precedes (piece_of blocks r (k, w))) (λ p h. let up = h.piece in inr (sym h.request, omega (arith, up))) (map (piece_of blocks r) (enumerate_from (k + 1) ws)) (parts_are blocks r (k + 1) ws),
  parts_ascend blocks r (k + 1) ws,
)

module _ (z blocks : ℕ) where
  abbrev from_number : ℕ → List Request → List Piece
  from_number n plan = flat_map (pieces_of_request z blocks) (enumerate_from n plan)

  numbers : (n : ℕ) (plan : List Request) → AllByRecursion (λ q. n ≤ q.request) (from_number n plan)
  numbers n [] = tt
  numbers n (r ∷ rs) = each_more (λ (q : Piece). n ≤ q.request) (pieces_of_request z blocks (n, r)) (from_number (n + 1) rs)
      (each_weaker (IsPart (n, r) 0) (λ q. n ≤ q.request) (λ q h. let e = h.request in omega (arith, e)) (pieces_of_request z blocks (n, r)) (parts_are blocks (n, r) 0 (parts_of z blocks r.what)))
      (each_weaker (λ (q : Piece). n + 1 ≤ q.request) (λ q. n ≤ q.request) (λ q l. omega (arith, l)) (from_number (n + 1) rs) (numbers (n + 1) rs))

  ascend : (n : ℕ) (plan : List Request) → Ascends (from_number n plan)
  ascend n [] = tt
  ascend n (r ∷ rs) = ascends_more (n + 1) (pieces_of_request z blocks (n, r)) (from_number (n + 1) rs)
      (parts_ascend blocks (n, r) 0 (parts_of z blocks r.what))
      (ascend (n + 1) rs)
      (each_weaker (IsPart (n, r) 0) (λ q. q.request < n + 1) (λ q h. let e = h.request in omega (arith, e)) (pieces_of_request z blocks (n, r)) (parts_are blocks (n, r) 0 (parts_of z blocks r.what)))
      (numbers (n + 1) rs)

  callers : (top n : ℕ) (plan : List Request) → All (λ r. r.caller < top) plan → AllByRecursion (λ (q : Piece). q.caller < top) (from_number n plan)
  callers top n [] h = tt
  callers top n (r ∷ rs) h =
      let here : r.caller < top = All-head (λ (x : Request). x.caller < top) r rs h in
      each_more (λ (q : Piece). q.caller < top) (pieces_of_request z blocks (n, r)) (from_number (n + 1) rs)
      (each_weaker (IsPart (n, r) 0) (λ q. q.caller < top) (λ q h. let e = h.caller in omega (arith, e, here)) (pieces_of_request z blocks (n, r)) (parts_are blocks (n, r) 0 (parts_of z blocks r.what)))
      (callers top (n + 1) rs (All-tail (λ (x : Request). x.caller < top) r rs h))

-- what is no flush has parts that are none
abbrev IsNoFlush : What → Type 0
IsNoFlush what = is_flushing (operation_of what) ≡ false

part_none : (z : ℕ) (what : What) (i : ℕ) → IsNoFlush what → IsNoFlush (part_of z what i)
part_none z (Read b n) i e = refl
part_none z (Write b n s) i e = refl
part_none z (Discard b n) i e = refl
part_none z Flush i e = e
part_none z (ReadSectors f n) i e = refl
part_none z (WriteSectors f n s) i e = refl

all_none : (z : ℕ) (what : What) (is : List ℕ) → IsNoFlush what → AllByRecursion IsNoFlush (map (part_of z what) is)
all_none z what [] e = tt
all_none z what (i ∷ is) e = (part_none z what i e, all_none z what is e)

by_end : (z blocks : ℕ) (what : What) → IsNoFlush what → AllByRecursion IsNoFlush
    (cond (ends_past (8 * blocks) what) (what ∷ []) (map (part_of z what) (range_with_len 0 (chunks_touched z what))))
by_end z blocks what e = cond_both (ends_past (8 * blocks) what) (what ∷ []) (map (part_of z what) (range_with_len 0 (chunks_touched z what)))
    (AllByRecursion IsNoFlush) (λ past. (e, tt)) (λ within. all_none z what (range_with_len 0 (chunks_touched z what)) e)

parts_none : (z blocks : ℕ) (what : What) → IsNoFlush what → AllByRecursion IsNoFlush (parts_of z blocks what)
parts_none z blocks (Read b n) e = by_end z blocks (Read b n) e
parts_none z blocks (Write b n s) e = by_end z blocks (Write b n s) e
parts_none z blocks (Discard b n) e = by_end z blocks (Discard b n) e
parts_none z blocks Flush e = absurd (false≢true (sym e))
parts_none z blocks (ReadSectors f n) e = by_end z blocks (ReadSectors f n) e
parts_none z blocks (WriteSectors f n s) e = by_end z blocks (WriteSectors f n s) e

abbrev InRange : Piece → Type 0
InRange p = flushes p ≡ true → p.range ≡ false

marked : (blocks : ℕ) (r : ℕ × Request) (k : ℕ) (parts : List What) → AllByRecursion IsNoFlush parts → AllByRecursion InRange (map (piece_of blocks r) (enumerate_from k parts))
marked blocks r k [] h = tt
marked blocks r k (w ∷ ws) h = (λ f. absurd (false≢true (sym h.0 ∙ f)), marked blocks r (k + 1) ws h.1)

only_flush : (what : What) → is_flushing (operation_of what) ≡ true → what ≡ Flush
only_flush (Read b n) e = absurd (false≢true e)
only_flush (Write b n s) e = absurd (false≢true e)
only_flush (Discard b n) e = absurd (false≢true e)
only_flush Flush e = refl
only_flush (ReadSectors f n) e = absurd (false≢true e)
only_flush (WriteSectors f n s) e = absurd (false≢true e)

request_in_range : (z blocks n caller : ℕ) (what : What) → AllByRecursion InRange (pieces_of_request z blocks (n, record { caller = caller; what = what }))
request_in_range z blocks n caller what = elim (cases_Bool (is_flushing (operation_of what))) [
  | inl f ↦ subst (λ w. AllByRecursion InRange (pieces_of_request z blocks (n, record { caller = caller; what = w }))) (sym (only_flush what f)) (λ g. not_from_true (leb 0 (8 * blocks)) (le-leb 0 (8 * blocks) (omega arith)), tt)
  | inr e ↦ marked blocks (n, record { caller = caller; what = what }) 0 (parts_of z blocks what) (parts_none z blocks what e)
]

all_in_range : (z blocks n : ℕ) (plan : List Request) → AllByRecursion InRange (from_number z blocks n plan)
all_in_range z blocks n [] = tt
all_in_range z blocks n (r ∷ rs) = each_more InRange (pieces_of_request z blocks (n, r)) (from_number z blocks (n + 1) rs)
    (request_in_range z blocks n r.caller r.what) (all_in_range z blocks (n + 1) rs)

pub is_script : (z blocks limit : ℕ) (plan : List Request) → All (λ r. r.caller < limit) plan → IsScriptOf limit (pieces_of z blocks plan)
is_script z blocks limit plan below = record {
  order = in_order (pieces_of z blocks plan) (ascend z blocks 1 plan);
  callers = λ i p at. each_at (λ (q : Piece). q.caller < limit) (pieces_of z blocks plan) i p (callers z blocks limit 1 plan below) at;
  in_range = λ i p at. each_at InRange (pieces_of z blocks plan) i p (all_in_range z blocks 1 plan) at;
}
