-- A piece is entered exactly where it stands before its caller's head.
use Rattle.std.proofs.Common.{◌≡◌, ℕ, ◌<◌, true, eqb, List, map, take, slice_get, Some}
use Rattle.std.proofs.Common.{Decides, refl, sym, ap, ◌∙◌, inl, inr, subst, arith}
use Rattle.std.specs.List.{list_any}
use Rattle.std.proofs.lemmas.Bool.{and_parts, and_from, eqb-true, eq-eqb, cases_order}
use Rattle.std.proofs.lemmas.Option.{same_Some}
use Rattle.zd_model.specs.History.{Mark, mark_of_piece, marks_of_caller}
use Rattle.zd_model.specs.declared.requests.Piece.{Piece}
use Rattle.zd_steps.specs.Runs.{is_mark_of}
use Rattle.zd_steps.specs.Queues.{AreInOrder, Callers, HasEntered, Precedes, head_of}
use Rattle.zd_steps.proofs.MemberLaws.{In, any-in, in-any, in-filter, filter-in, in-front, front-in}

-- two pieces of a script with one number of request and piece are one
not_same : (p q : Piece) → Precedes p q → p.request ≡ q.request → p.piece ≡ q.piece → ⊥
not_same p q (inl l) e f = omega (arith, l, e)
not_same p q (inr b) e f = let l = b.1 in omega (arith, l, f)

pub same_place : (pieces : List Piece) → AreInOrder pieces → (i j : ℕ) (p q : Piece) → slice_get pieces i ≡ Some p
    → slice_get pieces j ≡ Some q → p.request ≡ q.request → p.piece ≡ q.piece → i ≡ j
same_place pieces order i j p q at_i at_j e f = elim (cases_order i j) [
  | inl same ↦ same
  | inr apart ↦ (elim apart [
    | inl l ↦ absurd (not_same p q (order i j p q l at_i at_j) e f)
    | inr l ↦ absurd (not_same q p (order j i q p l at_j at_i) (sym e) (sym f))
  ])
]

module _ (h : Callers) (entered : List Mark) (order : AreInOrder h.pieces) (before : HasEntered h entered)
    (i : ℕ) (p : Piece) (at : slice_get h.pieces i ≡ Some p) where
  low_from : list_any (is_mark_of p) entered ≡ true → i < head_of h p.caller
  low_from has =
      let found = any-in (is_mark_of p) entered has in
      let m : Mark = found.0 in
      let numbers = and_parts (eqb m.request p.request) (eqb m.piece p.piece) found.2 in
      let mine : In m (marks_of_caller m.caller entered) =
      filter-in (λ n. eqb n.caller m.caller) m entered found.1 (eq-eqb m.caller m.caller refl) in
      let front = in-filter (λ n. eqb n.caller m.caller) m (map mark_of_piece (take (head_of h m.caller) h.pieces))
      (subst (In m) (before m.caller) mine) in
      let place = in-front mark_of_piece m (head_of h m.caller) h.pieces front.0 in
      let q : Piece = place.1 in
      let is : mark_of_piece q ≡ m = place.4 in
      let same : place.0 ≡ i = same_place h.pieces order place.0 i q p place.3 at
      (ap (λ n. n.request) is ∙ eqb-true m.request p.request numbers.0) (ap (λ n. n.piece) is ∙ eqb-true m.piece p.piece numbers.1) in
      let one : q ≡ p = same_Some q p (sym place.3 ∙ ap (slice_get h.pieces) same ∙ at) in
      let caller : m.caller ≡ p.caller = sym (ap (λ n. n.caller) is) ∙ ap (λ x. x.caller) one in
      subst (λ c. i < head_of h c) caller (subst (λ k. k < head_of h m.caller) same place.2)

  entered_from : i < head_of h p.caller → list_any (is_mark_of p) entered ≡ true
  entered_from low =
      let front = front-in mark_of_piece (head_of h p.caller) i h.pieces p low at in
      let mine = filter-in (λ n. eqb n.caller p.caller) (mark_of_piece p) (map mark_of_piece (take (head_of h p.caller) h.pieces))
      front (eq-eqb p.caller p.caller refl) in
      let there = in-filter (λ n. eqb n.caller p.caller) (mark_of_piece p) entered
      (subst (In (mark_of_piece p)) (sym (before p.caller)) mine) in
      in-any (is_mark_of p) (mark_of_piece p) entered there.0
      (and_from (eqb p.request p.request) (eqb p.piece p.piece) (eq-eqb p.request p.request refl) (eq-eqb p.piece p.piece refl))

  pub entered_decides : Decides (list_any (is_mark_of p) entered) (i < head_of h p.caller)
  entered_decides = (low_from, entered_from)
