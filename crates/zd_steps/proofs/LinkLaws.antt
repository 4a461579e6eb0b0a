-- The links of pieces and the callers' heads: as they are built from the end, and as a head goes on.
use Rattle.std.proofs.Common.{◌≡◌, ◌≢◌, ◌⊎◌, ℕ, ◌+◌, ◌<◌, ◌≤◌, false, List, length, set}
use Rattle.std.proofs.Common.{get_or, replicate, slice_index, slice_get, Some, sym, ap, ◌∙◌, inl, inr, subst, arith}
use Rattle.std.proofs.lemmas.Bool.{cases_eq, cases_lt}
use Rattle.std.proofs.lemmas.List.{get_or-set_same, get_or-set_other, get_or_default, get_or_past}
use Rattle.std.proofs.lemmas.List.{get_or-replicate, length-replicate, length-set}
use Rattle.std.proofs.lemmas.Option.{none-some, same_Some, slice_get_within, slice_get-get_or, slice_get_past}
use Rattle.zd_model.specs.declared.requests.Piece.{Piece}
use Rattle.zd_model.specs.declared.requests.What.TheVariants.{Read}
use Rattle.zd_steps.specs.Queues.{HaveCallersBelow, IsFirstFrom, AreLinks, AreLinkedFrom, AreHeads, head_in}

-- what is read behind all pieces
abbrev pub nobody : Piece
nobody = record { caller = 0; request = 0; piece = 0; what = Read 0 0; range = false }

-- one head is set anew, the others stay
pub one_set : (pieces : List Piece) (heads : List ℕ) (caller j : ℕ) → caller < length heads → (P : ℕ → ℕ → Type 0)
    → P caller j → ((c : ℕ) → c ≢ caller → P c (head_in pieces heads c)) → (c : ℕ) → P c (head_in pieces (set heads caller j) c)
one_set pieces heads caller j known P mine others c = elim (cases_eq c caller) [
  | inl same ↦ subst (P c)
      (sym (ap (head_in pieces (set heads caller j)) same ∙ get_or-set_same heads caller j (length pieces) known))
      (subst (λ n. P n j) (sym same) mine)
  | inr other ↦ subst (P c) (sym (get_or-set_other heads caller c j (length pieces) other)) (others c other)
]

-- of a list with this piece at a place, that place is its caller's first from there on
here : (pieces : List Piece) (i : ℕ) (p : Piece) → slice_get pieces i ≡ Some p → IsFirstFrom pieces p.caller i i
here pieces i p at = record {
  above = omega arith;
  within = (let inside = slice_get_within pieces i p at in omega (arith, inside));
  own = λ q e. ap (λ x. x.caller) (same_Some q p (sym e ∙ at));
  skips = λ k q low high e. absurd (omega (arith, low, high));
}

-- a piece of another caller in front changes no first place
lower : (pieces : List Piece) (c i k : ℕ) (p : Piece) → slice_get pieces i ≡ Some p → p.caller ≢ c
    → IsFirstFrom pieces c (i + 1) k → IsFirstFrom pieces c i k
lower pieces c i k p at other first = record {
  above = (let above = first.above in omega (arith, above));
  within = first.within;
  own = first.own;
  skips = λ n q low high e. elim (cases_eq n i) [
    | inl same ↦ (λ own. other (sym (ap (λ x. x.caller) (same_Some q p (sym e ∙ ap (slice_get pieces) same ∙ at))) ∙ own))
    | inr apart ↦ first.skips n q (omega (arith, low, apart)) high e
  ];
}

-- one piece more is linked
link_one : (pieces : List Piece) (links heads : List ℕ) (i : ℕ) (p : Piece) → HaveCallersBelow 64 pieces
    → slice_get pieces i ≡ Some p → AreLinkedFrom pieces links heads (i + 1)
    → AreLinkedFrom pieces (set links i (head_in pieces heads p.caller)) (set heads p.caller i) i
link_one pieces links heads i p callers at behind = record {
  count = length-set links i (head_in pieces heads p.caller) ∙ behind.count;
  callers = length-set heads p.caller i ∙ behind.callers;
  firsts = one_set pieces heads p.caller i (let size = behind.callers in let below = callers i p at in omega (arith, size, below))
      (λ c n. IsFirstFrom pieces c i n) (here pieces i p at)
      (λ c other. lower pieces c i (head_in pieces heads c) p at (λ e. other (sym e)) (behind.firsts c));
  each = λ k q low e. one k q low e (cases_eq k i);
}
  where
    one : (k : ℕ) (q : Piece) → i ≤ k → slice_get pieces k ≡ Some q → (k ≡ i) ⊎ (k ≡ i → ⊥)
        → IsFirstFrom pieces q.caller (k + 1) (slice_index (set links i (head_in pieces heads p.caller)) k)
    one k q low e (inl same) =
        let is : q ≡ p = same_Some q p (sym e ∙ ap (slice_get pieces) same ∙ at) in
        let inside = slice_get_within pieces i p at in
        let count = behind.count in
        let value = get_or-set_same links i (head_in pieces heads p.caller) 0 (omega (arith, inside, count)) in
        subst (λ n. IsFirstFrom pieces q.caller (n + 1) (slice_index (set links i (head_in pieces heads p.caller)) n)) (sym same)
        (subst (λ x. IsFirstFrom pieces x.caller (i + 1) (slice_index (set links i (head_in pieces heads p.caller)) i)) (sym is)
        (subst (IsFirstFrom pieces p.caller (i + 1)) (sym value) (behind.firsts p.caller)))
    one k q low e (inr apart) =
        subst (IsFirstFrom pieces q.caller (k + 1)) (sym (get_or-set_other links i k (head_in pieces heads p.caller) 0 apart))
        (behind.each k q (omega (arith, low, apart)) e)

-- the same, as the code writes it
pub link_as : (pieces : List Piece) (links heads : List ℕ) (i k h : ℕ) (p : Piece) → HaveCallersBelow 64 pieces
    → i < length pieces → p ≡ get_or pieces i p → k ≡ p.caller → h ≡ get_or heads k 0
    → AreLinkedFrom pieces links heads (i + 1) → AreLinkedFrom pieces (set links i h) (set heads k i) i
link_as pieces links heads i k h p callers inside is number read behind =
    let at : slice_get pieces i ≡ Some p = slice_get-get_or pieces i p inside ∙ ap Some (sym is) in
    let size = behind.callers in
    let below = callers i p at in
    let value : h ≡ head_in pieces heads p.caller =
    read ∙ ap (λ n. get_or heads n 0) number ∙ get_or_default heads p.caller 0 (length pieces) (omega (arith, size, below)) in
    subst (λ n. AreLinkedFrom pieces (set links i h) (set heads n i) i) (sym number)
    (subst (λ n. AreLinkedFrom pieces (set links i n) (set heads p.caller i) i) (sym value)
    (link_one pieces links heads i p callers at behind))

-- behind all pieces there are none
pub link_none : (pieces : List Piece)
    → AreLinkedFrom pieces (replicate (length pieces) (length pieces)) (replicate 64 (length pieces)) (length pieces)
link_none pieces = record {
  count = length-replicate (length pieces) (length pieces);
  callers = length-replicate 64 (length pieces);
  firsts = λ c. subst (IsFirstFrom pieces c (length pieces)) (sym (value c (cases_lt c 64))) (record {
    above = omega arith;
    within = omega arith;
    own = λ p e. absurd (none-some p (sym (slice_get_past pieces (length pieces) (omega arith)) ∙ e));
    skips = λ k p low high e. absurd (omega (arith, low, high));
  });
  each = λ k p low e. absurd (none-some p (sym (slice_get_past pieces k low) ∙ e));
}
  where
    value : (c : ℕ) → (c < 64) ⊎ (64 ≤ c) → head_in pieces (replicate 64 (length pieces)) c ≡ length pieces
    value c (inl low) = get_or-replicate 64 c (length pieces) (length pieces) low
    value c (inr high) = get_or_past (replicate 64 (length pieces)) c (length pieces)
        (let size = length-replicate 64 (length pieces) in omega (arith, size, high))

pub links_of : (pieces : List Piece) (links heads : List ℕ) → AreLinkedFrom pieces links heads 0 → AreLinks pieces links
links_of pieces links heads all = record { count = all.count; each = λ k p e. all.each k p (omega arith) e }

pub heads_of : (pieces : List Piece) (links heads : List ℕ) → AreLinkedFrom pieces links heads 0 → AreHeads pieces heads
heads_of pieces links heads all = record {
  count = all.callers;
  within = λ c. (all.firsts c).within;
  own = λ c. (all.firsts c).own;
}

-- a caller's head goes on to its next piece, as the code reads the head and its link
module _ (pieces : List Piece) (links heads : List ℕ) (linked : AreLinks pieces links) (are : AreHeads pieces heads)
    (caller number j : ℕ) (is : number ≡ caller) (below : caller < 64) (some : head_in pieces heads caller < length pieces)
    (read : j ≡ get_or links (get_or heads number 0) j) where
  pub known : number < length heads
  known = let size = are.count in omega (arith, size, is, below)

  inside : head_in pieces heads number < length pieces
  inside = subst (λ n. head_in pieces heads n < length pieces) (sym is) some

  pub next_first : IsFirstFrom pieces number (head_in pieces heads number + 1) j
  next_first =
      let head : ℕ = head_in pieces heads number in
      let same : get_or heads number 0 ≡ head = get_or_default heads number 0 (length pieces) known in
      let at : slice_get pieces head ≡ Some (get_or pieces head nobody) = slice_get-get_or pieces head nobody inside in
      let value : slice_index links head ≡ j =
      get_or_default links head 0 j (let size = linked.count in omega (arith, size, inside))
      ∙ ap (λ n. get_or links n j) (sym same) ∙ sym read in
      subst (λ c. IsFirstFrom pieces c (head + 1) j) (are.own number (get_or pieces head nobody) at)
      (subst (IsFirstFrom pieces (get_or pieces head nobody).caller (head + 1)) value
      (linked.each head (get_or pieces head nobody) at))

  pub heads_on : AreHeads pieces (set heads number j)
  heads_on = record {
    count = length-set heads number j ∙ are.count;
    within = one_set pieces heads number j known (λ c n. n ≤ length pieces) next_first.within (λ c other. are.within c);
    own = one_set pieces heads number j known (λ c n. (q : Piece) → slice_get pieces n ≡ Some q → q.caller ≡ c)
        next_first.own (λ c other. are.own c);
  }

  -- it goes on, and the other heads stay
  pub head_passes : head_in pieces heads caller < head_in pieces (set heads number j) caller
  head_passes =
      let above = next_first.above in
      let value : head_in pieces (set heads number j) number ≡ j = get_or-set_same heads number j (length pieces) known in
      subst (λ n. head_in pieces heads n < head_in pieces (set heads number j) n) is (omega (arith, above, value))

  pub head_stays : (c : ℕ) → c ≢ caller → head_in pieces (set heads number j) c ≡ head_in pieces heads c
  head_stays c other = get_or-set_other heads number c j (length pieces) (λ e. other (e ∙ is))
