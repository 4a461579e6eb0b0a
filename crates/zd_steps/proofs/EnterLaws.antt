-- What is entered of each caller, as its first piece is entered; and the order that a history keeps by that.
use Rattle.std.proofs.Common.{◌≡◌, ◌≢◌, ℕ, zero, suc, ◌+◌, ◌-◌, ◌<◌, ◌≤◌, Bool, cond, List, [], ◌∷◌, ◌++◌, length}
use Rattle.std.proofs.Common.{map, take, drop, set, get_or, slice_get, Some, sym, ap, ◌∙◌, arith}
use Rattle.std.proofs.lemmas.Bool.{eq-eqb, ne_eqb}
use Rattle.std.proofs.lemmas.List.{append-nil, map-append, map_more, take-append-drop}
use Rattle.std.proofs.lemmas.Option.{slice_get_within, get_or_from_slice_get, slice_get-get_or}
use Rattle.zd_model.specs.History.{Mark, HistoryEntry, mark_of_piece, mark_of_entry, marks_of_caller, IsOrdered}
use Rattle.zd_model.specs.Pieces.{pieces_of}
use Rattle.zd_model.specs.declared.requests.Piece.{Piece}
use Rattle.zd_model.specs.declared.requests.Request.{Request}
use Rattle.zd_model.proofs.OrderLaws.{marks-append}
use Rattle.zd_steps.specs.Queues.{AreLinkedFrom, Callers, HasEntered, IsFirstFrom, head_in}
use Rattle.zd_steps.proofs.LinkLaws.{nobody, one_set}

-- the marks of a caller among the first n pieces
abbrev front : ℕ → List Piece → ℕ → List Mark
front c pieces n = marks_of_caller c (map mark_of_piece (take n pieces))

own_mark : (c : ℕ) (m : Mark) → m.caller ≡ c → marks_of_caller c (m ∷ []) ≡ m ∷ []
own_mark c m e = ap (λ (b : Bool). cond b (m ∷ []) []) (eq-eqb m.caller c e)

other_mark : (c : ℕ) (m : Mark) → m.caller ≢ c → marks_of_caller c (m ∷ []) ≡ []
other_mark c m e = ap (λ (b : Bool). cond b (m ∷ []) []) (ne_eqb m.caller c e)

front_more : (c : ℕ) (pieces : List Piece) (i : ℕ) (p : Piece) → slice_get pieces i ≡ Some p
    → front c pieces (i + 1) ≡ front c pieces i ++ marks_of_caller c (mark_of_piece p ∷ [])
front_more c pieces i p at =
    ap (marks_of_caller c) (map_more mark_of_piece pieces i p (slice_get_within pieces i p at))
    ∙ marks-append c (map mark_of_piece (take i pieces)) (mark_of_piece (get_or pieces i p) ∷ [])
    ∙ ap (λ q. front c pieces i ++ marks_of_caller c (mark_of_piece q ∷ [])) (get_or_from_slice_get pieces i p p at)

-- pieces of others in front change nothing
front_others : (c : ℕ) (pieces : List Piece) (i d : ℕ) → i + d ≤ length pieces
    → ((k : ℕ) (q : Piece) → i ≤ k → k < i + d → slice_get pieces k ≡ Some q → q.caller ≢ c)
    → front c pieces (i + d) ≡ front c pieces i
front_others c pieces i zero inside none = ap (front c pieces) (omega arith)
front_others c pieces i (suc d) inside none =
    let p : Piece = get_or pieces (i + d) nobody in
    let at : slice_get pieces (i + d) ≡ Some p = slice_get-get_or pieces (i + d) nobody (omega (arith, inside)) in
    ap (front c pieces) (omega arith)
    ∙ front_more c pieces (i + d) p at
    ∙ ap (λ ms. front c pieces (i + d) ++ ms) (other_mark c (mark_of_piece p) (none (i + d) p (omega arith) (omega arith) at))
    ∙ append-nil (front c pieces (i + d))
    ∙ front_others c pieces i d (omega (arith, inside)) (λ k q low high. none k q low (omega (arith, high)))

-- up to a caller's first piece there are none of its own
front_first : (c : ℕ) (pieces : List Piece) (i j : ℕ) → IsFirstFrom pieces c i j → front c pieces j ≡ front c pieces i
front_first c pieces i j first =
    let above = first.above in
    let within = first.within in
    ap (front c pieces) (omega (arith, above))
    ∙ front_others c pieces i (j - i) (omega (arith, above, within)) (λ k q low high. first.skips k q low (omega (arith, high, above)))

-- nothing is entered while each head is its caller's first piece of all
pub none_entered : (pieces : List Piece) (links heads : List ℕ) → AreLinkedFrom pieces links heads 0
    → HasEntered (record { pieces = pieces; heads = heads }) []
none_entered pieces links heads all c = sym (front_first c pieces 0 (head_in pieces heads c) (all.firsts c))

-- a caller's first piece is entered, and its head goes on
pub one_entered : (pieces : List Piece) (heads : List ℕ) (entered : List Mark) (caller j : ℕ) (p : Piece)
    → caller < length heads → p.caller ≡ caller → slice_get pieces (head_in pieces heads caller) ≡ Some p
    → IsFirstFrom pieces caller (head_in pieces heads caller + 1) j
    → HasEntered (record { pieces = pieces; heads = heads }) entered
    → HasEntered (record { pieces = pieces; heads = set heads caller j }) (entered ++ mark_of_piece p ∷ [])
one_entered pieces heads entered caller j p known own at next before =
    one_set pieces heads caller j known (λ c n. marks_of_caller c (entered ++ mark_of_piece p ∷ []) ≡ front c pieces n) mine others
  where
    i : ℕ
    i = head_in pieces heads caller

    mine : marks_of_caller caller (entered ++ mark_of_piece p ∷ []) ≡ front caller pieces j
    mine = marks-append caller entered (mark_of_piece p ∷ [])
        ∙ ap (λ ms. ms ++ marks_of_caller caller (mark_of_piece p ∷ [])) (before caller)
        ∙ sym (front_more caller pieces (head_in pieces heads caller) p at)
        ∙ sym (front_first caller pieces (head_in pieces heads caller + 1) j next)

    others : (c : ℕ) → c ≢ caller → marks_of_caller c (entered ++ mark_of_piece p ∷ []) ≡ front c pieces (head_in pieces heads c)
    others c other = marks-append c entered (mark_of_piece p ∷ [])
        ∙ ap (λ ms. marks_of_caller c entered ++ ms) (other_mark c (mark_of_piece p) (λ e. other (sym e ∙ own)))
        ∙ append-nil (marks_of_caller c entered)
        ∙ before c

-- so each caller's entries are the first of its pieces, in their order
pub ordered : (z blocks : ℕ) (plan : List Request) (h : Callers) (history : List HistoryEntry)
    → h.pieces ≡ pieces_of z blocks plan → HasEntered h (map mark_of_entry history) → IsOrdered z blocks plan history
ordered z blocks plan h history same entered c =
    let n : ℕ = head_in h.pieces h.heads c in (
      marks_of_caller c (map mark_of_piece (drop n h.pieces)),
      ap (λ ps. marks_of_caller c (map mark_of_piece ps)) (sym same ∙ sym (take-append-drop n h.pieces))
          ∙ ap (marks_of_caller c) (map-append mark_of_piece (take n h.pieces) (drop n h.pieces))
          ∙ marks-append c (map mark_of_piece (take n h.pieces)) (map mark_of_piece (drop n h.pieces))
          ∙ ap (λ ms. ms ++ marks_of_caller c (map mark_of_piece (drop n h.pieces))) (sym (entered c)),
    )
