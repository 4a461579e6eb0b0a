-- A history in time and in order, with one more entry.
use Rattle.std.proofs.Common.{◌≡◌, ℕ, ◌+◌, ◌≤◌, Bool, true, false, cond, List, [], ◌∷◌, ◌++◌, map, refl, sym, ap, ◌∙◌, eqb, subst}
use borrow.Author.Tests.{eqb-true}
use Rattle.std.proofs.lemmas.List.{append_assoc, map-append, append-nil}
use Rattle.zd_model.specs.Pieces.{pieces_of}
use Rattle.zd_model.specs.History.{InTime, waits, IsOrdered, Mark, mark_of_piece, mark_of_entry, marks_of_caller}
use Rattle.zd_model.specs.History.{HistoryEntry}
use Rattle.zd_model.specs.declared.requests.Request.{Request}

-- e may come after the last of the history
abbrev pub ComesAfter : ℕ → List HistoryEntry → HistoryEntry → Type 0
ComesAfter sectors [] e = Unit {0}
ComesAfter sectors (f ∷ []) e = f.at + waits sectors e.what ≤ e.at
ComesAfter sectors (f ∷ g ∷ history) e = ComesAfter sectors (g ∷ history) e

pub in_time-push : (sectors : ℕ) (history : List HistoryEntry) (e : HistoryEntry) → InTime sectors history → ComesAfter sectors history e → InTime sectors (history ++ e ∷ [])
in_time-push sectors [] e h c = tt
in_time-push sectors (f ∷ []) e h c = (c, tt)
in_time-push sectors (f ∷ g ∷ history) e h c = (h.0, in_time-push sectors (g ∷ history) e h.1 c)

pub marks-append : (caller : ℕ) (xs ys : List Mark) → marks_of_caller caller (xs ++ ys) ≡ marks_of_caller caller xs ++ marks_of_caller caller ys
marks-append caller [] ys = refl
marks-append caller (m ∷ xs) ys = ap (λ rest. cond (eqb m.caller caller) (m ∷ rest) rest) (marks-append caller xs ys) ∙ outside (eqb m.caller caller)
  where
    outside : (b : Bool) → cond b (m ∷ (marks_of_caller caller xs ++ marks_of_caller caller ys)) (marks_of_caller caller xs ++ marks_of_caller caller ys) ≡ cond b (m ∷ marks_of_caller caller xs) (marks_of_caller caller xs) ++ marks_of_caller caller ys
    outside true = refl
    outside false = refl

marks-push : (caller : ℕ) (history : List HistoryEntry) (e : HistoryEntry) → marks_of_caller caller (map mark_of_entry (history ++ e ∷ [])) ≡ marks_of_caller caller (map mark_of_entry history) ++ marks_of_caller caller (mark_of_entry e ∷ [])
marks-push caller history e = ap (marks_of_caller caller) (map-append mark_of_entry history (e ∷ [])) ∙ marks-append caller (map mark_of_entry history) (mark_of_entry e ∷ [])

-- the next piece of its caller is entered
pub ordered-push : (z blocks : ℕ) (plan : List Request) (history : List HistoryEntry) (e : HistoryEntry) (rest : List Mark) → IsOrdered z blocks plan history → marks_of_caller e.caller (map mark_of_piece (pieces_of z blocks plan)) ≡ marks_of_caller e.caller (map mark_of_entry history) ++ mark_of_entry e ∷ rest → IsOrdered z blocks plan (history ++ e ∷ [])
ordered-push z blocks plan history e rest ordered next caller = by_caller (eqb e.caller caller) refl
  where
    done : List Mark
    done = marks_of_caller caller (map mark_of_entry history)

    by_caller : (b : Bool) → eqb e.caller caller ≡ b → (others : List Mark) × (marks_of_caller caller (map mark_of_piece (pieces_of z blocks plan)) ≡ marks_of_caller caller (map mark_of_entry (history ++ e ∷ [])) ++ others)
    by_caller true same = (
      rest,
      subst (λ c. marks_of_caller c (map mark_of_piece (pieces_of z blocks plan)) ≡ marks_of_caller c (map mark_of_entry history) ++ mark_of_entry e ∷ rest) (eqb-true e.caller caller same) next
          ∙ sym (append_assoc done (mark_of_entry e ∷ []) rest)
          ∙ ap (λ (b : Bool). (done ++ cond b (mark_of_entry e ∷ []) []) ++ rest) (sym same)
          ∙ ap (λ (xs : List Mark). xs ++ rest) (sym (marks-push caller history e)),
    )
    by_caller false other =
        let old = ordered caller in (
          old.0,
          old.1
              ∙ ap (λ (xs : List Mark). xs ++ old.0) (sym (append-nil done))
              ∙ ap (λ (b : Bool). (done ++ cond b (mark_of_entry e ∷ []) []) ++ old.0) (sym other)
              ∙ ap (λ (xs : List Mark). xs ++ old.0) (sym (marks-push caller history e)),
        )
