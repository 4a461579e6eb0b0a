-- The rule gives what `specs/Law.antt` says.
use Rattle.std.proofs.Common.{◌≡◌, ◌⊎◌, ℕ, List, get_or, sym, refl, ap, ◌∙◌, subst, inl, inr, arith, Option, Some, None}
use mathlib.Core.Option.{some, none, some-injective, some-ne-none}
use mathlib.Core.Option as maybe
use lib.ListN.{get_elem?}
use Rattle.atomic_table.specs.Table.{State}
use Rattle.zd_workers.specs.declared.view.SeatView.{SeatView}
use Rattle.zd_workers.specs.declared.view.SeatRole.{SeatRole}
use Rattle.zd_workers.specs.declared.view.SeatRole.TheVariants.{Spent, Waits, Opens, Holds}
use Rattle.zd_workers.specs.Turns.{Place, free, opening, held, word_of, home_of, FitsPlace, Carries, IsSeated, TurnKept}
use Rattle.zd_workers.specs.Law.{HasTurn, IsOneTurn}

module _ {T : Type 0} where
  -- the seat that a place names
  has : (p : Place T) (j : ℕ) (role : SeatRole) → HasTurn role → FitsPlace p j role → (p ≡ opening j) ⊎ (p ≡ held j)
  has p j Spent h f = absurd h
  has p j Waits h f = absurd h
  has p j Opens h f = inl f.0
  has p j Holds h f = inr f

  same_seat : (p : Place T) (i j : ℕ) → (p ≡ opening i) ⊎ (p ≡ held i) → (p ≡ opening j) ⊎ (p ≡ held j) → i ≡ j
  same_seat p i j (inl a) (inl b) = cc
  same_seat p i j (inl a) (inr b) = cc
  same_seat p i j (inr a) (inl b) = cc
  same_seat p i j (inr a) (inr b) = cc

  taken_word : (p : Place T) (j : ℕ) → (p ≡ opening j) ⊎ (p ≡ held j) → word_of p ≡ 1
  taken_word p j (inl a) = ap word_of a
  taken_word p j (inr a) = ap word_of a

  zero_or_one : (p : Place T) → (word_of p ≡ 0) ⊎ (word_of p ≡ 1)
  zero_or_one (free x) = inl refl
  zero_or_one (opening j) = inr refl
  zero_or_one (held j) = inr refl

  sits : (p : Place T) (views : List SeatView) → word_of p ≡ 1 → IsSeated p views → (j : ℕ) × (v : SeatView) × (get_elem? views j ≡ some v) × HasTurn v.role
  sits (free x) views one h = absurd (omega arith)
  sits (opening j) views one h = (j, h.0, h.1, subst HasTurn (sym h.2) tt)
  sits (held j) views one h = (j, h.0, h.1, subst HasTurn (sym h.2) tt)

  is_out : (p : Place T) (views : List SeatView) → home_of p ≡ none → IsSeated p views → (j : ℕ) × (v : SeatView) × (get_elem? views j ≡ some v) × (v.role ≡ Holds)
  is_out (free x) views e h = absurd (some-ne-none (Some x) e)
  is_out (opening j) views e h = let x : Option T = None in absurd (some-ne-none x e)
  is_out (held j) views e h = (j, h.0, h.1, h.2)

  module _ (constant_of : T → List (List ℕ)) where
    at_home : (p : Place T) (constant : List (List ℕ)) → word_of p ≡ 0 → Carries constant_of p constant → (x : T) × (home_of p ≡ some (Some x)) × (constant_of x ≡ constant)
    at_home (free x) constant e c = (x, refl, c)
    at_home (opening j) constant e c = absurd (omega arith)
    at_home (held j) constant e c = absurd (omega arith)

    pub said : (s : State (Option T) SeatView) → TurnKept constant_of s → IsOneTurn constant_of s
    said s r =
        let p : Place T = r.place in
        let word : get_or s.words 0 0 ≡ word_of p = ap (λ (l : List ℕ). get_or l 0 0) r.words in
        let slot : get_elem? s.homes 0 ≡ some (home_of p) = ap (λ (l : List (maybe.Option (Option T))). get_elem? l 0) r.homes in record {
          word = subst (λ (n : ℕ). (n ≡ 0) ⊎ (n ≡ 1)) (sym word) (zero_or_one p);
          taken = ((λ one. sits p s.views (sym word ∙ one) r.seated), λ t. word ∙ taken_word p t.0 (has p t.0 t.1.role t.3 (r.each_seat t.0 t.1 t.2).1));
          once = λ i j v w a b h k. same_seat p i j (has p i v.role h (r.each_seat i v a).1) (has p j w.role k (r.each_seat j w b).1);
          home = λ none_has. let t = at_home p r.constant (sym word ∙ none_has) r.carries in
              (t.0, slot ∙ ap (λ (h : maybe.Option (Option T)). some h) t.1, λ j v at live. (r.each_seat j v at).0 live ∙ sym t.2);
          out = (
            (λ o. is_out p s.views (some-injective (home_of p) none (sym slot ∙ o)) r.seated),
            λ t. slot ∙ ap (λ (q : Place T). some (home_of q)) (subst (FitsPlace p t.0) t.3 (r.each_seat t.0 t.1 t.2).1),
          );
          maker = λ j v at is. (subst (FitsPlace p j) is (r.each_seat j v at).1).1;
          same = λ i j v w a b h k. (r.each_seat i v a).0 h ∙ sym ((r.each_seat j w b).0 k);
        }
