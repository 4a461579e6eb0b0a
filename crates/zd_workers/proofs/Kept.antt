-- Each step keeps the rule of the turn.
use Rattle.std.proofs.Common.{◌≡◌, ◌≢◌, ℕ, zero, suc, eqb, List, [], ◌∷◌, ◌++◌, get_or, set, sym, refl, ap, ◌∙◌, subst, ⊎_elim, arith, Option, Some, None}
use mathlib.Core.Option.{none, some, some-injective, some-ne-none}
use mathlib.Core.Option as maybe
use lib.ListN.{get_elem?}
use prog.Atomic.{either}
use Rattle.atomic_table.specs.Table.{State, Me, step, Act, keeps, takes, gives, rest, put_back, stepped, carried_after, Valid, Allows, Splits, Joins, opening as at_start}
use Rattle.atomic_table.proofs.Lists.{at_set, set_else, set_again, at_snoc, at_longer}
use Rattle.zd_workers.specs.declared.view.SeatView.{SeatView}
use Rattle.zd_workers.specs.declared.view.SeatRole.{SeatRole}
use Rattle.zd_workers.specs.declared.view.SeatRole.TheVariants.{Spent, Waits, Opens, Holds}
use Rattle.zd_workers.specs.Turns.{Place, free, opening, held, as_view, word_of, home_of, FitsPlace, Knows, IsSeated, Carries, TurnKept, tried, opened, released, beside}

set_there : {A : Type 0} (l : List A) (i : ℕ) (a b : A) → get_elem? l i ≡ some a → get_elem? (set l i b) i ≡ some b
set_there [] i a b e = absurd (some-ne-none a (sym e))
set_there (x ∷ xs) zero a b e = refl
set_there (x ∷ xs) (suc i) a b e = set_there xs i a b e

seats_stay : (K : ℕ → SeatView → Type 0) (vs : List SeatView) (me : ℕ) (w : SeatView) → K me w → ((j : ℕ) (d : SeatView) → j ≢ me → get_elem? vs j ≡ some d → K j d) → (j : ℕ) (d : SeatView) → get_elem? (set vs me w) j ≡ some d → K j d
seats_stay K vs me w mine others j d e = ⊎_elim (λ (t : (j ≡ me) × (w ≡ d)). subst (λ (x : ℕ × SeatView). K x.0 x.1) (λ i. (sym t.0 i, t.1 i)) mine)
    (λ (t : (j ≢ me) × (get_elem? vs j ≡ some d)). others j d t.0 t.1) (at_set vs me j w d e)

alone : (v : SeatView) (K : ℕ → SeatView → Type 0) → K 0 v → (j : ℕ) (d : SeatView) → get_elem? (v ∷ []) j ≡ some d → K j d
alone v K here zero d e = subst (K 0) (some-injective v d e) here
alone v K here (suc j) d e = absurd (some-ne-none d (sym e))

live : (role other : SeatRole) → role ≡ other → other ≢ Spent → role ≢ Spent
live role other e ne z = ne (sym e ∙ z)

waits_live : Waits ≢ Spent
waits_live e = cc

opens_live : Opens ≢ Spent
opens_live e = cc

holds_live : Holds ≢ Spent
holds_live e = cc

-- the view at j is not one that waits
elsewhere : (views : List SeatView) (j other : ℕ) (v w : SeatView) → get_elem? views j ≡ some v → get_elem? views other ≡ some w → v.role ≢ w.role → j ≢ other
elsewhere views j other v w a b ne same = ne (ap (λ (x : SeatView). x.role) (some-injective v w (sym a ∙ (ap (get_elem? views) same ∙ b))))

module _ {T : Type 0} where
  free_apart : (p : Place T) (x : T) (j : ℕ) → p ≡ free x → (p ≢ opening j) × (p ≢ held j)
  free_apart p x j e = ((λ z. cc), λ z. cc)

  opening_apart : (p : Place T) (i j : ℕ) → p ≡ opening i → j ≢ i → (p ≢ opening j) × (p ≢ held j)
  opening_apart p i j e other = ((λ z. let same : j ≡ i = cc in absurd (other same)), λ z. cc)

  held_apart : (p : Place T) (i j : ℕ) → p ≡ held i → j ≢ i → (p ≢ opening j) × (p ≢ held j)
  held_apart p i j e other = ((λ z. cc), λ z. let same : j ≡ i = cc in absurd (other same))

  -- a seat that does not have the turn knows the same of any other place
  others : (p q : Place T) (j : ℕ) → p ≢ opening j → p ≢ held j → (role : SeatRole) → FitsPlace p j role → FitsPlace q j role
  others p q j a b Spent f = tt
  others p q j a b Waits f = tt
  others p q j a b Opens f = absurd (a f.0)
  others p q j a b Holds f = absurd (b f)

  longer : (p : Place T) (views : List SeatView) (w : SeatView) → IsSeated p views → IsSeated p (views ++ w ∷ [])
  longer (free x) views w h = tt
  longer (opening j) views w h = (h.0, at_longer views (w ∷ []) j h.0 h.1, h.2)
  longer (held j) views w h = (h.0, at_longer views (w ∷ []) j h.0 h.1, h.2)

  without : (p : Place T) (views : List SeatView) (other : ℕ) (w : SeatView) → w.role ≡ Waits → get_elem? views other ≡ some w → IsSeated p views → IsSeated p (set views other (as_view Spent []))
  without (free x) views other w is there h = tt
  without (opening j) views other w is there h = let ne : j ≢ other = elsewhere views j other h.0 w h.1 there (λ z. let r = h.2 in cc) in (h.0, set_else views other j (as_view Spent []) ne ∙ h.1, h.2)
  without (held j) views other w is there h = let ne : j ≢ other = elsewhere views j other h.0 w h.1 there (λ z. let r = h.2 in cc) in (h.0, set_else views other j (as_view Spent []) ne ∙ h.1, h.2)

  module _ (constant_of : T → List (List ℕ)) where
    abbrev St : Type 0
    St = State (Option T) SeatView

    abbrev M : Type 0
    M = Me (Option T) SeatView

    abbrev Rule : St → Type 0
    Rule = TurnKept constant_of

    fits : (s : St) (r : Rule s) (id : ℕ) (v : SeatView) (role : SeatRole) → get_elem? s.views id ≡ some v → v.role ≡ role → FitsPlace r.place id role
    fits s r id v role at is = subst (FitsPlace r.place id) is (r.each_seat id v at).1

    -- the seat goes to the view w, and the turn to the place q
    moved : (s : St) (r : Rule s) (id : ℕ) (v w : SeatView) (q : Place T) (words' : List ℕ) (homes' : List (maybe.Option (Option T))) → get_elem? s.views id ≡ some v → words' ≡ word_of q ∷ [] → homes' ≡ home_of q ∷ []
        → Carries constant_of q r.constant → Knows q r.constant id w → ((j : ℕ) → j ≢ id → (r.place ≢ opening j) × (r.place ≢ held j)) → IsSeated q (set s.views id w)
        → Rule record { words = words'; homes = homes'; views = set s.views id w }
    moved s r id v w q words' homes' at words homes carries mine apart seated = record {
      place = q;
      constant = r.constant;
      words = words;
      homes = homes;
      carries = carries;
      each_seat = seats_stay (Knows q r.constant) s.views id w mine
          (λ j d other e. let k = r.each_seat j d e in (k.0, others r.place q j (apart j other).0 (apart j other).1 d.role k.1));
      seated = seated;
    }

    -- nothing changes
    stays : (s : St) (r : Rule s) (id : ℕ) (v : SeatView) (words' : List ℕ) → get_elem? s.views id ≡ some v → words' ≡ s.words → Rule record { words = words'; homes = s.homes; views = set s.views id v }
    stays s r id v words' at same = record {
      place = r.place;
      constant = r.constant;
      words = same ∙ r.words;
      homes = r.homes;
      carries = r.carries;
      each_seat = λ j d e. r.each_seat j d (ap (λ vs. get_elem? vs j) (sym (set_again s.views id v at)) ∙ e);
      seated = subst (IsSeated r.place) (sym (set_again s.views id v at)) r.seated;
    }

    pub starts : (constant : List (List ℕ)) → Rule (at_start (1 ∷ []) (None ∷ []) (as_view Opens constant))
    starts constant = let v : SeatView = as_view Opens constant in let p : Place T = opening 0 in record {
      place = p;
      constant = constant;
      words = refl;
      homes = refl;
      carries = tt;
      each_seat = alone v (Knows p constant) ((λ _. refl), (refl, refl));
      seated = (v, refl, refl);
    }

    lost : (slots id : ℕ) (me : M) (s : St) (r : Rule s) → get_elem? s.views id ≡ some me.0 → s.words ≡ 1 ∷ []
        → (w : SeatView) × (a : Act (Option T)) × Valid s.homes me.1 a × Rule (stepped s 0 (either (eqb (get_or s.words 0 0) 0) 1 (get_or s.words 0 0)) id me.1 w a)
        × tried constant_of (step slots 0 0 1 none) me (get_or s.words 0 0) (w, carried_after me.1 a)
    lost slots id me s r at words =
        let found : get_or s.words 0 0 ≡ 1 = ap (λ (l : List ℕ). get_or l 0 0) words in (
          me.0,
          keeps,
          tt,
          stays s r id me.0 _ at (ap (λ (l : List ℕ). set l 0 (either (eqb (get_or l 0 0) 0) 1 (get_or l 0 0))) words ∙ sym words),
          ((λ hit. absurd (omega arith)), λ _. refl),
        )

    tries_at : (slots id : ℕ) (me : M) → me.0.role ≡ Waits → (s : St) (r : Rule s) → get_elem? s.views id ≡ some me.0 → (p : Place T) → r.place ≡ p
        → (w : SeatView) × (a : Act (Option T)) × Valid s.homes me.1 a × Rule (stepped s 0 (either (eqb (get_or s.words 0 0) 0) 1 (get_or s.words 0 0)) id me.1 w a)
        × tried constant_of (step slots 0 0 1 none) me (get_or s.words 0 0) (w, carried_after me.1 a)
    tries_at slots id me is s r at (free x) e =
        let words : s.words ≡ 0 ∷ [] = r.words ∙ ap (λ (p : Place T). word_of p ∷ []) e in
        let homes : s.homes ≡ some (Some x) ∷ [] = r.homes ∙ ap (λ (p : Place T). home_of p ∷ []) e in
        let found : get_or s.words 0 0 ≡ 0 = ap (λ (l : List ℕ). get_or l 0 0) words in
        let same : me.0.constant ≡ r.constant = (r.each_seat id me.0 at).0 (live me.0.role Waits is waits_live) in
        let fits_it : constant_of x ≡ r.constant = subst (λ (p : Place T). Carries constant_of p r.constant) e r.carries in
        let w : SeatView = as_view Holds me.0.constant in (
          w,
          takes 0 (Some x),
          ap (λ (l : List (maybe.Option (Option T))). get_elem? l 0) homes,
          moved s r id me.0 w (held id) _ _ at (ap (λ (l : List ℕ). set l 0 (either (eqb (get_or l 0 0) 0) 1 (get_or l 0 0))) words) (ap (λ (l : List (maybe.Option (Option T))). set l 0 none) homes)
              tt ((λ _. same), refl) (λ j other. free_apart r.place x j e) (w, set_there s.views id me.0 w at, refl),
          ((λ _. (x, refl, fits_it ∙ sym same)), λ miss. absurd (miss found)),
        )
    tries_at slots id me is s r at (opening i) e = lost slots id me s r at (r.words ∙ ap (λ (p : Place T). word_of p ∷ []) e)
    tries_at slots id me is s r at (held i) e = lost slots id me s r at (r.words ∙ ap (λ (p : Place T). word_of p ∷ []) e)

    pub tries : (slots id : ℕ) (me : M) → me.0.role ≡ Waits → Allows Rule slots id me 0 (λ n. either (eqb n 0) 1 n) (tried constant_of (step slots 0 0 1 none) me)
    tries slots id me is s r deep at small = tries_at slots id me is s r at r.place refl

    pub opens : (slots id : ℕ) (me : M) → me.0.role ≡ Opens → Allows Rule slots id me 0 (λ _. 1) (opened (step slots 0 1 0 none) me)
    opens slots id me is s r deep at small =
        let e : r.place ≡ opening id = (fits s r id me.0 Opens at is).0 in
        let words : s.words ≡ 1 ∷ [] = r.words ∙ ap (λ (p : Place T). word_of p ∷ []) e in
        let homes : s.homes ≡ some None ∷ [] = r.homes ∙ ap (λ (p : Place T). home_of p ∷ []) e in
        let same : me.0.constant ≡ r.constant = (r.each_seat id me.0 at).0 (live me.0.role Opens is opens_live) in
        let w : SeatView = as_view Holds me.0.constant in (
          w,
          takes 0 None,
          ap (λ (l : List (maybe.Option (Option T))). get_elem? l 0) homes,
          moved s r id me.0 w (held id) _ _ at (ap (λ (l : List ℕ). set l 0 1) words) (ap (λ (l : List (maybe.Option (Option T))). set l 0 none) homes)
              tt ((λ _. same), refl) (λ j other. opening_apart r.place id j e other) (w, set_there s.views id me.0 w at, refl),
          refl,
        )

    pub releases : (slots id : ℕ) (me : M) (x : T) → me.0.role ≡ Holds → me.1 ≡ (0, Some x) ∷ [] → constant_of x ≡ me.0.constant → Allows Rule slots id me 0 (λ _. 0) (released (step slots 0 0 0 none) me)
    releases slots id me x is carried fits_it s r deep at small =
        let e : r.place ≡ held id = fits s r id me.0 Holds at is in
        let words : s.words ≡ 1 ∷ [] = r.words ∙ ap (λ (p : Place T). word_of p ∷ []) e in
        let homes : s.homes ≡ none ∷ [] = r.homes ∙ ap (λ (p : Place T). home_of p ∷ []) e in
        let same : me.0.constant ≡ r.constant = (r.each_seat id me.0 at).0 (live me.0.role Holds is holds_live) in
        let w : SeatView = as_view Waits me.0.constant in (
          w,
          gives,
          tt,
          moved s r id me.0 w (free x) _ _ at (ap (λ (l : List ℕ). set l 0 0) words)
              (ap (put_back s.homes) carried ∙ ap (λ (l : List (maybe.Option (Option T))). set l 0 (some (Some x))) homes)
              (fits_it ∙ same) ((λ _. same), tt) (λ j other. held_apart r.place id j e other) tt,
          ap (λ (l : List (ℕ × Option T)). let m : M = (w, rest l) in m) carried,
        )

    pub splits : (id : ℕ) (v : SeatView) → v.role ≡ Waits → Splits Rule id v v (beside v)
    splits id v is s r at = let w : SeatView = beside v in record {
      place = r.place;
      constant = r.constant;
      words = r.words;
      homes = r.homes;
      carries = r.carries;
      each_seat = λ j d e. ⊎_elim (λ (t : get_elem? (set s.views id v) j ≡ some d). r.each_seat j d (ap (λ vs. get_elem? vs j) (sym (set_again s.views id v at)) ∙ t))
          (λ (t : w ≡ d). subst (Knows r.place r.constant j) t ((λ _. (r.each_seat id v at).0 (live v.role Waits is waits_live)), tt)) (at_snoc (set s.views id v) w d j e);
      seated = longer r.place (set s.views id v) w (subst (IsSeated r.place) (sym (set_again s.views id v at)) r.seated);
    }

    pub joins : (id : ℕ) (v : SeatView) (other : ℕ) (w : SeatView) → w.role ≡ Waits → Joins Rule id v other w v (as_view Spent [])
    joins id v other w is s r at apart there = let vs : List SeatView = set s.views id v in let same : vs ≡ s.views = set_again s.views id v at in record {
      place = r.place;
      constant = r.constant;
      words = r.words;
      homes = r.homes;
      carries = r.carries;
      each_seat = seats_stay (Knows r.place r.constant) vs other (as_view Spent []) ((λ ne. absurd (ne refl)), tt)
          (λ j d _ e. r.each_seat j d (ap (λ l. get_elem? l j) (sym same) ∙ e));
      seated = without r.place vs other w is there (subst (IsSeated r.place) (sym same) r.seated);
    }
