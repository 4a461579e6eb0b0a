-- What events make of an image.
use Rattle.std.proofs.Common.{◌≡◌, ◌≢◌, ◌⊎◌, ℕ, ◌+◌, max, List, [], ◌∷◌, ◌++◌, true, false, cond, eqb, inl, inr, refl, ap, sym, ◌∙◌, arith}
use Rattle.std.specs.Prelude.{◌&&◌}
use Rattle.std.proofs.lemmas.Bool.{cases_eq}
use Rattle.zd_model.specs.Image.{Image, SameZone}
use Rattle.zd_model.specs.Left.{Event, zone_of, apply, replay, on_zone, IsPut}
use Rattle.zd_model.specs.Left.Event.{Put, Clear}

pub same_test : (m n : ℕ) → m ≡ n → eqb m n ≡ true
same_test m n e = search (arith)

pub other_test : (m n : ℕ) → m ≢ n → eqb m n ≡ false
other_test m n e = search (arith)

pub replay-append : (s : Image) (es fs : List Event) → replay s (es ++ fs) ≡ replay (replay s es) fs
replay-append s [] fs = refl
replay-append s (e ∷ es) fs = replay-append (apply s e) es fs

pub geometry-apply : (s : Image) (e : Event) → (apply s e).geometry ≡ s.geometry
geometry-apply s (Put z i v) = refl
geometry-apply s (Clear z) = refl

pub geometry-replay : (s : Image) (es : List Event) → (replay s es).geometry ≡ s.geometry
geometry-replay s [] = refl
geometry-replay s (e ∷ es) = geometry-replay (apply s e) es ∙ geometry-apply s e

-- two images that are one in this zone, also where it holds nothing
pub record IsOneZone (a b : Image) (z : ℕ) : Type 0 where
  pub held : b.held z ≡ a.held z
  pub sectors : (i : ℕ) → b.sector z i ≡ a.sector z i

pub one_zone : (a : Image) (z : ℕ) → IsOneZone a a z
one_zone a z = record { held = refl; sectors = λ i. refl }

pub one_zone_same : (a b : Image) (z : ℕ) → IsOneZone a b z → SameZone a b z
one_zone_same a b z one = record { held = one.held; sectors = λ i h. one.sectors i }

pub SameZone-refl : (a : Image) (z : ℕ) → SameZone a a z
SameZone-refl a z = record { held = refl; sectors = λ i h. refl }

pub SameZone-trans : (a b c : Image) (z : ℕ) → SameZone a b z → SameZone b c z → SameZone a c z
SameZone-trans a b c z f g =
    record { held = g.held ∙ f.held; sectors = λ i h. g.sectors i (rw f.held h) ∙ f.sectors i h }

-- two that are as a third are as each other
pub SameZone-back : (a b c : Image) (z : ℕ) → SameZone a b z → SameZone a c z → SameZone b c z
SameZone-back a b c z f g = record {
  held = g.held ∙ sym f.held;
  sectors = λ i h. (let l = rw f.held at h in g.sectors i l ∙ sym (f.sectors i l));
}

apply_there : (a b : Image) (z : ℕ) (e : Event) → IsOneZone a b z → IsOneZone (apply a e) (apply b e) z
apply_there a b z (Put y i v) one = record {
  held = ap (λ (h : ℕ). cond (eqb z y) (max h (i + 1)) h) one.held;
  sectors = λ j. ap (λ (w : List ℕ). cond (eqb z y && eqb j i) v w) (one.sectors j);
}
apply_there a b z (Clear y) one =
    record { held = ap (λ (h : ℕ). cond (eqb z y) 0 h) one.held; sectors = λ j. one.sectors j }

pub apply_elsewhere : (a : Image) (z : ℕ) (e : Event) → z ≢ zone_of e → IsOneZone a (apply a e) z
apply_elsewhere a z (Put y i v) ne =
    record { held = rw (other_test z y ne) refl; sectors = λ j. rw (other_test z y ne) refl }
apply_elsewhere a z (Clear y) ne = record { held = rw (other_test z y ne) refl; sectors = λ j. refl }

pub replay_there : (a b : Image) (z : ℕ) (es : List Event) → IsOneZone a b z → IsOneZone (replay a es) (replay b es) z
replay_there a b z [] one = one
replay_there a b z (e ∷ es) one = replay_there (apply a e) (apply b e) z es (apply_there a b z e one)

one_zone_trans : (a b c : Image) (z : ℕ) → IsOneZone a b z → IsOneZone b c z → IsOneZone a c z
one_zone_trans a b c z f g =
    record { held = g.held ∙ f.held; sectors = λ i. g.sectors i ∙ f.sectors i }

one_zone_back : (a b : Image) (z : ℕ) → IsOneZone a b z → IsOneZone b a z
one_zone_back a b z one = record { held = sym one.held; sectors = λ i. sym (one.sectors i) }

-- a zone is made by its own events
pub replay_zone : (a b : Image) (z : ℕ) (es : List Event) → IsOneZone a b z
    → IsOneZone (replay a (on_zone z es)) (replay b es) z
replay_zone a b z [] one = one
replay_zone a b z (e ∷ es) one = elim (cases_eq (zone_of e) z) [
  | inl here ↦ rw (same_test (zone_of e) z here) (replay_zone (apply a e) (apply b e) z es (apply_there a b z e one))
  | inr there ↦
      let ne : z ≢ zone_of e = λ f. there (sym f) in
      rw (other_test (zone_of e) z there)
      (replay_zone a (apply b e) z es (one_zone_trans a b (apply b e) z one (apply_elsewhere b z e ne)))
]

pub on_zone-append : (z : ℕ) (es fs : List Event) → on_zone z (es ++ fs) ≡ on_zone z es ++ on_zone z fs
on_zone-append z [] fs = refl
on_zone-append z (e ∷ es) fs = elim (cases_eq (zone_of e) z) [
  | inl here ↦ rw (same_test (zone_of e) z here) (ap (λ (l : List Event). e ∷ l) (on_zone-append z es fs))
  | inr there ↦ rw (other_test (zone_of e) z there) (on_zone-append z es fs)
]

pub IsPut-append : (es fs : List Event) (z i : ℕ) (v : List ℕ)
    → IsPut (es ++ fs) z i v → IsPut es z i v ⊎ IsPut fs z i v
IsPut-append [] fs z i v h = inr h
IsPut-append (Put y j b ∷ es) fs z i v (inl h) = inl (inl h)
IsPut-append (Put y j b ∷ es) fs z i v (inr h) =
    elim (IsPut-append es fs z i v h) [ inl a ↦ inl (inr a) | inr b ↦ inr b ]
IsPut-append (Clear y ∷ es) fs z i v h = IsPut-append es fs z i v h

pub IsPut-before : (es fs : List Event) (z i : ℕ) (v : List ℕ) → IsPut es z i v → IsPut (es ++ fs) z i v
IsPut-before [] fs z i v h = absurd h
IsPut-before (Put y j b ∷ es) fs z i v (inl h) = inl h
IsPut-before (Put y j b ∷ es) fs z i v (inr h) = inr (IsPut-before es fs z i v h)
IsPut-before (Clear y ∷ es) fs z i v h = IsPut-before es fs z i v h

pub IsPut-behind : (es fs : List Event) (z i : ℕ) (v : List ℕ) → IsPut fs z i v → IsPut (es ++ fs) z i v
IsPut-behind [] fs z i v h = h
IsPut-behind (Put y j b ∷ es) fs z i v h = inr (IsPut-behind es fs z i v h)
IsPut-behind (Clear y ∷ es) fs z i v h = IsPut-behind es fs z i v h

-- what a replay leaves at a place is what was there, or what an event put there
pub replay_values : (s : Image) (es : List Event) (z i : ℕ)
    → ((replay s es).sector z i ≡ s.sector z i) ⊎ IsPut es z i ((replay s es).sector z i)
replay_values s [] z i = inl refl
replay_values s (Clear y ∷ es) z i = replay_values (apply s (Clear y)) es z i
replay_values s (Put y j b ∷ es) z i = elim (replay_values (apply s (Put y j b)) es z i) [
  | inr put ↦ inr (inr put)
  | inl stayed ↦ elim (cases_eq z y) [
    | inr there ↦ inl (stayed ∙ rw (other_test z y there) refl)
    | inl here ↦ elim (cases_eq i j) [
      | inr beside ↦ inl (stayed ∙ rw (same_test z y here, other_test i j beside) refl)
      | inl at ↦ inr (inl (sym here, sym at, stayed ∙ rw (same_test z y here, same_test i j at) refl))
    ]
  ]
]
