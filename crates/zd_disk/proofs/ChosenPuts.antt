-- The sectors that a write put, where it was cut short in a conventional zone.
use Rattle.std.proofs.Common.{◌≡◌, ◌≢◌, ◌⊎◌, ℕ, zero, suc, ◌+◌, ◌<◌, ◌≤◌, List, [], ◌∷◌, ◌++◌, refl, sym, ap}
use Rattle.std.proofs.Common.{ap₂, ◌∙◌, subst, inl, inr, arith}
use Rattle.std.proofs.lemmas.Bool.{cases_eq, cases_lt}
use Rattle.zd_model.specs.Image.{Image, Same, SameZone}
use Rattle.zd_model.specs.Left.{Event, apply, on_zone, replay}
use Rattle.zd_model.specs.Left.Event.{Put}
use Rattle.zd_model.proofs.EventLaws.{IsPut-append, geometry-replay, on_zone-append, one_zone, one_zone_same}
use Rattle.zd_model.proofs.EventLaws.{other_test, replay-append, replay_zone, same_test}
use Rattle.zd_disk.specs.Lives.{LeadsBy, PutsOwn}
use Rattle.zd_disk.specs.Steps.{Patched, count_of, piece}
use Rattle.zd_disk.specs.Within.{IsOn}

pub on_none : (z : ℕ) → IsOn z []
on_none z = record { here = refl; elsewhere = λ y other. refl; put = λ y i v put. absurd put }

-- SECTORS OF A WRITE that are there in a conventional zone
module _ (z start : ℕ) (bytes : List ℕ) (old new : Image) (fits : start + count_of bytes ≤ old.held z)
    (patched : Patched z start bytes old new) where
  -- of the first m of them those that were put
  pub record IsChosen (m : ℕ) (done : List Event) : Type 0 where
    pub on : IsOn z done
    pub own : PutsOwn z start bytes done
    pub held : (k : Image) → Same k old → (replay k done).held z ≡ old.held z
    pub inside : (k : Image) → Same k old → (x : ℕ) → start ≤ x → x < start + m
        → (replay k done).sector z x ≡ new.sector z x
    pub outside : (k : Image) → Same k old → (x : ℕ) → x < old.held z → (x < start) ⊎ (start + m ≤ x)
        → (replay k done).sector z x ≡ old.sector z x

  none_chosen : IsChosen 0 []
  none_chosen = record {
    on = on_none z;
    own = λ y i v put. absurd put;
    held = λ k same. sym (same.zones z).held;
    inside = λ k same x from below. absurd (omega arith);
    outside = λ k same x low off. sym ((same.zones z).sectors x (omega (arith, low, (same.zones z).held)));
  }

  -- one that stays
  kept_chosen : (m : ℕ) (done : List Event) → m < count_of bytes → IsChosen m done
      → new.sector z (start + m) ≡ old.sector z (start + m) → IsChosen (suc m) done
  kept_chosen m done few was stays = record {
    on = was.on;
    own = was.own;
    held = was.held;
    inside = λ k same x from below. elim (cases_lt x (start + m)) [
      | inl before ↦ was.inside k same x from before
      | inr at ↦
          let here : start + m ≡ x = omega (arith, at, below) in
          was.outside k same x (omega (arith, below, few, fits)) (inr at)
          ∙ sym (subst (λ (n : ℕ). new.sector z n ≡ old.sector z n) here stays)
    ];
    outside = λ k same x low off. was.outside k same x low (elim off [
      | inl before ↦ inl before
      | inr behind ↦ inr (omega (arith, behind))
    ]);
  }

  -- one that was put
  module _ (m : ℕ) (done : List Event) (few : m < count_of bytes) (was : IsChosen m done)
      (put : new.sector z (start + m) ≡ piece bytes m) where
    abbrev event : Event
    event = Put z (start + m) (piece bytes m)

    abbrev more : List Event
    more = done ++ event ∷ []

    then_is : (k : Image) → replay k more ≡ apply (replay k done) event
    then_is k = replay-append k done (event ∷ [])

    here_all : on_zone z more ≡ more
    here_all =
        on_zone-append z done (event ∷ [])
        ∙ ap₂ (λ (a b : List Event). a ++ b) was.on.here (rw (same_test z z refl) refl)

    none_there : (y : ℕ) → y ≢ z → on_zone y more ≡ []
    none_there y other =
        on_zone-append y done (event ∷ [])
        ∙ ap₂ (λ (a b : List Event). a ++ b) (was.on.elsewhere y other)
        (rw (other_test z y (λ e. other (sym e))) refl)

    held_then : (k : Image) → Same k old → (replay k more).held z ≡ old.held z
    held_then k same =
        ap (λ (i : Image). i.held z) (then_is k)
        ∙ rw (same_test z z refl) (let before = was.held k same in omega (arith, before, few, fits))

    value : (k : Image) (x : ℕ) → x ≡ start + m → (replay k more).sector z x ≡ new.sector z x
    value k x here =
        ap (λ (i : Image). i.sector z x) (then_is k)
        ∙ rw (same_test z z refl, same_test x (start + m) here)
        (sym (subst (λ (n : ℕ). new.sector z n ≡ piece bytes m) (sym here) put))

    other_value : (k : Image) (x : ℕ) → x ≢ start + m → (replay k more).sector z x ≡ (replay k done).sector z x
    other_value k x there =
        ap (λ (i : Image). i.sector z x) (then_is k) ∙ rw (same_test z z refl, other_test x (start + m) there) refl

    put_chosen : IsChosen (suc m) more
    put_chosen = record {
      on = record {
        here = here_all;
        elsewhere = none_there;
        put = λ y i v is. elim (IsPut-append done (event ∷ []) y i v is) [
          | inl before ↦ was.on.put y i v before
          | inr one ↦ elim one [ inl at ↦ sym at.0 | inr none ↦ absurd none ]
        ];
      };
      own = λ y i v is. elim (IsPut-append done (event ∷ []) y i v is) [
        | inl before ↦ was.own y i v before
        | inr one ↦ elim one [ inl at ↦ (m, few, sym at.0, sym at.1, at.2) | inr none ↦ absurd none ]
      ];
      held = held_then;
      inside = λ k same x from below. elim (cases_eq x (start + m)) [
        | inl here ↦ value k x here
        | inr there ↦ other_value k x there ∙ was.inside k same x from (omega (arith, below, there))
      ];
      outside = λ k same x low off. elim off [
        | inl before ↦ other_value k x (omega (arith, before)) ∙ was.outside k same x low (inl before)
        | inr behind ↦ other_value k x (omega (arith, behind)) ∙ was.outside k same x low (inr (omega (arith, behind)))
      ];
    }

  pub choose : (m : ℕ) → m ≤ count_of bytes → (done : List Event) × IsChosen m done
  choose zero few = ([], none_chosen)
  choose (suc m) few =
      let was = choose m (omega (arith, few)) in
      let one : m < count_of bytes = omega (arith, few) in
      elim (patched.sectors (start + m) (omega (arith, one, fits))) [
        | inl stays ↦ (was.0, kept_chosen m was.0 one was.1 stays)
        | inr put ↦
            let here : put.0 ≡ m = omega (arith, put.2) in
            let is : new.sector z (start + m) ≡ piece bytes m = put.3 ∙ ap (piece bytes) here in
            (was.0 ++ Put z (start + m) (piece bytes m) ∷ [], put_chosen m was.0 one was.1 is)
      ]

  -- all of them lead to the new image
  pub chosen_leads : (done : List Event) → IsChosen (count_of bytes) done → new.geometry ≡ old.geometry
      → ((y : ℕ) → y ≢ z → SameZone old new y) → LeadsBy done old new
  chosen_leads done is geometry others k same = record {
    geometry = geometry ∙ same.geometry ∙ sym (geometry-replay k done);
    zones = λ y. elim (cases_eq y z) [
      | inl here ↦ subst (λ (n : ℕ). SameZone (replay k done) new n) (sym here) (record {
        held = patched.held ∙ sym (is.held k same);
        sectors = λ x low. in_zone k same x (omega (arith, low, is.held k same));
      })
      | inr there ↦
          let own = replay_zone k k y done (one_zone k y) in
          let stays = subst (λ (es : List Event). SameZone (replay k es) (replay k done) y) (is.on.elsewhere y there)
          (one_zone_same (replay k (on_zone y done)) (replay k done) y own) in
          record {
            held = (others y there).held ∙ (same.zones y).held ∙ sym stays.held;
            sectors = λ x low. (
                let inside : x < k.held y = omega (arith, low, stays.held) in
                (others y there).sectors x (omega (arith, inside, (same.zones y).held))
                ∙ (same.zones y).sectors x inside ∙ sym (stays.sectors x inside));
          }
    ];
  }
    where
      in_zone : (k : Image) → Same k old → (x : ℕ) → x < old.held z → new.sector z x ≡ (replay k done).sector z x
      in_zone k same x low = elim (cases_lt x start) [
        | inl before ↦ outer k same x low (inl before)
        | inr from ↦ elim (cases_lt x (start + count_of bytes)) [
          | inl below ↦ sym (is.inside k same x from below)
          | inr behind ↦ outer k same x low (inr behind)
        ]
      ]
        where
          outer : (k : Image) → Same k old → (x : ℕ) → x < old.held z → (x < start) ⊎ (start + count_of bytes ≤ x)
              → new.sector z x ≡ (replay k done).sector z x
          outer k same x low off = elim (patched.sectors x low) [
            | inl stays ↦ stays ∙ sym (is.outside k same x low off)
            | inr put ↦ absurd (elim off [
              | inl before ↦ omega (arith, before, put.1, put.2)
              | inr behind ↦ omega (arith, behind, put.1, put.2)
            ])
          ]
