-- The super block of the chosen set.
use Rattle.std.proofs.Common.{◌≡◌, ℕ, ◌*◌, ◌==◌, Bool, true, false, cond, Some, None, Option, refl, sym, ap, ◌∙◌, subst, inl, inr, arith}
use Rattle.std.specs.Prelude.{Result, Ok, Err}
use borrow.Author.Tests.{eqb-true}
use Rattle.zd_model.specs.Image.{Image, block_at}
use Rattle.zd_model.specs.Super.{decoded, with_own}
use Rattle.zd_model.specs.Volume.{chosen, good_super, if_own}
use Rattle.zd_model.specs.declared.metadata.NotSuper.{NotSuper}
use Rattle.zd_model.specs.declared.metadata.Super.{Super}
use Rattle.zd_sets.specs.Choice.{IsPlacedChoice, chosen_of}
use Rattle.zd_sets.specs.Equal.{head_at}
use Rattle.zd_sets.specs.declared.choice.Chosen.{Chosen as Choice}
use Rattle.zd_sets.proofs.ChosenLaws.{either_set, good_second}

-- a good super block has the number of its zone
own_is : (number : ℕ) (r : Result Super NotSuper) (s : Super) → if_own number r ≡ Some s → s.own ≡ number
own_is number (Ok t) s is = by_test (t.own == number) refl is
  where
    by_test : (b : Bool) → (t.own == number) ≡ b → ◌≡◌ {A = Option Super} (cond b (Some t) None) (Some s)
        → s.own ≡ number
    by_test true same e = (let f : t ≡ s = cc in ap (λ (u : Super). u.own) (sym f) ∙ eqb-true t.own number same)
    by_test false other e = cc
own_is number (Err e) s is = cc

pub chosen_head : (image : Image) (c : Choice) → IsPlacedChoice image.geometry c → chosen image ≡ Some (chosen_of c)
    → good_super image c.zone ≡ Some (head_at image.geometry c.zone c.head)
chosen_head image c placed is = good
    ∙ ap Some (sym (own (own_is (c.zone * image.geometry.zone_blocks)
    (decoded (block_at image c.zone 0)) c.head good)))
  where
    good : good_super image c.zone ≡ Some c.head
    good = elim (either_set image (chosen_of c) is) [
      | inl zero ↦ elim placed.places [
        | inl p ↦ subst (λ (z : ℕ). good_super image z ≡ Some c.head) (sym p.1) zero.1.good
        | inr p ↦ (let wrong : ⊥ = omega (arith, zero.0, p.0) in absurd wrong)
      ]
      | inr one ↦ good_second image c.zone c.head one.1.good
    ]

    own : c.head.own ≡ c.zone * image.geometry.zone_blocks → head_at image.geometry c.zone c.head ≡ c.head
    own e = ap (λ (n : ℕ). with_own n c.head) (sym e)
