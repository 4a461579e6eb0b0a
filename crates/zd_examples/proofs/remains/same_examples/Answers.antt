use Rattle.std.proofs.Common.{◌≡◌, ◌<◌, ℕ, ap, arith, eqb, false, inl, inr, lit<, refl}
use Rattle.std.proofs.lemmas.Bool.{cases_eq}
use Rattle.zd_base.specs.Geometry.{Shape}
use Rattle.zd_model.specs.Image.{SameZone}
use Rattle.zd_model.proofs.EventLaws.{other_test}
use Rattle.zd_examples.proofs.Seeds.{one_is_zero}
use Rattle.zd_examples.specs.Remains.{empty_disk, marked_and_reset}
use Rattle.zd_examples.proofs.remains.same_examples.Goals as goal

each_zone : (z : ℕ) → SameZone empty_disk marked_and_reset z
each_zone z = elim (cases_eq z 11) [
  | inl there ↦ rw there (record { held = refl; sectors = λ i h. (let none : i < 0 = h in absurd (omega arith)) })
  | inr elsewhere ↦
      let other : eqb z 11 ≡ false = other_test z 11 elsewhere in
      record { held = rw other refl; sectors = λ i h. rw other refl }
]

pub returns-clause-past : goal.returns-clause-past
returns-clause-past c = record { geometry = refl; zones = each_zone }

pub returns-clause-last_sector : goal.returns-clause-last_sector
returns-clause-last_sector c h = one_is_zero 127 ((h.zones 5).sectors 127 (lit< tt))

pub returns-clause-pointer : goal.returns-clause-pointer
returns-clause-pointer c h = let held : ◌≡◌ {A = ℕ} 1 0 = (h.zones 11).held in omega arith

pub returns-clause-pointer_back : goal.returns-clause-pointer_back
returns-clause-pointer_back c h = let held : ◌≡◌ {A = ℕ} 0 1 = (h.zones 11).held in omega arith

pub returns-clause-geometry : goal.returns-clause-geometry
returns-clause-geometry c h =
    let zones : ◌≡◌ {A = ℕ} 7 6 = ap (λ (g : Shape). g.seq) h.geometry in omega arith
