use Rattle.std.proofs.Common.{◌≡◌, ◌≤◌, ℕ, zero, suc, take, [], ◌∷◌, arith, inl, inr, lit<, lit≤, refl, sym}
use Rattle.std.proofs.lemmas.Bool.{cases_eq}
use Rattle.zd_model.specs.Image.{SameZone}
use Rattle.zd_model.specs.Left.{replay}
use Rattle.zd_examples.proofs.Marks.{elsewhere, marked_image, may_leave}
use Rattle.zd_examples.proofs.Seeds.{one_is_zero}
use Rattle.zd_examples.specs.Remains.{empty_disk, mark, marked}
use Rattle.zd_examples.proofs.remains.zone_by_zone_examples.Goals as goal

pub returns-clause-other_zone : goal.returns-clause-other_zone
returns-clause-other_zone c = record {
  within = lit≤ tt;
  stop = may_leave empty_disk (mark 6 0 ∷ mark 7 0 ∷ []) (mark 7 0 ∷ []) (marked_image 7 0 (lit< tt)) (λ z i v h. inr h)
      (λ z far. elim (cases_eq z 7) [
        | inl there ↦ rw there (1, lit≤ tt, refl)
        | inr other ↦ elsewhere z 7 0 (mark 6 0 ∷ mark 7 0 ∷ []) other
      ]);
}

pub returns-clause-first_part : goal.returns-clause-first_part
returns-clause-first_part c = record {
  within = lit≤ tt;
  stop = may_leave empty_disk (mark 6 0 ∷ mark 6 1 ∷ []) (mark 6 0 ∷ []) (marked_image 6 0 (lit< tt))
      (λ z i v h. elim h [ inl first ↦ inl first | inr none ↦ absurd none ])
      (λ z far. elim (cases_eq z 6) [
        | inl there ↦ rw there (1, lit≤ tt, refl)
        | inr other ↦ elsewhere z 6 0 (mark 6 0 ∷ mark 6 1 ∷ []) other
      ]);
}

-- no first part of two marks is the second
no_part : (n : ℕ) → n ≤ 2
    → SameZone (replay empty_disk (take n (mark 6 0 ∷ mark 6 1 ∷ []))) (marked (mark 6 1 ∷ [])) 6 → ⊥
no_part zero le same = let held : ◌≡◌ {A = ℕ} 2 0 = same.held in omega arith
no_part (suc zero) le same = let held : ◌≡◌ {A = ℕ} 2 1 = same.held in omega arith
no_part (suc (suc zero)) le same = one_is_zero 0 (sym (same.sectors 0 (lit< tt)))
no_part (suc (suc (suc n))) le same = omega arith

pub returns-clause-not_first : goal.returns-clause-not_first
returns-clause-not_first c h = let part = h.stop.sequential 6 (lit≤ tt) in no_part part.0 part.1 part.2
