use Rattle.std.proofs.Common.{◌≡◌, ◌≤◌, ℕ, zero, suc, take, [], ◌∷◌, arith, inl, inr, lit<, lit≤, refl}
use Rattle.std.proofs.lemmas.Bool.{cases_eq}
use Rattle.zd_model.specs.Image.{SameZone}
use Rattle.zd_model.specs.Left.{replay}
use Rattle.zd_examples.proofs.Marks.{elsewhere, empty_image, marked_image, may_leave, nothing}
use Rattle.zd_examples.specs.Remains.{empty_disk, mark, marked}
use Rattle.zd_examples.proofs.remains.first_sequential_examples.Goals as goal

pub returns-clause-written : goal.returns-clause-written
returns-clause-written c = record {
  within = lit≤ tt;
  stop = may_leave empty_disk (mark 6 0 ∷ []) (mark 6 0 ∷ []) (marked_image 6 0 (lit< tt)) (λ z i v h. h)
      (λ z far. elim (cases_eq z 6) [
        | inl there ↦ rw there (1, lit≤ tt, refl)
        | inr other ↦ elsewhere z 6 0 (mark 6 0 ∷ []) other
      ]);
}

pub returns-clause-lost : goal.returns-clause-lost
returns-clause-lost c = record {
  within = lit≤ tt;
  stop = may_leave empty_disk (mark 6 0 ∷ []) [] empty_image (λ z i v h. absurd h)
      (λ z far. nothing z (mark 6 0 ∷ []));
}

no_part : (n : ℕ) → n ≤ 0 → SameZone (replay empty_disk (take n [])) (marked (mark 6 0 ∷ [])) 6 → ⊥
no_part zero le same = let held : ◌≡◌ {A = ℕ} 1 0 = same.held in omega arith
no_part (suc n) le same = omega arith

pub returns-clause-not_written : goal.returns-clause-not_written
returns-clause-not_written c h = let part = h.stop.sequential 6 (lit≤ tt) in no_part part.0 part.1 part.2
