use Rattle.std.proofs.Common.{◌≡◌, ℕ, [], ◌∷◌, arith, inl, inr, lit<, lit≤}
use Rattle.zd_examples.proofs.Marks.{elsewhere, marked_image, may_leave}
use Rattle.zd_examples.proofs.Seeds.{one_is_zero}
use Rattle.zd_examples.specs.Remains.{empty_disk, mark}
use Rattle.zd_examples.proofs.remains.failed_write_examples.Goals as goal

pub returns-clause-done : goal.returns-clause-done
returns-clause-done c = record {
  within = lit≤ tt;
  stop = may_leave empty_disk (mark 2 5 ∷ []) (mark 2 5 ∷ []) (marked_image 2 5 (lit< tt)) (λ z i v h. h)
      (λ z far. elsewhere z 2 5 (mark 2 5 ∷ []) (λ e. omega arith));
}

pub returns-clause-under_way : goal.returns-clause-under_way
returns-clause-under_way c = record {
  within = lit≤ tt;
  stop = may_leave empty_disk (mark 2 5 ∷ mark 2 6 ∷ []) (mark 2 6 ∷ []) (marked_image 2 6 (lit< tt)) (λ z i v h. inr h)
      (λ z far. elsewhere z 2 6 (mark 2 5 ∷ mark 2 6 ∷ []) (λ e. omega arith));
}

pub returns-clause-not_done : goal.returns-clause-not_done
returns-clause-not_done c h = elim (h.stop.conventional 2 6 (lit< tt) (lit< tt)) [
  | inl old ↦ one_is_zero 6 old
  | inr put ↦ elim put [
    | inl first ↦ (let place : ◌≡◌ {A = ℕ} 5 6 = first.1 in omega arith)
    | inr none ↦ none
  ]
]
