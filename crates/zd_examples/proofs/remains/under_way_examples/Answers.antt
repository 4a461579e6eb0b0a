use Rattle.std.proofs.Common.{◌≤◌, [], ◌∷◌, arith, inl, inr, lit<, lit≤}
use Rattle.zd_examples.proofs.Marks.{elsewhere, empty_image, marked_image, may_leave, nothing}
use Rattle.zd_examples.proofs.Seeds.{one_is_zero}
use Rattle.zd_examples.specs.Remains.{empty_disk, mark}
use Rattle.zd_examples.proofs.remains.under_way_examples.Goals as goal

pub returns-clause-happened : goal.returns-clause-happened
returns-clause-happened c = record {
  within = lit≤ tt;
  stop = may_leave empty_disk (mark 2 5 ∷ []) (mark 2 5 ∷ []) (marked_image 2 5 (lit< tt)) (λ z i v h. h)
      (λ z far. elsewhere z 2 5 (mark 2 5 ∷ []) (λ e. omega arith));
}

pub returns-clause-not_happened : goal.returns-clause-not_happened
returns-clause-not_happened c = record {
  within = lit≤ tt;
  stop = may_leave empty_disk (mark 2 5 ∷ []) [] empty_image (λ z i v h. absurd h)
      (λ z far. nothing z (mark 2 5 ∷ []));
}

pub returns-clause-too_early : goal.returns-clause-too_early
returns-clause-too_early c h =
    elim (h.stop.conventional 2 5 (lit< tt) (lit< tt)) [ inl old ↦ one_is_zero 5 old | inr none ↦ none ]

pub returns-clause-too_late : goal.returns-clause-too_late
returns-clause-too_late c h = let calls : 2 ≤ 1 = h.within in omega arith
