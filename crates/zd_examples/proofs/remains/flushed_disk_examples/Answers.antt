use Rattle.std.proofs.Common.{[], ◌∷◌, inl, inr, lit<, lit≤, sym}
use Rattle.zd_examples.proofs.Marks.{empty_image, marked_image, may_leave, nothing}
use Rattle.zd_examples.proofs.Seeds.{one_is_zero}
use Rattle.zd_examples.specs.Remains.{empty_disk, mark, marked}
use Rattle.zd_examples.proofs.remains.flushed_disk_examples.Goals as goal

pub returns-clause-kept : goal.returns-clause-kept
returns-clause-kept c = record {
  within = lit≤ tt;
  stop = may_leave (marked (mark 2 5 ∷ [])) [] [] (marked_image 2 5 (lit< tt)) (λ z i v h. h) (λ z far. nothing z []);
}

pub returns-clause-not_lost : goal.returns-clause-not_lost
returns-clause-not_lost c h =
    elim (h.stop.conventional 2 5 (lit< tt) (lit< tt)) [ inl old ↦ one_is_zero 5 (sym old) | inr none ↦ none ]

pub returns-clause-under_way : goal.returns-clause-under_way
returns-clause-under_way c = record {
  within = lit≤ tt;
  stop = may_leave empty_disk (mark 2 5 ∷ []) [] empty_image (λ z i v h. absurd h)
      (λ z far. nothing z (mark 2 5 ∷ []));
}

pub returns-clause-failed : goal.returns-clause-failed
returns-clause-failed c = record {
  within = lit≤ tt;
  stop = may_leave empty_disk (mark 2 5 ∷ []) [] empty_image (λ z i v h. absurd h)
      (λ z far. nothing z (mark 2 5 ∷ []));
}
