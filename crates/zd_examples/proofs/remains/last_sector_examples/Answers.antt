use Rattle.std.proofs.Common.{[], ◌∷◌, arith, inl, inr, lit<, lit≤}
use Rattle.zd_examples.proofs.Marks.{elsewhere, marked_image, may_leave}
use Rattle.zd_examples.proofs.Seeds.{one_is_zero}
use Rattle.zd_examples.specs.Remains.{empty_disk, mark}
use Rattle.zd_examples.proofs.remains.last_sector_examples.Goals as goal

pub returns-clause-last : goal.returns-clause-last
returns-clause-last c = record {
  within = lit≤ tt;
  stop = may_leave empty_disk (mark 2 127 ∷ []) (mark 2 127 ∷ []) (marked_image 2 127 (lit< tt)) (λ z i v h. h)
      (λ z far. elsewhere z 2 127 (mark 2 127 ∷ []) (λ e. omega arith));
}

pub returns-clause-not_written : goal.returns-clause-not_written
returns-clause-not_written c h =
    elim (h.stop.conventional 2 127 (lit< tt) (lit< tt)) [ inl old ↦ one_is_zero 127 old | inr none ↦ none ]

pub returns-clause-last_zone : goal.returns-clause-last_zone
returns-clause-last_zone c h =
    elim (h.stop.conventional 5 127 (lit< tt) (lit< tt)) [ inl old ↦ one_is_zero 127 old | inr none ↦ none ]

pub returns-clause-first_zone : goal.returns-clause-first_zone
returns-clause-first_zone c h =
    elim (h.stop.conventional 0 0 (lit< tt) (lit< tt)) [ inl old ↦ one_is_zero 0 old | inr none ↦ none ]
