use Rattle.std.proofs.Common.{◌≤◌, refl, inl, inr, sym, arith}
use Rattle.zd_examples.proofs.Seeds.{one_is_zero}
use Rattle.zd_examples.proofs.stops.discard_examples.Goals as goal

pub returns-clause-kept : goal.returns-clause-kept
returns-clause-kept c = inl refl

pub returns-clause-not_yet : goal.returns-clause-not_yet
returns-clause-not_yet c h = elim h [
  | inl flushed ↦ one_is_zero 0 (sym flushed)
  | inr later ↦ elim later [
    | inl write ↦ (let far : 8 ≤ 0 = write.1.1.0 in omega arith)
    | inr others ↦ elim others [
      | inl discard ↦ (let late : 4 ≤ 3 = discard.1.0.0 in omega arith)
      | inr none ↦ none
    ]
  ]
]

pub returns-clause-failed : goal.returns-clause-failed
returns-clause-failed c h = elim h [
  | inl flushed ↦ one_is_zero 0 (sym flushed)
  | inr later ↦ elim later [
    | inl discard ↦ (let done = discard.1.0.1 in absurd (let f : ⊥ = cc in f))
    | inr none ↦ none
  ]
]
