use Rattle.std.proofs.Common.{◌≤◌, ◌<◌, inl, inr, sym, arith}
use Rattle.zd_examples.proofs.Seeds.{one_is_two, one_is_zero, one_elsewhere, two_is_zero}
use Rattle.zd_examples.proofs.stops.not_held_examples.Goals as goal

pub returns-clause-too_late : goal.returns-clause-too_late
returns-clause-too_late c h = elim h [
  | inl flushed ↦ two_is_zero flushed
  | inr later ↦ elim later [
    | inl first ↦ one_is_two (sym first.1.2)
    | inr others ↦ elim others [
      | inl flush ↦ flush.1.0
      | inr last ↦ elim last [
        | inl second ↦ (let late : 12 ≤ 11 = second.1.0.0 in omega arith)
        | inr none ↦ none
      ]
    ]
  ]
]

pub returns-clause-too_old : goal.returns-clause-too_old
returns-clause-too_old c h = elim h [
  | inl flushed ↦ one_is_zero 0 (sym flushed)
  | inr later ↦ elim later [ inl second ↦ two_is_zero (sym second.1.2) | inr none ↦ none ]
]

pub returns-clause-flushed_over : goal.returns-clause-flushed_over
returns-clause-flushed_over c h = elim h [ inl flushed ↦ one_is_two flushed | inr none ↦ none ]

pub returns-clause-behind : goal.returns-clause-behind
returns-clause-behind c h = elim h [
  | inl flushed ↦ one_is_zero 8 flushed
  | inr later ↦ elim later [
    | inl first ↦ (let far : 8 < 8 = first.1.1.1 in omega arith)
    | inr others ↦ elim others [
      | inl flush ↦ flush.1.0
      | inr last ↦ elim last [
        | inl second ↦ (let far : 8 < 8 = second.1.1.1 in omega arith)
        | inr none ↦ none
      ]
    ]
  ]
]

pub returns-clause-other_place : goal.returns-clause-other_place
returns-clause-other_place c h = elim h [
  | inl flushed ↦ one_is_zero 0 flushed
  | inr later ↦ elim later [
    | inl first ↦ one_elsewhere first.1.2
    | inr others ↦ elim others [
      | inl flush ↦ flush.1.0
      | inr last ↦ elim last [
        | inl second ↦ (let late : 12 ≤ 1 = second.1.0.0 in omega arith)
        | inr none ↦ none
      ]
    ]
  ]
]

pub returns-clause-past : goal.returns-clause-past
returns-clause-past c h = elim h [
  | inl flushed ↦ one_is_zero 0 flushed
  | inr later ↦ elim later [
    | inl first ↦ (let inside = first.0 in absurd (let f : ⊥ = cc in f))
    | inr others ↦ elim others [
      | inl second ↦ (let inside = second.0 in absurd (let f : ⊥ = cc in f))
      | inr none ↦ none
    ]
  ]
]

pub returns-clause-beside : goal.returns-clause-beside
returns-clause-beside c h = elim h [
  | inl flushed ↦ one_is_zero 5 flushed
  | inr later ↦ elim later [ inl write ↦ (let far : 5 < 5 = write.1.1.1 in omega arith) | inr none ↦ none ]
]
