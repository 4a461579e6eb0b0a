use Rattle.std.proofs.Common.{◌≡◌, ℕ, get_or, inl, inr, ap, arith}
use Rattle.zd_model.specs.Bytes.{zero_sector}
use Rattle.zd_model.specs.Plain.{Answer, pattern}
use Rattle.zd_model.specs.Plain.Answer.{Got}
use Rattle.zd_examples.proofs.histories.wrong_reply_examples.Goals as goal

-- the fifth byte that was read, which is the seed's lowest
abbrev fifth : Answer → ℕ
fifth (Got bytes) = get_or bytes 4 0
fifth answer = 0

pub returns-clause-inside : goal.returns-clause-inside
returns-clause-inside c h = elim h.answers.0 [ inl e ↦ cc | inr f ↦ (let fault = f.0 in cc) ]

pub returns-clause-past : goal.returns-clause-past
returns-clause-past c h = elim h.answers.0 [ inl e ↦ cc | inr f ↦ (let fault = f.0 in cc) ]

pub returns-clause-lost : goal.returns-clause-lost
unfolding zero_sector pattern
returns-clause-lost c h = elim h.answers.1.0 [
  | inl e ↦ (let byte : ◌≡◌ {A = ℕ} 0 1 = ap fifth e in omega arith)
  | inr f ↦ (let fault = f.0 in cc)
]

pub returns-clause-old : goal.returns-clause-old
unfolding zero_sector pattern
returns-clause-old c h = elim h.answers.1.1.0 [
  | inl e ↦ (let byte : ◌≡◌ {A = ℕ} 1 0 = ap fifth e in omega arith)
  | inr f ↦ (let fault = f.0 in cc)
]
