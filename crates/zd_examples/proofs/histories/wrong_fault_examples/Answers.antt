use Rattle.std.proofs.Common.{inl, inr}
use Rattle.zd_examples.proofs.histories.wrong_fault_examples.Goals as goal

pub returns-clause-after_write : goal.returns-clause-after_write
returns-clause-after_write c h = elim h.answers.0 [ inl e ↦ cc | inr f ↦ (let last = f.2 in cc) ]

pub returns-clause-discard : goal.returns-clause-discard
returns-clause-discard c h = elim h.answers.0 [ inl e ↦ cc | inr f ↦ f.2 ]

pub returns-clause-past : goal.returns-clause-past
returns-clause-past c h = elim h.answers.0 [ inl e ↦ cc | inr f ↦ (let inside = f.1 in cc) ]

pub returns-clause-flush : goal.returns-clause-flush
returns-clause-flush c h = elim h.answers.0 [ inl e ↦ cc | inr f ↦ (let failed = f.2.0.1 in cc) ]

pub returns-clause-read : goal.returns-clause-read
returns-clause-read c h = elim h.answers.0 [ inl e ↦ cc | inr f ↦ (let flush = f.2.0.0 in cc) ]
