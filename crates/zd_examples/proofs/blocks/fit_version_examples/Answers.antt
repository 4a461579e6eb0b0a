use Rattle.std.proofs.Common.{◌≡◌, ℕ, ap, arith, get_or, inl, inr, refl}
use Rattle.zd_model.proofs.TailLaws.{fits_2}
use Rattle.zd_examples.specs.Blocks.{named_head}
use Rattle.zd_examples.proofs.blocks.fit_version_examples.Goals as goal

pub returns-clause-bare : goal.returns-clause-bare
returns-clause-bare c =
    record { version = inl refl; label = λ one. refl; volume = λ one. refl; device = λ one. refl }

pub returns-clause-named : goal.returns-clause-named
returns-clause-named c = fits_2 named_head refl

pub returns-clause-label : goal.returns-clause-label
returns-clause-label c h =
    let byte : ◌≡◌ {A = ℕ} 1 0 = ap (λ bytes. get_or bytes 0 0) (h.label refl) in omega arith

pub returns-clause-volume : goal.returns-clause-volume
returns-clause-volume c h =
    let byte : ◌≡◌ {A = ℕ} 1 0 = ap (λ bytes. get_or bytes 15 0) (h.volume refl) in omega arith

pub returns-clause-device : goal.returns-clause-device
returns-clause-device c h =
    let byte : ◌≡◌ {A = ℕ} 1 0 = ap (λ bytes. get_or bytes 15 0) (h.device refl) in omega arith

pub returns-clause-none : goal.returns-clause-none
returns-clause-none c h = elim h.version [ inl one ↦ omega (arith, one) | inr two ↦ omega (arith, two) ]

pub returns-clause-third : goal.returns-clause-third
returns-clause-third c h = elim h.version [ inl one ↦ omega (arith, one) | inr two ↦ omega (arith, two) ]
