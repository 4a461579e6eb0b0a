use Rattle.std.proofs.Common.{◌≡◌, ◌≤◌, ℕ, Bool, true, false, refl, inl, arith, lit≤, lit<}
use Rattle.zd_model.specs.Bytes.{u32_at, zero_sector}
use Rattle.zd_examples.specs.Blocks.{short_block}
use Rattle.zd_model.specs.Super.{decoded}
use Rattle.zd_examples.proofs.images.ill_formed_examples.Goals as goal

pub returns-clause-cut : goal.returns-clause-cut
unfolding zero_sector u32_at
returns-clause-cut c h = let below : 8 ≤ 7 = h.bits.below 6 0 (lit≤ tt) (lit< tt) (lit< tt) refl in omega arith

pub returns-clause-cut_last : goal.returns-clause-cut_last
unfolding zero_sector u32_at
returns-clause-cut_last c h =
    let below : 8 ≤ 7 = h.bits.below 11 0 (lit≤ tt) (lit< tt) (lit< tt) refl in omega arith

pub returns-clause-twice : goal.returns-clause-twice
unfolding zero_sector u32_at
returns-clause-twice c h = let invalid : ◌≡◌ {A = Bool} true false = h.bits.one_place 0 6 2 0 refl refl (lit< tt) refl in cc

pub returns-clause-shared : goal.returns-clause-shared
unfolding zero_sector u32_at
returns-clause-shared c h = let same : ◌≡◌ {A = ℕ} 0 1 = h.map.named_once 0 1 2 (inl refl) (inl refl) in omega arith

pub returns-clause-other_magic : goal.returns-clause-other_magic
unfolding short_block u32_at decoded
returns-clause-other_magic c h = let none : ◌≡◌ {A = Bool} true false = h.no_other_magic refl 1 (lit≤ tt) (lit< tt) in cc
