use Rattle.std.proofs.Common.{◌≡◌, ◌≤◌, ℕ, arith}
use Rattle.zd_examples.proofs.cuts.wrong_cut_examples.Goals as goal

pub returns-clause-two_chunks : goal.returns-clause-two_chunks
returns-clause-two_chunks c h = let same : ◌≡◌ {A = ℕ} 0 1 = h.2 in omega arith

pub returns-clause-gap : goal.returns-clause-gap
returns-clause-gap c h = let next : ◌≡◌ {A = ℕ} 16 8 = h.3.0 in omega arith

pub returns-clause-overlap : goal.returns-clause-overlap
returns-clause-overlap c h = let next : ◌≡◌ {A = ℕ} 8 16 = h.3.0 in omega arith

pub returns-clause-no_block : goal.returns-clause-no_block
returns-clause-no_block c h = let some : 1 ≤ 0 = h.3.1 in omega arith

pub returns-clause-too_short : goal.returns-clause-too_short
returns-clause-too_short c h = let end : ◌≡◌ {A = ℕ} 16 24 = h.3 in omega arith

pub returns-clause-sectors : goal.returns-clause-sectors
returns-clause-sectors c h = let same : ◌≡◌ {A = ℕ} 0 1 = h.2 in omega arith
