use Rattle.std.proofs.Common.{◌≡◌, ◌<◌, ◌≤◌, ℕ, cond, ltb, refl, arith, lit≤, lit<}
use borrow.Author.Tests.{lt-ltb, le-ltb}
use Rattle.zd_model.proofs.SectorLaws.{zero_sector-sector}
use Rattle.zd_examples.proofs.images.image_examples.Goals as goal

-- conventional zones have 128 sectors, sequential ones as many as the pointer says
full : (z p : ℕ) → z < 6 → cond (ltb z 6) 128 p ≡ 128
full z p low = rw (lt-ltb z 6 low) refl

up_to : (z p : ℕ) → p ≤ 128 → 6 ≤ z → cond (ltb z 6) 128 p ≤ 128
up_to z p low far = rw (le-ltb z 6 far) low

pub returns-clause-blank : goal.returns-clause-blank
returns-clause-blank c = record {
  sectors = λ z i h. zero_sector-sector;
  conventional = λ z low. full z 0 low;
  sequential = λ z far. up_to z 0 (lit≤ tt) far;
}

pub returns-clause-full : goal.returns-clause-full
returns-clause-full c = record {
  sectors = λ z i h. zero_sector-sector;
  conventional = λ z low. full z 128 low;
  sequential = λ z far. up_to z 128 (lit≤ tt) far;
}

pub returns-clause-past : goal.returns-clause-past
returns-clause-past c h = let pointer : 129 ≤ 128 = h.sequential 6 (lit≤ tt) in omega arith

pub returns-clause-not_full : goal.returns-clause-not_full
returns-clause-not_full c h = let size : ◌≡◌ {A = ℕ} 127 128 = h.conventional 0 (lit< tt) in omega arith

pub returns-clause-short : goal.returns-clause-short
returns-clause-short c h = let size : ◌≡◌ {A = ℕ} 511 512 = (h.sectors 0 0 (lit< tt)).0 in omega arith

pub returns-clause-no_byte : goal.returns-clause-no_byte
returns-clause-no_byte c h = let byte : 256 < 256 = (h.sectors 0 0 (lit< tt)).1 0 0 (lit< tt) in omega arith
