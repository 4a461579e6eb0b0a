-- The set that is chosen in images that begin as the fresh one.
use Rattle.std.proofs.Common.{◌≡◌, ◌<◌, ℕ, zero, suc, refl, ◌∙◌, arith, lit<, Some}
use Rattle.zd_model.specs.Bytes.{zero_sector, u32_at, u64_at}
use Rattle.zd_model.specs.Image.{block_at}
use Rattle.zd_model.specs.Super.{block_of, decoded, has_zero_tail, fields_end, behind_crc, crc_of}
use Rattle.zd_model.specs.Volume.{chosen}
use Rattle.zd_model.proofs.SameLaws.{same_chosen}
use Rattle.zd_examples.specs.Fresh.{fresh_chosen}
use Rattle.zd_examples.specs.Images.{buffered_image, conventional_image, fresh_image}
use Rattle.zd_examples.specs.Images.{last_zone_image, sequential_image}

pub fresh_is : chosen fresh_image ≡ Some fresh_chosen
unfolding zero_sector block_of decoded behind_crc crc_of u32_at u64_at has_zero_tail fields_end
fresh_is = refl

conventional_blocks : (z : ℕ) → z < 6 → block_at conventional_image z 0 ≡ block_at fresh_image z 0
conventional_blocks zero h = refl
conventional_blocks (suc zero) h = refl
conventional_blocks (suc (suc zero)) h = refl
conventional_blocks (suc (suc (suc zero))) h = refl
conventional_blocks (suc (suc (suc (suc zero)))) h = refl
conventional_blocks (suc (suc (suc (suc (suc zero))))) h = refl
conventional_blocks (suc (suc (suc (suc (suc (suc z)))))) h = absurd (omega arith)

pub conventional_is : chosen conventional_image ≡ Some fresh_chosen
conventional_is = same_chosen fresh_image conventional_image refl (lit< tt) conventional_blocks ∙ fresh_is

sequential_blocks : (p : ℕ) (z : ℕ) → z < 6 → block_at (sequential_image p) z 0 ≡ block_at fresh_image z 0
sequential_blocks p zero h = refl
sequential_blocks p (suc zero) h = refl
sequential_blocks p (suc (suc zero)) h = refl
sequential_blocks p (suc (suc (suc zero))) h = refl
sequential_blocks p (suc (suc (suc (suc zero)))) h = refl
sequential_blocks p (suc (suc (suc (suc (suc zero))))) h = refl
sequential_blocks p (suc (suc (suc (suc (suc (suc z)))))) h = absurd (omega arith)

pub sequential_is : (p : ℕ) → chosen (sequential_image p) ≡ Some fresh_chosen
sequential_is p = same_chosen fresh_image (sequential_image p) refl (lit< tt) (sequential_blocks p) ∙ fresh_is

buffered_blocks : (z : ℕ) → z < 6 → block_at buffered_image z 0 ≡ block_at fresh_image z 0
buffered_blocks zero h = refl
buffered_blocks (suc zero) h = refl
buffered_blocks (suc (suc zero)) h = refl
buffered_blocks (suc (suc (suc zero))) h = refl
buffered_blocks (suc (suc (suc (suc zero)))) h = refl
buffered_blocks (suc (suc (suc (suc (suc zero))))) h = refl
buffered_blocks (suc (suc (suc (suc (suc (suc z)))))) h = absurd (omega arith)

pub buffered_is : chosen buffered_image ≡ Some fresh_chosen
buffered_is = same_chosen fresh_image buffered_image refl (lit< tt) buffered_blocks ∙ fresh_is

last_zone_blocks : (p z : ℕ) → z < 6 → block_at (last_zone_image p) z 0 ≡ block_at fresh_image z 0
last_zone_blocks p zero h = refl
last_zone_blocks p (suc zero) h = refl
last_zone_blocks p (suc (suc zero)) h = refl
last_zone_blocks p (suc (suc (suc zero))) h = refl
last_zone_blocks p (suc (suc (suc (suc zero)))) h = refl
last_zone_blocks p (suc (suc (suc (suc (suc zero))))) h = refl
last_zone_blocks p (suc (suc (suc (suc (suc (suc z)))))) h = absurd (omega arith)

pub last_zone_is : (p : ℕ) → chosen (last_zone_image p) ≡ Some fresh_chosen
last_zone_is p = same_chosen fresh_image (last_zone_image p) refl (lit< tt) (last_zone_blocks p) ∙ fresh_is
