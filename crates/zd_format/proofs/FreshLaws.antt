-- The blocks of a volume that nobody wrote.
use Rattle.std.proofs.Common.{◌≡◌, ℕ, ◌+◌, ◌-◌, ◌*◌, ◌<◌, ◌≤◌, List, length, take, drop, sym, ap, ◌∙◌, subst, arith}
use Rattle.std.proofs.Math.Seq.{take-length}
use Rattle.std.proofs.lemmas.List.{drop-replicate, take-replicate, length-replicate}
use Rattle.zd_model.specs.Super.{block_of}
use Rattle.zd_model.specs.declared.metadata.Super.{Super}
use Rattle.zd_format.specs.Sets.{IsFreshBlock, NamesNothing, block_in, zero_blocks}
use Rattle.zd_disk.specs.Runs.{blocks_in}

-- the bytes of one block are that block
whole_block : (bytes : List ℕ) (j : ℕ) → length bytes ≡ 4096 → j ≡ 0 → block_in bytes j ≡ bytes
whole_block bytes j size at =
    ap (λ (n : ℕ). take 4096 (drop (4096 * n) bytes)) at ∙ ap (λ (n : ℕ). take n bytes) (sym size) ∙ take-length bytes

pub fresh_super : (head : Super) (bytes : List ℕ) → length bytes ≡ 4096 → bytes ≡ block_of head → (j : ℕ) → j < blocks_in bytes
    → IsFreshBlock head (0 + j) (block_in bytes j)
fresh_super head bytes size is j low = record {
  super = λ e. whole_block bytes j size (omega (arith, size, low)) ∙ is;
  map = λ some most. absurd (omega (arith, size, low, some));
  bitmap = λ high. absurd (omega (arith, size, low, high));
}

pub fresh_map : (head : Super) (b : ℕ) (bytes : List ℕ) → length bytes ≡ 4096 → NamesNothing bytes → 1 ≤ b → b ≤ head.layout.map_blocks → (j : ℕ)
    → j < blocks_in bytes → IsFreshBlock head (b + j) (block_in bytes j)
fresh_map head b bytes size nothing some most j low = record {
  super = λ e. absurd (omega (arith, some, e));
  map = λ s m. subst NamesNothing (sym (whole_block bytes j size (omega (arith, size, low)))) nothing;
  bitmap = λ high. absurd (omega (arith, size, low, most, high));
}

pub length-zero_blocks : (n : ℕ) → length (zero_blocks n) ≡ 4096 * n
unfolding zero_blocks
length-zero_blocks n = length-replicate {A = ℕ} (4096 * n) 0

-- the first blocks of zeros are blocks of zeros
pub take-zero_blocks : (m n : ℕ) → m ≤ n → take (4096 * m) (zero_blocks n) ≡ zero_blocks m
unfolding zero_blocks
take-zero_blocks m n most = take-replicate (4096 * m) (4096 * n) 0 (omega (arith, most))

block_of_zeros : (n j : ℕ) → j < n → block_in (zero_blocks n) j ≡ zero_blocks 1
unfolding zero_blocks
block_of_zeros n j low =
    ap (λ (l : List ℕ). take 4096 l) (drop-replicate (4096 * j) (4096 * n) 0)
    ∙ take-replicate 4096 (4096 * n - 4096 * j) 0 (omega (arith, low))

pub fresh_zeros : (head : Super) (b n : ℕ) (bytes : List ℕ) → bytes ≡ zero_blocks n → head.layout.map_blocks < b → (j : ℕ) → j < blocks_in bytes
    → IsFreshBlock head (b + j) (block_in bytes j)
fresh_zeros head b n bytes is high j low =
    let size : length bytes ≡ 4096 * n = ap length is ∙ length-zero_blocks n in
    record {
      super = λ e. absurd (omega (arith, high, e));
      map = λ some most. absurd (omega (arith, high, most));
      bitmap = λ more. ap (λ (l : List ℕ). block_in l j) is ∙ block_of_zeros n j (omega (arith, size, low));
    }
