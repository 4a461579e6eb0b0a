use Rattle.std.proofs.Common.{ℕ, ◌%◌, ◌^◌, List, take, drop, replicate, sym, ap, ap₂, ◌∙◌, arith, length-take}
use Rattle.std.proofs.lemmas.List.{take_rest}
use Rattle.std.proofs.lemmas.Nat.{and_mask}
use Rattle.zd_model.specs.Bytes.{u64_at}
use Rattle.zd_model.specs.Crc.{crc32_le}
use Rattle.zd_model.specs.Super.{crc_of}
use Rattle.zd_model.proofs.CrcLaws.{crc_parts}
use Rattle.zd_super.proofs.block.crc_of.Goals as goal

pub slice_bounds-crc32_le-end : goal.slice_bounds-crc32_le-end
slice_bounds-crc32_le-end c = omega (arith, length-take 44 c.args.block.now, c.requires)

-- the crc of the front, gone on over four zeros and what is behind them
pub returns : goal.returns
unfolding crc_of
returns c =
    let block : List ℕ = c.args.block.now in
    let zeros : List ℕ = replicate {A = ℕ} 4 0 in
    let seed = and_mask c.u64_at.result 32 ∙ ap (λ n. n % 2 ^ 32) c.u64_at.ensures in
    let front = c.crc32_le-front.ensures ∙ ap (λ n. crc32_le n (take 44 block)) seed in
    let field = c.crc32_le-field.ensures ∙ ap (λ crc. crc32_le crc zeros) front in
    c.crc32_le.ensures
    ∙ ap₂ (λ (crc : ℕ) (bytes : List ℕ). crc32_le crc bytes) field (take_rest block 48)
    ∙ sym (crc_parts (u64_at block 8 % 2 ^ 32) (take 44 block) zeros (drop 48 block))
