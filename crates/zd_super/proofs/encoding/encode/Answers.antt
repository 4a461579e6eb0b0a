use Rattle.std.proofs.Common.{◌≡◌, ◌∙◌, ap, ap₂, List, ℕ, ◌++◌, take, drop, ◌%◌, ◌^◌}
use Rattle.std.proofs.lemmas.Nat.{and_mask}
use Rattle.std.specs.Int.{w32, to_le_bytes}
use Rattle.zd_model.specs.Crc.{crc32_le}
use Rattle.zd_model.specs.Super.{before_crc, behind_crc, block_of, spelled}
use Rattle.zd_super.proofs.encoding.encode.Goals as goal

pub returns : goal.returns
unfolding block_of
returns c =
    let s = c.args.head.now in
    let crc : c.crc32_le-crc.result ≡ crc32_le (s.generation % 2 ^ 32) (spelled s 0) = c.crc32_le-crc.ensures
    ∙ ap₂ (λ (seed : ℕ) (bytes : List ℕ). crc32_le seed bytes) (and_mask s.generation 32) c.put_fields.ensures in
    let bytes : c.to_le_bytes.result ≡ to_le_bytes w32 (crc32_le (s.generation % 2 ^ 32) (spelled s 0)) =
    c.to_le_bytes.ensures ∙ ap (to_le_bytes w32) crc in
    c.put.ensures.value
    ∙ ap (λ (l : List ℕ). take 44 l ++ (c.to_le_bytes.result ++ drop 48 l)) c.put_fields.ensures
    ∙ ap (λ (l : List ℕ). before_crc s ++ (l ++ behind_crc s)) bytes
