-- The record of a super block is one that has a block.
use Rattle.std.proofs.Common.{◌≡◌, ℕ, ◌+◌, ◌^◌, ◌<◌, ◌≤◌, List, take, drop, get_or, replicate, sym, ap, ◌∙◌, arith, subst, lit≤}
use Rattle.std.proofs.lemmas.List.{drop-drop}
use Rattle.std.specs.Int.{w32, w64, from_le_bytes}
use Rattle.zd_model.specs.Bytes.{AreBytes, u32_at, u64_at}
use Rattle.zd_model.specs.declared.metadata.Super.{Super}
use Rattle.zd_model.specs.Super.{IsSuper, IsVersion, FitsVersion, HasBlock, decoded, super_at}
use Rattle.zd_model.proofs.Decoded.{is_decoded}
use Rattle.zd_model.proofs.SuperLaws.{part}
use Rattle.zd_model.proofs.TailLaws.{zero_from_48, zeros_from}
use Rattle.std.specs.Prelude.{Ok}

four_lt : (bytes : List ℕ) → ((i : ℕ) → get_or bytes i 0 < 256) → from_le_bytes w32 bytes < 2 ^ 32
four_lt bytes each = let a = each 0 in let b = each 1 in let c = each 2 in let d = each 3 in omega arith

eight_lt : (bytes : List ℕ) → ((i : ℕ) → get_or bytes i 0 < 256) → from_le_bytes w64 bytes < 2 ^ 64
eight_lt bytes each =
    let a = each 0 in let b = each 1 in let c = each 2 in let d = each 3 in
    let e = each 4 in let f = each 5 in let g = each 6 in let h = each 7 in
    omega arith

module _ (block : List ℕ) (s : Super) (h : IsSuper block s) where
  after_48 : s.version ≡ 1 → drop 48 block ≡ replicate 4048 0
  after_48 one = zeros_from block 48 4048 h.bytes.count (zero_from_48 block s h one)

  after_80 : s.version ≡ 1 → drop 80 block ≡ replicate 4016 0
  after_80 one = sym (drop-drop 32 48 block) ∙ ap (drop 32) (after_48 one)

  after_96 : s.version ≡ 1 → drop 96 block ≡ replicate 4000 0
  after_96 one = sym (drop-drop 16 80 block) ∙ ap (drop 16) (after_80 one)

  -- which fits its version
  pub fits : FitsVersion s
  fits = record {
    version = subst IsVersion (ap (λ (t : Super). t.version) (sym h.fields)) h.version;
    label = λ one. ap (λ (t : Super). t.label) h.fields ∙ ap (take 32) (after_48 one);
    volume = λ one. ap (λ (t : Super). t.volume) h.fields ∙ ap (take 16) (after_80 one);
    device = λ one. ap (λ (t : Super). t.device) h.fields ∙ ap (take 16) (after_96 one);
  }

  four : (at : ℕ) → at ≤ 4092 → u32_at block at < 2 ^ 32
  unfolding u32_at
  four at inside = four_lt _ (part block h.bytes at (at + 4) (omega arith)).each

  eight : (at : ℕ) → at ≤ 4088 → u64_at block at < 2 ^ 64
  unfolding u64_at
  eight at inside = eight_lt _ (part block h.bytes at (at + 8) (omega arith)).each

  -- whose fields have their sizes
  pub has_block : HasBlock s
  has_block = subst (λ (t : Super). FitsVersion t → HasBlock t) (sym h.fields) at_their_places fits
    where
      at_their_places : FitsVersion (super_at block) → HasBlock (super_at block)
      at_their_places fits = record {
        generation = eight 8 (lit≤ tt);
        own = eight 16 (lit≤ tt);
        meta_blocks = four 24 (lit≤ tt);
        reserved = four 28 (lit≤ tt);
        chunks = four 32 (lit≤ tt);
        map_blocks = four 36 (lit≤ tt);
        bitmap_blocks = four 40 (lit≤ tt);
        label = part block h.bytes 48 80 (lit≤ tt);
        volume = part block h.bytes 80 96 (lit≤ tt);
        device = part block h.bytes 96 112 (lit≤ tt);
        fits = fits;
      }

-- and so is that of a block that decodes
pub decoded_has_block : (block : List ℕ) (s : Super) → AreBytes 4096 block → decoded block ≡ Ok s → HasBlock s
decoded_has_block block s bytes e = has_block block s (is_decoded block s bytes e)
