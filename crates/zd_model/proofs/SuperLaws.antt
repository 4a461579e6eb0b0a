-- One record has one block, and one block has one record.
use Rattle.std.proofs.Common.{◌≡◌, ℕ, zero, suc, ◌+◌, ◌-◌, ◌%◌, ◌^◌, ◌<◌, ◌≤◌, min, List, [], ◌∷◌, ◌++◌, take, drop, get_or, replicate, refl, sym, ap, ◌∙◌, arith, lit<, lit≤, slice_range}
use Rattle.std.proofs.lemmas.List.{take-append-drop, drop-drop, length-take, length-drop, get_or-drop, append_cancel_right}
use Rattle.std.proofs.lemmas.Nat.{le_bytes_4, le_bytes_8}
use Rattle.std.specs.Int.{w32, w64, to_le_bytes}
use Rattle.zd_model.specs.Bytes.{AreBytes, u32_at, u64_at}
use Rattle.zd_model.specs.Crc.{crc32_le}
use Rattle.zd_model.specs.declared.metadata.Super.{Super}
use Rattle.zd_model.specs.Super.{IsSuper, super_at, before_crc, behind_crc, spelled, block_of, crc_of}
use Rattle.zd_model.proofs.TailLaws.{zero_from_112, zeros_from}

-- a list from `at` on, from its part up to `to` and what follows
grow : (xs : List ℕ) (at to : ℕ) (field rest : List ℕ) → at ≤ to → slice_range xs at to ≡ field → drop to xs ≡ rest → drop at xs ≡ field ++ rest
grow xs at to field rest le part after =
    let same : at + (to - at) ≡ to = omega arith in
    sym (take-append-drop (to - at) (drop at xs)) ∙ ap (λ ys. ys ++ drop (to - at) (drop at xs)) part ∙ ap (λ ys. field ++ ys) (drop-drop (to - at) at xs ∙ ap (λ n. drop n xs) same ∙ after)

-- a part of bytes is bytes
taken_bytes : (n : ℕ) (xs : List ℕ) → ((i : ℕ) → get_or xs i 0 < 256) → (i : ℕ) → get_or (take n xs) i 0 < 256
taken_bytes zero xs each i = lit< tt
taken_bytes (suc n) [] each i = lit< tt
taken_bytes (suc n) (x ∷ xs) each zero = each 0
taken_bytes (suc n) (x ∷ xs) each (suc i) = taken_bytes n xs (λ j. each (suc j)) i

module _ (block : List ℕ) (bytes : AreBytes 4096 block) where
  pub part : (at to : ℕ) → to ≤ 4096 → AreBytes (to - at) (slice_range block at to)
  part at to le = record {
    count = let size = bytes.count in length-take (to - at) (drop at block) ∙ ap (min (to - at)) (length-drop at block) ∙ omega arith;
    each = taken_bytes (to - at) (drop at block) (λ i. rw get_or-drop (bytes.each (at + i)));
  }

  four : (at : ℕ) → at + 4 ≤ 4096 → slice_range block at (at + 4) ≡ to_le_bytes w32 (u32_at block at)
  unfolding u32_at
  four at le = sym (le_bytes_4 (slice_range block at (at + 4)) (u32_at block at) ((part at (at + 4) le).count ∙ omega arith) ((part at (at + 4) le).each) refl)

  eight : (at : ℕ) → at + 8 ≤ 4096 → slice_range block at (at + 8) ≡ to_le_bytes w64 (u64_at block at)
  unfolding u64_at
  eight at le = sym (le_bytes_8 (slice_range block at (at + 8)) (u64_at block at) ((part at (at + 8) le).count ∙ omega arith) ((part at (at + 8) le).each) refl)

  -- the fields before the crc
  before : (magic : u32_at block 0 ≡ 0x445A4244) → take 44 block ≡ before_crc (super_at block)
  before magic =
      append_cancel_right (take 44 block) (before_crc (super_at block)) (drop 44 block)
      (take-append-drop 44 block
      ∙ grow block 0 4 (to_le_bytes w32 0x445A4244) _ (lit≤ tt) (four 0 (lit≤ tt) ∙ ap (to_le_bytes w32) magic)
      (grow block 4 8 (to_le_bytes w32 (u32_at block 4)) _ (lit≤ tt) (four 4 (lit≤ tt))
      (grow block 8 16 (to_le_bytes w64 (u64_at block 8)) _ (lit≤ tt) (eight 8 (lit≤ tt))
      (grow block 16 24 (to_le_bytes w64 (u64_at block 16)) _ (lit≤ tt) (eight 16 (lit≤ tt))
      (grow block 24 28 (to_le_bytes w32 (u32_at block 24)) _ (lit≤ tt) (four 24 (lit≤ tt))
      (grow block 28 32 (to_le_bytes w32 (u32_at block 28)) _ (lit≤ tt) (four 28 (lit≤ tt))
      (grow block 32 36 (to_le_bytes w32 (u32_at block 32)) _ (lit≤ tt) (four 32 (lit≤ tt))
      (grow block 36 40 (to_le_bytes w32 (u32_at block 36)) _ (lit≤ tt) (four 36 (lit≤ tt))
      (grow block 40 44 (to_le_bytes w32 (u32_at block 40)) (drop 44 block) (lit≤ tt) (four 40 (lit≤ tt)) refl)))))))))

  -- and those behind it
  behind : ((i : ℕ) → 112 ≤ i → get_or block i 0 ≡ 0) → drop 48 block ≡ behind_crc (super_at block)
  unfolding behind_crc
  behind zeros =
      let tail : drop 112 block ≡ replicate {A = ℕ} 3984 0 = zeros_from block 112 3984 bytes.count zeros in
      grow block 48 80 (slice_range block 48 80) _ (lit≤ tt) refl
      (grow block 80 96 (slice_range block 80 96) _ (lit≤ tt) refl
      (grow block 96 112 (slice_range block 96 112) (replicate 3984 0) (lit≤ tt) refl tail))

-- the block of a record is the one that the record spells
pub block_of_record : (block : List ℕ) (s : Super) → IsSuper block s → block ≡ block_of s
unfolding block_of crc_of
block_of_record block s h =
    let front = before block h.bytes h.magic in
    let back = behind block h.bytes (zero_from_112 block s h) in
    let field : slice_range block 44 48 ≡ to_le_bytes w32 (u32_at block 44) = four block h.bytes 44 (lit≤ tt) in
    let crc : u32_at block 44 ≡ crc32_le (u64_at block 8 % 2 ^ 32) (spelled (super_at block) 0) = h.crc ∙ ap (λ (xs : List ℕ). crc32_le (u64_at block 8 % 2 ^ 32) (xs ++ 0 ∷ 0 ∷ 0 ∷ 0 ∷ [] ++ drop 48 block)) front ∙ ap (λ (xs : List ℕ). crc32_le (u64_at block 8 % 2 ^ 32) (before_crc (super_at block) ++ 0 ∷ 0 ∷ 0 ∷ 0 ∷ [] ++ xs)) back in
    let whole : block ≡ take 44 block ++ (slice_range block 44 48 ++ drop 48 block) = sym (take-append-drop 44 block) ∙ ap (λ xs. take 44 block ++ xs) (grow block 44 48 (slice_range block 44 48) (drop 48 block) (lit≤ tt) refl refl) in
    let is : block ≡ block_of (super_at block) = whole ∙ ap (λ (xs : List ℕ). xs ++ (slice_range block 44 48 ++ drop 48 block)) front ∙ ap (λ (xs : List ℕ). before_crc (super_at block) ++ (xs ++ drop 48 block)) (field ∙ ap (to_le_bytes w32) crc) ∙ ap (λ (xs : List ℕ). before_crc (super_at block) ++ (to_le_bytes w32 (crc32_le (u64_at block 8 % 2 ^ 32) (spelled (super_at block) 0)) ++ xs)) back in
    is ∙ ap block_of (sym h.fields)

pub one_block : (a b : List ℕ) (s : Super) → IsSuper a s → IsSuper b s → a ≡ b
one_block a b s h k = block_of_record a s h ∙ sym (block_of_record b s k)

pub one_record : (block : List ℕ) (s t : Super) → IsSuper block s → IsSuper block t → s ≡ t
one_record block s t h k = h.fields ∙ sym k.fields
