-- What a record spells is its block.
use Rattle.std.proofs.Common.{◌≡◌, ℕ, zero, suc, ◌+◌, ◌-◌, ◌%◌, ◌^◌, ◌<◌, ◌≤◌, List, [], ◌∷◌, ◌++◌, take, drop, get_or, replicate, refl, sym, ap, ◌∙◌, arith, lit<, slice_range, subst, inl, inr}
use Rattle.std.proofs.lemmas.List.{length-append, take_at, drop_at, drop-drop, get_or-drop, length-replicate}
use Rattle.std.proofs.lemmas.Nat.{from_le_bytes-to_le_bytes_4, from_le_bytes-to_le_bytes_8}
use Rattle.std.specs.Int.{w32, w64, to_le_bytes}
use Rattle.zd_model.specs.Bytes.{AreBytes, u32_at, u64_at}
use Rattle.zd_model.specs.Crc.{crc32_le}
use Rattle.zd_model.specs.declared.metadata.Super.{Super}
use Rattle.zd_model.specs.Super.{IsSuper, super_at, layout_at, before_crc, behind_crc, spelled, block_of, crc_of, fields_end, HasBlock, IsVersion}
use Rattle.zd_model.proofs.CrcLaws.{crc32_le-lt}

abbrev Each : List ℕ → Type 0
Each xs = (i : ℕ) → get_or xs i 0 < 256

each-append : (xs ys : List ℕ) → Each xs → Each ys → Each (xs ++ ys)
each-append [] ys h k i = k i
each-append (x ∷ xs) ys h k zero = h 0
each-append (x ∷ xs) ys h k (suc i) = each-append xs ys (λ j. h (suc j)) k i

each_zero : (n : ℕ) → Each (replicate n 0)
each_zero zero i = lit< tt
each_zero (suc n) zero = lit< tt
each_zero (suc n) (suc i) = each_zero n i

each_four : (n : ℕ) → Each (to_le_bytes w32 n)
each_four n zero = omega arith
each_four n (suc zero) = omega arith
each_four n (suc (suc zero)) = omega arith
each_four n (suc (suc (suc zero))) = omega arith
each_four n (suc (suc (suc (suc i)))) = lit< tt

each_eight : (n : ℕ) → Each (to_le_bytes w64 n)
each_eight n zero = omega arith
each_eight n (suc zero) = omega arith
each_eight n (suc (suc zero)) = omega arith
each_eight n (suc (suc (suc zero))) = omega arith
each_eight n (suc (suc (suc (suc zero)))) = omega arith
each_eight n (suc (suc (suc (suc (suc zero))))) = omega arith
each_eight n (suc (suc (suc (suc (suc (suc zero)))))) = omega arith
each_eight n (suc (suc (suc (suc (suc (suc (suc zero))))))) = omega arith
each_eight n (suc (suc (suc (suc (suc (suc (suc (suc i)))))))) = lit< tt

zero_at : (n i : ℕ) → get_or {A = ℕ} (replicate n 0) i 0 ≡ 0
zero_at zero i = refl
zero_at (suc n) zero = refl
zero_at (suc n) (suc i) = zero_at n i

four_bytes : (n : ℕ) → AreBytes 4 (to_le_bytes w32 n)
four_bytes n = record { count = refl; each = each_four n }

eight_bytes : (n : ℕ) → AreBytes 8 (to_le_bytes w64 n)
eight_bytes n = record { count = refl; each = each_eight n }

zero_bytes : (n : ℕ) → AreBytes n (replicate n 0)
zero_bytes n = record { count = length-replicate {A = ℕ} n 0; each = each_zero n }

infixr 5 ◌⊕◌
◌⊕◌ : {m n : ℕ} {xs ys : List ℕ} → AreBytes m xs → AreBytes n ys → AreBytes (m + n) (xs ++ ys)
◌⊕◌ {m} {n} {xs} {ys} h k = record {
  count = let a = h.count in let b = k.count in omega (arith, length-append xs ys);
  each = each-append xs ys h.each k.each;
}

module _ (s : Super) (sizes : HasBlock s) where
  before_bytes : AreBytes 44 (before_crc s)
  before_bytes = four_bytes 0x445A4244 ⊕ four_bytes s.version ⊕ eight_bytes s.generation ⊕ eight_bytes s.own ⊕ four_bytes s.layout.meta_blocks ⊕ four_bytes s.layout.reserved ⊕ four_bytes s.layout.chunks ⊕ four_bytes s.layout.map_blocks ⊕ four_bytes s.layout.bitmap_blocks ⊕ zero_bytes 0

  behind_bytes : AreBytes 4048 (behind_crc s)
  unfolding behind_crc
  behind_bytes = sizes.label ⊕ sizes.volume ⊕ sizes.device ⊕ zero_bytes 3984

  spelled_bytes : (crc : ℕ) → AreBytes 4096 (spelled s crc)
  spelled_bytes crc = (before_bytes ⊕ four_bytes crc) ⊕ behind_bytes

  the_crc : ℕ
  the_crc = crc32_le (s.generation % 2 ^ 32) (spelled s 0)

  crc_small : the_crc < 2 ^ 32
  unfolding the_crc
  crc_small = crc32_le-lt (s.generation % 2 ^ 32) (spelled s 0) (omega arith) (spelled_bytes 0).each

  generation_is : u64_at (block_of s) 8 ≡ s.generation
  unfolding block_of u64_at
  generation_is = from_le_bytes-to_le_bytes_8 s.generation sizes.generation

  crc_is : u32_at (block_of s) 44 ≡ crc_of (block_of s)
  unfolding block_of crc_of the_crc u32_at
  crc_is = from_le_bytes-to_le_bytes_4 the_crc crc_small ∙ ap (λ g. crc32_le (g % 2 ^ 32) (spelled s 0)) (sym generation_is)

  volume_is : slice_range (block_of s) 80 96 ≡ s.volume
  unfolding block_of behind_crc
  volume_is = ap (take 16) (drop_at s.label (s.volume ++ (s.device ++ replicate 3984 0)) 32 sizes.label.count) ∙ take_at s.volume (s.device ++ replicate 3984 0) 16 sizes.volume.count

  label_is : slice_range (block_of s) 48 80 ≡ s.label
  unfolding block_of behind_crc
  label_is = take_at s.label (s.volume ++ (s.device ++ replicate 3984 0)) 32 sizes.label.count

  behind_label : drop 80 (block_of s) ≡ s.volume ++ (s.device ++ replicate 3984 0)
  unfolding block_of behind_crc
  behind_label = drop_at s.label (s.volume ++ (s.device ++ replicate 3984 0)) 32 sizes.label.count

  behind_volume : drop 96 (block_of s) ≡ s.device ++ replicate 3984 0
  behind_volume = sym (drop-drop 16 80 (block_of s)) ∙ ap (drop 16) behind_label ∙ drop_at s.volume (s.device ++ replicate 3984 0) 16 sizes.volume.count

  device_is : slice_range (block_of s) 96 112 ≡ s.device
  device_is = ap (take 16) behind_volume ∙ take_at s.device (replicate 3984 0) 16 sizes.device.count

  behind_device : drop 112 (block_of s) ≡ replicate 3984 0
  behind_device = sym (drop-drop 16 96 (block_of s)) ∙ ap (drop 16) behind_volume ∙ drop_at s.device (replicate 3984 0) 16 sizes.device.count

  own_is : u64_at (block_of s) 16 ≡ s.own
  unfolding block_of u64_at
  own_is = from_le_bytes-to_le_bytes_8 s.own sizes.own

  layout_is : layout_at (block_of s) ≡ s.layout
  unfolding block_of u32_at
  layout_is =
      λ i. record {
        meta_blocks = from_le_bytes-to_le_bytes_4 s.layout.meta_blocks sizes.meta_blocks i;
        reserved = from_le_bytes-to_le_bytes_4 s.layout.reserved sizes.reserved i;
        chunks = from_le_bytes-to_le_bytes_4 s.layout.chunks sizes.chunks i;
        map_blocks = from_le_bytes-to_le_bytes_4 s.layout.map_blocks sizes.map_blocks i;
        bitmap_blocks = from_le_bytes-to_le_bytes_4 s.layout.bitmap_blocks sizes.bitmap_blocks i;
      }

  version_small : s.version < 2 ^ 32
  version_small = elim sizes.fits.version [
    | inl one ↦ omega (arith, one)
    | inr two ↦ omega (arith, two)
  ]

  version_is : u32_at (block_of s) 4 ≡ s.version
  unfolding block_of u32_at
  version_is = from_le_bytes-to_le_bytes_4 s.version version_small

  fields_are : s ≡ super_at (block_of s)
  fields_are =
      sym (λ i. record {
        version = version_is i;
        generation = generation_is i;
        own = own_is i;
        layout = layout_is i;
        label = label_is i;
        volume = volume_is i;
        device = device_is i;
      })

  -- in version 1 all after the crc is zeros
  after_crc : s.version ≡ 1 → drop 48 (block_of s) ≡ replicate 4048 0
  unfolding block_of behind_crc
  after_crc one =
      ap (λ xs. xs ++ (s.volume ++ (s.device ++ replicate 3984 0))) (sizes.fits.label one)
      ∙ ap (λ xs. replicate 32 0 ++ (xs ++ (s.device ++ replicate 3984 0))) (sizes.fits.volume one)
      ∙ ap (λ xs. replicate 32 0 ++ (replicate 16 0 ++ (xs ++ replicate 3984 0))) (sizes.fits.device one)

  zero_after : (at n : ℕ) → drop at (block_of s) ≡ replicate n 0 → (i : ℕ) → at ≤ i → get_or (block_of s) i 0 ≡ 0
  zero_after at n rest i far =
      let place : at + (i - at) ≡ i = omega arith in
      ap (λ k. get_or (block_of s) k 0) (sym place)
      ∙ sym (get_or-drop at (block_of s) (i - at) 0)
      ∙ ap (λ xs. get_or xs (i - at) 0) rest
      ∙ zero_at n (i - at)

  tail_is : (i : ℕ) → fields_end (u32_at (block_of s) 4) ≤ i → get_or (block_of s) i 0 ≡ 0
  unfolding fields_end
  tail_is i far = elim sizes.fits.version [
    | inl one ↦ zero_after 48 4048 (after_crc one) i (subst (λ v. fields_end v ≤ i) (version_is ∙ one) far)
    | inr two ↦ zero_after 112 3984 behind_device i (subst (λ v. fields_end v ≤ i) (version_is ∙ two) far)
  ]

  size_is : AreBytes 4096 (block_of s)
  unfolding block_of
  size_is = spelled_bytes (crc32_le (s.generation % 2 ^ 32) (spelled s 0))

  magic_is : u32_at (block_of s) 0 ≡ 0x445A4244
  unfolding block_of u32_at
  magic_is = refl

  -- a record has a block
  pub spells : IsSuper (block_of s) s
  spells = record { bytes = size_is; magic = magic_is; version = subst IsVersion (sym version_is) sizes.fits.version; crc = crc_is; tail = tail_is; fields = fields_are }
