-- What changed blocks of a set make of the tables in them, place by place.
use Rattle.std.proofs.Common.{◌≡◌, ◌≢◌, ℕ, ◌+◌, ◌*◌, ◌-◌, ◌/◌, ◌%◌, ◌<◌, ◌≤◌, Bool, List, [], map, length, get_or, drop, inl, inr, refl, sym, ap, ap₂, ◌∙◌, arith}
use Rattle.std.proofs.Math.Nat.{mul-le-mul_right}
use Rattle.std.proofs.lemmas.Bool.{cases_lt}
use Rattle.std.proofs.lemmas.List.{get_or-drop, get_or-take, get_or_past, length-take}
use Rattle.std.proofs.lemmas.List.FromFn.{get_or-map-range_with_len, length-map-range_with_len}
use Rattle.std.specs.Int.{bit_at}
use Rattle.std.specs.List.{range_with_len}
use Rattle.std.specs.Prelude.{◌==◌}
use Rattle.zd_base.specs.Geometry.{Shape, per, zone_count}
use Rattle.zd_base.specs.declared.layout.Layout.{Layout}
use Rattle.zd_map.specs.Numbers.{unmapped}
use Rattle.zd_model.specs.Tables.{entry_at, entry_of, is_set, is_valid}
use Rattle.zd_model.specs.declared.metadata.MapEntry.{MapEntry}
use Rattle.zd_sets.specs.Blocks.{blocks_of}
use Rattle.zd_sets.specs.Lending.{OnlyBlocks}
use Rattle.zd_tables.specs.Tables.{bits_in_blocks, entry_in_blocks, tables_in}
use Rattle.zd_tables.proofs.TakenLaws.{joined}
use Rattle.zd_tables.specs.Changes.{ChangesBits, ChangesEntry, SetsBits, SetsEntry, bits_block, entry_block}

byte_of : (bytes : List ℕ) (first count i : ℕ) → i < 4096 * count
    → get_or (blocks_of bytes first count) i 0 ≡ get_or bytes (4096 * first + i) 0
byte_of bytes first count i low =
    get_or-take (4096 * (first + count) - 4096 * first) (drop (4096 * first) bytes) i 0 (omega arith)
    ∙ get_or-drop (4096 * first) bytes i 0

-- many blocks are as they were where each is
same_blocks : (old new : List ℕ) (first count : ℕ)
    → ((k : ℕ) → first ≤ k → k < first + count → blocks_of new k 1 ≡ blocks_of old k 1)
    → blocks_of new first count ≡ blocks_of old first count
same_blocks old new first count same =
    let here : first ≡ first + 0 = omega arith in
    ap (λ b. blocks_of new b count) here
    ∙ joined new (λ i. blocks_of old (first + i) 1) first 0 count
    (λ i _ low. same (first + i) (omega arith) (omega arith))
    ∙ sym (joined old (λ i. blocks_of old (first + i) 1) first 0 count (λ i _ _. refl))
    ∙ ap (λ b. blocks_of old b count) (sym here)

-- what tables have, by the blocks
module _ (g : Shape) (l : Layout) (bytes : List ℕ) where
  pub bits_at : (z : ℕ) → z < zone_count g → get_or (tables_in g l bytes).bits z [] ≡ bits_in_blocks g l bytes z
  bits_at z low = get_or-map-range_with_len (bits_in_blocks g l bytes) 0 (zone_count g) z z [] low (omega arith)

  pub valid_is : (z x : ℕ) → z < zone_count g
      → is_valid (tables_in g l bytes) z x ≡ is_set (bits_in_blocks g l bytes z) x
  valid_is z x low = ap (λ (bits : List ℕ). is_set bits x) (bits_at z low)

  pub valid_past : (z x : ℕ) → zone_count g ≤ z → is_valid (tables_in g l bytes) z x ≡ is_set [] x
  valid_past z x high =
      ap (λ (bits : List ℕ). is_set bits x)
      (get_or_past (map (bits_in_blocks g l bytes) (range_with_len 0 (zone_count g))) z []
      (omega (arith, length-map-range_with_len (bits_in_blocks g l bytes) 0 (zone_count g))))

  pub entry_is : (c : ℕ) → c < l.chunks → entry_of (tables_in g l bytes) c ≡ entry_in_blocks bytes c
  entry_is c low = get_or-map-range_with_len (entry_in_blocks bytes) 0 l.chunks c c unmapped low (omega arith)

  pub entry_past : (c : ℕ) → l.chunks ≤ c → entry_of (tables_in g l bytes) c ≡ unmapped
  entry_past c high =
      get_or_past (map (entry_in_blocks bytes) (range_with_len 0 l.chunks)) c unmapped
      (omega (arith, length-map-range_with_len (entry_in_blocks bytes) 0 l.chunks))

  -- there are as many entries as chunks, and as many bitmaps as zones
  pub length-entries : length (tables_in g l bytes).entries ≡ l.chunks
  length-entries = length-map-range_with_len (entry_in_blocks bytes) 0 l.chunks

  pub length-bits : length (tables_in g l bytes).bits ≡ zone_count g
  length-bits = length-map-range_with_len (bits_in_blocks g l bytes) 0 (zone_count g)

  -- a bit of a zone, by its block
  pub bit_by_block : (z x : ℕ) → x < 32768 * per g
      → is_set (bits_in_blocks g l bytes z) x ≡ is_set (blocks_of bytes (bits_block g l z + x / 32768) 1) (x % 32768)
  bit_by_block z x low = ap₂ (λ (byte place : ℕ). bit_at byte place == 1)
      (byte_of bytes (bits_block g l z) (per g) (x / 8) (omega (arith, low))
      ∙ ap (λ (n : ℕ). get_or bytes n 0)
      (let e : 4096 * bits_block g l z + x / 8 ≡ 4096 * (bits_block g l z + x / 32768) + x % 32768 / 8 =
      omega arith in e)
      ∙ sym (byte_of bytes (bits_block g l z + x / 32768) 1 (x % 32768 / 8) (omega arith)))
      (let e : x % 8 ≡ x % 32768 % 8 = omega arith in e)

  -- behind the last there is none
  pub no_bit : (z x : ℕ) → 32768 * per g ≤ x → is_set (bits_in_blocks g l bytes z) x ≡ (bit_at 0 (x % 8) == 1)
  no_bit z x high = ap (λ (byte : ℕ). bit_at byte (x % 8) == 1) (get_or_past (bits_in_blocks g l bytes z) (x / 8) 0
      (let size = length-take (4096 * (bits_block g l z + per g) - 4096 * bits_block g l z)
      (drop (4096 * bits_block g l z) bytes) in
      omega (arith, size, high)))

module _ (g : Shape) (l : Layout) (old new : List ℕ) where
  -- the bits of a zone whose blocks are as they were
  same_bits : (z : ℕ)
      → ((k : ℕ) → bits_block g l z ≤ k → k < bits_block g l z + per g → blocks_of new k 1 ≡ blocks_of old k 1)
      → (x : ℕ) → is_valid (tables_in g l new) z x ≡ is_valid (tables_in g l old) z x
  same_bits z same x = elim (cases_lt z (zone_count g)) [
    | inl low ↦
        valid_is g l new z x low
        ∙ ap (λ (bits : List ℕ). is_set bits x) (same_blocks old new (bits_block g l z) (per g) same)
        ∙ sym (valid_is g l old z x low)
    | inr high ↦ valid_past g l new z x high ∙ sym (valid_past g l old z x high)
  ]

  -- AN ENTRY is set
  pub entry_changed : (chunk : ℕ) (entry : MapEntry) → l.chunks ≤ l.map_blocks * 512 → chunk < l.chunks
      → SetsEntry chunk entry old new → ChangesEntry chunk entry (tables_in g l old) (tables_in g l new)
  entry_changed chunk entry room low sets = record {
    here = entry_is g l new chunk low ∙ sets.here;
    others = λ c off. elim (cases_lt c l.chunks) [
      | inl inside ↦ entry_is g l new c inside ∙ sets.others c off ∙ sym (entry_is g l old c inside)
      | inr past ↦ entry_past g l new c past ∙ sym (entry_past g l old c past)
    ];
    bits = λ z. same_bits z (λ k from _. sets.only.others k (inr (
        let map_block : entry_block chunk < bits_block g l z = omega (arith, room, low) in
        omega (arith, from, map_block))));
  }

  -- THE BITS OF ONE ZONE change
  module _ (zone : ℕ) (only : OnlyBlocks (bits_block g l zone) (bits_block g l zone + per g) old new) where
    zone_others : (y x : ℕ) → y ≢ zone → is_valid (tables_in g l new) y x ≡ is_valid (tables_in g l old) y x
    zone_others y x off = same_bits y (λ k low high. only.others k (elim (cases_lt y zone) [
      | inl before ↦ (let m = mul-le-mul_right {m = y + 1} {n = zone} (per g) (omega (arith, before)) in
          inl (omega (arith, m, high)))
      | inr there ↦ (let m = mul-le-mul_right {m = zone + 1} {n = y} (per g) (omega (arith, there, off)) in
          inr (omega (arith, m, low)))
    ])) x

    zone_entries : l.chunks ≤ l.map_blocks * 512 → (c : ℕ)
        → entry_of (tables_in g l new) c ≡ entry_of (tables_in g l old) c
    zone_entries room c = elim (cases_lt c l.chunks) [
      | inl low ↦
          entry_is g l new c low
          ∙ ap (λ (bytes : List ℕ). entry_at bytes (c % 512))
          (only.others (1 + c / 512) (inl (omega (arith, room, low))))
          ∙ sym (entry_is g l old c low)
      | inr past ↦ entry_past g l new c past ∙ sym (entry_past g l old c past)
    ]

  -- A RANGE OF BITS is set or cleared
  pub range_changed : (bit : Bool) (zone from end : ℕ) → end ≤ 32768 * per g → zone < zone_count g
      → l.chunks ≤ l.map_blocks * 512
      → SetsBits bit g l zone from end old new → ChangesBits bit zone from end (tables_in g l old) (tables_in g l new)
  range_changed bit zone from end inside low room sets =
      let only : OnlyBlocks (bits_block g l zone) (bits_block g l zone + per g) old new = record {
        size = sets.only.size;
        others = λ k out. sets.only.others k
            (elim out [ inl below ↦ inl (omega (arith, below)) | inr high ↦ inr (omega (arith, high, inside)) ]);
      } in
      record {
        inside = λ x a b. valid_is g l new zone x low ∙ sets.bits.inside x a b;
        outside = λ x out.
            valid_is g l new zone x low
            ∙ elim out [ inl below ↦ sets.bits.below x below | inr behind ↦ sets.bits.behind x behind ]
            ∙ sym (valid_is g l old zone x low);
        others = zone_others zone only;
        entries = zone_entries zone only room;
      }
