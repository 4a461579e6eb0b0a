-- A part of a bitmap that was lent and changed; a range of a zone's bits, by its parts.
use Rattle.std.proofs.Common.{◌≡◌, ◌≢◌, ◌⊎◌, ◌↔◌, ℕ, ◌+◌, ◌*◌, ◌-◌, ◌/◌, ◌%◌, ◌<◌, ◌≤◌, min, max, Bool, true, false, not, List, length, inl, inr, refl, sym, ap, ap₂, ◌∙◌, subst, arith}
use Rattle.std.proofs.lemmas.Bool.{cases_Bool, cases_eq, cases_lt}
use Rattle.std.specs.Prelude.{IsTrue}
use Rattle.zd_base.specs.Geometry.{Shape, per, zone_count}
use Rattle.zd_base.specs.Layout.{rounded_up}
use Rattle.zd_base.specs.declared.layout.Layout.{Layout}
use Rattle.zd_bits.specs.Bits.{GivesOnly, Tells}
use Rattle.zd_model.specs.Tables.{is_set}
use Rattle.zd_sets.specs.Blocks.{blocks_of}
use Rattle.zd_sets.specs.Lending.{with_bytes_at}
use Rattle.zd_tables.specs.Tables.{bits_in_blocks, tables_in}
use Rattle.zd_tables.specs.Changes.{Differs, SetsBits, SetsPart, TellsParts, bits_block}
use Rattle.zd_sets.proofs.LentLaws.{lent_blocks, only_blocks}
use Rattle.zd_tables.proofs.TableLaws.{bit_by_block, no_bit, valid_is}

-- a block that was lent
pub sets_lent : (bit : Bool) (block from end : ℕ) (old ws : List ℕ) (changed : Bool)
    → 4096 * (block + 1) ≤ length old → length ws ≡ 4096
    → GivesOnly bit from end (blocks_of old block 1) ws → Tells changed bit (blocks_of old block 1) from end
    → (changed ≡ false → ws ≡ blocks_of old block 1)
    → SetsPart bit block from end old (with_bytes_at old (4096 * block) ws) changed
sets_lent bit block from end old ws changed fits size gives tells same =
    let lent : blocks_of (with_bytes_at old (4096 * block) ws) block 1 ≡ ws = lent_blocks old ws block 1 size fits in
    record {
      only = only_blocks old ws block 1 size fits;
      bits = subst (λ (bytes : List ℕ). GivesOnly bit from end (blocks_of old block 1) bytes) (sym lent) gives;
      tells = tells;
      same = λ e. lent ∙ same e;
    }

-- none of its bits
pub sets_none : (bit : Bool) (block n : ℕ) (bytes : List ℕ) → SetsPart bit block n n bytes bytes false
sets_none bit block n bytes = record {
  only = record { size = refl; others = λ k _. refl };
  bits = record { inside = λ x low high. absurd (omega arith); below = λ x _. refl; behind = λ x _. refl };
  tells = record {
    changes = λ e. (let wrong : ⊥ = cc in absurd wrong);
    keeps = λ _ x low high. absurd
        (omega arith);
  };
  same = λ _. refl;
}

not_so : (b : Bool) → b ≡ not b → ⊥
not_so true e = cc
not_so false e = cc

-- where there is no bit, none was changed
unchanged : (bit : Bool) (block from end : ℕ) (old new : List ℕ) (changed : Bool) → end ≤ from
    → SetsPart bit block from end old new changed → changed ≡ false
unchanged bit block from end old new changed none sets = elim (cases_Bool changed) [
  | inl changes ↦ (let s = sets.tells.changes changes in absurd (omega (arith, none, s.1, s.2)))
  | inr stays ↦ stays
]

-- A RANGE OF A ZONE, first by the bits of its first part, then by those of its second
module _ (g : Shape) (l : Layout) (zone : ℕ) (bit : Bool) (from end : ℕ) (old middle new : List ℕ)
    (first second : Bool)
    (order : from ≤ end) (room : end ≤ 32768 * per g) (few : per g ≤ 2)
    (one : SetsPart bit (bits_block g l zone) (min from 32768) (min end 32768) old middle first)
    (two : SetsPart bit (bits_block g l zone + 1) (max from 32768 - 32768)
    (max end 32768 - 32768) middle new second) where
  first_same : first ≡ false → blocks_of new (bits_block g l zone) 1 ≡ blocks_of old (bits_block g l zone) 1
  first_same stays = two.only.others (bits_block g l zone) (inl (omega arith)) ∙ one.same stays

  second_same : second ≡ false → blocks_of new (bits_block g l zone + 1) 1 ≡ blocks_of old (bits_block g l zone + 1) 1
  second_same stays = two.same stays ∙ one.only.others (bits_block g l zone + 1) (inr (omega arith))

  Outside : ℕ → Type 0
  Outside k = (k < bits_block g l zone + from / 32768) ⊎ (bits_block g l zone + rounded_up end 32768 ≤ k)

  other_block : (k : ℕ) → (k < bits_block g l zone + from / 32768) ⊎ (bits_block g l zone + rounded_up end 32768 ≤ k)
      → blocks_of new k 1 ≡ blocks_of old k 1
  other_block k out = elim (cases_eq k (bits_block g l zone)) [
    | inl here ↦
        let none : min end 32768 ≤ min from 32768 =
        elim out [ inl low ↦ omega (arith, low, here, order) | inr high ↦ omega (arith, high, here, order) ] in
        ap (λ n. blocks_of new n 1) here
        ∙ first_same (unchanged bit (bits_block g l zone) (min from 32768) (min end 32768) old middle first none one)
        ∙ ap (λ n. blocks_of old n 1) (sym here)
    | inr off ↦ elim (cases_eq k (bits_block g l zone + 1)) [
      | inl next ↦
          let none : max end 32768 - 32768 ≤ max from 32768 - 32768 =
          elim out [
            | inl low ↦ omega (arith, low, next, order, room, few)
            | inr high ↦
                omega (arith, high, next, order)
          ] in
          ap (λ n. blocks_of new n 1) next
          ∙ second_same (unchanged bit (bits_block g l zone + 1) (max from 32768 - 32768)
          (max end 32768 - 32768) middle new second none two)
          ∙ ap (λ n. blocks_of old n 1) (sym next)
      | inr far ↦ two.only.others k (apart (bits_block g l zone + 1) k far)
          ∙ one.only.others k (apart (bits_block g l zone) k off)
    ]
  ]
    where
      apart : (b k : ℕ) → k ≢ b → (k < b) ⊎ (b + 1 ≤ k)
      apart b k off = elim (cases_lt k b) [ inl low ↦ inl low | inr high ↦ inr (omega (arith, high, off)) ]

  -- a bit, by its part
  first_bit : (bytes : List ℕ) (x : ℕ) → x < 32768 * per g → x < 32768
      → is_set (bits_in_blocks g l bytes zone) x ≡ is_set (blocks_of bytes (bits_block g l zone) 1) x
  first_bit bytes x low near =
      bit_by_block g l bytes zone x low
      ∙ ap₂ (λ (k y : ℕ). is_set (blocks_of bytes k 1) y)
      (let e : bits_block g l zone + x / 32768 ≡ bits_block g l zone = omega (arith, near) in e)
      (let e : x % 32768 ≡ x = omega (arith, near) in e)

  second_bit : (bytes : List ℕ) (x : ℕ) → x < 32768 * per g → 32768 ≤ x
      → is_set (bits_in_blocks g l bytes zone) x ≡ is_set (blocks_of bytes (bits_block g l zone + 1) 1) (x - 32768)
  second_bit bytes x low far =
      bit_by_block g l bytes zone x low
      ∙ ap₂ (λ (k y : ℕ). is_set (blocks_of bytes k 1) y)
      (let e : bits_block g l zone + x / 32768 ≡ bits_block g l zone + 1 = omega (arith, far, low, few) in e)
      (let e : x % 32768 ≡ x - 32768 = omega (arith, far, low, few) in e)

  new_first : (x : ℕ) → x < 32768 * per g → x < 32768
      → is_set (bits_in_blocks g l new zone) x ≡ is_set (blocks_of middle (bits_block g l zone) 1) x
  new_first x low near =
      first_bit new x low near
      ∙ ap (λ (b : List ℕ). is_set b x) (two.only.others (bits_block g l zone) (inl (omega arith)))

  old_second : (x : ℕ) → x < 32768 * per g → 32768 ≤ x
      → is_set (bits_in_blocks g l old zone) x ≡ is_set (blocks_of middle (bits_block g l zone + 1) 1) (x - 32768)
  old_second x low far =
      second_bit old x low far
      ∙ ap (λ (b : List ℕ). is_set b (x - 32768))
      (sym (one.only.others (bits_block g l zone + 1) (inr (omega arith))))

  outside : (x : ℕ) → (x < from) ⊎ (end ≤ x) → is_set (bits_in_blocks g l new zone) x ≡ is_set
      (bits_in_blocks g l old zone) x
  outside x out = elim (cases_lt x (32768 * per g)) [
    | inr past ↦ no_bit g l new zone x past ∙ sym (no_bit g l old zone x past)
    | inl low ↦ elim (cases_lt x 32768) [
      | inl near ↦
          new_first x low near
          ∙ elim out [
            | inl below ↦ one.bits.below x (omega (arith, below, near))
            | inr behind ↦
                one.bits.behind x (omega (arith, behind, near))
          ]
          ∙ sym (first_bit old x low near)
      | inr far ↦
          second_bit new x low far
          ∙ elim out [
            | inl below ↦ two.bits.below (x - 32768) (omega (arith, below, far))
            | inr behind ↦ two.bits.behind (x - 32768) (omega (arith, behind, far))
          ]
          ∙ sym (old_second x low far)
    ]
  ]

  pub sets_range : SetsBits bit g l zone from end old new
  sets_range = record {
    only = record { size = two.only.size ∙ one.only.size; others = other_block };
    bits = record {
      inside = λ x low high. elim (cases_lt x 32768) [
        | inl near ↦ new_first x (omega (arith, high, room)) near
            ∙ one.bits.inside x (omega (arith, low)) (omega (arith, high, near))
        | inr far ↦ second_bit new x (omega (arith, high, room)) far
            ∙ two.bits.inside (x - 32768) (omega (arith, low, far)) (omega (arith, high, far))
      ];
      below = λ x low. outside x (inl low);
      behind = λ x high. outside x (inr high);
    };
  }

  -- what is told of both parts
  module _ (low : zone < zone_count g) where
    first_differs : IsTrue first ↔ Differs bit (tables_in g l old) zone from end 0
    first_differs = (
      λ changes. (
          let s = one.tells.changes changes in
          let near : s.0 < 32768 = omega (arith, s.2) in (
            s.0,
            omega (arith, s.1, s.2),
            omega (arith, s.2),
            omega (arith, near),
            valid_is g l old zone s.0 low ∙ first_bit old s.0 (omega (arith, s.2, room)) near ∙ s.3,
          )),
      λ d. elim (cases_Bool first) [
        | inl changes ↦ changes
        | inr stays ↦
            let near : d.0 < 32768 = omega (arith, d.3) in
            let kept = one.tells.keeps stays d.0 (omega (arith, d.1)) (omega (arith, d.2, near)) in
            absurd (not_so bit (sym kept ∙ sym (first_bit old d.0 (omega (arith, d.2, room)) near)
            ∙ sym (valid_is g l old zone d.0 low) ∙ d.4))
      ],
    )

    second_differs : IsTrue second ↔ Differs bit (tables_in g l old) zone from end 1
    second_differs = (
      λ changes. (
          let s = two.tells.changes changes in
          let x : ℕ = s.0 + 32768 in
          let back : s.0 + 32768 - 32768 ≡ s.0 = omega arith in
          let high : s.0 + 32768 < end = omega (arith, s.2) in (
            s.0 + 32768,
            omega (arith, s.1),
            high,
            omega (arith, high, room, few),
            valid_is g l old zone (s.0 + 32768) low
                ∙ old_second (s.0 + 32768) (omega (arith, high, room)) (omega arith)
                ∙ ap (is_set (blocks_of middle (bits_block g l zone + 1) 1)) back
                ∙ s.3,
          )),
      λ d. elim (cases_Bool second) [
        | inl changes ↦ changes
        | inr stays ↦
            let far : 32768 ≤ d.0 = omega (arith, d.3) in
            let kept = two.tells.keeps stays (d.0 - 32768) (omega (arith, d.1, far)) (omega (arith, d.2, far)) in
            absurd (not_so bit (sym kept ∙ sym (old_second d.0 (omega (arith, d.2, room)) far)
            ∙ sym (valid_is g l old zone d.0 low) ∙ d.4))
      ],
    )

    pub tells_parts : TellsParts bit g l zone from end old new (record { first = first; second = second })
    tells_parts = record {
      first = first_differs;
      second = second_differs;
      same_first = first_same;
      same_second = second_same;
    }
