-- Changed bits of a zone mark exactly the blocks that changed; and so do changes of two zones.
use Rattle.std.proofs.Common.{◌≡◌, ◌≢◌, ◌⊎◌, ◌↔◌, ℕ, ◌+◌, ◌*◌, ◌/◌, ◌%◌, ◌<◌, ◌≤◌, Bool, true, false, not, ◌||◌, List}
use Rattle.std.proofs.Common.{length, get_or, inl, inr, refl, sym, ap, ap₂, ◌∙◌, subst, arith}
use Rattle.std.proofs.lemmas.Bool.{cases_Bool, cases_eq, cases_lt}
use Rattle.zd_base.specs.Geometry.{IsShape, Shape, per, zone_count}
use Rattle.zd_base.specs.declared.layout.Layout.{Layout}
use Rattle.zd_model.specs.Tables.{is_set, is_valid}
use Rattle.zd_sets.specs.Blocks.{blocks_of}
use Rattle.zd_sets.specs.Lending.{OnlyBlocks}
use Rattle.zd_tables.specs.Changes.{Differs, SetsBits, TellsParts, bits_block}
use Rattle.zd_tables.specs.Tables.{tables_in}
use Rattle.zd_tables.specs.declared.part.ChangedParts.{ChangedParts}
use Rattle.zd_tables.proofs.TableLaws.{bit_by_block, valid_is}
use Rattle.zd_tables.proofs.ZoneParts.{bits_room, one_or_two}
use Rattle.zd_volume.specs.Marks.{MarksChanged, MarksParts}

-- nothing changed
pub marks_none : (bytes : List ℕ) (dirty : List Bool) → MarksChanged bytes bytes dirty dirty
marks_none bytes dirty = record { size = refl; clean = λ k _. ((λ clean. (clean, refl)), (λ both. both.0)) }

-- one change after another, where no block changes in both
pub marks_then : (a b c : List ℕ) (d e f : List Bool) → MarksChanged a b d e → MarksChanged b c e f
    → ((k : ℕ) → k < length d → (blocks_of b k 1 ≡ blocks_of a k 1) ⊎ (blocks_of c k 1 ≡ blocks_of b k 1))
    → MarksChanged a c d f
marks_then a b c d e f first second apart = record {
  size = second.size ∙ first.size;
  clean = λ k low. (
    (λ clean. (
        let late = (second.clean k (let size = first.size in omega (arith, size, low))).0 clean in
        let early = (first.clean k low).0 late.0 in
        (early.0, late.1 ∙ early.1))),
    (λ both. (second.clean k (let size = first.size in omega (arith, size, low))).1 (elim (apart k low) [
      | inl same ↦ ((first.clean k low).1 (both.0, same), both.1 ∙ sym same)
      | inr same ↦ ((first.clean k low).1 (both.0, sym same ∙ both.1), same)
    ])),
  );
}

or_clean : (a b : Bool) → (a || b) ≡ false → (a ≡ false) × (b ≡ false)
or_clean false b clean = (refl, clean)
or_clean true b clean = absurd (let f : ⊥ = cc in f)

clean_or : (a b : Bool) → a ≡ false → b ≡ false → (a || b) ≡ false
clean_or a b first second = ap₂ (λ (x y : Bool). x || y) first second

not_so : (b : Bool) → b ≡ not b → ⊥
not_so true e = cc
not_so false e = cc

-- A RANGE OF A ZONE'S BITS
module _ (bit : Bool) (g : Shape) (l : Layout) (shape : IsShape g) (zone first end : ℕ) (low : zone < zone_count g)
    (inside : end ≤ g.zone_blocks) (old new : List ℕ) (sets : SetsBits bit g l zone first end old new) where
  room : end ≤ 32768 * per g
  room = omega (arith, inside, bits_room g shape)

  -- the blocks of its bitmap alone change
  pub only_zone : OnlyBlocks (bits_block g l zone) (bits_block g l zone + per g) old new
  only_zone = record {
    size = sets.only.size;
    others = λ k out. sets.only.others k (elim out [
      | inl below ↦ inl (omega (arith, below))
      | inr high ↦ inr (omega (arith, high, room))
    ]);
  }

  -- a bit, by its block
  bit_is : (bytes : List ℕ) (x : ℕ) → x < end
      → is_valid (tables_in g l bytes) zone x
      ≡ is_set (blocks_of bytes (bits_block g l zone + x / 32768) 1) (x % 32768)
  bit_is bytes x high = valid_is g l bytes zone x low ∙ bit_by_block g l bytes zone x (omega (arith, high, room))

  -- a part with a bit that changes is another one then
  part_differs : (k : ℕ) → Differs bit (tables_in g l old) zone first end k
      → blocks_of new (bits_block g l zone + k) 1 ≡ blocks_of old (bits_block g l zone + k) 1 → ⊥
  part_differs k d same =
      let at = d.3 in
      let blocks : blocks_of new (bits_block g l zone + d.0 / 32768) 1
      ≡ blocks_of old (bits_block g l zone + d.0 / 32768) 1 =
      subst (λ (n : ℕ). blocks_of new (bits_block g l zone + n) 1 ≡ blocks_of old (bits_block g l zone + n) 1)
      (sym at) same in
      not_so bit
      (sym (valid_is g l new zone d.0 low ∙ sets.bits.inside d.0 d.1 d.2)
      ∙ bit_is new d.0 d.2
      ∙ ap (λ (b : List ℕ). is_set b (d.0 % 32768)) blocks
      ∙ sym (bit_is old d.0 d.2)
      ∙ d.4)

  module _ (changed : ChangedParts) (tells : TellsParts bit g l zone first end old new changed)
      (dirty marked : List Bool) (marks : MarksParts (bits_block g l zone) changed dirty marked) where
    -- one part
    part_clean : (k : ℕ) (b : Bool)
        → get_or marked (bits_block g l zone + k) true ≡ (b || get_or dirty (bits_block g l zone + k) true)
        → (b ≡ true → Differs bit (tables_in g l old) zone first end k)
        → (b ≡ false → blocks_of new (bits_block g l zone + k) 1 ≡ blocks_of old (bits_block g l zone + k) 1)
        → (get_or marked (bits_block g l zone + k) true ≡ false)
        ↔ ((get_or dirty (bits_block g l zone + k) true ≡ false)
        × (blocks_of new (bits_block g l zone + k) 1 ≡ blocks_of old (bits_block g l zone + k) 1))
    part_clean k b is differs same = (
      (λ clean. (
          let both = or_clean b (get_or dirty (bits_block g l zone + k) true) (sym is ∙ clean) in
          (both.1, same both.0))),
      (λ both. is ∙ elim (cases_Bool b) [
        | inl changes ↦ absurd (part_differs k (differs changes) both.1)
        | inr stays ↦ clean_or b (get_or dirty (bits_block g l zone + k) true) stays both.0
      ]),
    )

    abbrev IsClean : ℕ → Type 0
    IsClean k = (get_or marked k true ≡ false)
        ↔ ((get_or dirty k true ≡ false) × (blocks_of new k 1 ≡ blocks_of old k 1))

    other_clean : (k : ℕ) → k ≢ bits_block g l zone → k ≢ bits_block g l zone + 1 → IsClean k
    other_clean k off far =
        let flag = marks.others k off far in
        let few : per g ≤ 2 =
        elim (one_or_two g shape) [ inl one ↦ omega (arith, one.1) | inr two ↦ omega (arith, two.1) ] in
        let same = only_zone.others k (elim (cases_lt k (bits_block g l zone)) [
          | inl below ↦ inl below
          | inr high ↦ inr (omega (arith, high, off, far, few))
        ]) in
        ((λ clean. (sym flag ∙ clean, same)), (λ both. flag ∙ both.0))

    pub marks_parts : MarksChanged old new dirty marked
    marks_parts = record {
      size = marks.size;
      clean = λ k _. elim (cases_eq k (bits_block g l zone)) [
        | inl here ↦
            let zero : bits_block g l zone + 0 ≡ k = omega (arith, here) in
            let more : bits_block g l zone ≡ bits_block g l zone + 0 = omega arith in
            subst IsClean zero
            (part_clean 0 changed.first
            (subst (λ (n : ℕ). get_or marked n true ≡ (changed.first || get_or dirty n true)) more marks.first)
            tells.first.0
            (λ stays. subst (λ (n : ℕ). blocks_of new n 1 ≡ blocks_of old n 1) more (tells.same_first stays)))
        | inr off ↦ elim (cases_eq k (bits_block g l zone + 1)) [
          | inl next ↦
              subst IsClean (sym next) (part_clean 1 changed.second marks.second tells.second.0 tells.same_second)
          | inr far ↦ other_clean k off far
        ]
      ];
    }
