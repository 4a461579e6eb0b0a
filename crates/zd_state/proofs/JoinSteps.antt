-- The blocks that are valid in one zone become valid in another, run by run.
use Rattle.std.proofs.Common.{◌≡◌, ◌≢◌, ◌⊎◌, ℕ, ◌+◌, ◌*◌, ◌/◌, ◌%◌, ◌<◌, ◌≤◌, Bool, ◌||◌, true, false, List}
use Rattle.std.proofs.Common.{inl, inr, refl, sym, ap, ap₂, ◌∙◌, subst, arith}
use Rattle.std.proofs.Math.Bool.{or-false}
use Rattle.std.proofs.lemmas.Bool.{cases_eq, cases_lt, false≢true}
use Rattle.zd_base.specs.Geometry.{IsShape, Shape, per, zone_count}
use Rattle.zd_base.specs.declared.layout.Layout.{Layout}
use Rattle.zd_bits.specs.Bits.{IsBitRun}
use Rattle.zd_model.specs.Tables.{is_set, is_valid}
use Rattle.zd_model.proofs.FaultLaws.{or_right}
use Rattle.zd_sets.specs.Blocks.{blocks_of}
use Rattle.zd_tables.specs.Changes.{ChangesBits, Differs, bits_block}
use Rattle.zd_tables.specs.Tables.{bits_in_blocks, tables_in}
use Rattle.zd_tables.proofs.TableLaws.{bit_by_block, range_changed, valid_is}
use Rattle.zd_tables.proofs.ZoneParts.{bits_room, one_or_two}
use Rattle.zd_volume.specs.Marks.{GivesBits, MarksChanged}
use Rattle.zd_volume.specs.Volumes.{PlainVolume}
use Rattle.zd_volume.proofs.MarkLaws.{marks_none, marks_parts, only_zone}
use Rattle.zd_state.specs.Joins.{HasRisen, JoinsBlocks, JoinsRange}

-- NO BLOCK so far
pub joins_start : (g : Shape) (l : Layout) (from to : ℕ) (bytes : List ℕ) (dirty : List Bool)
    → JoinsBlocks g l from to 0 0 bytes bytes dirty dirty
joins_start g l from to bytes dirty = record {
  tables = record {
    inside = λ x low high. absurd (let f : ⊥ = omega (arith, low, high) in f);
    outside = λ x out. refl;
    others = λ z x off. refl;
    entries = λ c. refl;
  };
  only = record { size = refl; others = λ k out. refl };
  changed = λ k. inl refl;
  marks = marks_none bytes dirty;
}

module _ (g : Shape) (l : Layout) (from to at count : ℕ) (from_low : from < zone_count g) (bit : Bool) (old : List ℕ)
    (run : IsBitRun (bits_in_blocks g l old from) at g.zone_blocks bit count) where
  bit_there : (x : ℕ) → at ≤ x → x < at + count → is_valid (tables_in g l old) from x ≡ bit
  bit_there x low high = valid_is g l old from x from_low ∙ run.same x low high

  -- A RUN of invalid blocks
  pub joins_none : bit ≡ false → (dirty : List Bool) → JoinsBlocks g l from to at (at + count) old old dirty dirty
  joins_none none dirty = record {
    tables = record {
      inside = λ x low high.
          sym (or-false (is_valid (tables_in g l old) to x))
          ∙ ap (λ (b : Bool). is_valid (tables_in g l old) to x || b) (sym (bit_there x low high ∙ none));
      outside = λ x out. refl;
      others = λ z x off. refl;
      entries = λ c. refl;
    };
    only = record { size = refl; others = λ k out. refl };
    changed = λ k. inl refl;
    marks = marks_none old dirty;
  }

  -- of valid ones
  module _ (shape : IsShape g) (map : l.chunks ≤ l.map_blocks * 512) (to_low : to < zone_count g) (on : bit ≡ true)
      (new : List ℕ) (dirty marked : List Bool) (gives : GivesBits true g l to at (at + count) old new dirty marked)
    where
      inside : at + count ≤ g.zone_blocks
      inside = run.inside

      changes : ChangesBits true to at (at + count) (tables_in g l old) (tables_in g l new)
      changes =
          range_changed g l old new true to at (at + count) (omega (arith, inside, bits_room g shape)) to_low map
          gives.bits

      abbrev IsChanged : ℕ → Type 0
      IsChanged k = (blocks_of new k 1 ≡ blocks_of old k 1)
          ⊎ HasRisen g l to at (at + count) k (tables_in g l old) (tables_in g l new)

      part_changed : (j : ℕ) (b : Bool) → (b ≡ true → Differs true (tables_in g l old) to at (at + count) j)
          → (b ≡ false → blocks_of new (bits_block g l to + j) 1 ≡ blocks_of old (bits_block g l to + j) 1)
          → IsChanged (bits_block g l to + j)
      part_changed j true differs same =
          let d = differs refl in
          inr (d.0, d.1, d.2, ap (λ (n : ℕ). bits_block g l to + n) d.3, d.4, changes.inside d.0 d.1 d.2)
      part_changed j false differs same = inl (same refl)

      block_changed : (k : ℕ) → IsChanged k
      block_changed k = elim (cases_eq k (bits_block g l to)) [
        | inl here ↦
            let zero : bits_block g l to + 0 ≡ k = omega (arith, here) in
            let more : bits_block g l to ≡ bits_block g l to + 0 = omega arith in
            subst IsChanged zero
            (part_changed 0 gives.changed.first gives.tells.first.0
            (λ stays. subst (λ (n : ℕ). blocks_of new n 1 ≡ blocks_of old n 1) more (gives.tells.same_first stays)))
        | inr off ↦ elim (cases_eq k (bits_block g l to + 1)) [
          | inl next ↦
              subst IsChanged (sym next)
              (part_changed 1 gives.changed.second gives.tells.second.0 gives.tells.same_second)
          | inr far ↦
              let few : per g ≤ 2 =
              elim (one_or_two g shape) [ inl one ↦ omega (arith, one.1) | inr two ↦ omega (arith, two.1) ] in
              inl ((only_zone true g l shape to at (at + count) to_low inside old new gives.bits).others k
              (elim (cases_lt k (bits_block g l to)) [
                | inl below ↦ inl below
                | inr high ↦ inr (omega (arith, high, off, far, few))
              ]))
        ]
      ]

      pub joins_valid : JoinsBlocks g l from to at (at + count) old new dirty marked
      joins_valid = record {
        tables = record {
          inside = λ x low high.
              changes.inside x low high
              ∙ sym (or_right (is_valid (tables_in g l old) to x))
              ∙ ap (λ (b : Bool). is_valid (tables_in g l old) to x || b) (sym (bit_there x low high ∙ on));
          outside = changes.outside;
          others = changes.others;
          entries = changes.entries;
        };
        only = only_zone true g l shape to at (at + count) to_low inside old new gives.bits;
        changed = block_changed;
        marks = marks_parts true g l shape to at (at + count) to_low inside old new gives.bits gives.changed gives.tells
            dirty marked gives.marks;
      }

-- one change after another, where a block that is as it was at first was so in between
marks_more : (a b c : List ℕ) (d e f : List Bool) → MarksChanged a b d e → MarksChanged b c e f
    → ((k : ℕ) → blocks_of c k 1 ≡ blocks_of a k 1 → blocks_of b k 1 ≡ blocks_of a k 1) → MarksChanged a c d f
marks_more a b c d e f first second between = record {
  size = second.size ∙ first.size;
  clean = λ k low.
      let later = second.clean k (let size = first.size in omega (arith, size, low)) in
      let early = first.clean k low in (
        (λ clean. (let one = later.0 clean in let two = early.0 one.0 in (two.0, one.1 ∙ two.1))),
        (λ both. (let same = between k both.1 in later.1 (early.1 (both.0, same), both.1 ∙ sym same))),
      );
}

module _ (g : Shape) (l : Layout) (shape : IsShape g) (from to : ℕ) (apart : to ≢ from) (to_low : to < zone_count g)
    (first mid end : ℕ) (early : first ≤ mid) (late : mid ≤ end) (inside : end ≤ g.zone_blocks) (a b c : List ℕ)
    (d e f : List Bool) (one : JoinsBlocks g l from to first mid a b d e)
    (two : JoinsBlocks g l from to mid end b c e f)
  where
    -- a bit of a block that is as it was
    same_bit : (old new : List ℕ) (k x : ℕ) → x < end → bits_block g l to + x / 32768 ≡ k
        → blocks_of new k 1 ≡ blocks_of old k 1
        → is_valid (tables_in g l new) to x ≡ is_valid (tables_in g l old) to x
    same_bit old new k x high at same =
        by_block new ∙ ap (λ (block : List ℕ). is_set block (x % 32768))
        (subst (λ (n : ℕ). blocks_of new n 1 ≡ blocks_of old n 1) (sym at) same) ∙ sym (by_block old)
      where
        by_block : (bytes : List ℕ) → is_valid (tables_in g l bytes) to x
            ≡ is_set (blocks_of bytes (bits_block g l to + x / 32768) 1) (x % 32768)
        by_block bytes =
            valid_is g l bytes to x to_low
            ∙ bit_by_block g l bytes to x (omega (arith, high, inside, bits_room g shape))

    tables_then : JoinsRange from to first end (tables_in g l a) (tables_in g l c)
    tables_then = record {
      inside = λ x low high. elim (cases_lt x mid) [
        | inl before ↦ two.tables.outside x (inl before) ∙ one.tables.inside x low before
        | inr behind ↦
            two.tables.inside x behind high
            ∙ ap₂ (λ (p q : Bool). p || q) (one.tables.outside x (inr behind))
            (one.tables.others from x (λ same. apart (sym same)))
      ];
      outside = λ x out. elim out [
        | inl before ↦ two.tables.outside x (inl (omega (arith, before, early))) ∙ one.tables.outside x (inl before)
        | inr behind ↦ two.tables.outside x (inr behind) ∙ one.tables.outside x (inr (omega (arith, behind, late)))
      ];
      others = λ z x off. two.tables.others z x off ∙ one.tables.others z x off;
      entries = λ n. two.tables.entries n ∙ one.tables.entries n;
    }

    changed_then : (k : ℕ) → (blocks_of c k 1 ≡ blocks_of a k 1)
        ⊎ HasRisen g l to first end k (tables_in g l a) (tables_in g l c)
    changed_then k = elim (one.changed k) [
      | inr rose ↦
          let before = rose.2 in
          inr (
            rose.0,
            rose.1,
            omega (arith, before, late),
            rose.3,
            rose.4,
            two.tables.outside rose.0 (inl before) ∙ rose.5,
          )
      | inl same ↦ elim (two.changed k) [
        | inl also ↦ inl (also ∙ same)
        | inr rose ↦
            let behind = rose.1 in
            inr (
              rose.0,
              omega (arith, behind, early),
              rose.2,
              rose.3,
              sym (one.tables.outside rose.0 (inr behind)) ∙ rose.4,
              rose.5,
            )
      ]
    ]

    between : (k : ℕ) → blocks_of c k 1 ≡ blocks_of a k 1 → blocks_of b k 1 ≡ blocks_of a k 1
    between k same = elim (two.changed k) [
      | inl also ↦ sym also ∙ same
      | inr rose ↦ absurd (false≢true (
          sym (sym (one.tables.outside rose.0 (inr rose.1)) ∙ rose.4)
          ∙ sym (same_bit a c k rose.0 rose.2 rose.3 same) ∙ rose.5))
    ]

    -- ONE RANGE AFTER ANOTHER
    pub joins_then : JoinsBlocks g l from to first end a c d f
    joins_then = record {
      tables = tables_then;
      only = record {
        size = two.only.size ∙ one.only.size;
        others = λ k out. two.only.others k out ∙ one.only.others k out;
      };
      changed = changed_then;
      marks = marks_more a b c d e f one.marks two.marks between;
    }

-- THE SAME by the steps of a loop
pub joins_next : (v a b : PlainVolume) (from to at next : ℕ) → IsShape v.geometry → to ≢ from
    → to < zone_count v.geometry → at < next → next ≤ a.geometry.zone_blocks
    → a ≡ record v { fresh = a.fresh; dirty = a.dirty }
    → JoinsBlocks v.geometry v.head.layout from to 0 at v.fresh a.fresh v.dirty a.dirty
    → JoinsBlocks a.geometry a.head.layout from to at next a.fresh b.fresh a.dirty b.dirty
    → JoinsBlocks v.geometry v.head.layout from to 0 next v.fresh b.fresh v.dirty b.dirty
joins_next v a b from to at next shape apart to_low more inside so_far one two =
    joins_then v.geometry v.head.layout shape from to apart to_low 0 at next (omega arith) (omega (arith, more))
    (subst (λ (u : PlainVolume). next ≤ u.geometry.zone_blocks) so_far inside) v.fresh a.fresh b.fresh v.dirty a.dirty
    b.dirty one
    (subst (λ (u : PlainVolume). JoinsBlocks u.geometry u.head.layout from to at next a.fresh b.fresh a.dirty b.dirty)
    so_far two)
