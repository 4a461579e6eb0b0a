-- FROM THE CHANGED BLOCKS to what a write makes of the tables and of the flags of blocks: an entry, then the bits of a
-- range in one zone, then in another.
use Rattle.std.proofs.Common.{◌≡◌, ◌≢◌, ◌⊎◌, ℕ, ◌+◌, ◌*◌, ◌<◌, ◌≤◌, Bool, true, false, List, length, Option, Some, None}
use Rattle.std.proofs.Common.{inl, inr, refl, sym, ap, ◌∙◌, subst, arith}
use Rattle.std.proofs.Math.Nat.{mul-le-mul_right}
use Rattle.std.proofs.lemmas.Bool.{cases_eq, cases_lt}
use Rattle.zd_base.specs.Geometry.{Shape, per, zone_count}
use Rattle.zd_base.specs.declared.layout.Layout.{Layout}
use Rattle.zd_model.specs.Tables.{Tables, is_valid}
use Rattle.zd_model.specs.declared.metadata.MapEntry.{MapEntry}
use Rattle.zd_model.proofs.FaultLaws.{none_some, some_is}
use Rattle.zd_sets.specs.Blocks.{blocks_of}
use Rattle.zd_tables.specs.Changes.{ChangesBits, bits_block, entry_block}
use Rattle.zd_tables.specs.Tables.{tables_in}
use Rattle.zd_tables.proofs.TableLaws.{range_changed}
use Rattle.zd_tables.proofs.ZoneParts.{bits_room}
use Rattle.zd_volume.specs.Marks.{GivesBits, GivesBitsIn, MarksChanged}
use Rattle.zd_volume.specs.Sets.{AreSets, Sets, new_tables}
use Rattle.zd_volume.proofs.MarkLaws.{marks_parts, only_zone}
use Rattle.zd_routes.specs.Routes.{MovesBits, WritesRange}
use Rattle.zd_routes.proofs.EntryBlocks.{HasEntry, entry_before, marks_after}

-- outside a range, the bits of all zones are as they were
bits_outside : (bit : Bool) (zone first end : ℕ) (t u : Tables) → ChangesBits bit zone first end t u
    → (y x : ℕ) → (x < first) ⊎ (end ≤ x) → is_valid u y x ≡ is_valid t y x
bits_outside bit zone first end t u changes y x out = elim (cases_eq y zone) [
  | inl same ↦ subst (λ (z : ℕ). is_valid u z x ≡ is_valid t z x) (sym same) (changes.outside x out)
  | inr off ↦ changes.others y x off
]

-- bits are set in a zone, and in no other one
moves_alone : (zone first end : ℕ) (t start u : Tables) → ((z x : ℕ) → is_valid start z x ≡ is_valid t z x)
    → ChangesBits true zone first end start u → MovesBits zone None first end t u
moves_alone zone first end t start u begins one = record {
  here = one.inside;
  cleared = λ y x is _ _. absurd (none_some y is);
  outside = λ y x out. bits_outside true zone first end start u one y x out ∙ begins y x;
  others = λ y x off _. one.others y x off ∙ begins y x;
}

-- or they are cleared in another one then
moves_both : (zone other first end : ℕ) (t start middle u : Tables)
    → ((z x : ℕ) → is_valid start z x ≡ is_valid t z x) → other ≢ zone
    → ChangesBits true zone first end start middle → ChangesBits false other first end middle u
    → MovesBits zone (Some other) first end t u
moves_both zone other first end t start middle u begins apart one two = record {
  here = λ x a b. two.others zone x (λ same. apart (sym same)) ∙ one.inside x a b;
  cleared = λ y x is a b. subst (λ (z : ℕ). is_valid u z x ≡ false) (some_is other y is) (two.inside x a b);
  outside = λ y x out.
      bits_outside false other first end middle u two y x out
      ∙ bits_outside true zone first end start middle one y x out
      ∙ begins y x;
  others = λ y x off none.
      two.others y x (λ same. none (ap (λ (n : ℕ). Some n) (sym same)))
      ∙ one.others y x off
      ∙ begins y x;
}

-- the bitmaps of two zones stand one after the other
pub bitmaps_apart : (g : Shape) (l : Layout) (z y : ℕ) → z ≢ y
    → (bits_block g l z + per g ≤ bits_block g l y) ⊎ (bits_block g l y + per g ≤ bits_block g l z)
bitmaps_apart g l z y off = elim (cases_lt z y) [
  | inl before ↦
      let m = mul-le-mul_right {m = z + 1} {n = y} (per g) (omega (arith, before)) in
      inl (omega (arith, m))
  | inr after ↦
      let m = mul-le-mul_right {m = y + 1} {n = z} (per g) (omega (arith, after, off)) in
      inr (omega (arith, m))
]

module _ (s : Sets) (are : AreSets s) (chunk : ℕ) (low : chunk < s.head.layout.chunks) (entry : MapEntry)
    (first end : ℕ) (inside : end ≤ s.geometry.zone_blocks) (zone : ℕ) (zone_low : zone < zone_count s.geometry)
    (start middle bytes : List ℕ) (dirty early half marked : List Bool)
    (begun : HasEntry s chunk entry start dirty early)
    (one : GivesBits true s.geometry s.head.layout zone first end start middle early half) where
  abbrev g : Shape
  g = s.geometry

  abbrev l : Layout
  l = s.head.layout

  room : end ≤ 32768 * per s.geometry
  room = omega (arith, inside, bits_room g are.shape)

  one_changes : ChangesBits true zone first end (tables_in s.geometry s.head.layout start)
      (tables_in s.geometry s.head.layout middle)
  one_changes = range_changed g l start middle true zone first end room zone_low are.fits.map one.bits

  -- a block that is the entry's or one of the zone's bitmap, or is as it was
  middle_left : (k : ℕ) → (k < entry_block chunk) ⊎ (entry_block chunk + 1 ≤ k)
      → (k < bits_block s.geometry s.head.layout zone) ⊎ (bits_block s.geometry s.head.layout zone + per s.geometry ≤ k)
      → blocks_of middle k 1 ≡ blocks_of s.new k 1
  middle_left k off out =
      (only_zone true g l are.shape zone first end zone_low inside start middle one.bits).others k out
      ∙ begun.only.others k off

  middle_front : blocks_of middle 0 1 ≡ blocks_of s.new 0 1
  middle_front = middle_left 0 (inl (omega arith)) (inl (omega arith))

  middle_size : length middle ≡ length s.new
  middle_size = one.bits.only.size ∙ begun.only.size

  middle_marks : MarksChanged s.new middle dirty half
  middle_marks =
      let from = entry_before s are chunk low entry zone in
      marks_after s.new start middle dirty early half (bits_block g l zone) (bits_block g l zone + per g) begun.marks
      (marks_parts true g l are.shape zone first end zone_low inside start middle one.bits one.changed one.tells early
      half one.marks)
      (only_zone true g l are.shape zone first end zone_low inside start middle one.bits)
      (λ k above _. begun.only.others k (inr (omega (arith, from, above))))

  -- no zone has blocks that become invalid
  alone_written : WritesRange s chunk first end entry zone None middle
  alone_written = record {
    here = one_changes.entries chunk ∙ begun.tables.here;
    others = λ c off. one_changes.entries c ∙ begun.tables.others c off;
    bits = moves_alone zone first end (new_tables s) (tables_in g l start) (tables_in g l middle) begun.tables.bits
        one_changes;
    front = middle_front;
    size = middle_size;
  }

  -- another zone has
  module _ (other : ℕ) (apart : other ≢ zone) (other_low : other < zone_count s.geometry)
      (two : GivesBits false s.geometry s.head.layout other first end middle bytes half marked) where
    two_changes : ChangesBits false other first end (tables_in s.geometry s.head.layout middle)
        (tables_in s.geometry s.head.layout bytes)
    two_changes = range_changed g l middle bytes false other first end room other_low are.fits.map two.bits

    both_written : WritesRange s chunk first end entry zone (Some other) bytes
    both_written = record {
      here = two_changes.entries chunk ∙ one_changes.entries chunk ∙ begun.tables.here;
      others = λ c off. two_changes.entries c ∙ one_changes.entries c ∙ begun.tables.others c off;
      bits = moves_both zone other first end (new_tables s) (tables_in g l start) (tables_in g l middle)
          (tables_in g l bytes) begun.tables.bits apart one_changes two_changes;
      front = (only_zone false g l are.shape other first end other_low inside middle bytes two.bits).others 0
          (inl (omega arith))
          ∙ middle_front;
      size = two.bits.only.size ∙ middle_size;
    }

    both_marks : MarksChanged s.new bytes dirty marked
    both_marks =
        let from = entry_before s are chunk low entry other in
        marks_after s.new middle bytes dirty half marked (bits_block g l other) (bits_block g l other + per g)
        middle_marks
        (marks_parts false g l are.shape other first end other_low inside middle bytes two.bits two.changed two.tells
        half marked two.marks)
        (only_zone false g l are.shape other first end other_low inside middle bytes two.bits)
        (λ k above below. middle_left k (inr (omega (arith, from, above)))
        (elim (bitmaps_apart g l other zone apart) [
          | inl before ↦ inl (omega (arith, below, before))
          | inr after ↦ inr (omega (arith, above, after))
        ]))

  -- THE TABLES
  pub range_written : (other : Option ℕ) → other ≢ Some zone
      → ((y : ℕ) → other ≡ Some y → y < zone_count s.geometry)
      → GivesBitsIn false s.geometry s.head.layout other first end middle bytes half marked
      → WritesRange s chunk first end entry zone other bytes
  range_written None apart lows two =
      subst (λ (b : List ℕ). WritesRange s chunk first end entry zone None b) (sym two.0) alone_written
  range_written (Some y) apart lows two =
      both_written y (λ same. apart (ap (λ (n : ℕ). Some n) same)) (lows y refl) two

  -- THE FLAGS
  pub range_flags : (other : Option ℕ) → other ≢ Some zone
      → ((y : ℕ) → other ≡ Some y → y < zone_count s.geometry)
      → GivesBitsIn false s.geometry s.head.layout other first end middle bytes half marked
      → MarksChanged s.new bytes dirty marked
  range_flags None apart lows two =
      subst (λ (b : List ℕ). MarksChanged s.new b dirty marked) (sym two.0)
      (subst (λ (m : List Bool). MarksChanged s.new middle dirty m) (sym two.1) middle_marks)
  range_flags (Some y) apart lows two = both_marks y (λ same. apart (ap (λ (n : ℕ). Some n) same)) (lows y refl) two
