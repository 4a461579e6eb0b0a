-- FROM THE CHANGED BLOCKS to what a discard makes of the tables: the bits of a range are cleared in the chunk's zone,
-- then in its buffer, where there are such.
use Rattle.std.proofs.Common.{◌≡◌, ◌≢◌, ◌⊎◌, ℕ, ◌+◌, ◌*◌, ◌<◌, ◌≤◌, Bool, false, List, length, Option, Some, None}
use Rattle.std.proofs.Common.{IsSomeAnd, inl, inr, refl, sym, ap, ◌∙◌, subst, arith}
use Rattle.std.proofs.Math.Nat.{mul-le-mul_right}
use Rattle.std.proofs.lemmas.Bool.{cases_lt}
use Rattle.zd_base.specs.Geometry.{IsShape, Shape, per, zone_count}
use Rattle.zd_base.specs.declared.layout.Layout.{Layout}
use Rattle.zd_model.specs.Tables.{Tables, entry_of, is_valid}
use Rattle.zd_model.specs.declared.metadata.MapEntry.{MapEntry}
use Rattle.zd_model.proofs.FaultLaws.{none_some, some_is}
use Rattle.zd_sets.specs.Blocks.{blocks_of}
use Rattle.zd_tables.specs.Changes.{ChangesBits, bits_block}
use Rattle.zd_tables.specs.Tables.{tables_in}
use Rattle.zd_tables.proofs.TableLaws.{range_changed}
use Rattle.zd_tables.proofs.ZoneParts.{bits_room}
use Rattle.zd_volume.specs.Discards.{ClearsBits, ClearsRange}
use Rattle.zd_volume.specs.Marks.{GivesBitsIn, MarksChanged}
use Rattle.zd_volume.specs.Sets.{AreSets, Sets, new_tables}
use Rattle.zd_volume.proofs.DropTables.{some_or}
use Rattle.zd_volume.proofs.MarkLaws.{marks_none, marks_parts, marks_then, only_zone}

-- a block isn't one of a zone's bitmap
abbrev IsApart : Shape → Layout → ℕ → ℕ → Type 0
IsApart g l k zone = (k < bits_block g l zone) ⊎ (bits_block g l zone + per g ≤ k)

-- what one range makes of the tables, where there is a zone
record ClearsIn (o : Option ℕ) (first end : ℕ) (t u : Tables) : Type 0 where
  pub inside : (z x : ℕ) → o ≡ Some z → first ≤ x → x < end → is_valid u z x ≡ false
  pub outside : (z x : ℕ) → (x < first) ⊎ (end ≤ x) → is_valid u z x ≡ is_valid t z x
  pub others : (z x : ℕ) → o ≢ Some z → is_valid u z x ≡ is_valid t z x
  pub entries : (c : ℕ) → entry_of u c ≡ entry_of t c

none_cleared : (first end : ℕ) (t u : Tables) → u ≡ t → ClearsIn None first end t u
none_cleared first end t u same = record {
  inside = λ z x is _ _. absurd (none_some z is);
  outside = λ z x _. ap (λ (v : Tables). is_valid v z x) same;
  others = λ z x _. ap (λ (v : Tables). is_valid v z x) same;
  entries = λ c. ap (λ (v : Tables). entry_of v c) same;
}

one_cleared : (z first end : ℕ) (t u : Tables) → ChangesBits false z first end t u → ClearsIn (Some z) first end t u
one_cleared z first end t u changes = record {
  inside = λ y x is a b. subst (λ (n : ℕ). is_valid u n x ≡ false) (some_is z y is) (changes.inside x a b);
  outside = λ y x out. elim (some_or (Some z) y) [
    | inl is ↦ subst (λ (n : ℕ). is_valid u n x ≡ is_valid t n x) (some_is z y is) (changes.outside x out)
    | inr off ↦ changes.others y x (λ same. off (ap (λ (n : ℕ). Some n) (sym same)))
  ];
  others = λ y x off. changes.others y x (λ same. off (ap (λ (n : ℕ). Some n) (sym same)));
  entries = changes.entries;
}

-- both
both_cleared : (e : MapEntry) (first end : ℕ) (t m u : Tables) → ClearsIn e.zone first end t m
    → ClearsIn e.buffer first end m u → ClearsBits e first end t u
both_cleared e first end t m u one two = record {
  inside = λ z x n a b. elim (some_or e.buffer z) [
    | inl buffer ↦ two.inside z x buffer a b
    | inr off ↦ two.others z x off
        ∙ elim n [ inl zone ↦ one.inside z x zone a b | inr buffer ↦ absurd (off buffer) ]
  ];
  outside = λ z x _ out. two.outside z x out ∙ one.outside z x out;
  others = λ z x none. two.others z x (λ h. none (inr h)) ∙ one.others z x (λ h. none (inl h));
  entries = λ c. two.entries c ∙ one.entries c;
}

-- ONE ZONE, where there is one
module _ (g : Shape) (l : Layout) (shape : IsShape g) (map : l.chunks ≤ l.map_blocks * 512) (first end : ℕ)
    (inside : end ≤ g.zone_blocks) (old new : List ℕ) (dirty marked : List Bool) where
  one_tables : (o : Option ℕ) → ((z : ℕ) → o ≡ Some z → z < zone_count g)
      → GivesBitsIn false g l o first end old new dirty marked
      → ClearsIn o first end (tables_in g l old) (tables_in g l new)
  one_tables None low gives =
      none_cleared first end (tables_in g l old) (tables_in g l new) (ap (λ (b : List ℕ). tables_in g l b) gives.0)
  one_tables (Some z) low gives =
      one_cleared z first end (tables_in g l old) (tables_in g l new)
      (range_changed g l old new false z first end (omega (arith, inside, bits_room g shape)) (low z refl) map
      gives.bits)

  one_marks : (o : Option ℕ) → ((z : ℕ) → o ≡ Some z → z < zone_count g)
      → GivesBitsIn false g l o first end old new dirty marked → MarksChanged old new dirty marked
  one_marks None low gives =
      subst (λ (b : List ℕ). MarksChanged old b dirty marked) (sym gives.0)
      (subst (λ (m : List Bool). MarksChanged old old dirty m) (sym gives.1) (marks_none old dirty))
  one_marks (Some z) low gives =
      marks_parts false g l shape z first end (low z refl) inside old new gives.bits gives.changed gives.tells
      dirty marked gives.marks

  one_size : (o : Option ℕ) → GivesBitsIn false g l o first end old new dirty marked → length new ≡ length old
  one_size None gives = ap (λ (b : List ℕ). length b) gives.0
  one_size (Some z) gives = gives.bits.only.size

  -- blocks of other zones, and those before the bitmaps, stay
  one_others : (o : Option ℕ) → ((z : ℕ) → o ≡ Some z → z < zone_count g)
      → GivesBitsIn false g l o first end old new dirty marked → (k : ℕ)
      → ((z : ℕ) → o ≡ Some z → IsApart g l k z)
      → blocks_of new k 1 ≡ blocks_of old k 1
  one_others None low gives k out = ap (λ (b : List ℕ). blocks_of b k 1) gives.0
  one_others (Some z) low gives k out =
      (only_zone false g l shape z first end (low z refl) inside old new gives.bits).others k (out z refl)

-- the bitmaps of two zones stand apart
apart_blocks : (g : Shape) (l : Layout) (z y k : ℕ) → z ≢ y → IsApart g l k z ⊎ IsApart g l k y
apart_blocks g l z y k off = elim (cases_lt k (bits_block g l z)) [
  | inl below ↦ inl (inl below)
  | inr above ↦ elim (cases_lt k (bits_block g l z + per g)) [
    | inr behind ↦ inl (inr behind)
    | inl here ↦ elim (cases_lt z y) [
      | inl before ↦
          let m = mul-le-mul_right {m = z + 1} {n = y} (per g) (omega (arith, before)) in
          inr (inl (omega (arith, m, here)))
      | inr after ↦
          let m = mul-le-mul_right {m = y + 1} {n = z} (per g) (omega (arith, after, off)) in
          inr (inr (omega (arith, m, above)))
    ]
  ]
]

module _ (s : Sets) (are : AreSets s) (chunk first end : ℕ) (inside : end ≤ s.geometry.zone_blocks)
    (middle bytes : List ℕ) (dirty half marked : List Bool)
    (one : GivesBitsIn false s.geometry s.head.layout (entry_of (new_tables s) chunk).zone first end s.new middle
    dirty half)
    (two : GivesBitsIn false s.geometry s.head.layout (entry_of (new_tables s) chunk).buffer first end middle bytes half
    marked) where
  abbrev g : Shape
  g = s.geometry

  abbrev l : Layout
  l = s.head.layout

  abbrev e : MapEntry
  e = entry_of (new_tables s) chunk

  low_zone : (z : ℕ) → (entry_of (new_tables s) chunk).zone ≡ Some z → z < zone_count s.geometry
  low_zone z is = (are.new_rules.map.data_zones chunk z (inl is)).1

  low_buffer : (z : ℕ) → (entry_of (new_tables s) chunk).buffer ≡ Some z → z < zone_count s.geometry
  low_buffer z is = (are.new_rules.map.data_zones chunk z (inr is)).1

  before : (z k : ℕ) → k < 1 + s.head.layout.map_blocks → IsApart s.geometry s.head.layout k z
  before z k few = inl (omega (arith, few))

  -- THE TABLES
  pub range_cleared : ClearsRange s chunk first end bytes
  range_cleared = record {
    bits = both_cleared e first end (new_tables s) (tables_in g l middle) (tables_in g l bytes)
        (one_tables g l are.shape are.fits.map first end inside s.new middle dirty half e.zone low_zone one)
        (one_tables g l are.shape are.fits.map first end inside middle bytes half marked e.buffer low_buffer two);
    front = λ k few.
        one_others g l are.shape are.fits.map first end inside middle bytes half marked e.buffer low_buffer two k
        (λ z _. before z k few)
        ∙ one_others g l are.shape are.fits.map first end inside s.new middle dirty half e.zone low_zone one k
        (λ z _. before z k few);
    size = one_size g l are.shape are.fits.map first end inside middle bytes half marked e.buffer two
        ∙ one_size g l are.shape are.fits.map first end inside s.new middle dirty half e.zone one;
  }

  -- a block changes with one of them alone
  once : (zone buffer : Option ℕ) → e.zone ≡ zone → e.buffer ≡ buffer → (k : ℕ)
      → (blocks_of middle k 1 ≡ blocks_of s.new k 1) ⊎ (blocks_of bytes k 1 ≡ blocks_of middle k 1)
  once None buffer bare is k =
      inl (one_others g l are.shape are.fits.map first end inside s.new middle dirty half e.zone low_zone one k
      (λ z h. absurd (none_some z (sym bare ∙ h))))
  once (Some z) None is bare k =
      inr (one_others g l are.shape are.fits.map first end inside middle bytes half marked e.buffer low_buffer two k
      (λ y h. absurd (none_some y (sym bare ∙ h))))
  once (Some z) (Some y) zone buffer k = elim (apart_blocks g l z y k off) [
    | inl out ↦ inl (one_others g l are.shape are.fits.map first end inside s.new middle dirty half e.zone low_zone
        one k (λ x h. subst (IsApart g l k) (some_is z x (sym zone ∙ h)) out))
    | inr out ↦ inr (one_others g l are.shape are.fits.map first end inside middle bytes half marked e.buffer
        low_buffer two k (λ x h. subst (IsApart g l k) (some_is y x (sym buffer ∙ h)) out))
  ]
    where
      off : z ≢ y
      off same =
          let at = are.new_rules.map.buffers chunk y buffer in
          let seq : g.conv ≤ z = subst (λ (o : Option ℕ). IsSomeAnd o (λ n. g.conv ≤ n)) zone at.1 in
          let conv = at.0 in
          omega (arith, conv, seq, same)

  -- THE FLAGS
  pub range_marked : MarksChanged s.new bytes dirty marked
  range_marked =
      marks_then s.new middle bytes dirty half marked
      (one_marks g l are.shape are.fits.map first end inside s.new middle dirty half e.zone low_zone one)
      (one_marks g l are.shape are.fits.map first end inside middle bytes half marked e.buffer low_buffer two)
      (λ k _. once e.zone e.buffer refl refl k)
