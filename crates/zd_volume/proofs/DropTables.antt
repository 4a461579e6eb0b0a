-- Where the bits of a range of a chunk's blocks are cleared, the rules of the tables are kept, and flags of changed
-- blocks are right.
use Rattle.std.proofs.Common.{◌≡◌, ◌≢◌, ◌⊎◌, ℕ, ◌<◌, ◌≤◌, Bool, true, List, Option, Some, None, IsSomeAnd, inl, inr}
use Rattle.std.proofs.Common.{sym, ap, ◌∙◌, subst, arith}
use Rattle.std.proofs.lemmas.Bool.{cases_eq, cases_lt, false_from_ne_true, false≢true}
use Rattle.zd_base.specs.Geometry.{Shape, zone_sectors}
use Rattle.zd_model.specs.Tables.{BitsFollowRules, MapFollowsRules, NamesZone, Tables, entry_of, is_valid}
use Rattle.zd_model.specs.declared.metadata.MapEntry.{MapEntry}
use Rattle.zd_model.proofs.FaultLaws.{none_some, some_is}
use Rattle.zd_sets.specs.Blocks.{blocks_of}
use Rattle.zd_tables.specs.Rules.{AreBelow}
use Rattle.zd_tables.specs.Tables.{entries_in, tables_in}
use Rattle.zd_volume.specs.Discards.{ClearsBits, ClearsRange}
use Rattle.zd_volume.specs.Marks.{MarksChanged}
use Rattle.zd_volume.specs.Sets.{AreSets, Sets, new_tables, used}
use Rattle.zd_volume.specs.Uses.{AreFlags}

pub in_or_out : (x from end : ℕ) → ((from ≤ x) × (x < end)) ⊎ ((x < from) ⊎ (end ≤ x))
in_or_out x from end = elim (cases_lt x from) [
  | inl below ↦ inr (inl below)
  | inr above ↦ elim (cases_lt x end) [
    | inl inside ↦ inl (above, inside)
    | inr behind ↦ inr (inr behind)
  ]
]

-- an entry names a zone or doesn't
pub some_or : (o : Option ℕ) (z : ℕ) → (o ≡ Some z) ⊎ (o ≢ Some z)
some_or None z = inr (none_some z)
some_or (Some y) z = elim (cases_eq y z) [
  | inl same ↦ inl (ap (λ (n : ℕ). Some n) same)
  | inr off ↦ inr (λ e. off (some_is y z e))
]

pub names_or : (e : MapEntry) (z : ℕ) → NamesZone e z ⊎ (NamesZone e z → ⊥)
names_or e z = elim (some_or e.zone z) [
  | inl zone ↦ inl (inl zone)
  | inr no_zone ↦ elim (some_or e.buffer z) [
    | inl buffer ↦ inl (inr buffer)
    | inr no_buffer ↦ inr (λ n. elim n [ inl h ↦ no_zone h | inr h ↦ no_buffer h ])
  ]
]

-- no block becomes valid
pub still_valid : (e : MapEntry) (from end : ℕ) (t u : Tables) → ClearsBits e from end t u → (z x : ℕ)
    → is_valid u z x ≡ true → is_valid t z x ≡ true
still_valid e from end t u clears z x valid = elim (names_or e z) [
  | inl n ↦ elim (in_or_out x from end) [
    | inl at ↦ absurd (false≢true (sym (clears.inside z x n at.0 at.1) ∙ valid))
    | inr out ↦ sym (clears.outside z x n out) ∙ valid
  ]
  | inr none ↦ sym (clears.others z x none) ∙ valid
]

-- so valid blocks stay below pointers
pub below_dropped : (g : Shape) (held : ℕ → ℕ) (e : MapEntry) (from end : ℕ) (t u : Tables) → ClearsBits e from end t u
    → AreBelow g held t → AreBelow g held u
below_dropped g held e from end t u clears below z x seq low within valid =
    below z x seq low within (still_valid e from end t u clears z x valid)

module _ (s : Sets) (are : AreSets s) (chunk from end : ℕ) (bytes : List ℕ)
    (did : ClearsRange s chunk from end bytes) where
  abbrev t : Tables
  t = new_tables s

  abbrev u : Tables
  u = tables_in s.geometry s.head.layout bytes

  still : (z x : ℕ) → is_valid (tables_in s.geometry s.head.layout bytes) z x ≡ true
      → is_valid (new_tables s) z x ≡ true
  still z x valid = still_valid (entry_of (new_tables s) chunk) from end t u did.bits z x valid

  -- an entry names what it named
  pub named_before : (c z : ℕ) → NamesZone (entry_of (tables_in s.geometry s.head.layout bytes) c) z
      → NamesZone (entry_of (new_tables s) c) z
  named_before c z n = subst (λ (e : MapEntry). NamesZone e z) (did.bits.entries c) n

  pub named_after : (c z : ℕ) → NamesZone (entry_of (new_tables s) c) z
      → NamesZone (entry_of (tables_in s.geometry s.head.layout bytes) c) z
  named_after c z n = subst (λ (e : MapEntry). NamesZone e z) (sym (did.bits.entries c)) n

  -- the zones of other chunks are as they were
  pub others_stay : (c z x : ℕ) → c ≢ chunk → NamesZone (entry_of (new_tables s) c) z
      → is_valid (tables_in s.geometry s.head.layout bytes) z x ≡ is_valid (new_tables s) z x
  others_stay c z x off n = did.bits.others z x (λ m. off (are.new_rules.map.named_once c chunk z n m))

  map_kept : MapFollowsRules s.geometry s.head.layout (entries_in s.head.layout bytes)
  map_kept = record {
    data_zones = λ c z n. are.new_rules.map.data_zones c z (named_before c z n);
    named_once = λ c d z n m. are.new_rules.map.named_once c d z (named_before c z n) (named_before d z m);
    buffers = λ c b. subst (λ (e : MapEntry).
        e.buffer ≡ Some b → (b < s.geometry.conv) × IsSomeAnd e.zone (λ z. s.geometry.conv ≤ z))
        (sym (did.bits.entries c)) (are.new_rules.map.buffers c b);
  }

  bits_kept : BitsFollowRules s.geometry (λ _. zone_sectors s.geometry) (tables_in s.geometry s.head.layout bytes)
  bits_kept = record {
    named = λ z x low within valid.
        let by = are.new_rules.bits.named z x low within (still z x valid) in
        (by.0, named_after by.0 z by.1);
    below = λ z x seq low within valid. omega (arith, within);
    one_place = λ c z b x zone buffer within valid.
        let clear = are.new_rules.bits.one_place c z b x
        (sym (ap (λ (e : MapEntry). e.zone) (did.bits.entries c)) ∙ zone)
        (sym (ap (λ (e : MapEntry). e.buffer) (did.bits.entries c)) ∙ buffer) within (still z x valid) in
        false_from_ne_true (is_valid u b x) (λ set. false≢true (sym clear ∙ still b x set));
  }

  -- THE RULES ARE KEPT
  pub sets_dropped : AreSets (record s { new = bytes })
  sets_dropped = record {
    shape = are.shape;
    fits = are.fits;
    sizes = are.sizes;
    old_rules = are.old_rules;
    new_rules = record { map = map_kept; bits = bits_kept };
    old_size = are.old_size;
    new_size = did.size ∙ are.new_size;
    limbo = λ c d z n m. are.limbo c d z n (named_before d z m);
  }

-- A BLOCK THAT ISN'T DIRTY is as it was committed, where each block that changed is marked
pub flags_marked : (s : Sets) (dirty marked : List Bool) (bytes : List ℕ) → AreFlags s dirty → 0 < used s
    → MarksChanged s.new bytes dirty marked → blocks_of bytes 0 1 ≡ blocks_of s.new 0 1
    → AreFlags (record s { new = bytes }) marked
flags_marked s dirty marked bytes flags some marks front = record {
  size = marks.size ∙ flags.size;
  front = (marks.clean 0 (let size = flags.size in omega (arith, size, some))).1 (flags.front, front);
  clean = λ k low clean.
      let was = (marks.clean k (let size = flags.size in omega (arith, size, low))).0 clean in
      flags.clean k low was.0 ∙ sym was.1;
}
