-- The flags of the zones that the map names, raised entry by entry.
use Rattle.std.proofs.Common.{◌≡◌, ◌⊎◌, ℕ, ◌+◌, ◌<◌, Bool, true, false, List, length, get_or, set, replicate}
use Rattle.std.proofs.Common.{get_or-set_other, get_or-set_same, Option, Some, None, inl, inr, refl, sym, ap, ◌∙◌}
use Rattle.std.proofs.Common.{subst, arith}
use Rattle.std.proofs.lemmas.Bool.{cases_eq, cases_lt, false≢true}
use Rattle.std.proofs.lemmas.List.{get_or-replicate, length-replicate, length-set}
use Rattle.zd_base.specs.Geometry.{Shape, zone_count}
use Rattle.zd_base.specs.declared.layout.Layout.{Layout}
use Rattle.zd_disk.proofs.ToldLaws.{Some-same}
use Rattle.zd_model.specs.Tables.{NamesZone, Tables, entry_of}
use Rattle.zd_model.specs.declared.metadata.MapEntry.{MapEntry}
use Rattle.zd_state.specs.Started.{FlagNamedBelow, IsNamedBelow, raised}
use Rattle.zd_tables.specs.Tables.{tables_in}
use Rattle.zd_tables.proofs.TableLaws.{entry_past}
use Rattle.zd_volume.specs.Jobs.{IsNamed}
use Rattle.zd_volume.specs.Uses.{FlagNamed}

pub length-raised : (zone : Option ℕ) (flags : List Bool) → length (raised zone flags) ≡ length flags
length-raised None flags = refl
length-raised (Some z) flags = length-set flags z true

-- a flag that is raised now was raised before, or is that of the zone
pub raised_was : (zone : Option ℕ) (flags : List Bool) (y : ℕ) → get_or (raised zone flags) y false ≡ true
    → (zone ≡ Some y) ⊎ (get_or flags y false ≡ true)
raised_was None flags y is = inr is
raised_was (Some z) flags y is = elim (cases_eq y z) [
  | inl same ↦ inl (ap (λ (n : ℕ). Some n) (sym same))
  | inr off ↦ inr (sym (get_or-set_other flags z y true false off) ∙ is)
]

-- the zone's flag is raised, and each that was is so still
pub raised_here : (zone : Option ℕ) (flags : List Bool) (y : ℕ) → y < length flags → zone ≡ Some y
    → get_or (raised zone flags) y false ≡ true
raised_here None flags y low is = absurd (let f : ⊥ = cc in f)
raised_here (Some z) flags y low is =
    let same : z ≡ y = Some-same z y is in
    subst (λ (n : ℕ). get_or (set flags n true) y false ≡ true) (sym same) (get_or-set_same flags y true false low)

pub raised_still : (zone : Option ℕ) (flags : List Bool) (y : ℕ) → y < length flags → get_or flags y false ≡ true
    → get_or (raised zone flags) y false ≡ true
raised_still None flags y low is = is
raised_still (Some z) flags y low is = elim (cases_eq y z) [
  | inl same ↦ raised_here (Some z) flags y low (ap (λ (n : ℕ). Some n) (sym same))
  | inr off ↦ get_or-set_other flags z y true false off ∙ is
]

-- before the first entry no flag is raised
pub flags_first : (g : Shape) (t : Tables) (flags : List Bool) → flags ≡ replicate (zone_count g) false
    → FlagNamedBelow g t 0 flags
flags_first g t flags is = record {
  size = ap (λ (f : List Bool). length f) is ∙ length-replicate (zone_count g) false;
  each = λ z low. (
    (λ up. absurd (false≢true (sym (get_or-replicate (zone_count g) z false false low)
        ∙ sym (ap (λ (f : List Bool). get_or f z false) is) ∙ up))),
    (λ n. absurd (let below = n.1 in let f : ⊥ = omega (arith, below) in f)),
  );
}

-- an entry raises those of its zones
module _ (g : Shape) (t : Tables) (k : ℕ) (flags : List Bool) (e : MapEntry) (is : e ≡ entry_of t k)
    (was : FlagNamedBelow g t k flags) where
  abbrev one : List Bool
  one = raised e.zone flags

  abbrev both : List Bool
  both = raised e.buffer (raised e.zone flags)

  size_one : length one ≡ length flags
  size_one = length-raised e.zone flags

  names : (z : ℕ) → NamesZone e z → NamesZone (entry_of t k) z
  names z n = subst (λ (m : MapEntry). NamesZone m z) is n

  from_flags : (z : ℕ) → z < zone_count g → get_or both z false ≡ true → IsNamedBelow t (k + 1) z
  from_flags z low up = elim (raised_was e.buffer one z up) [
    | inl buffer ↦ (k, omega arith, names z (inr buffer))
    | inr before ↦ elim (raised_was e.zone flags z before) [
      | inl zone ↦ (k, omega arith, names z (inl zone))
      | inr first ↦ (let n = (was.each z low).0 first in (n.0, (let b = n.1 in omega (arith, b)), n.2))
    ]
  ]

  inside : (z : ℕ) → z < zone_count g → z < length flags
  inside z low = let n = was.size in omega (arith, n, low)

  inside_one : (z : ℕ) → z < zone_count g → z < length one
  inside_one z low = let n = inside z low in let m = size_one in omega (arith, n, m)

  by_entry : (z : ℕ) → z < zone_count g → NamesZone e z → get_or both z false ≡ true
  by_entry z low (inl zone) =
      raised_still e.buffer one z (inside_one z low) (raised_here e.zone flags z (inside z low) zone)
  by_entry z low (inr buffer) = raised_here e.buffer one z (inside_one z low) buffer

  from_names : (z : ℕ) → z < zone_count g → IsNamedBelow t (k + 1) z → get_or both z false ≡ true
  from_names z low n = elim (cases_lt n.0 k) [
    | inl below ↦
        raised_still e.buffer one z (inside_one z low)
        (raised_still e.zone flags z (inside z low) ((was.each z low).1 (n.0, below, n.2)))
    | inr past ↦
        (let b = n.1 in
        let same : n.0 ≡ k = omega (arith, b, past) in
        by_entry z low (subst (λ (m : MapEntry). NamesZone m z) (sym is)
        (subst (λ (c : ℕ). NamesZone (entry_of t c) z) same n.2)))
  ]

  next : FlagNamedBelow g t (k + 1) both
  next = record {
    size = length-raised e.buffer one ∙ size_one ∙ was.size;
    each = λ z low. (from_flags z low, from_names z low);
  }

  pub flags_next : (first second : List Bool) → first ≡ raised e.zone flags → second ≡ raised e.buffer first
      → FlagNamedBelow g t (k + 1) second
  flags_next first second is_first is_second =
      subst (λ (fs : List Bool). FlagNamedBelow g t (k + 1) fs)
      (sym (is_second ∙ ap (λ (fs : List Bool). raised e.buffer fs) is_first)) next

-- after the last chunk the flags say which zones the map names
pub flags_all : (g : Shape) (l : Layout) (bytes : List ℕ) (flags : List Bool)
    → FlagNamedBelow g (tables_in g l bytes) l.chunks flags → FlagNamed g (tables_in g l bytes) flags
flags_all g l bytes flags is = record {
  size = is.size;
  each = λ z low. (
    (λ up. let n = (is.each z low).0 up in (n.0, n.2)),
    (λ n. (is.each z low).1 (n.0, chunk z n, n.1)),
  );
}
  where
    nothing : (z : ℕ) (e : MapEntry) → e ≡ (record { zone = None; buffer = None }) → NamesZone e z → ⊥
    nothing z e none (inl zone) = cc
    nothing z e none (inr buffer) = cc

    chunk : (z : ℕ) (n : IsNamed (tables_in g l bytes) z) → n.0 < l.chunks
    chunk z n = elim (cases_lt n.0 l.chunks) [
      | inl low ↦ low
      | inr past ↦ absurd (nothing z (entry_of (tables_in g l bytes) n.0) (entry_past g l bytes n.0 past) n.1)
    ]
