-- What is left of a map follows the rules.
use Rattle.std.proofs.Common.{◌≡◌, ℕ, zero, suc, ◌+◌, ◌-◌, ◌<◌, ◌≤◌, Bool, true, ◌||◌, ◌==◌, List, [], ◌∷◌, map, get_or, refl, sym, ap, ◌∙◌, subst, inl, inr, arith}
use Rattle.std.proofs.lemmas.Bool.{cases_lt}
use Rattle.std.proofs.lemmas.List.Folds.{list_any-append}
use Rattle.std.proofs.lemmas.List.FromFn.{length-map-range_with_len}
use Rattle.std.proofs.Math.ListN.{get_or-eq_default}
use Rattle.std.specs.List.{flat_map, range_with_len}
use Rattle.zd_base.specs.Geometry.{Shape}
use Rattle.zd_base.specs.declared.layout.Layout.{Layout}
use Rattle.zd_examine.proofs.EntryLaws.{named_more, right_here}
use Rattle.zd_model.specs.Faults.{bad_chunk, has, is_right_entry}
use Rattle.zd_model.specs.Tables.{MapFollowsRules, NamesZone, entry_of, zones_of}
use Rattle.zd_model.specs.declared.metadata.MapEntry.{MapEntry}
use Rattle.zd_model.proofs.FaultLaws.{has_named, map_follows, no_name, or_right, unmapped}
use Rattle.zd_tables.specs.Tables.{entries_in, entry_in_blocks, tables_in}
use Rattle.zd_repair.specs.Repaired.{IsMapLeft, named_before}
use Rattle.zd_repair.proofs.LeftEntries.{left_right}

module _ (g : Shape) (l : Layout) (old new : ℕ → MapEntry) (n : ℕ) (left : IsMapLeft g l old new n) where
  right_each : (c : ℕ) → c < n → is_right_entry g l (named_before new c) (new c) ≡ true
  right_each c low = ap (is_right_entry g l (named_before new c)) (left c low) ∙ left_right g l (named_before new c) (old c)

  up_to : (k : ℕ) → k ≤ n → bad_chunk g l [] 0 (map new (range_with_len 0 (n - 0)))
      ≡ bad_chunk g l (named_before new k) k (map new (range_with_len k (n - k)))
  up_to zero low = refl
  up_to (suc k) low =
      let next : k + 1 ≡ suc k = omega arith in
      let less : k < n = omega (arith, low) in
      up_to k (omega (arith, low)) ∙ right_here g l new (named_before new k) k n less (right_each k less)
      ∙ ap (λ (zs : List ℕ). bad_chunk g l zs (k + 1) (map new (range_with_len (k + 1) (n - (k + 1))))) (sym (named_more new k))
      ∙ ap (λ (m : ℕ). bad_chunk g l (named_before new m) m (map new (range_with_len m (n - m)))) next

  pub rules_left : MapFollowsRules g l (map new (range_with_len 0 n))
  rules_left =
      let none : n - n ≡ 0 = omega arith in
      let all : n ≡ n - 0 = omega arith in
      map_follows g l (map new (range_with_len 0 n))
      (ap (λ (m : ℕ). bad_chunk g l [] 0 (map new (range_with_len 0 m))) all ∙ up_to n (omega arith)
      ∙ ap (λ (m : ℕ). bad_chunk g l (named_before new n) n (map new (range_with_len n m))) none)

-- a zone that an entry names is among those that all name
has_of : (entries : List MapEntry) (c z : ℕ) → NamesZone (get_or entries c unmapped) z → has (flat_map zones_of entries) z ≡ true
has_of [] c z n = absurd (no_name z n)
has_of (e ∷ entries) zero z n =
    list_any-append (λ y. y == z) (zones_of e) (flat_map zones_of entries)
    ∙ ap (λ (b : Bool). b || has (flat_map zones_of entries) z) (has_named e.zone e.buffer z n)
has_of (e ∷ entries) (suc c) z n =
    list_any-append (λ y. y == z) (zones_of e) (flat_map zones_of entries)
    ∙ ap (λ (b : Bool). has (zones_of e) z || b) (has_of entries c z n) ∙ or_right (has (zones_of e) z)

pub has_name : (g : Shape) (l : Layout) (bytes : List ℕ) (c z : ℕ) → NamesZone (entry_of (tables_in g l bytes) c) z
    → has (named_before (entry_in_blocks bytes) l.chunks) z ≡ true
has_name g l bytes c z n = has_of (entries_in l bytes) c z n

-- past the last chunk nothing is named
pub named_low : (g : Shape) (l : Layout) (bytes : List ℕ) (c z : ℕ) → NamesZone (entry_of (tables_in g l bytes) c) z → c < l.chunks
named_low g l bytes c z n = elim (cases_lt c l.chunks) [
  | inl low ↦ low
  | inr high ↦ absurd (no_name z (subst (λ (e : MapEntry). NamesZone e z)
      (get_or-eq_default (entries_in l bytes) unmapped (let size = length-map-range_with_len (entry_in_blocks bytes) 0 l.chunks in omega (arith, size, high))) n))
]
