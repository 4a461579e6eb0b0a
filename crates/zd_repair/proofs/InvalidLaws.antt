-- Blocks made invalid, one after another.
use Rattle.std.proofs.Common.{◌≡◌, ◌≢◌, ◌⊎◌, ℕ, ◌+◌, ◌<◌, ◌≤◌, Bool, true, false, List, [], refl, sym, ap, ◌∙◌, inl, inr, arith}
use Rattle.std.proofs.lemmas.Bool.{cases_lt, false≢true}
use Rattle.std.proofs.lemmas.List.FromFn.{get_or-map-range_with_len}
use Rattle.zd_base.specs.Geometry.{Shape, zone_count}
use Rattle.zd_base.specs.declared.layout.Layout.{Layout}
use Rattle.zd_bits.specs.Bits.{IsBitRun}
use Rattle.zd_model.specs.Tables.{Tables, is_set, is_valid}
use Rattle.zd_tables.specs.Tables.{bits_in_blocks, tables_in}
use Rattle.zd_repair.specs.Repaired.{IsInRange, IsTwice, MakesInvalid}

-- none is
pub none_invalid : (P : ℕ → ℕ → Type 0) (t : Tables) → ((z x : ℕ) → P z x → ⊥) → MakesInvalid P t t
none_invalid P t none = record {
  gone = λ z x at. absurd (none z x at);
  others = λ z x out. refl;
  fewer = λ z x valid. valid;
  entries = λ c. refl;
}

-- at the same places, in other words
pub invalid_as : (P Q : ℕ → ℕ → Type 0) (a b : Tables) → ((z x : ℕ) → P z x → Q z x) → ((z x : ℕ) → Q z x → P z x)
    → MakesInvalid P a b → MakesInvalid Q a b
invalid_as P Q a b to from h = record {
  gone = λ z x at. h.gone z x (from z x at);
  others = λ z x out. h.others z x (λ at. out (to z x at));
  fewer = h.fewer;
  entries = h.entries;
}

-- at the ones, and then at the others
pub invalid_then : (P Q R : ℕ → ℕ → Type 0) (a b c : Tables) → ((z x : ℕ) → P z x → R z x) → ((z x : ℕ) → Q z x → R z x)
    → ((z x : ℕ) → R z x → P z x ⊎ Q z x) → MakesInvalid P a b → MakesInvalid Q b c → MakesInvalid R a c
invalid_then P Q R a b c one two either h k = record {
  gone = λ z x at. elim (either z x at) [
    | inl p ↦ by_valid z x (h.gone z x p) (is_valid c z x) refl
    | inr q ↦ k.gone z x q
  ];
  others = λ z x out. k.others z x (λ q. out (two z x q)) ∙ h.others z x (λ p. out (one z x p));
  fewer = λ z x valid. h.fewer z x (k.fewer z x valid);
  entries = λ n. k.entries n ∙ h.entries n;
}
  where
    by_valid : (z x : ℕ) → is_valid b z x ≡ false → (v : Bool) → is_valid c z x ≡ v → is_valid c z x ≡ false
    by_valid z x gone false is = is
    by_valid z x gone true is = absurd (false≢true (sym gone ∙ k.fewer z x is))

-- a bit of a zone's blocks
pub valid_in : (g : Shape) (l : Layout) (bytes : List ℕ) (z x : ℕ) → z < zone_count g
    → is_valid (tables_in g l bytes) z x ≡ is_set (bits_in_blocks g l bytes z) x
valid_in g l bytes z x low =
    ap (λ (bits : List ℕ). is_set bits x) (get_or-map-range_with_len (bits_in_blocks g l bytes) 0 (zone_count g) z z [] low (omega arith))

-- a run of blocks of a buffer
module _ (g : Shape) (l : Layout) (bytes : List ℕ) (buffer main from end count : ℕ) (low : buffer < zone_count g) where
  abbrev t : Tables
  t = tables_in g l bytes

  valid_run : (bit : Bool) → IsBitRun (bits_in_blocks g l bytes buffer) from end bit count → (x : ℕ) → from ≤ x → x < from + count
      → is_valid t buffer x ≡ bit
  valid_run bit run x least most = valid_in g l bytes buffer x low ∙ run.same x least most

  -- where they are valid, all blocks in their places are twice there
  pub run_valid : (b : Tables) → IsBitRun (bits_in_blocks g l bytes buffer) from end true count
      → MakesInvalid (IsInRange main from (from + count)) t b → MakesInvalid (IsTwice (tables_in g l bytes) buffer main from (from + count)) t b
  run_valid b run h = invalid_as (IsInRange main from (from + count)) (IsTwice (tables_in g l bytes) buffer main from (from + count)) t b
      (λ z x at. (at, valid_run true run x at.1 at.2)) (λ z x at. at.0) h

  -- else none is
  pub run_invalid : IsBitRun (bits_in_blocks g l bytes buffer) from end false count
      → MakesInvalid (IsTwice (tables_in g l bytes) buffer main from (from + count)) t t
  run_invalid run = none_invalid (IsTwice (tables_in g l bytes) buffer main from (from + count)) t
      (λ z x at. false≢true (sym (valid_run false run x at.0.1 at.0.2) ∙ at.1))

-- a range, and the next one
pub twice_then : (a b c : Tables) (buffer main m end : ℕ) → main ≢ buffer → m ≤ end
    → MakesInvalid (IsTwice a buffer main 0 m) a b → MakesInvalid (IsTwice b buffer main m end) b c
    → MakesInvalid (IsTwice a buffer main 0 end) a c
twice_then a b c buffer main m end apart order h k =
    let same : (x : ℕ) → is_valid b buffer x ≡ is_valid a buffer x = λ x. h.others buffer x (λ at. apart (sym at.0.0)) in
    invalid_then (IsTwice a buffer main 0 m) (IsTwice b buffer main m end) (IsTwice a buffer main 0 end) a b c
    (λ z x at. ((at.0.0, at.0.1, omega (arith, at.0.2, order)), at.1))
    (λ z x at. ((at.0.0, omega arith, at.0.2), sym (same x) ∙ at.1))
    (λ z x at. elim (cases_lt x m) [
      | inl early ↦ inl ((at.0.0, at.0.1, early), at.1)
      | inr late ↦ inr ((at.0.0, late, at.0.2), same x ∙ at.1)
    ]) h k
