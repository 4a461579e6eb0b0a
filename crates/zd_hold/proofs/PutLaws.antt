-- What a request puts into a sector, and the array after it.
use Rattle.std.proofs.Common.{◌≡◌, ◌⊎◌, ℕ, ◌+◌, Bool, true, false, ◌||◌, cond, List, length}
use Rattle.std.proofs.Common.{nat_le, nat_lt, slice_index_or, Option, Some, None, IsSomeAnd, refl, sym, ap}
use Rattle.std.proofs.Common.{◌∙◌, inl, inr}
use Rattle.std.proofs.lemmas.Bool.{le-leb, le-ltb, lt-leb, lt-ltb}
use Rattle.std.specs.Option.{option_map}
use Rattle.zd_model.specs.Bytes.{zero_sector}
use Rattle.zd_model.specs.Plain.{array_after, ends_past, put_by}
use Rattle.zd_model.specs.Requests.{first_sector, sector_count}
use Rattle.zd_model.specs.Stops.{Covers}
use Rattle.zd_model.specs.declared.requests.What.{What}
use Rattle.zd_model.proofs.LastLaws.{IsOutside, covers_cases, put_in, put_none, put_off}
use Rattle.zd_hold.specs.Puts.{put_at}

or_true : (b : Bool) → (b || true) ≡ true
or_true true = refl
or_true false = refl

-- the value of sector i
abbrev pub value_at : List (List ℕ) → ℕ → List ℕ
value_at array i = slice_index_or array i zero_sector

-- THE THREE TESTS
module _ (sectors : ℕ) (what : What) (i : ℕ) where
  past_none : ends_past sectors what ≡ true → put_at sectors what i ≡ None
  past_none past = rw past refl

  off_none : IsOutside what i → put_at sectors what i ≡ None
  off_none (inl before) =
      ap (λ (b : Bool). cond (b || nat_le (first_sector what + sector_count what) i) None
      (option_map (λ p. p i) (put_by what)))
      (ap (λ (b : Bool). ends_past sectors what || b) (lt-ltb i (first_sector what) before)
      ∙ or_true (ends_past sectors what))
  off_none (inr behind) =
      ap (λ (b : Bool). cond b None (option_map (λ p. p i) (put_by what)))
      (ap (λ (b : Bool). (ends_past sectors what || nat_lt i (first_sector what)) || b)
      (le-leb (first_sector what + sector_count what) i behind)
      ∙ or_true (ends_past sectors what || nat_lt i (first_sector what)))

  put_is : ends_past sectors what ≡ false → Covers what i
      → put_at sectors what i ≡ option_map (λ p. p i) (put_by what)
  put_is fits covers =
      rw (fits, le-ltb i (first_sector what) covers.0, lt-leb (first_sector what + sector_count what) i covers.1) refl

-- it puts this value there
pub record PutsValue (sectors : ℕ) (what : What) (i : ℕ) (value : List ℕ) : Type 0 where
  pub fits : ends_past sectors what ≡ false
  pub covers : Covers what i
  pub put : IsSomeAnd (put_by what) (λ p. value ≡ p i)

module _ (sectors : ℕ) (what : What) (i : ℕ) where
  some_put : (o : Option (ℕ → List ℕ)) (value : List ℕ) → option_map (λ p. p i) o ≡ Some value
      → IsSomeAnd o (λ p. value ≡ p i)
  some_put None value is = cc
  some_put (Some p) value is = cc

  -- what is found is what it puts
  pub found : (value : List ℕ) → put_at sectors what i ≡ Some value → PutsValue sectors what i value
  found value is = by_past (ends_past sectors what) refl
    where
      by_place : ends_past sectors what ≡ false → Covers what i ⊎ IsOutside what i → PutsValue sectors what i value
      by_place fits (inl covers) = record {
        fits = fits;
        covers = covers;
        put = some_put (put_by what) value (sym (put_is sectors what i fits covers) ∙ is);
      }
      by_place fits (inr off) = let none = off_none sectors what i off in cc

      by_past : (b : Bool) → ends_past sectors what ≡ b → PutsValue sectors what i value
      by_past true past = let none = past_none sectors what i past in cc
      by_past false fits = by_place fits (covers_cases what i)

  -- and what it puts is found
  pub is_found : (value : List ℕ) → PutsValue sectors what i value → put_at sectors what i ≡ Some value
  is_found value puts =
      put_is sectors what i puts.fits puts.covers ∙ by_put (put_by what) puts.put
    where
      by_put : (o : Option (ℕ → List ℕ)) → IsSomeAnd o (λ p. value ≡ p i)
          → option_map (λ p. p i) o ≡ Some value
      by_put None is = absurd is
      by_put (Some p) is = ap Some (sym is)

-- THE ARRAY AFTER IT
module _ (array : List (List ℕ)) (what : What) (i : ℕ) where
  none_put : (o : Option (ℕ → List ℕ)) → put_by what ≡ o → ends_past (length array) what ≡ false
      → option_map (λ p. p i) o ≡ None → array_after array what ≡ array
  none_put None puts fits none = put_none array what fits puts
  none_put (Some p) puts fits none = cc

  -- where nothing is found the sector stays
  pub stays : put_at (length array) what i ≡ None → value_at (array_after array what) i ≡ value_at array i
  stays none = by_past (ends_past (length array) what) refl
    where
      by_place : ends_past (length array) what ≡ false → Covers what i ⊎ IsOutside what i
          → value_at (array_after array what) i ≡ value_at array i
      by_place fits (inl covers) =
          ap (λ (xs : List (List ℕ)). value_at xs i)
          (none_put (put_by what) refl fits (sym (put_is (length array) what i fits covers) ∙ none))
      by_place fits (inr off) = put_off array what fits i off

      by_past : (b : Bool) → ends_past (length array) what ≡ b → value_at (array_after array what) i ≡ value_at array i
      by_past true past = rw past refl
      by_past false fits = by_place fits (covers_cases what i)

  -- else it is what was found
  pub is_put : (value : List ℕ) → put_at (length array) what i ≡ Some value
      → value_at (array_after array what) i ≡ value
  is_put value is = let puts = found (length array) what i value is in by_put (put_by what) refl puts puts.put
    where
      by_put : (o : Option (ℕ → List ℕ)) → put_by what ≡ o → PutsValue (length array) what i value
          → IsSomeAnd o (λ p. value ≡ p i) → value_at (array_after array what) i ≡ value
      by_put None puts all is_it = absurd is_it
      by_put (Some p) puts all is_it = put_in array what all.fits p i puts all.covers ∙ sym is_it
