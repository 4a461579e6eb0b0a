-- What settling a chunk changes of a volume: tables, flags, uses and classes alone.
use Rattle.std.proofs.Common.{◌≡◌, ◌⊎◌, ℕ, zero, suc, ◌<◌, Bool, true, false, Option, Some, None}
use Rattle.std.proofs.Common.{inl, inr, refl, sym, ap, ap₂, ◌∙◌, subst, arith}
use Rattle.std.proofs.lemmas.Bool.{cases_order, false≢true}
use Rattle.zd_alloc.specs.Candidates.{Standings}
use Rattle.zd_disk.proofs.ToldLaws.{Some-same}
use Rattle.zd_model.specs.Tables.{entry_of, is_valid}
use Rattle.zd_model.specs.declared.metadata.MapEntry.{MapEntry}
use Rattle.zd_routes.specs.Promotions.{IsBare, PromotesChunk}
use Rattle.zd_volume.specs.Flights.{tables_now}
use Rattle.zd_volume.specs.Volumes.{PlainVolume}
use Rattle.zd_write.specs.Tries.{Settles}

abbrev entry_by : Option ℕ → Option ℕ → MapEntry
entry_by zone buffer = record { zone = zone; buffer = buffer }

-- all below a bound are false, or one isn't
none_or_one : (P : ℕ → Bool) (n : ℕ) → ((x : ℕ) → x < n → P x ≡ false) ⊎ ((x : ℕ) × (x < n) × (P x ≡ true))
none_or_one P zero = inl (λ x low. absurd (omega (arith, low)))
none_or_one P (suc n) = by (P n) refl (none_or_one P n)
  where
    all_below : ((x : ℕ) → x < n → P x ≡ false) → P n ≡ false → (x : ℕ) → x < suc n → P x ≡ false
    all_below below here x low = elim (cases_order x n) [
      | inl same ↦ subst (λ (y : ℕ). P y ≡ false) (sym same) here
      | inr (inl less) ↦ below x less
      | inr (inr more) ↦ absurd (omega (arith, low, more))
    ]

    by : (b : Bool) → P n ≡ b → ((x : ℕ) → x < n → P x ≡ false) ⊎ ((x : ℕ) × (x < n) × (P x ≡ true))
        → ((x : ℕ) → x < suc n → P x ≡ false) ⊎ ((x : ℕ) × (x < suc n) × (P x ≡ true))
    by true is below = inr (n, omega arith, is)
    by false is (inl below) = inl (all_below below is)
    by false is (inr one) = inr (one.0, (let low = one.1 in omega (arith, low)), one.2)

module _ (v : PlainVolume) (chunk : ℕ) where
  abbrev entry : MapEntry
  entry = entry_of (tables_now v) chunk

  -- a chunk is bare or it isn't
  abbrev pub BareOrNot : Type 0
  BareOrNot = ((z b : ℕ) × IsBare v chunk z b) ⊎ ((z b : ℕ) → IsBare v chunk z b → ⊥)

  by_bits : (z b : ℕ) → chunk < v.head.layout.chunks → entry.zone ≡ Some z → entry.buffer ≡ Some b
      → ((x : ℕ) → x < v.geometry.zone_blocks → is_valid (tables_now v) z x ≡ false)
      ⊎ ((x : ℕ) × (x < v.geometry.zone_blocks) × (is_valid (tables_now v) z x ≡ true)) → BareOrNot
  by_bits z b there zone buffer (inl bare) = inl (
    z,
    b,
    record {
      there = there;
      entry = ap₂ (λ (x y : Option ℕ). entry_by x y) zone buffer;
      bare = bare;
    },
  )
  by_bits z b there zone buffer (inr one) = inr (λ y c is.
      let same : z ≡ y = Some-same z y (sym zone ∙ ap (λ (m : MapEntry). m.zone) is.entry) in
      false≢true (sym (subst (λ (n : ℕ). is_valid (tables_now v) n one.0 ≡ false) (sym same) (is.bare one.0 one.1)) ∙ one.2))

  by_zones : (zone buffer : Option ℕ) → chunk < v.head.layout.chunks → entry.zone ≡ zone → entry.buffer ≡ buffer
      → BareOrNot
  by_zones (Some z) (Some b) there zone buffer =
      by_bits z b there zone buffer (none_or_one (λ x. is_valid (tables_now v) z x) v.geometry.zone_blocks)
  by_zones None buffer there zone is = inr (λ z b bare.
      let no : None ≡ Some z = sym zone ∙ ap (λ (m : MapEntry). m.zone) bare.entry in let f : ⊥ = cc in f)
  by_zones (Some z) None there zone is = inr (λ y b bare.
      let no : None ≡ Some b = sym is ∙ ap (λ (m : MapEntry). m.buffer) bare.entry in let f : ⊥ = cc in f)

  pub bare_or_not : BareOrNot
  bare_or_not = elim (cases_order chunk v.head.layout.chunks) [
    | inl same ↦ inr (λ z b bare. (let low = bare.there in absurd (omega (arith, same, low))))
    | inr (inl less) ↦ by_zones entry.zone entry.buffer less refl refl
    | inr (inr more) ↦ inr (λ z b bare. (let low = bare.there in absurd (omega (arith, more, low))))
  ]

-- WHAT SETTLING CHANGES
module _ (from to : PlainVolume) (chunk : ℕ) where
  abbrev with_tables : PlainVolume → Standings → PlainVolume
  with_tables w standings = record from {
    fresh = w.fresh;
    dirty = w.dirty;
    division = w.division;
    standings = standings;
  }

  promoted_rest : (zone buffer : ℕ) → PromotesChunk from to chunk zone buffer → to ≡ with_tables to to.standings
  promoted_rest zone buffer did =
      did.rest ∙ ap (with_tables to) (sym (ap (λ (w : PlainVolume). w.standings) did.rest))

  pub settled_rest : Settles from to chunk
      → to ≡ record from { fresh = to.fresh; dirty = to.dirty; division = to.division; standings = to.standings }
  settled_rest settles = elim (bare_or_not from chunk) [
    | inl bare ↦ promoted_rest bare.0 bare.1 (settles.bare bare.0 bare.1 bare.2)
    | inr none ↦
        subst (λ (w : PlainVolume). w ≡ with_tables w w.standings) (sym (settles.others none)) refl
  ]
