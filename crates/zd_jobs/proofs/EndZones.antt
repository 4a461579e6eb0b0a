-- WHERE A JOB ENDS: its target, the zone that it gives back, and the zones of its chunk.
use Rattle.std.proofs.Common.{◌≡◌, ◌≢◌, ◌⊎◌, ℕ, List, Option, Some, None, inl, inr, refl, sym, ap, ◌∙◌, subst}
use Rattle.zd_model.specs.Tables.{NamesZone, entry_of}
use Rattle.zd_model.specs.declared.metadata.MapEntry.{MapEntry}
use Rattle.zd_model.proofs.FaultLaws.{none_some, some_is}
use Rattle.zd_volume.specs.Jobs.{FitsEntry, HasTarget, IsJob, IsNamed, source_of}
use Rattle.zd_volume.specs.Sets.{AreSets, Sets, new_tables, old_tables}
use Rattle.zd_volume.specs.declared.work.JobKind.{JobKind}
use Rattle.zd_volume.specs.declared.work.JobKind.TheVariants.{Empty, Move, Append, Merge}
use Rattle.zd_volume.specs.declared.work.Work.{Work}
use Rattle.zd_volume.proofs.PlaceLaws.{cases_place}
use Rattle.zd_routes.proofs.GoalLaws.{zones_apart}
use Rattle.zd_jobs.specs.Remaps.{leaving}

-- one that isn't none is some
pub there_is : (o : Option ℕ) → o ≢ None → (y : ℕ) × (o ≡ Some y)
there_is o some = elim (cases_place o) [ inl none ↦ absurd (some none) | inr at ↦ at ]

-- what is given back is a zone of the chunk
pub leaving_named : (kind : JobKind) (e : MapEntry) (y : ℕ) → leaving kind e ≡ Some y → NamesZone e y
leaving_named Empty e y is = inl is
leaving_named Move e y is = inl is
leaving_named Append e y is = inr is
leaving_named Merge e y is = inl is

module _ (s : Sets) (are : AreSets s) (pointers : List ℕ) (w : Work) (job : IsJob s pointers w) where
  abbrev e : MapEntry
  e = entry_of (new_tables s) w.job.chunk

  abbrev Fits : JobKind → Type 0
  Fits kind = FitsEntry s.geometry kind (entry_of (new_tables s) w.job.chunk)

  abbrev Has : JobKind → Type 0
  Has kind = HasTarget s.geometry (old_tables s) (new_tables s) kind (entry_of (new_tables s) w.job.chunk) w.target

  -- there is such a zone
  pub leaving_there : (y : ℕ) × (leaving w.job.kind (entry_of (new_tables s) w.job.chunk) ≡ Some y)
  leaving_there = by w.job.kind job.entry
    where
      by : (kind : JobKind) → Fits kind → (y : ℕ) × (leaving kind (entry_of (new_tables s) w.job.chunk) ≡ Some y)
      by Empty fits = there_is e.zone fits.0
      by Move fits = (fits.0.0, fits.0.1)
      by Append fits = there_is e.buffer fits.1
      by Merge fits = there_is e.zone fits.0

  -- a zone of the chunk is the target, or is given back
  pub target_or_leaving : (k : ℕ) → NamesZone (entry_of (new_tables s) w.job.chunk) k
      → (w.target ≡ Some k) ⊎ (leaving w.job.kind (entry_of (new_tables s) w.job.chunk) ≡ Some k)
  target_or_leaving k own = by w.job.kind job.entry job.target own
    where
      by : (kind : JobKind) → Fits kind → Has kind → NamesZone (entry_of (new_tables s) w.job.chunk) k
          → (w.target ≡ Some k) ⊎ (leaving kind (entry_of (new_tables s) w.job.chunk) ≡ Some k)
      by Empty fits has (inl zone) = inr zone
      by Empty fits has (inr buffer) = absurd (none_some k (sym fits.1 ∙ buffer))
      by Move fits has (inl zone) = inr zone
      by Move fits has (inr buffer) = absurd (none_some k (sym fits.1 ∙ buffer))
      by Append fits has (inl zone) = inl (has ∙ zone)
      by Append fits has (inr buffer) = inr buffer
      by Merge fits has (inl zone) = inr zone
      by Merge fits has (inr buffer) = inl (has ∙ buffer)

  -- the target isn't given back
  pub target_not_leaving : (y : ℕ) → leaving w.job.kind (entry_of (new_tables s) w.job.chunk) ≡ Some y
      → w.target ≢ Some y
  target_not_leaving y left target = by w.job.kind job.target left
    where
      by : (kind : JobKind) → Has kind → leaving kind (entry_of (new_tables s) w.job.chunk) ≡ Some y → ⊥
      by Empty has left = none_some y (sym has ∙ target)
      by Move has left =
          let same : y ≡ has.0 = some_is y has.0 (sym target ∙ has.1) in
          has.5 (w.job.chunk, inl (left ∙ ap (λ (n : ℕ). Some n) same))
      by Append has left = zones_apart s are w.job.chunk y (sym has ∙ target) left
      by Merge has left = zones_apart s are w.job.chunk y left (sym has ∙ target)

  -- it is one of the chunk's zones, or no table names it
  pub target_own_or_bare : (z : ℕ) → w.target ≡ Some z
      → NamesZone (entry_of (new_tables s) w.job.chunk) z
      ⊎ ((IsNamed (old_tables s) z → ⊥) × (IsNamed (new_tables s) z → ⊥))
  target_own_or_bare z target = by w.job.kind job.target
    where
      by : (kind : JobKind) → Has kind → NamesZone (entry_of (new_tables s) w.job.chunk) z
          ⊎ ((IsNamed (old_tables s) z → ⊥) × (IsNamed (new_tables s) z → ⊥))
      by Empty has = absurd (none_some z (sym has ∙ target))
      by Move has =
          let same : z ≡ has.0 = some_is z has.0 (sym target ∙ has.1) in
          inr (
            (λ n. has.4 (subst (IsNamed (old_tables s)) same n)),
            (λ n. has.5 (subst (IsNamed (new_tables s)) same n)),
          )
      by Append has = inl (inl (sym has ∙ target))
      by Merge has = inl (inr (sym has ∙ target))

  -- what is given back was copied from to a target, but for the zone of an Empty
  pub leaving_source : (y : ℕ) → leaving w.job.kind (entry_of (new_tables s) w.job.chunk) ≡ Some y
      → ((source_of w.job.kind (entry_of (new_tables s) w.job.chunk) ≡ Some y) × ((z : ℕ) × (w.target ≡ Some z)))
      ⊎ ((w.job.kind ≡ Empty) × ((entry_of (new_tables s) w.job.chunk).zone ≡ Some y))
  leaving_source y left = by w.job.kind refl job.entry job.target left
    where
      by : (kind : JobKind) → w.job.kind ≡ kind → Fits kind → Has kind
          → leaving kind (entry_of (new_tables s) w.job.chunk) ≡ Some y
          → ((source_of kind (entry_of (new_tables s) w.job.chunk) ≡ Some y) × ((z : ℕ) × (w.target ≡ Some z)))
          ⊎ ((w.job.kind ≡ Empty) × ((entry_of (new_tables s) w.job.chunk).zone ≡ Some y))
      by Empty is fits has left = inr (is, left)
      by Move is fits has left = inl (left, (has.0, has.1))
      by Append is fits has left = inl (left, (let at = there_is e.zone fits.0 in (at.0, has ∙ at.1)))
      by Merge is fits has left = inl (left, (let at = there_is e.buffer fits.1 in (at.0, has ∙ at.1)))
