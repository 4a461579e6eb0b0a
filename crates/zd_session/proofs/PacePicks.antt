-- How a job is picked, as the loop sees it: it gives a conventional zone back, or no job does.
use Rattle.std.proofs.Common.{◌≡◌, ◌⊎◌, inl, inr, ℕ, ◌<◌, ◌≤◌, Bool, true, false, cond, Option, Some, None, count_by, refl, sym, ap, ap₂, ◌∙◌, subst, arith}
use Rattle.std.specs.Prelude.{IsSomeAnd, nat_le, slice_index}
use Rattle.std.proofs.lemmas.Bool.{cases_lt, lt-ltb}
use Rattle.zd_base.specs.declared.geometry.Kind.TheVariants.{Sequential}
use Rattle.zd_alloc.specs.Zones.{is_free, uses_of}
use Rattle.zd_model.specs.Tables.{entry_of}
use Rattle.zd_model.specs.declared.metadata.MapEntry.{MapEntry}
use Rattle.zd_progress.specs.Stocks.{HasNoBuffer, HasNoMove, IsPickedFor, free_of}
use Rattle.zd_progress.specs.Stocks.IsPickedFor.{empties, gives, merges}
use Rattle.zd_tables.specs.Held.{first_valid_block}
use Rattle.zd_volume.specs.Flights.{tables_now}
use Rattle.zd_volume.specs.Jobs.{FitsEntry}
use Rattle.zd_volume.specs.Volumes.{IsFixed, PlainVolume}
use Rattle.zd_volume.specs.declared.work.Job.{Job}
use Rattle.zd_volume.specs.declared.work.JobKind.{JobKind}
use Rattle.zd_volume.specs.declared.work.JobKind.TheVariants.{Append, Empty, Merge, Move}
use Rattle.zd_jobs.proofs.EndZones.{there_is}
use Rattle.zd_jobs.proofs.PossibleJobs.{possible_fits}
use Rattle.zd_jobs.specs.Possible.{HasFreeSequential, IsPossible, kind_alone, kind_buffered, kind_by, kind_on}
use Rattle.zd_jobs.specs.Remaps.{leaving}
use Rattle.zd_reclaim.proofs.FreeZones.{free_counts}
use Rattle.zd_reclaim.proofs.NeverStuck.{alone_kind}
use Rattle.zd_reclaim.specs.Picks.{GivesConventional, HasNoJob, IsGiving, IsMerge, IsPick}
use Rattle.zd_session.specs.LoneStates.{stock_of, zone_or_zero}
use Rattle.zd_session.proofs.PaceSeen.{named_inside}

-- a buffered chunk has an Append or a Merge
buffered_kind : (first : Option ℕ) (pointer : ℕ)
    → (kind_buffered first pointer ≡ Append) ⊎ (kind_buffered first pointer ≡ Merge)
buffered_kind None pointer = inl refl
buffered_kind (Some x) pointer = by (nat_le pointer x)
  where
    by : (b : Bool) → (cond b Append Merge ≡ Append) ⊎ (cond b Append Merge ≡ Merge)
    by true = inl refl
    by false = inr refl

module _ (v : PlainVolume) (fixed : IsFixed v) where
  abbrev entry : ℕ → MapEntry
  entry c = entry_of (tables_now v) c

  -- WHERE NO JOB gives a conventional zone back, no chunk can be moved or dropped off one
  module _ (giving : HasNoJob v (IsGiving v)) where
    none_free : (HasFreeSequential v.division → ⊥) → free_of Sequential (stock_of v) ≡ 0
    none_free off = elim (cases_lt 0 (count_by is_free (uses_of Sequential v.division))) [
      | inl some ↦ absurd (off (free_counts v.division (count_by is_free (uses_of Sequential v.division)) refl
          (lt-ltb 0 (count_by is_free (uses_of Sequential v.division)) some)))
      | inr none ↦ omega (arith, none)
    ]

    pub no_move : HasNoMove (stock_of v)
    no_move c z zone low =
        let conv = fixed.uses.conv in
        let below : z < v.geometry.conv = omega (arith, low, conv) in
        by z zone below (first_valid_block v.geometry.zone_blocks (tables_now v) z) (alone_kind v fixed c z zone below)
      where
        by : (z : ℕ) → (entry c).zone ≡ Some z → z < v.geometry.conv → (first : Option ℕ)
            → kind_on v c ≡ kind_alone true first → free_of Sequential (stock_of v) ≡ 0
        by z zone below None is = absurd (giving (record { kind = Empty; chunk = c }) (record {
          there = named_inside v fixed c z (inl zone);
          is_kind = is;
          free = λ same. absurd (let f : ⊥ = cc in f);
        }) (z, zone, below))
        by z zone below (Some x) is = none_free (λ free. giving (record { kind = Move; chunk = c }) (record {
          there = named_inside v fixed c z (inl zone);
          is_kind = is;
          free = λ same. free;
        }) tt)

    -- and where there is no Merge either, none has a buffer
    module _ (merging : HasNoJob v IsMerge) where
      no_job_on : (c b : ℕ) → (entry c).buffer ≡ Some b → (kind : JobKind) → kind_on v c ≡ Some kind
          → (kind ≡ Append) ⊎ (kind ≡ Merge) → ⊥
      no_job_on c b buffer kind is (inl append) = giving (record { kind = kind; chunk = c }) (record {
        there = named_inside v fixed c b (inr buffer);
        is_kind = is;
        free = λ same. absurd (let f : Append ≡ Move = sym append ∙ same in let g : ⊥ = cc in g);
      }) (subst (λ (k : JobKind). GivesConventional v k c) (sym append) tt)
      no_job_on c b buffer kind is (inr merge) = merging (record { kind = kind; chunk = c }) (record {
        there = named_inside v fixed c b (inr buffer);
        is_kind = is;
        free = λ same. absurd (let f : Merge ≡ Move = sym merge ∙ same in let g : ⊥ = cc in g);
      }) merge

      by_zone : (c b : ℕ) → (entry c).buffer ≡ Some b → (zone : Option ℕ) → (entry c).zone ≡ zone
          → IsSomeAnd zone (λ z. v.geometry.conv ≤ z) → ⊥
      by_zone c b buffer None zone some = absurd some
      by_zone c b buffer (Some z) zone some =
          no_job_on c b buffer
          (kind_buffered (first_valid_block v.geometry.zone_blocks (tables_now v) b) (slice_index v.pointers z))
          (ap₂ (kind_by v.geometry v.pointers (tables_now v)) zone buffer)
          (buffered_kind (first_valid_block v.geometry.zone_blocks (tables_now v) b) (slice_index v.pointers z))

      pub no_buffer : HasNoBuffer (stock_of v)
      no_buffer c = by (entry c).buffer refl
        where
          by : (o : Option ℕ) → (entry c).buffer ≡ o → (entry c).buffer ≡ None
          by None is = is
          by (Some b) is = absurd (by_zone c b is (entry c).zone refl (fixed.sets.new_rules.map.buffers c b is).1)

  -- THE ZONE that such a job gives back is conventional
  conv_is : {z : ℕ} → z < v.geometry.conv → z < v.division.conv
  conv_is low = (let conv = fixed.uses.conv in omega (arith, low, conv))

  gives_low : (chunk : ℕ) (kind : JobKind) → FitsEntry v.geometry kind (entry chunk)
      → GivesConventional v kind chunk → zone_or_zero (leaving kind (entry chunk)) < v.division.conv
  gives_low chunk Append fits giving =
      let buffer = there_is (entry chunk).buffer fits.1 in
      subst (λ (o : Option ℕ). zone_or_zero o < v.division.conv) (sym buffer.1)
      (conv_is (fixed.sets.new_rules.map.buffers chunk buffer.0 buffer.1).0)
  gives_low chunk Move fits giving =
      subst (λ (o : Option ℕ). zone_or_zero o < v.division.conv) (sym fits.0.1) (conv_is fits.0.2)
  gives_low chunk Empty fits giving =
      subst (λ (o : Option ℕ). zone_or_zero o < v.division.conv) (sym giving.1) (conv_is giving.2)
  gives_low chunk Merge fits giving = absurd giving

  -- THE JOB THAT IS PICKED, with its target
  module _ (job : Job) (possible : IsPossible v job.chunk job.kind) (target : Option ℕ)
      (merged : job.kind ≡ Merge → target ≡ (entry job.chunk).buffer) where
    abbrev Picked : Type 0
    Picked = IsPickedFor (stock_of v) job.chunk (zone_or_zero (leaving job.kind (entry job.chunk)))
        (record { zone = target; buffer = None })

    fits : (kind : JobKind) → job.kind ≡ kind → FitsEntry v.geometry kind (entry job.chunk)
    fits kind is = subst (λ (k : JobKind). FitsEntry v.geometry k (entry job.chunk)) is
        (possible_fits v job.chunk job.kind possible)

    picked_merge : HasNoJob v (IsGiving v) → job.kind ≡ Merge → Picked
    picked_merge giving is =
        let buffer = there_is (entry job.chunk).buffer (fits Merge is).1 in
        merges (no_move giving) buffer.0 buffer.1 (merged is ∙ buffer.1)

    picked_empty : HasNoJob v (IsGiving v) → HasNoJob v IsMerge → job.kind ≡ Empty → Picked
    picked_empty giving merging is =
        let zone = there_is (entry job.chunk).zone (fits Empty is).0 in
        empties (no_move giving) (no_buffer giving merging) (zone.1
        ∙ ap (λ (o : Option ℕ). Some (zone_or_zero o)) (sym zone.1)
        ∙ ap (λ (k : JobKind). Some (zone_or_zero (leaving k (entry job.chunk)))) (sym is))

  pub picked : (job : Job) → IsPick v (Some job) → (target : Option ℕ)
      → (job.kind ≡ Merge → target ≡ (entry_of (tables_now v) job.chunk).buffer)
      → IsPickedFor (stock_of v) job.chunk
      (zone_or_zero (leaving job.kind (entry_of (tables_now v) job.chunk)))
      (record { zone = target; buffer = None })
  picked job (inl first) target merged =
      gives (gives_low job.chunk job.kind (possible_fits v job.chunk job.kind first.possible) first.such)
  picked job (inr (inl merge)) target merged = picked_merge job merge.1.possible target merged merge.0 merge.1.such
  picked job (inr (inr empty)) target merged =
      picked_empty job empty.2.possible target merged empty.0 empty.1 empty.2.such
