-- Where no conventional zone is free and no zone is in limbo, some job is possible.
use Rattle.std.proofs.Common.{◌≡◌, ◌≢◌, inl, inr, ℕ, ◌-◌, ◌<◌, ◌≤◌, Bool, true, false, cond, Option, Some, None, refl, sym, ap, ap₂, ◌∙◌, subst, arith}
use Rattle.std.proofs.lemmas.Bool.{cases_lt, lt-ltb}
use Rattle.std.specs.Prelude.{IsSomeAnd, nat_le, slice_index}
use Rattle.zd_base.specs.Geometry.{zone_count}
use Rattle.zd_base.specs.Layout.{first_data_zone}
use Rattle.zd_base.specs.declared.geometry.Kind.TheVariants.{Conventional}
use Rattle.zd_alloc.specs.Zones.{HasNoFree, use_at}
use Rattle.zd_alloc.specs.declared.uses.ZoneUse.{ZoneUse}
use Rattle.zd_alloc.specs.declared.uses.ZoneUse.TheVariants.{Meta, Free, Held, Limbo}
use Rattle.zd_model.proofs.FaultLaws.{none_some}
use Rattle.zd_model.specs.Tables.{NamesZone, entry_of}
use Rattle.zd_model.specs.declared.metadata.MapEntry.{MapEntry}
use Rattle.zd_tables.proofs.TableLaws.{entry_past, length-entries}
use Rattle.zd_tables.specs.Held.{first_valid_block}
use Rattle.zd_volume.specs.Flights.{tables_now}
use Rattle.zd_volume.specs.Jobs.{IsNamed, IsTarget}
use Rattle.zd_volume.specs.Volumes.{IsFixed, PlainVolume}
use Rattle.zd_volume.specs.declared.work.Job.{Job}
use Rattle.zd_volume.specs.declared.work.JobKind.TheVariants.{Empty, Move, Append, Merge}
use Rattle.zd_volume.specs.declared.work.Work.{Work}
use Rattle.zd_jobs.specs.Possible.{HasFreeSequential, IsPossible, kind_alone, kind_buffered, kind_by, kind_on}
use Rattle.zd_reclaim.specs.Picks.{IsPick}
use Rattle.zd_reclaim.proofs.FreeZones.{free_or_not}
use Rattle.zd_reclaim.proofs.NamedChunks.{some_buffered}

-- some job is possible
abbrev pub HasJob : PlainVolume → Type 0
HasJob v = (job : Job) × IsPossible v job.chunk job.kind

not_move : (first : Option ℕ) (pointer : ℕ) → kind_buffered first pointer ≡ Move → ⊥
not_move None pointer is = cc
not_move (Some x) pointer is = by (nat_le pointer x) is
  where
    by : (b : Bool) → cond b Append Merge ≡ Move → ⊥
    by true is = cc
    by false is = cc

module _ (v : PlainVolume) (fixed : IsFixed v) where
  abbrev entry : ℕ → MapEntry
  entry c = entry_of (tables_now v) c

  -- behind the last chunk nothing is named
  chunk_there : (c z : ℕ) → NamesZone (entry c) z → c < v.head.layout.chunks
  chunk_there c z names = elim (cases_lt c v.head.layout.chunks) [
    | inl low ↦ low
    | inr past ↦
        let none = entry_past v.geometry v.head.layout v.fresh c past in
        elim names [
          | inl zone ↦ absurd (none_some z (sym (ap (λ (e : MapEntry). e.zone) none) ∙ zone))
          | inr buffer ↦ absurd (none_some z (sym (ap (λ (e : MapEntry). e.buffer) none) ∙ buffer))
        ]
  ]

  -- a buffered chunk has a job
  buffered_job : (c z b : ℕ) → c < v.head.layout.chunks → (entry c).zone ≡ Some z → (entry c).buffer ≡ Some b → HasJob v
  buffered_job c z b there zone buffer =
      let first = first_valid_block v.geometry.zone_blocks (tables_now v) b in
      let kind = kind_buffered first (slice_index v.pointers z) in (
        record { kind = kind; chunk = c },
        record {
          there = there;
          is_kind = ap₂ (kind_by v.geometry v.pointers (tables_now v)) zone buffer;
          free = λ move. absurd (not_move (first_valid_block v.geometry.zone_blocks (tables_now v) b)
              (slice_index v.pointers z) move);
        },
      )

  with_buffer : (c b : ℕ) → (entry c).buffer ≡ Some b → HasJob v
  with_buffer c b buffer = by (entry c).zone refl (fixed.sets.new_rules.map.buffers c b buffer).1
    where
      by : (zone : Option ℕ) → (entry c).zone ≡ zone → IsSomeAnd zone (λ z. v.geometry.conv ≤ z) → HasJob v
      by None is some = absurd some
      by (Some z) is some = buffered_job c z b (chunk_there c b (inr buffer)) is buffer

  -- a chunk on a conventional zone isn't buffered
  pub no_buffer : (c z : ℕ) → (entry c).zone ≡ Some z → z < v.geometry.conv → (entry c).buffer ≡ None
  no_buffer c z zone low = by (entry c).buffer refl
    where
      by : (buffer : Option ℕ) → (entry c).buffer ≡ buffer → (entry c).buffer ≡ None
      by None is = is
      by (Some b) is =
          let beside = subst (λ (o : Option ℕ). IsSomeAnd o (λ z. v.geometry.conv ≤ z)) zone
          (fixed.sets.new_rules.map.buffers c b is).1 in
          absurd (omega (arith, beside, low))

  pub alone_kind : (c z : ℕ) → (entry c).zone ≡ Some z → z < v.geometry.conv
      → kind_on v c ≡ kind_alone true (first_valid_block v.geometry.zone_blocks (tables_now v) z)
  alone_kind c z zone low =
      ap₂ (kind_by v.geometry v.pointers (tables_now v)) zone (no_buffer c z zone low)
      ∙ ap (λ (b : Bool). kind_alone b (first_valid_block v.geometry.zone_blocks (tables_now v) z))
      (lt-ltb z v.geometry.conv low)

  -- one on a conventional zone has a job, where a sequential zone is free
  alone_job : (c z : ℕ) → (entry c).zone ≡ Some z → z < v.geometry.conv → HasFreeSequential v.division → HasJob v
  alone_job c z zone low free =
      by (first_valid_block v.geometry.zone_blocks (tables_now v) z) (alone_kind c z zone low)
    where
      by : (first : Option ℕ) → kind_on v c ≡ kind_alone true first → HasJob v
      by None is = (
        record { kind = Empty; chunk = c },
        record { there = chunk_there c z (inl zone); is_kind = is; free = λ _. free },
      )
      by (Some x) is = (
        record { kind = Move; chunk = c },
        record { there = chunk_there c z (inl zone); is_kind = is; free = λ _. free },
      )

  module _ (idle : v.job ≡ None) (limbo : (z : ℕ) → use_at v.division.zones z ≡ Limbo → ⊥) where
    no_target : (z : ℕ) → IsTarget v.job z → ⊥
    no_target z target = subst (λ (o : Option Work). IsTarget o z) idle target

    -- a data zone that isn't free is named
    named_if : (z : ℕ) → first_data_zone v.geometry v.head.layout ≤ z → z < zone_count v.geometry
        → use_at v.division.zones z ≢ Free → IsNamed (tables_now v) z
    named_if z low inside off = by (use_at v.division.zones z) refl
      where
        by : (u : ZoneUse) → use_at v.division.zones z ≡ u → IsNamed (tables_now v) z
        by Meta is = absurd (let high = (fixed.uses.meta z inside).0 is in omega (arith, low, high))
        by Free is = absurd (off is)
        by Limbo is = absurd (limbo z is)
        by Held is = elim (fixed.uses.held z is) [
          | inl named ↦ named
          | inr target ↦ absurd (no_target z target)
        ]

    module _ (full : HasNoFree Conventional v.division) where
      -- the first data zone is conventional, so it's held: its chunk has a job where a sequential zone is free
      first_job_on : HasFreeSequential v.division → HasJob v
      first_job_on free =
          let first = first_data_zone v.geometry v.head.layout in
          let low = fixed.sets.fits.conventional_data in
          let conv = fixed.uses.conv in
          let named = named_if first (omega arith) (omega (arith, low)) (full first (omega (arith, low, conv))) in
          elim named.1 [
            | inl zone ↦ alone_job named.0 first zone low free
            | inr buffer ↦ with_buffer named.0 first buffer
          ]

      -- where none is free all data zones are held, more than there are chunks: one has a buffer
      buffered_without : (HasFreeSequential v.division → ⊥) → HasJob v
      buffered_without none =
          let first = first_data_zone v.geometry v.head.layout in
          let low = fixed.sets.fits.conventional_data in
          let room = fixed.sets.fits.room in
          let reserved = fixed.sets.fits.some_reserved in
          let size = length-entries v.geometry v.head.layout v.fresh in
          let conv = fixed.uses.conv in
          let one = some_buffered first (zone_count v.geometry - first) (tables_now v).entries
          (omega (arith, room, reserved, size))
          (λ z from less. named_if z from (omega (arith, less, low)) (elim (cases_lt z v.geometry.conv) [
            | inl below ↦ full z (omega (arith, below, conv))
            | inr above ↦ λ free. none (z, omega (arith, above, conv), free)
          ])) in
          with_buffer one.chunk one.buffer one.is

      -- NEVER STUCK
      pub some_job : HasJob v
      some_job = elim (free_or_not v.division) [
        | inl free ↦ first_job_on free
        | inr none ↦ buffered_without none
      ]

      -- so one is picked
      pub picked_one : (result : Option Job) → IsPick v result → (job : Job) × IsPick v (Some job)
      picked_one None pick = (let one = some_job in absurd (pick one.0 one.1))
      picked_one (Some job) pick = (job, pick)
