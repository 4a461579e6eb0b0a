-- A RUN THAT WAS READ KEEPS A VOLUME, in any phase: the copy buffer has what was there last. So does a call that
-- failed.
use Rattle.std.proofs.Common.{◌≡◌, ℕ, ◌+◌, ◌-◌, ◌*◌, ◌<◌, ◌≤◌, true, List, length, take, Option, Some, None}
use Rattle.std.proofs.Common.{inl, inr, refl, sym, ap, ◌∙◌, subst, arith}
use Rattle.std.proofs.lemmas.Bool.{cases_lt, false≢true}
use Rattle.std.specs.Prelude.{IsTrue}
use Rattle.zd_base.specs.declared.numbers.Why.{Why}
use Rattle.zd_model.specs.Image.{Image}
use Rattle.zd_model.specs.Safe.{base_at}
use Rattle.zd_model.specs.Tables.{entry_of, is_valid}
use Rattle.zd_model.proofs.FaultLaws.{none_some, some_is}
use Rattle.zd_disk.specs.OfGeometry.{IsImageOf}
use Rattle.zd_disk.specs.Steps.{piece}
use Rattle.zd_disk.specs.View.{HasFailed, OnlyReads, View}
use Rattle.zd_disk.proofs.StepLaws.{piece-take}
use Rattle.zd_sets.proofs.MixLaws.{piece_at}
use Rattle.zd_volume.specs.Flights.{tables_now}
use Rattle.zd_volume.specs.Jobs.{AreCopied, IsJob, source_of}
use Rattle.zd_volume.specs.Volumes.{IsFixed, IsKeptVolume, IsNow, PlainVolume, sets_of}
use Rattle.zd_volume.specs.declared.work.JobKind.{JobKind}
use Rattle.zd_volume.specs.declared.work.Work.{Work}
use Rattle.zd_volume.proofs.DropUses.{source_named}
use Rattle.zd_volume.proofs.FaultEntries.{faults_failed}
use Rattle.zd_volume.proofs.FixedLaws.{fixed_buffer}
use Rattle.zd_volume.proofs.Still.{faulted_later, kept_still}
use Rattle.zd_jobs.specs.JobSteps.{FailsCopyRead, ReadsBlocks}
use Rattle.zd_jobs.proofs.ChunkSectors.{own_last}
use Rattle.zd_jobs.proofs.WorkLaws.{copies_of, job_of, run_below, told_image, uses_of_job, uses_on}

module _ (from to : PlainVolume) (w : Work) (at count : ℕ) (told : Option Image) (fixed : IsFixed from)
    (is : from.job ≡ Some w) (did : ReadsBlocks from to w at count told) where
  abbrev next : Work
  next = record w { copied = at; read = count }

  old_job : IsJob (sets_of from) from.pointers w
  old_job = job_of from w fixed is

  -- there is no gap before a sequential target's pointer
  no_gap_at : (z : ℕ) → w.target ≡ Some z → from.geometry.conv ≤ z → w.copied ≡ at
  no_gap_at z target high = elim (cases_lt w.copied at) [
    | inl behind ↦ absurd (did.no_gap (z, target, high, behind))
    | inr from ↦ (let later = did.run.later in omega (arith, from, later))
  ]

  job_read : IsJob (sets_of from) from.pointers next
  job_read = record {
    chunk = old_job.chunk;
    entry = old_job.entry;
    target = old_job.target;
    emptied = old_job.emptied;
    inside = did.run.inside;
    few = did.run.few;
    unread = λ empty. absurd (none_some did.run.zone
        (sym (ap (λ (k : JobKind). source_of k (entry_of (tables_now from) w.job.chunk)) empty) ∙ did.run.from));
    run = λ y x source low high.
        subst (λ (z : ℕ). is_valid (tables_now from) z x ≡ true) (some_is did.run.zone y (sym did.run.from ∙ source))
        (did.run.valid x low high);
    pointer = λ z target high. old_job.pointer z target high ∙ no_gap_at z target high;
  }

  fixed_read : IsFixed (record from { job = Some next; buffer = to.buffer })
  fixed_read = record {
    sets = fixed.sets;
    flags = fixed.flags;
    under_way = fixed.under_way;
    uses = uses_on (sets_of from) w next from.division refl
        (uses_of_job from w fixed is);
    named = fixed.named;
    pointers = fixed.pointers;
    in_zones = fixed.in_zones;
    candidates = fixed.candidates;
    job = job_read;
    room = did.size ∙ fixed.room;
  }

  pub fixed_copy_read : IsFixed to
  fixed_copy_read = subst IsFixed (sym did.rest) fixed_read

  module _ (base : List (List ℕ)) (r : Image) (there : told ≡ Some r) (of : IsImageOf from.geometry r)
      (now : IsNow from base r) where
    sized : (i : ℕ) → 8 * at ≤ i → i < 8 * at + 8 * count → length (r.sector did.run.zone i) ≡ 512
    sized i low high =
        let below = run_below from w fixed is base r now at count did.run of in
        (of.image.sectors did.run.zone i (omega (arith, high, below))).0

    -- sector k of what was read
    read_piece : (k : ℕ) → k < 8 * count → piece to.buffer k ≡ r.sector did.run.zone (8 * at + k)
    read_piece k low =
        sym (piece-take (8 * count) k to.buffer low)
        ∙ ap (λ (xs : List ℕ). piece xs k)
        (ap (λ (n : ℕ). take n to.buffer) (let size : 512 * (8 * count) ≡ 4096 * count = omega arith in size)
        ∙ did.value did.run.zone did.run.from r there)
        ∙ piece_at (r.sector did.run.zone) (8 * at) (8 * count) k sized low

    copied_before : (y x : ℕ) → source_of w.job.kind (entry_of (tables_now from) w.job.chunk) ≡ Some y → x < at
        → IsTrue (is_valid (tables_now from) y x) → x < w.copied
    copied_before y x source low valid = elim (cases_lt x w.copied) [
      | inl before ↦ before
      | inr later ↦ absurd (false≢true (sym (did.run.first x later low)
          ∙ subst (λ (z : ℕ). is_valid (tables_now from) z x ≡ true)
          (some_is y did.run.zone (sym source ∙ did.run.from)) valid))
    ]

    copies_read : AreCopied (sets_of from) to.buffer next base from.history r
    copies_read = record {
      copied = λ y z x j source target low valid few.
          let before = copied_before y x source low valid in
          (copies_of from w fixed is base r now).copied y z x j source target before valid few;
      read = λ x j low high few.
          let end = did.run.inside in
          let place : 8 * at + (8 * (x - at) + j) ≡ 8 * x + j = omega (arith, low) in
          read_piece (8 * (x - at) + j) (omega (arith, low, high, few))
          ∙ ap (r.sector did.run.zone) place
          ∙ own_last (sets_of from) fixed.sets w.job.chunk did.run.zone x
          (source_named w.job.kind (entry_of (tables_now from) w.job.chunk) did.run.zone did.run.from)
          (omega (arith, high, end)) (did.run.valid x low high) j few old_job.chunk from.phase base from.history r
          now.read;
    }

    now_read : IsNow (record from { job = Some next; buffer = to.buffer }) base r
    now_read = record {
      read = now.read;
      pointers = now.pointers;
      whole = now.whole;
      copies = copies_read;
    }

-- A RUN WAS READ
pub kept_copy_read : (from to : PlainVolume) (w : Work) (at count : ℕ) (opening u x : View)
    → IsKeptVolume from opening u → from.job ≡ Some w → ReadsBlocks from to w at count u.zones → OnlyReads u x
    → IsKeptVolume to opening x
kept_copy_read from to w at count opening u x was is did io =
    subst (λ (v : PlainVolume). IsKeptVolume v opening x) (sym did.rest)
    (kept_still from (record from { job = Some (record w { copied = at; read = count }); buffer = to.buffer }) opening u
    x (record { geometry = refl; head = refl; since = refl; opening = refl; runs = λ r. r }) io was
    (record {
      fixed = fixed_read from to w at count u.zones was.fixed is did;
      by_now = was.counted.by_now;
      faulted = faulted_later from opening u x io was;
      calm = was.calm;
      legal = λ r t l. l;
      more = λ k n y m. m;
      reads = λ _ r t now. now_read from to w at count u.zones was.fixed is did (base_at opening.zones) r t
          (told_image from opening u was r t) now;
      stops = λ _ r c t may. may;
    }))

-- THE CALL FAILED: the volume is stopped, and what is in the copy buffer doesn't matter then
pub kept_copy_read_failed : (from to : PlainVolume) (opening u x : View) → from.stopped ≡ None
    → IsKeptVolume from opening u → FailsCopyRead from to → OnlyReads u x → HasFailed u x → IsKeptVolume to opening x
kept_copy_read_failed from to opening u x runs was did io failed =
    subst (λ (v : PlainVolume). IsKeptVolume v opening x) (sym did.rest)
    (kept_still from (record from { buffer = to.buffer; stopped = Some Why.Device }) opening u x
    (record { geometry = refl; head = refl; since = refl; opening = refl; runs = λ _. runs }) io was
    (record {
      fixed = fixed_buffer from was.fixed to.buffer from.since (Some Why.Device) did.size;
      by_now = was.counted.by_now;
      faulted = faults_failed from.history from.stopped opening.faults u.faults x.faults was.faulted io.stays.later
          failed;
      calm = λ no. absurd (let f : ⊥ = cc in f);
      legal = λ r t l. l;
      more = λ k n y m. m;
      reads = λ no. absurd (let f : ⊥ = cc in f);
      stops = λ no. absurd (let f : ⊥ = cc in f);
    }))
