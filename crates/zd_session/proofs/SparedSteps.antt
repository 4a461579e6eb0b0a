-- What the steps of reads, commits and jobs leave: they touch no chunk.
use Rattle.std.proofs.Common.{◌≡◌, ◌≢◌, inl, inr, ℕ, List, Option, Result, Ok, Err, Some, refl, sym, subst}
use Rattle.zd_base.specs.declared.numbers.Why.{Why}
use Rattle.zd_base.specs.declared.steps.StepKind.{StepKind}
use Rattle.zd_base.specs.declared.steps.StepKind.TheVariants as kinds
use Rattle.zd_disk.specs.Told.{next_count}
use Rattle.zd_disk.specs.View.{View}
use Rattle.zd_model.specs.Image.{Image}
use Rattle.zd_model.specs.Plain.{Answer}
use Rattle.zd_model.specs.Plain.Answer.{Done, Fault, Got, Range}
use Rattle.zd_model.specs.Safe.{base_at}
use Rattle.zd_model.specs.declared.requests.Piece.{Piece}
use Rattle.zd_volume.specs.Commits.{AreFlushes, CommitStep, after_end, after_failed, after_phase, flush_entries}
use Rattle.zd_volume.specs.Flights.{ReadStep, answered, with_entry}
use Rattle.zd_volume.specs.Volumes.{IsFixed, PlainVolume}
use Rattle.zd_volume.specs.declared.flight.Flight.{Flight}
use Rattle.zd_volume.specs.declared.flight.Ran.{Ran}
use Rattle.zd_volume.specs.declared.phase.Committed.{Committed}
use Rattle.zd_volume.specs.declared.work.Job.{Job}
use Rattle.zd_volume.specs.declared.work.Work.{Work}
use Rattle.zd_jobs.specs.JobSteps.{BeginsJob, BeginsWithReset, FailsReset}
use Rattle.zd_jobs.specs.NextSteps.{IsNextOf}
use Rattle.zd_jobs.proofs.NextLaws.{remap_next}
use Rattle.zd_jobs.proofs.RemapPlaces.{remap_stays}
use Rattle.zd_reclaim.specs.Works.{MakesNextStep, WorksOn}
use Rattle.zd_session.proofs.SparedLaws.{Nowhere, Spares, last_flushed, last_quiet, not_done, spares_itself, spares_same}

module _ (told : Option Image) where
  -- an entry of a piece that isn't Done
  pub entry_spares : (v w : PlainVolume) (p : Piece) (reply : Answer) → reply ≢ Done → w ≡ with_entry v p reply
      → Spares told Nowhere v w
  entry_spares v w p reply quiet is =
      subst (λ (x : PlainVolume). Spares told Nowhere v x) (sym is)
      (spares_same told v (with_entry v p reply) refl refl refl refl
      (last_quiet (base_at told) v.history (answered p reply v.since) quiet))

  pub got_quiet : (bytes : List ℕ) → Got bytes ≢ Done
  got_quiet bytes is = cc

  pub range_quiet : Range ≢ Done
  range_quiet is = cc

  -- A READ
  pub read_spares : (v w : PlainVolume) (u x : View) (old new : Flight) (ran : Ran) → ReadStep v w u x old new ran
      → Spares told Nowhere v w
  read_spares v w u x old new Ran.More did = spares_itself told v w did.volume
  read_spares v w u x old new Ran.Entered (inl ends) =
      entry_spares v w old.piece (Got ends.bytes) (got_quiet ends.bytes) ends.volume
  read_spares v w u x old new Ran.Entered (inr fails) = entry_spares v w old.piece Fault not_done fails.volume

  -- a volume that stops
  pub stopped_spares : (v w : PlainVolume) (why : Why) → w ≡ record v { stopped = Some why } → Spares told Nowhere v w
  stopped_spares v w why is =
      subst (λ (x : PlainVolume). Spares told Nowhere v x) (sym is)
      (spares_same told v (record v { stopped = Some why }) refl refl refl refl refl)

  -- A COMMIT
  pub commit_spares : (v w : PlainVolume) (flushes : List Piece) (result : Committed) → AreFlushes flushes
      → CommitStep v w flushes result → Spares told Nowhere v w
  commit_spares v w flushes Committed.More are did =
      subst (λ (x : PlainVolume). Spares told Nowhere v x) (sym did.rest)
      (spares_same told v (after_phase v w.phase (next_count v.since) v.stopped) refl refl refl refl refl)
  commit_spares v w flushes Committed.Ended are did =
      subst (λ (x : PlainVolume). Spares told Nowhere v x) (sym did.rest)
      (spares_same told v (after_end v did.alone (flush_entries Done (next_count v.since) flushes) _ w.named w.division
      (next_count v.since)) refl refl refl refl
      (last_flushed (base_at told) v.history Done (next_count v.since) flushes are))
  commit_spares v w flushes (Committed.Stopped Why.Device) are did =
      subst (λ (x : PlainVolume). Spares told Nowhere v x) (sym did)
      (spares_same told v (after_failed v flushes) refl refl refl refl
      (last_flushed (base_at told) v.history Fault (next_count v.since) flushes are))
  commit_spares v w flushes (Committed.Stopped Why.Generation) are did = stopped_spares v w Why.Generation did.3
  commit_spares v w flushes (Committed.Stopped Why.Memory) are did = absurd did

  -- A JOB BEGINS
  pub begins_spares : (v w : PlainVolume) (job : Job) (work : Work) → BeginsJob v w job work → Spares told Nowhere v w
  begins_spares v w job work did =
      subst (λ (x : PlainVolume). Spares told Nowhere v x) (sym did.rest)
      (spares_same told v (record v { division = w.division; job = Some work }) refl refl refl refl refl)

  pub resets_spares : (v w : PlainVolume) (job : Job) (work : Work) (zone : ℕ) → BeginsWithReset v w job work zone
      → Spares told Nowhere v w
  resets_spares v w job work zone did =
      subst (λ (x : PlainVolume). Spares told Nowhere v x) (sym did.rest)
      (spares_same told v (record v {
        division = w.division;
        pointers = _;
        job = Some work;
        since = next_count v.since;
      }) refl refl refl refl refl)

  pub reset_fails_spares : (v w : PlainVolume) → FailsReset v w → Spares told Nowhere v w
  reset_fails_spares v w did =
      subst (λ (x : PlainVolume). Spares told Nowhere v x) (sym did)
      (spares_same told v (record v { since = next_count v.since; stopped = Some Why.Device }) refl refl refl refl refl)

  -- A STEP OF A JOB
  works_spares : (kind : StepKind) (v w : PlainVolume) (work : Work) (result : Result StepKind Why) (u x : View)
      → IsFixed v → v.job ≡ Some work → IsNextOf v work kind → WorksOn kind v w work result u x → Spares told Nowhere v w
  works_spares kinds.CopyRead v w work (Ok k) u x fixed is next did =
      let read = did.ok.2 in
      subst (λ (y : PlainVolume). Spares told Nowhere v y) (sym read.rest)
      (spares_same told v (record v {
        job = Some (record work { copied = did.ok.0; read = did.ok.1 });
        buffer = w.buffer;
      }) refl refl refl refl refl)
  works_spares kinds.CopyRead v w work (Err why) u x fixed is next did =
      subst (λ (y : PlainVolume). Spares told Nowhere v y) (sym did.err.rest)
      (spares_same told v (record v { buffer = w.buffer; stopped = Some Why.Device }) refl refl refl refl refl)
  works_spares kinds.CopyWrite v w work (Ok k) u x fixed is next did =
      subst (λ (y : PlainVolume). Spares told Nowhere v y) (sym did.ok.rest)
      (spares_same told v (record v {
        job = Some (record work { copied = _; read = 0 });
        pointers = _;
        standings = _;
        buffer = w.buffer;
        since = next_count v.since;
      }) refl refl refl refl refl)
  works_spares kinds.CopyWrite v w work (Err why) u x fixed is next did =
      subst (λ (y : PlainVolume). Spares told Nowhere v y) (sym did.err.rest)
      (spares_same told v (record v {
        buffer = w.buffer;
        since = next_count v.since;
        stopped = Some Why.Device;
      }) refl refl refl refl refl)
  works_spares kinds.Remap v w work result u x fixed is next did =
      subst (λ (y : PlainVolume). Spares told Nowhere v y) (sym did.1.rest) (record {
        geometry = refl;
        layout = refl;
        generation = refl;
        last = λ i at n off. refl;
        valid = λ n off valid. remap_stays v w work fixed is did.1 (remap_next v work next).1 n valid;
      })
  works_spares kind v w work result u x fixed is next did = absurd did

  pub work_spares : (v w : PlainVolume) (result : Result StepKind Why) (u x : View) → IsFixed v
      → MakesNextStep v w result u x → Spares told Nowhere v w
  work_spares v w result u x fixed did =
      works_spares did.kind v w did.work result u x fixed did.under_way did.next did.works
