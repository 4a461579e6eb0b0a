-- A step of a job, as the loop sees it: a copy, or its end.
use Rattle.std.proofs.Common.{◌≡◌, inl, inr, ℕ, ◌<◌, false, get_or, length, set, Option, Some, None, refl, sym, ap, ap₂, ◌∙◌, arith}
use Rattle.std.specs.Prelude.{option_map}
use Rattle.std.proofs.lemmas.Bool.{cases_eq}
use Rattle.std.proofs.lemmas.List.{ext_get_or, get_or-set_other, get_or-set_same, length-set}
use Rattle.zd_base.specs.declared.geometry.Kind.TheVariants.{Conventional}
use Rattle.zd_base.specs.declared.numbers.Why.{Why}
use Rattle.zd_base.specs.declared.numbers.Why.TheVariants.{Device, Generation}
use Rattle.zd_alloc.specs.Zones.{use_after_release}
use Rattle.zd_commit.specs.Closed.{calls_to_finish}
use Rattle.zd_disk.specs.View.{View}
use Rattle.zd_model.specs.Tables.{Tables, entry_of}
use Rattle.zd_model.specs.declared.metadata.MapEntry.{MapEntry}
use Rattle.zd_model.specs.declared.requests.Piece.{Piece}
use Rattle.zd_progress.specs.Alone.{HasOnlyJobs}
use Rattle.zd_progress.specs.LoneSteps.{CopiesOne, FinishesJob}
use Rattle.zd_progress.specs.LoneSteps.LoneStep.{copies, finishes}
use Rattle.zd_progress.specs.Paces.{HaltsAt, IsAtLast, PacesOn}
use Rattle.zd_progress.specs.Paces.HaltsAt.{silent}
use Rattle.zd_progress.specs.Paces.PacesOn.{steps}
use Rattle.zd_progress.specs.Stocks.{free_of}
use Rattle.zd_routes.specs.Routes.{entry_touched}
use Rattle.zd_steps.specs.Runs.{Run, has_flush, is_over}
use Rattle.zd_tables.proofs.TableLaws.{length-entries}
use Rattle.zd_volume.specs.Discards.{chunk_touched, range_first}
use Rattle.zd_volume.specs.Flights.{tables_now}
use Rattle.zd_volume.specs.Volumes.{IsFixed, PlainVolume, sets_of}
use Rattle.zd_volume.specs.declared.phase.Phase.TheVariants.{Idle}
use Rattle.zd_volume.specs.declared.work.Job.{Job}
use Rattle.zd_volume.specs.declared.work.Work.{Work}
use Rattle.zd_jobs.proofs.EndZones.{leaving_named, leaving_there}
use Rattle.zd_jobs.specs.Remaps.{RemapsChunk, leaving, uses_without}
use Rattle.zd_session.specs.LoneSessions.{ats_of}
use Rattle.zd_session.specs.LoneStates.{Begun, StandsSession, commit_ahead, job_ahead, lone_run, loop_of, stock_of, zone_or_zero}
use Rattle.zd_session.specs.Serving.{KeepsActors}
use Rattle.zd_session.specs.SessionSteps.{KeepsSession}
use Rattle.zd_session.specs.Sessions.{SessionView, run_seen}
use Rattle.zd_session.specs.Standings.{is_under_way, needs_zone}
use Rattle.zd_session.proofs.PaceCommits.{left_stays, run_stays, some_stay}
use Rattle.zd_session.proofs.PaceCopies.{CopiedOne, WorkDid, blocks_to_copy, is_job}
use Rattle.zd_session.proofs.PaceCopies.WorkDid.{copied, ended, failed}
use Rattle.zd_session.proofs.PaceSeen.{idle_phase}
use Rattle.zd_session.proofs.PaceServed.{counts_still, device_alone, stopped_runs}
use Rattle.zd_session.proofs.PaceSteps.{ready_stays, same_takes}

abbrev nothing : MapEntry
nothing = record { zone = None; buffer = None }

-- WHERE A JOB ENDS: its chunk has its entry, and its source is given back
module _ (v w : PlainVolume) (fixed : IsFixed v) (work : Work) (under_way : v.job ≡ Some work)
    (did : RemapsChunk v w work) where
  abbrev own : MapEntry
  own = entry_of (tables_now v) work.job.chunk

  gone : (y : ℕ) × (leaving work.job.kind (entry_of (tables_now v) work.job.chunk) ≡ Some y)
  gone = leaving_there (sets_of v) fixed.sets v.pointers work (is_job v w fixed work under_way)

  source_is : (job_ahead v work).source ≡ gone.0
  source_is = ap zone_or_zero gone.1

  pub source_inside : (job_ahead v work).source < length v.division.zones
  source_inside =
      let low = (fixed.sets.new_rules.map.data_zones work.job.chunk gone.0
      (leaving_named work.job.kind own gone.0 gone.1)).1 in
      let count = fixed.uses.count in
      omega (arith, source_is, low, count)

  given_back : (o : Option ℕ) (y : ℕ) → o ≡ Some y
      → uses_without o v.named v.division.zones
      ≡ set v.division.zones (zone_or_zero o) (use_after_release (get_or v.named (zone_or_zero o) false))
  given_back None y is = absurd (let f : ⊥ = cc in f)
  given_back (Some z) y is = refl

  pub zones_then : w.division.zones ≡ set v.division.zones (job_ahead v work).source
      (use_after_release (get_or v.named (job_ahead v work).source false))
  zones_then = did.zones ∙ given_back (leaving work.job.kind own) gone.0 gone.1

  tables_then : tables_now w ≡ tables_now (record v { fresh = w.fresh })
  tables_then = ap tables_now did.rest

  entry_then : (c : ℕ) → entry_of (tables_now w) c
      ≡ get_or (set (stock_of v).entries work.job.chunk (job_ahead v work).result) c nothing
  entry_then c = elim (cases_eq c work.job.chunk) [
    | inl same ↦
        let there = (is_job v w fixed work under_way).chunk in
        let size = length-entries v.geometry v.head.layout v.fresh in
        ap₂ (λ (t : Tables) (i : ℕ). entry_of t i) tables_then same ∙ did.here
        ∙ sym (ap (λ (i : ℕ). get_or (set (stock_of v).entries work.job.chunk (job_ahead v work).result) i nothing) same
        ∙ get_or-set_same (stock_of v).entries work.job.chunk (job_ahead v work).result nothing
        (omega (arith, there, size)))
    | inr off ↦
        ap (λ (t : Tables). entry_of t c) tables_then ∙ did.others c off
        ∙ sym (get_or-set_other (stock_of v).entries work.job.chunk c (job_ahead v work).result nothing off)
  ]

  pub entries_then : (stock_of w).entries ≡ set (stock_of v).entries work.job.chunk (job_ahead v work).result
  entries_then =
      let same_layout = ap (λ (x : PlainVolume). x.head.layout.chunks) did.rest in
      let now = length-entries w.geometry w.head.layout w.fresh in
      let was = length-entries v.geometry v.head.layout v.fresh in
      let then = length-set (stock_of v).entries work.job.chunk (job_ahead v work).result in
      ext_get_or nothing (stock_of w).entries
      (set (stock_of v).entries work.job.chunk (job_ahead v work).result)
      (omega (arith, same_layout, now, was, then))
      (λ c inside. entry_then c)

module _ {D : Type 0} (look : D → View) (s t : SessionView D) (n : Begun) (stands : StandsSession look s)
    (keeps : KeepsSession s t) (actors : KeepsActors s t) (left : is_over (run_seen s) ≡ false) (work : Work)
    (under_way : s.volume.plain.job ≡ Some work) where
  abbrev v : PlainVolume
  v = s.volume.plain

  abbrev w : PlainVolume
  w = t.volume.plain

  was_ahead : (lone_run s n).job ≡ Some (job_ahead v work)
  was_ahead = ap (option_map (job_ahead v)) under_way

  -- A COPY
  module _ (next : Work) (did : CopiedOne v w work next) where
    history_copied : w.history ≡ v.history
    history_copied = ap (λ (x : PlainVolume). x.history) did.rest

    run_copied : run_seen t ≡ run_seen s
    run_copied = run_stays look s t n stands keeps actors left history_copied

    needs_copied : (p : Piece) → needs_zone w p ≡ needs_zone v p
    needs_copied p =
        ap (λ (x : PlainVolume). needs_zone x p) did.rest
        ∙ same_takes v.geometry v.pointers w.pointers (range_first v.geometry.zone_blocks p.what)
        (entry_touched v p.what).zone (entry_touched v p.what).buffer
        (did.alone (chunk_touched v.geometry.zone_blocks p.what))

    ahead_copied : (lone_run t n).job ≡ Some (record (job_ahead v work) { calls = blocks_to_copy v next })
    ahead_copied =
        ap (λ (x : PlainVolume). option_map (job_ahead x) x.job) did.rest
        ∙ ap₂ (λ (j : Job) (target : Option ℕ). Some (record {
          chunk = j.chunk;
          source = zone_or_zero (leaving j.kind (entry_of (tables_now v) j.chunk));
          result = record { zone = target; buffer = None };
          calls = blocks_to_copy v next;
        })) did.job did.target

    copies_one : CopiesOne (lone_run s n) (lone_run t n)
    copies_one = record {
      job = job_ahead v work;
      left = blocks_to_copy v next;
      was = was_ahead;
      is = ahead_copied;
      same_ready = ready_stays s t n n run_copied (ap (λ (x : PlainVolume). is_under_way x.phase) did.rest)
          (ap (λ (x : PlainVolume). free_of Conventional (stock_of x)) did.rest) needs_copied;
      same_flush = ap (λ (r : Run). has_flush r) run_copied;
      same_commit = ap commit_ahead did.rest;
      stock = ap stock_of did.rest;
      commits = refl;
      jobs = refl;
      later = did.later;
      calls = did.calls;
    }

    copy_paces : PacesOn (loop_of s n).job_calls (loop_of s n).pace (loop_of t n).pace
    copy_paces =
        steps (copies copies_one) (ap ats_of history_copied)
        (some_stay look s t n stands keeps actors left history_copied)
        (left_stays look s t n stands keeps actors left history_copied)
        (counts_still (loop_of s n).pace (loop_of t n).pace
        (ap (λ (x : PlainVolume). x.head.generation) did.rest) (ap commit_ahead did.rest) refl)

  -- THE END
  module _ (only : HasOnlyJobs (lone_run s n)) (did : RemapsChunk v w work) where
    history_ended : w.history ≡ v.history
    history_ended = ap (λ (x : PlainVolume). x.history) did.rest

    run_ended : run_seen t ≡ run_seen s
    run_ended = run_stays look s t n stands keeps actors left history_ended

    commit_ended : commit_ahead w ≡ commit_ahead v
    commit_ended =
        let idle : v.phase ≡ Idle = idle_phase v.dirty v.phase only.no_commit in
        ap (calls_to_finish w.dirty) (ap (λ (x : PlainVolume). x.phase) did.rest ∙ idle) ∙ sym only.no_commit

    finishes_job : FinishesJob (lone_run s n) (lone_run t n)
    finishes_job = record {
      job = job_ahead v work;
      by_commit = get_or v.named (job_ahead v work).source false;
      was = was_ahead;
      is = ap (λ (x : PlainVolume). option_map (job_ahead w) x.job) did.rest;
      inside = source_inside v w stands.fixed work under_way did;
      kinds = (
          let conv = stands.fixed.uses.conv in
          let count = stands.fixed.uses.count in
          omega (arith, conv, count));
      same_flush = ap (λ (r : Run). has_flush r) run_ended;
      same_commit = commit_ended;
      entries = entries_then v w stands.fixed work under_way did;
      conv = did.conv;
      zones = zones_then v w stands.fixed work under_way did;
      commits = refl;
      jobs = refl;
      calls = ap (λ (x : PlainVolume). x.since) did.rest;
    }

    end_paces : PacesOn (loop_of s n).job_calls (loop_of s n).pace (loop_of t n).pace
    end_paces =
        steps (finishes finishes_job) (ap ats_of history_ended)
        (some_stay look s t n stands keeps actors left history_ended)
        (left_stays look s t n stands keeps actors left history_ended)
        (counts_still (loop_of s n).pace (loop_of t n).pace
        (ap (λ (x : PlainVolume). x.head.generation) did.rest) commit_ended refl)

  -- WHERE THE VOLUME GOES ON
  pub work_paces : HasOnlyJobs (lone_run s n) → WorkDid v w work → w.stopped ≡ None
      → PacesOn (loop_of s n).job_calls (loop_of s n).pace (loop_of t n).pace
  work_paces only (copied next did) runs = copy_paces next did
  work_paces only (ended did) runs = end_paces only did
  work_paces only (failed device history) runs = absurd (stopped_runs w.stopped Device device runs)

-- WHERE IT STOPPED, the disk failed
pub work_halts : {D : Type 0} (s t : SessionView D) (n : Begun) (work : Work) → s.volume.plain.stopped ≡ None
    → WorkDid s.volume.plain t.volume.plain work → (why : Why) → t.volume.plain.stopped ≡ Some why → (m : Begun)
    → HaltsAt (loop_of s n).pace (loop_of t m).pace × (why ≡ Generation → IsAtLast (loop_of s n).pace)
work_halts s t n work runs (copied next did) why stopped m =
    absurd (stopped_runs t.volume.plain.stopped why stopped (ap (λ (x : PlainVolume). x.stopped) did.rest ∙ runs))
work_halts s t n work runs (ended did) why stopped m =
    absurd (stopped_runs t.volume.plain.stopped why stopped (ap (λ (x : PlainVolume). x.stopped) did.rest ∙ runs))
work_halts s t n work runs (failed device history) why stopped m =
    (silent (ap ats_of history), λ last. absurd (device_alone t.volume.plain.stopped why device stopped last))
