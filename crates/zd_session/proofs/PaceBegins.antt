-- A job that begins, as the loop sees it.
use Rattle.std.proofs.Common.{◌≡◌, inl, inr, ℕ, ◌+◌, ◌≤◌, false, cond, List, [], count_by, set, take, Option, Some, None, Result, Ok, Err, refl, sym, ap, ap₂, ◌∙◌, subst, arith}
use Rattle.std.specs.Prelude.{option_map, slice_index}
use Rattle.std.specs.Result.{IfErr, OnOk}
use Rattle.std.proofs.lemmas.List.{get_or-set_other, take-set-le}
use Rattle.std.proofs.lemmas.List.Sums.{sum_by-set, sum_by-take-drop}
use Rattle.zd_base.specs.declared.geometry.Kind.TheVariants.{Conventional, Sequential}
use Rattle.zd_base.specs.declared.numbers.Why.{Why}
use Rattle.zd_base.specs.declared.numbers.Why.TheVariants.{Device, Generation}
use Rattle.zd_alloc.specs.Zones.{Division, TakesLeast, is_free, is_limbo, use_at, uses_of}
use Rattle.zd_alloc.specs.declared.uses.ZoneUse.{ZoneUse}
use Rattle.zd_alloc.specs.declared.uses.ZoneUse.TheVariants.{Free, Held, Meta}
use Rattle.zd_disk.specs.View.{HasFailed, View}
use Rattle.zd_model.specs.Tables.{Tables, entry_of}
use Rattle.zd_model.specs.declared.metadata.MapEntry.{MapEntry}
use Rattle.zd_model.specs.declared.requests.Piece.{Piece}
use Rattle.zd_progress.specs.Alone.{HasOnlyJobs}
use Rattle.zd_progress.specs.LoneSteps.{StartsJob}
use Rattle.zd_progress.specs.LoneSteps.LoneStep.{starts}
use Rattle.zd_progress.specs.Paces.{HaltsAt, IsAtLast, PacesOn}
use Rattle.zd_progress.specs.Paces.HaltsAt.{silent}
use Rattle.zd_progress.specs.Paces.PacesOn.{steps}
use Rattle.zd_progress.specs.Stocks.{IsPickedFor, in_limbo}
use Rattle.zd_routes.specs.Routes.{entry_touched}
use Rattle.zd_steps.specs.Runs.{Run, has_flush, is_over}
use Rattle.zd_steps.specs.declared.step.Step.TheVariants.{Begin}
use Rattle.zd_tables.proofs.TableLaws.{length-entries}
use Rattle.zd_volume.specs.Discards.{chunk_touched, range_first}
use Rattle.zd_volume.specs.Flights.{tables_now}
use Rattle.zd_volume.specs.Jobs.{IsNamed}
use Rattle.zd_volume.specs.Volumes.{IsFixed, PlainVolume}
use Rattle.zd_volume.specs.declared.work.Job.{Job}
use Rattle.zd_volume.specs.declared.work.JobKind.{JobKind}
use Rattle.zd_volume.specs.declared.work.JobKind.TheVariants.{Append, Empty, Merge, Move}
use Rattle.zd_volume.specs.declared.work.Work.{Work}
use Rattle.zd_jobs.specs.JobSteps.{BeginsBy, BeginsJob, BeginsWithReset, FailsReset}
use Rattle.zd_jobs.specs.Remaps.{leaving}
use Rattle.zd_reclaim.specs.Picks.{IsPick}
use Rattle.zd_session.specs.LoneSessions.{ats_of}
use Rattle.zd_session.specs.LoneStates.{Begun, StandsSession, begun_after, commit_ahead, job_ahead, lone_run, loop_of, stock_of, zone_or_zero}
use Rattle.zd_session.specs.Serving.{KeepsActors}
use Rattle.zd_session.specs.SessionSteps.{KeepsSession, ServesBegin}
use Rattle.zd_session.specs.Sessions.{SessionView, run_seen}
use Rattle.zd_session.specs.Standings.{is_under_way, needs_zone}
use Rattle.zd_session.proofs.JobMoves.{pick_possible, reset_or_not}
use Rattle.zd_session.proofs.PaceCommits.{left_stays, run_stays, some_stay}
use Rattle.zd_session.proofs.PacePicks.{picked}
use Rattle.zd_session.proofs.PaceServed.{counts_still, device_alone, stopped_runs}
use Rattle.zd_session.proofs.PaceSteps.{count_least, count_most, ready_stays, same_takes}

-- A JOB HAS BEGUN: no table has changed, and no pointer of a zone that they name
pub record BegunWork (v w : PlainVolume) (job : Job) (work : Work) : Type 0 where
  pub job_is : work.job ≡ job
  pub begins : BeginsBy v job.kind (entry_of (tables_now v) job.chunk) work.target work.copied w.division
  pub named : (z : ℕ) → IsNamed (tables_now v) z → slice_index w.pointers z ≡ slice_index v.pointers z
  pub later : v.since ≤ w.since
  pub calls : w.since ≤ v.since + 1
  pub rest : w ≡ record v { division = w.division; pointers = w.pointers; job = Some work; since = w.since }

begun_still : (v w : PlainVolume) (job : Job) (work : Work) → BeginsJob v w job work → BegunWork v w job work
begun_still v w job work did =
    let since : w.since ≡ v.since = ap (λ (x : PlainVolume). x.since) did.rest in
    let pointers : w.pointers ≡ v.pointers = ap (λ (x : PlainVolume). x.pointers) did.rest in
    record {
      job_is = did.job_is;
      begins = did.begins;
      named = λ z names. ap (λ (ps : List ℕ). slice_index ps z) pointers;
      later = omega (arith, since);
      calls = omega (arith, since);
      rest = did.rest ∙ ap₂ (λ (ps : List ℕ) (k : ℕ). record v {
        division = w.division;
        pointers = ps;
        job = Some work;
        since = k;
      }) (sym pointers) (sym since);
    }

begun_reset : (v w : PlainVolume) (job : Job) (work : Work) (zone : ℕ) → IsFixed v → BeginsWithReset v w job work zone
    → BegunWork v w job work
begun_reset v w job work zone fixed did =
    let since = ap (λ (x : PlainVolume). x.since) did.rest in
    let pointers = ap (λ (x : PlainVolume). x.pointers) did.rest in
    record {
      job_is = did.job_is;
      begins = subst (λ (k : JobKind). BeginsBy v k (entry_of (tables_now v) job.chunk) work.target work.copied w.division)
          (sym did.kind) (zone, did.target, did.copied, did.takes);
      named = λ z names.
          ap (λ (ps : List ℕ). slice_index ps z) pointers
          ∙ get_or-set_other v.pointers zone z 0 0 (λ same. not_free
          (sym (ap (use_at v.division.zones) same ∙ did.takes.least.free) ∙ fixed.uses.named z names));
      later = omega (arith, since, count_least v.since);
      calls = omega (arith, since, count_most v.since);
      rest = did.rest ∙ ap₂ (λ (ps : List ℕ) (k : ℕ). record v {
        division = w.division;
        pointers = ps;
        job = Some work;
        since = k;
      }) (sym pointers) (sym since);
    }
  where
    not_free : Free ≡ Held → ⊥
    not_free same = cc

-- THE ZONE THAT IS TAKEN is none of the conventional ones, and wasn't in limbo
abbrev limbo_one : ZoneUse → ℕ
limbo_one u = cond (is_limbo u) 1 0

all_limbo : (d : Division) → in_limbo (record { division = d; entries = [] }) ≡ count_by is_limbo d.zones
all_limbo d = sum_by-take-drop limbo_one d.zones d.conv

taken_free : (d e : Division) (z : ℕ) → TakesLeast Sequential d e z
    → count_by is_free (uses_of Conventional e) ≡ count_by is_free (uses_of Conventional d)
taken_free d e z takes =
    ap₂ (λ (k : ℕ) (uses : List ZoneUse). count_by is_free (take k uses)) takes.conv takes.zones
    ∙ ap (count_by is_free) (take-set-le d.conv d.zones z Held takes.least.of_kind)

taken_limbo : (d e : Division) (z : ℕ) → TakesLeast Sequential d e z
    → in_limbo (record { division = e; entries = [] }) ≡ in_limbo (record { division = d; entries = [] })
taken_limbo d e z takes =
    let was = all_limbo d in
    let now = all_limbo e in
    let same : count_by is_limbo e.zones ≡ count_by is_limbo (set d.zones z Held) =
    ap (count_by is_limbo) takes.zones in
    let counts = sum_by-set limbo_one d.zones z Held Meta takes.least.inside in
    let none : limbo_one (use_at d.zones z) ≡ 0 = ap limbo_one takes.least.free in
    omega (arith, was, now, same, counts, none)

record SameStock (d e : Division) : Type 0 where
  conv : e.conv ≡ d.conv
  free : count_by is_free (uses_of Conventional e) ≡ count_by is_free (uses_of Conventional d)
  limbo : in_limbo (record { division = e; entries = [] }) ≡ in_limbo (record { division = d; entries = [] })

same_stock : (d e : Division) → e ≡ d → SameStock d e
same_stock d e is = record {
  conv = ap (λ (x : Division). x.conv) is;
  free = ap (λ (x : Division). count_by is_free (uses_of Conventional x)) is;
  limbo = ap (λ (x : Division). in_limbo (record { division = x; entries = [] })) is;
}

begun_stock : (v : PlainVolume) (kind : JobKind) (e : MapEntry) (target : Option ℕ) (copied : ℕ) (d : Division)
    → BeginsBy v kind e target copied d → SameStock v.division d
begun_stock v Empty e target copied d begins = same_stock v.division d begins.2
begun_stock v Move e target copied d begins = record {
  conv = begins.3.conv;
  free = taken_free v.division d begins.0 begins.3;
  limbo = taken_limbo v.division d begins.0 begins.3;
}
begun_stock v Append e target copied d begins = same_stock v.division d begins.4
begun_stock v Merge e target copied d begins = same_stock v.division d begins.2

-- the target of a Merge is the buffer
merge_target : (v : PlainVolume) (kind : JobKind) (e : MapEntry) (target : Option ℕ) (copied : ℕ) (d : Division)
    → BeginsBy v kind e target copied d → kind ≡ Merge → target ≡ e.buffer
merge_target v kind e target copied d begins is =
    (subst (λ (k : JobKind). BeginsBy v k e target copied d) is begins).0

-- WHAT THE FIRST STEP of a job does
pub data BeginDid (v w : PlainVolume) (job : Job) : Type 0 where
  begun : (work : Work) → BegunWork v w job work → BeginDid v w job
  failed : w.stopped ≡ Some Device → w.history ≡ v.history → BeginDid v w job

pub begin_did : {D : Type 0} (look : D → View) (s t : SessionView D) → IsFixed s.volume.plain
    → (did : ServesBegin look s t) → BeginDid s.volume.plain t.volume.plain did.job
begin_did look s t fixed did =
    elim (reset_or_not s.volume.plain did.job.kind (pick_possible s.volume.plain did.job did.pick).free) [
      | inl has ↦ by has.0 did.result (did.reset has.0 has.1).1 did.err
      | inr none ↦
          let still = did.still none in
          begun still.2.0 (begun_still s.volume.plain t.volume.plain did.job still.2.0 still.2.1)
    ]
  where
    by : (zone : ℕ) (r : Result (Unit {0}) Why)
        → OnOk r ((k : Work) × BeginsWithReset s.volume.plain t.volume.plain did.job k zone)
        → IfErr r (λ why. (why ≡ Why.Device) × FailsReset s.volume.plain t.volume.plain
        × HasFailed (look s.volume.disk) (look t.volume.disk)) → BeginDid s.volume.plain t.volume.plain did.job
    by zone (Ok x) begins err =
        begun begins.0 (begun_reset s.volume.plain t.volume.plain did.job begins.0 zone fixed begins.1)
    by zone (Err why) begins err =
        failed (ap (λ (x : PlainVolume). x.stopped) err.1) (ap (λ (x : PlainVolume). x.history) err.1)

module _ {D : Type 0} (look : D → View) (s t : SessionView D) (n : Begun) (stands : StandsSession look s)
    (keeps : KeepsSession s t) (actors : KeepsActors s t) (left : is_over (run_seen s) ≡ false) (job : Job)
    (pick : IsPick s.volume.plain (Some job)) where
  abbrev v : PlainVolume
  v = s.volume.plain

  abbrev w : PlainVolume
  w = t.volume.plain

  abbrev then_begun : Begun
  then_begun = begun_after v (Some Begin) n

  module _ (only : HasOnlyJobs (lone_run s n)) (none : (lone_run s n).job ≡ None) (work : Work)
      (did : BegunWork v w job work) where
    history_stays : w.history ≡ v.history
    history_stays = ap (λ (x : PlainVolume). x.history) did.rest

    run_is : run_seen t ≡ run_seen s
    run_is = run_stays look s t n stands keeps actors left history_stays

    tables_stay : tables_now w ≡ tables_now v
    tables_stay = ap tables_now did.rest

    stays : SameStock v.division w.division
    stays = begun_stock v job.kind (entry_of (tables_now v) job.chunk) work.target work.copied w.division did.begins

    needs_stay : (p : Piece) → needs_zone w p ≡ needs_zone v p
    needs_stay p =
        ap (λ (x : PlainVolume). needs_zone x p) did.rest
        ∙ same_takes v.geometry v.pointers w.pointers (range_first v.geometry.zone_blocks p.what)
        (entry_touched v p.what).zone (entry_touched v p.what).buffer
        (λ z zone buffer. did.named z (chunk_touched v.geometry.zone_blocks p.what, inl zone))

    ready_then : (lone_run t then_begun).is_ready ≡ false
    ready_then =
        ready_stays s t n then_begun run_is (ap (λ (x : PlainVolume). is_under_way x.phase) did.rest) stays.free
        needs_stay ∙ only.not_ready

    picked_for : IsPickedFor (stock_of v) (job_ahead w work).chunk (job_ahead w work).source (job_ahead w work).result
    picked_for =
        subst (λ (k : Job). IsPickedFor (stock_of v) k.chunk
        (zone_or_zero (leaving k.kind (entry_of (tables_now w) k.chunk))) (record { zone = work.target; buffer = None }))
        (sym did.job_is)
        (subst (λ (x : Tables). IsPickedFor (stock_of v) job.chunk
        (zone_or_zero (leaving job.kind (entry_of x job.chunk))) (record { zone = work.target; buffer = None }))
        (sym tables_stay)
        (picked v stands.fixed job pick work.target
        (merge_target v job.kind (entry_of (tables_now v) job.chunk) work.target work.copied w.division did.begins)))

    starts_job : StartsJob (v.geometry.zone_blocks + 1) (lone_run s n) (lone_run t then_begun)
    starts_job = record {
      not_ready = only.not_ready;
      no_flush = only.no_flush;
      no_commit = only.no_commit;
      no_limbo = only.no_limbo;
      no_job = none;
      job = job_ahead w work;
      is = ap (λ (x : PlainVolume). option_map (job_ahead w) x.job) did.rest;
      inside = (
          let there = (pick_possible v job pick).there in
          let size = length-entries v.geometry v.head.layout v.fresh in
          let chunk : work.job.chunk ≡ job.chunk = ap (λ (k : Job). k.chunk) did.job_is in
          omega (arith, there, size, chunk));
      picked = picked_for;
      same_ready = ready_then;
      same_flush = ap (λ (r : Run). has_flush r) run_is ∙ only.no_flush;
      same_commit = ap commit_ahead did.rest ∙ only.no_commit;
      entries = ap (λ (x : PlainVolume). (tables_now x).entries) did.rest;
      conv = stays.conv;
      same_free = stays.free;
      same_limbo = stays.limbo;
      commits = refl;
      jobs = refl;
      later = did.later;
      calls = (
          let calls = did.calls in
          let blocks : w.geometry.zone_blocks ≡ v.geometry.zone_blocks =
          ap (λ (x : PlainVolume). x.geometry.zone_blocks) did.rest in
          omega (arith, calls, blocks));
    }

    pub begin_paces : PacesOn (loop_of s n).job_calls (loop_of s n).pace (loop_of t then_begun).pace
    begin_paces =
        steps (starts starts_job) (ap ats_of history_stays)
        (some_stay look s t n stands keeps actors left history_stays)
        (left_stays look s t n stands keeps actors left history_stays)
        (counts_still (loop_of s n).pace (loop_of t then_begun).pace
        (ap (λ (x : PlainVolume). x.head.generation) did.rest) (ap commit_ahead did.rest) refl)

  -- WHERE THE VOLUME GOES ON
  pub begins_paces : HasOnlyJobs (lone_run s n) → (lone_run s n).job ≡ None → BeginDid v w job → w.stopped ≡ None
      → PacesOn (loop_of s n).job_calls (loop_of s n).pace (loop_of t then_begun).pace
  begins_paces only none (begun work did) runs = begin_paces only none work did
  begins_paces only none (failed device history) runs = absurd (stopped_runs w.stopped Device device runs)

-- WHERE IT STOPPED, the disk failed
pub begin_halts : {D : Type 0} (s t : SessionView D) (n : Begun) (job : Job) → s.volume.plain.stopped ≡ None
    → BeginDid s.volume.plain t.volume.plain job → (why : Why) → t.volume.plain.stopped ≡ Some why → (m : Begun)
    → HaltsAt (loop_of s n).pace (loop_of t m).pace × (why ≡ Generation → IsAtLast (loop_of s n).pace)
begin_halts s t n job runs (begun work did) why stopped m =
    absurd (stopped_runs t.volume.plain.stopped why stopped (ap (λ (x : PlainVolume). x.stopped) did.rest ∙ runs))
begin_halts s t n job runs (failed device history) why stopped m =
    (silent (ap ats_of history), λ last. absurd (device_alone t.volume.plain.stopped why device stopped last))
