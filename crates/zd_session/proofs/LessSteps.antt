-- EACH STEP LESSENS WHAT IS LEFT of a session that its first actor steps, preferring pieces, and that goes on.
use Rattle.std.proofs.Common.{◌≡◌, ◌⊎◌, inl, inr, ℕ, ◌+◌, ◌*◌, ◌<◌, Bool, true, false, not, ◌&&◌, ◌||◌, length, map}
use Rattle.std.proofs.Common.{Option, Some, None, Result, Ok, Err, find, refl, sym, ap, ap₂, ◌∙◌, subst, arith}
use Rattle.std.proofs.lemmas.Bool.{and_parts, cases_Bool, false≢true, or_cases}
use Rattle.std.proofs.lemmas.Option.{cond_some, none-some, same_Some}
use Rattle.std.specs.Prelude.{is_some}
use Rattle.std.specs.Result.{IfErr, OnOk}
use Rattle.zd_base.specs.Geometry.{Shape}
use Rattle.zd_base.specs.Layout.{used_blocks}
use Rattle.zd_base.specs.declared.layout.Layout.{Layout}
use Rattle.zd_base.specs.declared.numbers.Why.{Why}
use Rattle.zd_base.specs.declared.steps.Prefer.{Prefer}
use Rattle.zd_base.specs.declared.steps.Prefer.TheVariants.{Pieces}
use Rattle.zd_base.specs.declared.steps.StepKind.{StepKind}
use Rattle.zd_base.specs.declared.steps.StepKind.TheVariants as kinds
use Rattle.zd_disk.specs.Told.{next_count}
use Rattle.zd_disk.specs.View.{HasFailed, View}
use Rattle.zd_model.specs.History.{mark_of_entry}
use Rattle.zd_model.specs.Plain.Answer.{Done}
use Rattle.zd_model.specs.declared.requests.Piece.{Piece}
use Rattle.zd_progress.specs.Measures.{IsRestWithin, Lessens, Rest}
use Rattle.zd_progress.specs.Measures.Lessens.{ends, enters, goes_on}
use Rattle.zd_steps.specs.NextStep.{first_serve, is_commit_due, is_job_due, job_step, may_work, next_step}
use Rattle.zd_steps.specs.NextStep.{piece_step}
use Rattle.zd_steps.specs.Runs.{Run, Standing, eligible_flushes, flight_of, has_flush, is_ready, is_servable}
use Rattle.zd_steps.specs.Runs.{is_wanted}
use Rattle.zd_steps.specs.declared.step.Step.{Step}
use Rattle.zd_steps.specs.declared.step.Step.TheVariants.{Begin, Commit, Serve, Work}
use Rattle.zd_volume.specs.Commits.{Advances, CommitStep, EndsCommit}
use Rattle.zd_volume.specs.Volumes.{PlainVolume}
use Rattle.zd_volume.specs.declared.phase.Committed.{Committed}
use Rattle.zd_volume.specs.declared.work.Work.{Work as JobWork}
use Rattle.zd_jobs.specs.JobSteps.{BeginsWithReset, FailsReset}
use Rattle.zd_jobs.specs.NextSteps.{IsNextOf}
use Rattle.zd_reclaim.specs.Works.{WorksOn}
use Rattle.zd_session.specs.LoneStates.{StandsSession, copy_rest, most_of, rest_of}
use Rattle.zd_session.specs.Serving.{KeepsActors}
use Rattle.zd_session.specs.SessionSteps.{KeepsSession, Makes, ServesBegin, ServesCommit}
use Rattle.zd_session.specs.Sessions.{SessionView, next_seen, run_seen, standing_seen}
use Rattle.zd_session.specs.Standings.{kind_next}
use Rattle.zd_session.proofs.LessCommits.{commit_ended, commit_more, commit_some, ended_jobs, more_jobs}
use Rattle.zd_session.proofs.LessEnds.{remap_jobs}
use Rattle.zd_session.proofs.JobMoves.{pick_possible, reset_or_not}
use Rattle.zd_session.proofs.LessEntries.{chosen_serves, come_flushes, come_same, none_flushed}
use Rattle.zd_session.proofs.LessFlights.{flight_same}
use Rattle.zd_session.proofs.LessJobs.{IsWorked, begins_worked, copy_worked, resets_worked}
use Rattle.zd_session.proofs.LessLimits.{rest_within}
use Rattle.zd_session.proofs.LessServes.{serves_lessens}
use Rattle.zd_session.proofs.MakingLaws.{marks_flushed}
use Rattle.zd_session.proofs.StandingLaws.{none_decides}
use Rattle.zd_session.proofs.StepLaws.{begin_told, step_told}

-- A COMMIT THAT IS CHOSEN is under way, or due
module _ (r : Run) (v : Standing) where
  no_piece : (flight : Option Piece) → piece_step r v flight ≡ Some Commit → ⊥
  no_piece None is = by (find (is_servable r v) r.pieces) is
    where
      by : (o : Option Piece) → first_serve r v o ≡ Some Commit → ⊥
      by None is = none-some Commit is
      by (Some p) is = (let same = same_Some (Serve p) Commit is in cc)
  no_piece (Some p) is = (let same = (cond_some (is_ready v p) (Serve p) Commit is).1 in cc)

  no_job : (job : Option StepKind) → job_step r v job ≡ Some Commit → ⊥
  no_job None is = (let same = (cond_some (is_job_due v (is_wanted r v)) Begin Commit is).1 in cc)
  no_job (Some kind) is = (let same = (cond_some (may_work v kind) (Work kind) Commit is).1 in cc)

  commit_told : (actor : ℕ) (prefer : Prefer) → next_step r v actor prefer ≡ Some Commit
      → (v.commits || is_commit_due v (has_flush r) (is_wanted r v)) ≡ true
  commit_told actor prefer is = elim (step_told r v actor prefer Commit is).1 [
    | inl piece ↦ absurd (no_piece (flight_of r actor) piece)
    | inr (inl commit) ↦
        (cond_some (v.commits || is_commit_due v (has_flush r) (is_wanted r v)) Commit Commit commit).0
    | inr (inr job) ↦ absurd (no_job v.job job)
  ]

  -- where no flush waits, a zone is in limbo
  pub commit_cause : (actor : ℕ) (prefer : Prefer) → next_step r v actor prefer ≡ Some Commit → has_flush r ≡ false
      → (v.commits ≡ true) ⊎ (v.has_limbo ≡ true)
  commit_cause actor prefer is none =
      elim (or_cases v.commits (is_commit_due v (has_flush r) (is_wanted r v)) (commit_told actor prefer is)) [
        | inl under_way ↦ inl under_way
        | inr due ↦ inr (by (has_flush r) none
            (and_parts (not v.commits) (has_flush r || (is_wanted r v && v.has_limbo)) due).1)
      ]
    where
      by : (flush : Bool) → flush ≡ false → (flush || (is_wanted r v && v.has_limbo)) ≡ true → v.has_limbo ≡ true
      by true is due = absurd (false≢true (sym is))
      by false is due = (and_parts (is_wanted r v) v.has_limbo due).1

module _ {D : Type 0} (look : D → View) (s t : SessionView D) (stands : StandsSession look s)
    (keeps : KeepsSession s t) where
  abbrev v : PlainVolume
  v = s.volume.plain

  abbrev w : PlainVolume
  w = t.volume.plain

  -- A STEP OF A JOB that isn't its last
  worked : KeepsActors s t → IsWorked s.volume.plain t.volume.plain → Lessens (rest_of s) (rest_of t)
  worked actors did =
      let flight = flight_same look s stands t keeps.geometry actors in
      let commit = did.commit in
      let copies = did.copies in
      goes_on (come_same look s stands t keeps did.history) did.jobs (omega (arith, flight, commit, copies))

  module _ (goes : t.volume.plain.stopped ≡ None) where
    -- A JOB BEGINS, with a reset of the zone that it takes or without one
    begins_on : s.volume.plain.job ≡ None → ServesBegin look s t → Lessens (rest_of s) (rest_of t)
    begins_on none did = elim (reset_or_not v did.job.kind (pick_possible v did.job did.pick).free) [
      | inl has ↦ by has.0 did.result (did.reset has.0 has.1).1 did.err
      | inr bare ↦
          let still = did.still bare in
          worked did.actors (begins_worked v w did.job still.2.0 none still.2.1)
    ]
      where
        by : (zone : ℕ) (r : Result (Unit {0}) Why) → OnOk r ((k : JobWork) × BeginsWithReset v w did.job k zone)
            → IfErr r (λ why. (why ≡ Why.Device) × FailsReset v w × HasFailed (look s.volume.disk) (look t.volume.disk))
            → Lessens (rest_of s) (rest_of t)
        by zone (Ok x) begins err = worked did.actors (resets_worked v w did.job begins.0 zone none begins.1)
        by zone (Err why) begins err =
            absurd (none-some Why.Device (sym goes ∙ ap (λ (x : PlainVolume). x.stopped) err.1))

    -- A STEP OF A JOB
    works_by : (k : JobWork) → s.volume.plain.job ≡ Some k → KeepsActors s t → (kind : StepKind)
        (result : Result StepKind Why) → IsNextOf s.volume.plain k kind
        → WorksOn kind s.volume.plain t.volume.plain k result (look s.volume.disk) (look t.volume.disk)
        → Lessens (rest_of s) (rest_of t)
    works_by k is actors kinds.Remap result next step =
        ends (come_same look s stands t keeps (ap (λ (x : PlainVolume). x.history) step.1.rest))
        (flight_same look s stands t keeps.geometry actors) (remap_jobs v w k stands.fixed is step.1)
    works_by k is actors kind result next step =
        worked actors (copy_worked v w k is kind result (look s.volume.disk) (look t.volume.disk) stands.fixed goes
        (λ same. cc) next step)

  -- A CALL OF A COMMIT: not its last
  commits_on : KeepsActors s t → Advances s.volume.plain t.volume.plain → Lessens (rest_of s) (rest_of t)
  commits_on actors did =
      let flight = flight_same look s stands t keeps.geometry actors in
      let commit = commit_more v w stands.fixed did in
      let copies = ap (λ (x : PlainVolume). copy_rest x.geometry.zone_blocks x.job) did.rest in
      goes_on (come_same look s stands t keeps (ap (λ (x : PlainVolume). x.history) did.rest)) (more_jobs v w did)
      (omega (arith, flight, commit, copies))

  -- or its last, for which flushes wait or don't
  commits_end : next_seen s 0 Pieces ≡ Some Commit → KeepsActors s t
      → EndsCommit s.volume.plain t.volume.plain (eligible_flushes (run_seen s)) → Lessens (rest_of s) (rest_of t)
  commits_end is actors did = elim (cases_Bool (has_flush (run_seen s))) [
    | inl waits ↦ enters (come_flushes look s stands t keeps waits
        (ap (λ (x : PlainVolume). map mark_of_entry x.history) did.rest
        ∙ marks_flushed v.history Done (next_count v.since) (eligible_flushes (run_seen s))))
    | inr none ↦
        let flight = flight_same look s stands t keeps.geometry actors in
        let now = commit_ended v w (eligible_flushes (run_seen s)) did in
        let was = commit_some v (commit_cause (run_seen s) (standing_seen s 0) 0 Pieces is none) in
        let copies = ap (λ (x : PlainVolume). copy_rest x.geometry.zone_blocks x.job) did.rest in
        goes_on (come_same look s stands t keeps (ap (λ (x : PlainVolume). x.history) did.rest
        ∙ none_flushed (run_seen s) Done (next_count v.since) v.history none))
        (ended_jobs v w (eligible_flushes (run_seen s)) did) (omega (arith, flight, now, was, copies))
  ]

  commits : t.volume.plain.stopped ≡ None → next_seen s 0 Pieces ≡ Some Commit → ServesCommit look s t
      → Lessens (rest_of s) (rest_of t)
  commits goes is did = by did.result did.step
    where
      stops : (why : Why) → t.volume.plain.stopped ≡ Some why → Lessens (rest_of s) (rest_of t)
      stops why at = absurd (none-some why (sym goes ∙ at))

      by : (result : Committed) → CommitStep s.volume.plain t.volume.plain (eligible_flushes (run_seen s)) result
          → Lessens (rest_of s) (rest_of t)
      by Committed.More step = commits_on did.actors step
      by Committed.Ended step = commits_end is did.actors step
      by (Committed.Stopped Why.Device) step = stops Why.Device (ap (λ (x : PlainVolume). x.stopped) step)
      by (Committed.Stopped Why.Generation) step = stops Why.Generation (ap (λ (x : PlainVolume). x.stopped) step.3)
      by (Committed.Stopped Why.Memory) step = absurd step

  -- no job is under way where one begins
  begins_free : next_seen s 0 Pieces ≡ Some Begin → s.volume.plain.job ≡ None
  begins_free is = by (kind_next v v.job) refl (begin_told (run_seen s) (standing_seen s 0) 0 Pieces is).0
    where
      by : (o : Option StepKind) → kind_next v v.job ≡ o → o ≡ None → v.job ≡ None
      by None none is = (none_decides v v.job).0 (ap (λ (x : Option StepKind). not (is_some x)) none)
      by (Some kind) none is = absurd (none-some kind (sym is))

-- no step changes how much may be left at most
pub most_stays : {D : Type 0} (s t : SessionView D) → KeepsSession s t → most_of t ≡ most_of s
most_stays s t keeps =
    ap₂ (λ (g : Shape) (l : Layout). record {
      pieces = 0;
      flight = g.zone_blocks + 2;
      jobs = g.conv + 2 * l.chunks;
      commit = 2 * used_blocks g l + 4;
      copies = 2 * g.zone_blocks + 2;
    }) keeps.geometry keeps.layout

pub made_within : {D : Type 0} (look : D → View) (s t : SessionView D) → StandsSession look t → KeepsSession s t
    → IsRestWithin (most_of s) (rest_of t)
made_within look s t stands keeps =
    subst (λ (most : Rest). IsRestWithin most (rest_of t)) (most_stays s t keeps) (rest_within look t stands)

-- EACH STEP THAT IS MADE
pub made_lessens : {D : Type 0} (look : D → View) (s t : SessionView D) → StandsSession look s → 0 < length s.flights
    → t.volume.plain.stopped ≡ None → (step : Step) → next_seen s 0 Pieces ≡ Some step
    → Makes look s t 0 (Some step) → KeepsSession s t → Lessens (rest_of s) (rest_of t)
made_lessens look s t stands some goes (Serve p) is did keeps =
    serves_lessens look s t stands keeps some p (chosen_serves look s stands some p is) goes did
made_lessens look s t stands some goes Commit is did keeps = commits look s t stands keeps goes is did
made_lessens look s t stands some goes Begin is did keeps =
    begins_on look s t stands keeps goes (begins_free look s t stands keeps is) did
made_lessens look s t stands some goes (Work kind) is did keeps =
    works_by look s t stands keeps goes did.makes.work did.makes.under_way did.actors did.makes.kind did.result
    did.makes.next did.makes.works
