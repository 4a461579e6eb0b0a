-- EACH STEP OF A RUN BY THE FIRST ACTOR, as the loop sees it: where the run is alone it goes on so, and where the volume
-- stopped, a fault is at once, and a generation is lacking only for a commit that was due.
use Rattle.std.proofs.Common.{◌≡◌, ◌≢◌, inl, inr, ℕ, ◌<◌, Bool, true, false, not, ◌&&◌, ◌||◌, cond, find, length, Option, Some, None, refl, sym, ap, ◌∙◌, subst, arith}
use Rattle.std.specs.Prelude.{is_some}
use Rattle.std.proofs.lemmas.Bool.{and_parts, false≢true, le-ltb, ltb-true, or_cases, or_from}
use Rattle.std.proofs.lemmas.Option.{cond_some, none-some, same_Some}
use Rattle.zd_base.specs.declared.numbers.Why.{Why}
use Rattle.zd_base.specs.declared.numbers.Why.TheVariants.{Generation}
use Rattle.zd_base.specs.declared.steps.Prefer.{Prefer}
use Rattle.zd_base.specs.declared.steps.Prefer.TheVariants.{Pieces}
use Rattle.zd_base.specs.declared.steps.StepKind.{StepKind}
use Rattle.zd_disk.specs.View.{View}
use Rattle.zd_model.specs.declared.requests.Piece.{Piece}
use Rattle.zd_progress.proofs.AloneLaws.{none_else}
use Rattle.zd_progress.specs.Alone.{TellsNext}
use Rattle.zd_progress.specs.LoneSteps.{IsCommitNeeded}
use Rattle.zd_progress.specs.LoneSteps.IsCommitNeeded.{flush, zone}
use Rattle.zd_progress.specs.Paces.{HaltsAt, IsAloneNow, IsAtLast, PacesOn}
use Rattle.zd_progress.specs.Stocks.{in_limbo}
use Rattle.zd_steps.specs.NextStep.{by_preference, commit_step, first_serve, is_commit_due, is_job_due, job_step}
use Rattle.zd_steps.specs.NextStep.{may_work, next_step, or_else, piece_step}
use Rattle.zd_steps.specs.Runs.{Run, Standing, flight_of, has_flush, is_over, is_ready, is_servable, is_wanted}
use Rattle.zd_steps.specs.declared.step.Step.{Step}
use Rattle.zd_steps.specs.declared.step.Step.TheVariants.{Begin, Commit, Serve, Work}
use Rattle.zd_session.specs.LoneStates.{Begun, StandsSession, begun_after, lone_run, loop_of}
use Rattle.zd_session.specs.SessionSteps.{KeepsSession, Makes}
use Rattle.zd_session.specs.Sessions.{SessionView, next_seen, run_seen, standing_seen}
use Rattle.zd_session.proofs.PaceBegins.{begin_did, begin_halts, begins_paces}
use Rattle.zd_session.proofs.PaceCommits.{no_job_beside}
use Rattle.zd_session.proofs.PaceCopies.{work_did}
use Rattle.zd_session.proofs.PaceFlushes.{commit_halts, commit_paces}
use Rattle.zd_session.proofs.PaceSeen.{next_tells, seen}
use Rattle.zd_session.proofs.PaceServed.{serve_halts, serve_paces}
use Rattle.zd_session.proofs.PaceServes.{serve_did}
use Rattle.zd_session.proofs.PaceSteps.{served}
use Rattle.zd_session.proofs.PaceWorks.{work_halts, work_paces}

module _ (r : Run) (v : Standing) where
  -- WHERE THERE IS A STEP, pieces are left
  pub next_left : (actor : ℕ) (prefer : Prefer) (step : Step) → next_step r v actor prefer ≡ Some step
      → is_over r ≡ false
  next_left actor prefer step is = by v.stopped (is_over r) is
    where
      by : (stopped over : Bool) → cond (stopped || over) None
          (by_preference r v prefer (piece_step r v (flight_of r actor)) (commit_step r v) (job_step r v v.job))
          ≡ Some step → over ≡ false
      by true true is = absurd (none-some step is)
      by true false is = refl
      by false true is = absurd (none-some step is)
      by false false is = refl

  -- no class but its own has a commit
  no_piece : (flight : Option Piece) → piece_step r v flight ≢ Some Commit
  no_piece None is = by (find (is_servable r v) r.pieces) is
    where
      by : (o : Option Piece) → first_serve r v o ≡ Some Commit → ⊥
      by None is = none-some Commit is
      by (Some p) is = (let same = same_Some (Serve p) Commit is in cc)
  no_piece (Some p) is = (let same = (cond_some (is_ready v p) (Serve p) Commit is).1 in cc)

  no_job : (job : Option StepKind) → job_step r v job ≢ Some Commit
  no_job None is = (let same = (cond_some (is_job_due v (is_wanted r v)) Begin Commit is).1 in cc)
  no_job (Some kind) is = (let same = (cond_some (may_work v kind) (Work kind) Commit is).1 in cc)

  -- A COMMIT COMES only where no piece is ready, and it is under way or due
  commit_comes : (p j : Option Step) → p ≢ Some Commit → j ≢ Some Commit
      → or_else r v p (or_else r v (commit_step r v) j) ≡ Some Commit
      → (p ≡ None) × ((v.commits || is_commit_due v (has_flush r) (is_wanted r v)) ≡ true)
  commit_comes (Some step) j other none is = absurd (other is)
  commit_comes None j other none is = (refl, by (v.commits || is_commit_due v (has_flush r) (is_wanted r v)) is)
    where
      by : (b : Bool) → or_else r v (cond b (Some Commit) None) j ≡ Some Commit → b ≡ true
      by true is = refl
      by false is = absurd (none is)

  pub commit_told : (actor : ℕ) → next_step r v actor Pieces ≡ Some Commit
      → (piece_step r v (flight_of r actor) ≡ None)
      × ((v.commits || is_commit_due v (has_flush r) (is_wanted r v)) ≡ true)
  commit_told actor is =
      commit_comes (piece_step r v (flight_of r actor)) (job_step r v v.job) (no_piece (flight_of r actor))
      (no_job v.job) (by v.stopped (is_over r) is)
    where
      by : (stopped over : Bool) → cond (stopped || over) None
          (or_else r v (piece_step r v (flight_of r actor)) (or_else r v (commit_step r v) (job_step r v v.job)))
          ≡ Some Commit
          → or_else r v (piece_step r v (flight_of r actor)) (or_else r v (commit_step r v) (job_step r v v.job))
          ≡ Some Commit
      by true over is = absurd (none-some Commit is)
      by false true is = absurd (none-some Commit is)
      by false false is = is

-- SO IT IS NEEDED where none is under way, alone or not
pub commit_tells : {D : Type 0} (s : SessionView D) (n : Begun) → next_seen s 0 Pieces ≡ Some Commit
    → ((lone_run s n).is_ready ≡ false) × ((lone_run s n).commit ≡ 0 → IsCommitNeeded (lone_run s n))
commit_tells s n is =
    let told = commit_told (run_seen s) (standing_seen s 0) 0 is in (
      or_from (is_over (run_seen s)) (is_some (piece_step (run_seen s) (standing_seen s 0) (flight_of (run_seen s) 0)))
          (next_left (run_seen s) (standing_seen s 0) 0 Pieces Commit is) (ap (λ (o : Option Step). is_some o) told.0),
      λ idle. needed idle told.1,
    )
  where
    at_limbo : (lone_run s n).flush_waits ≡ false → (is_wanted (run_seen s) (standing_seen s 0)
        && (standing_seen s 0).has_limbo) ≡ true → IsCommitNeeded (lone_run s n)
    at_limbo none both =
        let parts = and_parts (is_wanted (run_seen s) (standing_seen s 0)) (standing_seen s 0).has_limbo both in
        zone parts.0 (ltb-true 0 (in_limbo (lone_run s n).stock) (sym (seen s n).limbo ∙ parts.1))

    by : (b : Bool) → has_flush (run_seen s) ≡ b
        → (b || (is_wanted (run_seen s) (standing_seen s 0) && (standing_seen s 0).has_limbo)) ≡ true
        → IsCommitNeeded (lone_run s n)
    by true waits some = flush waits
    by false none some = at_limbo none some

    needed : (lone_run s n).commit ≡ 0 → ((standing_seen s 0).commits
        || is_commit_due (standing_seen s 0) (has_flush (run_seen s)) (is_wanted (run_seen s) (standing_seen s 0))) ≡ true
        → IsCommitNeeded (lone_run s n)
    needed idle some =
        elim (or_cases (standing_seen s 0).commits (is_commit_due (standing_seen s 0) (has_flush (run_seen s))
        (is_wanted (run_seen s) (standing_seen s 0))) some) [
          | inl under_way ↦ absurd (false≢true
              (sym (le-ltb 0 (lone_run s n).commit (omega (arith, idle))) ∙ sym (seen s n).commits ∙ under_way))
          | inr due ↦ by (has_flush (run_seen s)) refl (and_parts (not (standing_seen s 0).commits)
              (has_flush (run_seen s)
              || (is_wanted (run_seen s) (standing_seen s 0) && (standing_seen s 0).has_limbo)) due).1
        ]

module _ {D : Type 0} (look : D → View) (s t : SessionView D) (n : Begun) (stands : StandsSession look s)
    (keeps : KeepsSession s t) (inside : 0 < length s.flights) (runs : s.volume.plain.stopped ≡ None) where
  -- A RUN THAT IS ALONE GOES ON SO
  pub made_paces : IsAloneNow (loop_of s n) → (step : Step) → next_seen s 0 Pieces ≡ Some step
      → Makes look s t 0 (Some step) → t.volume.plain.stopped ≡ None
      → PacesOn (loop_of s n).job_calls (loop_of s n).pace (loop_of t (begun_after s.volume.plain (Some step) n)).pace
  made_paces alone step next makes goes = by step next makes
      (subst (λ (o : Option Step). TellsNext (lone_run s n) (standing_seen s 0) o) next
      (next_tells look s n stands (none_else s.flights alone.nobody) runs left))
    where
      left : is_over (run_seen s) ≡ false
      left = next_left (run_seen s) (standing_seen s 0) 0 Pieces step next

      by : (step : Step) → next_seen s 0 Pieces ≡ Some step → Makes look s t 0 (Some step)
          → TellsNext (lone_run s n) (standing_seen s 0) (Some step)
          → PacesOn (loop_of s n).job_calls (loop_of s n).pace
          (loop_of t (begun_after s.volume.plain (Some step) n)).pace
      by (Serve p) next did told =
          let is = served look s stands inside p next in
          serve_paces look s t n stands keeps p is told inside goes (serve_did look s t p stands inside is did)
      by Commit next did told =
          commit_paces look s t n stands keeps did.actors left told.0 told.1
          (no_job_beside (loop_of s n).first (loop_of s n).job_calls (loop_of s n).commit_calls (lone_run s n) alone.is
          told.1)
          did.result did.step goes
      by Begin next did told =
          begins_paces look s t n stands keeps did.actors left did.job did.pick told.0 told.1
          (begin_did look s t stands.fixed did) goes
      by (Work kind) next did told =
          work_paces look s t n stands keeps did.actors left did.makes.work did.makes.under_way told.0
          (work_did s.volume.plain t.volume.plain stands.fixed did.makes.work did.makes.under_way did.makes.kind
          did.result (look s.volume.disk) (look t.volume.disk) did.makes.works)
          goes

  -- A STEP THAT STOPS IT, alone or not
  pub halts : (step : Step) → next_seen s 0 Pieces ≡ Some step → Makes look s t 0 (Some step) → (why : Why)
      → t.volume.plain.stopped ≡ Some why → (m : Begun)
      → HaltsAt (loop_of s n).pace (loop_of t m).pace × (why ≡ Generation → IsAtLast (loop_of s n).pace)
  halts (Serve p) next did why stopped m =
      let is = served look s stands inside p next in
      serve_halts look s t n stands keeps p is runs (serve_did look s t p stands inside is did) why stopped m
  halts Commit next did why stopped m =
      let told = commit_tells s n next in
      commit_halts look s t n stands keeps did.actors
      (next_left (run_seen s) (standing_seen s 0) 0 Pieces Commit next) told.0 told.1 runs did.result did.step why
      stopped m
  halts Begin next did why stopped m =
      begin_halts s t n did.job runs (begin_did look s t stands.fixed did) why stopped m
  halts (Work kind) next did why stopped m =
      work_halts s t n did.makes.work runs
      (work_did s.volume.plain t.volume.plain stands.fixed did.makes.work did.makes.under_way did.makes.kind did.result
      (look s.volume.disk) (look t.volume.disk) did.makes.works)
      why stopped m
