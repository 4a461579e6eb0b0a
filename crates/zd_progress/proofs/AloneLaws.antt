-- What the next step of an actor that flies alone and prefers pieces tells of its run.
use Rattle.std.proofs.Common.{◌≡◌, inl, inr, ℕ, zero, suc, Bool, true, false, cond, ◌&&◌, ◌||◌, not}
use Rattle.std.proofs.Common.{List, [], ◌∷◌, find, count_by, slice_get, Option, Some, None, is_some, subst, refl}
use Rattle.std.proofs.Common.{sym, ap, ◌∙◌, true≢false, arith}
use Rattle.std.proofs.lemmas.Bool.{and_parts, cases_Bool, cond-false, cond-true, false≢true, le-ltb}
use Rattle.std.proofs.lemmas.Bool.{ltb-false, ltb-true, or_cases, or_from, or_parts}
use Rattle.std.proofs.lemmas.List.Sums.{sum_by-cons}
use Rattle.std.proofs.lemmas.Option.{none-some, same_Some}
use Rattle.zd_base.specs.declared.steps.Prefer.TheVariants.{Pieces}
use Rattle.zd_base.specs.declared.steps.StepKind.{StepKind}
use Rattle.zd_base.specs.declared.steps.StepKind.TheVariants as kinds
use Rattle.zd_model.specs.History.{Mark}
use Rattle.zd_model.specs.declared.requests.Piece.{Piece}
use Rattle.zd_steps.specs.NextStep.{commit_step, first_serve, is_commit_due, is_job_due, is_low, job_step, may_work}
use Rattle.zd_steps.specs.NextStep.{next_step, or_else, piece_step}
use Rattle.zd_steps.specs.Queues.{HasEntered, IsQueue, QueueState, run_of}
use Rattle.zd_steps.specs.Runs.{Run, Standing, flight_of, has_flush, is_over, is_ready, is_servable, is_wanted}
use Rattle.zd_steps.specs.declared.step.Step.{Step}
use Rattle.zd_steps.specs.declared.step.Step.TheVariants.{Serve, Commit, Begin, Work}
use Rattle.zd_steps.proofs.ChosenLaws.{next_goes}
use Rattle.zd_progress.specs.Alone.{FliesAlone, HasOnlyJobs, IsSeenBy, TellsNext, others_in}
use Rattle.zd_progress.specs.LoneRuns.{IsWaitingRun, JobAhead, LoneRun}
use Rattle.zd_progress.specs.LoneSteps.{IsCommitNeeded}
use Rattle.zd_progress.specs.LoneSteps.IsCommitNeeded.{flush, zone}
use Rattle.zd_progress.specs.Stocks.{in_limbo}
use Rattle.zd_progress.proofs.WaitLaws.{none_free, wanted}

-- none but the first actor
abbrev one : Option Piece → ℕ
one f = cond (is_some f) 1 0

none_past : (fs : List (Option Piece)) (k : ℕ) (p : Piece) → count_by (λ (f : Option Piece). is_some f) fs ≡ 0
    → slice_get fs k ≡ Some (Some p) → ⊥
none_past [] k p none at = none-some (Some p) at
none_past (f ∷ fs) zero p none at =
    let here : one f ≡ 1 = ap one (same_Some f (Some p) at) in
    omega (arith, none, here, sum_by-cons one f fs)
none_past (f ∷ fs) (suc k) p none at = none_past fs k p (omega (arith, none, sum_by-cons one f fs)) at

pub none_else : (flights : List (Option Piece)) → others_in flights ≡ 0 → FliesAlone flights 0
none_else [] none other p at = absurd (none-some (Some p) at)
none_else (f ∷ fs) none zero p at = refl
none_else (f ∷ fs) none (suc k) p at = absurd (none_past fs k p none at)

no_job : (job : Option JobAhead) → is_some job ≡ false → job ≡ None
no_job None none = refl
no_job (Some w) none = absurd (true≢false none)

some_job : (job : Option JobAhead) → is_some job ≡ true → (w : JobAhead) × (job ≡ Some w)
some_job None some = absurd (false≢true some)
some_job (Some w) some = (w, refl)

may_begin : (wanted limbo commits low picks : Bool) → wanted ≡ true → limbo ≡ false → commits ≡ false
    → (true && not commits && ((wanted && not limbo) || low) && picks) ≡ picks
may_begin wanted limbo commits low picks e f g = rw (e, f, g) refl

work_goes : (v : Standing) (kind : StepKind) → v.commits ≡ false → may_work v kind ≡ true
work_goes v kinds.Remap idle = ap not idle
work_goes v kinds.ReadRun idle = refl
work_goes v kinds.MergeRead idle = refl
work_goes v kinds.Write idle = refl
work_goes v kinds.Discard idle = refl
work_goes v kinds.TakeZone idle = refl
work_goes v kinds.CopyRead idle = refl
work_goes v kinds.CopyWrite idle = refl
work_goes v kinds.Abandon idle = refl
work_goes v kinds.Commit idle = refl
work_goes v kinds.Enter idle = refl
work_goes v kinds.Load idle = refl

module _ (q : QueueState) (is : IsQueue q.chunk_blocks q.callers q.flights) (entered : List Mark)
    (before : HasEntered q.callers entered) (v : Standing) (actor : ℕ) (alone : FliesAlone q.flights actor)
    (l : LoneRun) (seen : IsSeenBy (run_of q entered) v actor l) where
  abbrev r : Run
  r = run_of q entered

  abbrev own : Option Step
  own = piece_step r v (flight_of r actor)

  no_own : (o : Option Step) → is_some o ≡ false → o ≡ None
  no_own None none = refl
  no_own (Some step) none = absurd (true≢false none)

  idle_commit : l.commit ≡ 0 → v.commits ≡ false
  idle_commit idle = seen.commits ∙ le-ltb 0 l.commit (omega (arith, idle))

  pub waiting : IsWaitingRun l
  waiting = record {
    some = λ not_ready idle no_flush. (
        let both = or_parts (is_over r) (is_some own) (sym seen.ready ∙ not_ready) in
        seen.wanted ∙ wanted q is entered before v actor alone both.0 (idle_commit idle)
        (no_own own both.1) (sym seen.flush ∙ no_flush));
    none_free = λ some. sym seen.free ∙ none_free r v (sym seen.wanted ∙ some);
  }

  abbrev due : Bool
  due = is_commit_due v (has_flush r) (is_wanted r v)

  -- a commit that is due
  needed_by : ((has_flush r || (is_wanted r v && v.has_limbo)) ≡ true) → IsCommitNeeded l
  needed_by ok = elim (or_cases (has_flush r) (is_wanted r v && v.has_limbo) ok) [
    | inl waits ↦ flush (seen.flush ∙ waits)
    | inr both ↦ (let parts = and_parts (is_wanted r v) v.has_limbo both in
        zone (seen.wanted ∙ parts.0) (ltb-true 0 (in_limbo l.stock) (sym seen.limbo ∙ parts.1)))
  ]

  needed : l.commit ≡ 0 → (v.commits || due) ≡ true → IsCommitNeeded l
  needed idle ok = elim (or_cases v.commits due ok) [
    | inl under_way ↦ absurd (true≢false (sym under_way ∙ idle_commit idle))
    | inr is_due ↦
        needed_by (and_parts (not v.commits) (has_flush r || (is_wanted r v && v.has_limbo)) is_due).1
  ]

  not_due : (commits flush wanted limbo : Bool) → commits ≡ false
      → (not commits && (flush || (wanted && limbo))) ≡ false → (flush ≡ false) × (wanted ≡ true → limbo ≡ false)
  not_due true waits some limbo idle off = absurd (true≢false idle)
  not_due false true some limbo idle off = absurd (true≢false off)
  not_due false false true limbo idle off = (refl, λ some. off)
  not_due false false false limbo idle off = (refl, λ some. absurd (false≢true some))

  -- where neither a piece is ready nor a commit under way or due, jobs are left
  only_jobs : is_over r ≡ false → own ≡ None → (v.commits || due) ≡ false → HasOnlyJobs l
  only_jobs left unserved off =
      let both = or_parts v.commits due off in
      let rest = not_due v.commits (has_flush r) (is_wanted r v) v.has_limbo both.0 both.1 in
      let some = wanted q is entered before v actor alone left both.0 unserved rest.0 in
      record {
        not_ready = seen.ready ∙ or_from (is_over r) (is_some own) left (ap (λ (o : Option Step). is_some o) unserved);
        no_flush = seen.flush ∙ rest.0;
        no_commit = (
            let none = ltb-false 0 l.commit (sym seen.commits ∙ both.0) in
            omega (arith, none)
            );
        no_limbo = (
            let none = ltb-false 0 (in_limbo l.stock) (sym seen.limbo ∙ rest.1 some) in
            omega (arith, none)
            );
        wanted = seen.wanted ∙ some;
      }

  by_job : (job : Option StepKind) → is_some job ≡ is_some l.job → v.job ≡ job → HasOnlyJobs l
      → TellsNext l v (job_step r v job)
  by_job None same is_job only =
      let none = no_job l.job (sym same) in
      let no_limbo : v.has_limbo ≡ false =
      seen.limbo ∙ le-ltb 0 (in_limbo l.stock) (let e = only.no_limbo in omega (arith, e)) in
      let picks = may_begin (is_wanted r v) v.has_limbo v.commits (is_low v) v.picks
      (sym seen.wanted ∙ only.wanted) no_limbo (idle_commit only.no_commit) in
      let is_due : is_job_due v (is_wanted r v) ≡ v.picks = rw is_job picks in
      elim (cases_Bool v.picks) [
        | inl ok ↦ subst (TellsNext l v)
            (sym (cond-true (is_job_due v (is_wanted r v)) (Some Begin) None (is_due ∙ ok)))
            (only, none, ok)
        | inr ng ↦ subst (TellsNext l v)
            (sym (cond-false (is_job_due v (is_wanted r v)) (Some Begin) None (is_due ∙ ng)))
            (only, none, ng)
      ]
  by_job (Some kind) same is_job only =
      subst (TellsNext l v)
      (sym (cond-true (may_work v kind) (Some (Work kind)) None (work_goes v kind (idle_commit only.no_commit))))
      (only, some_job l.job (sym same))

  by_commit : is_over r ≡ false → own ≡ None → (b : Bool) → (v.commits || due) ≡ b
      → TellsNext l v (or_else r v (cond b (Some Commit) None) (job_step r v v.job))
  by_commit left unserved true ok = (
    seen.ready ∙ or_from (is_over r) (is_some own) left (ap (λ (o : Option Step). is_some o) unserved),
    λ idle. needed idle ok,
  )
  by_commit left unserved false off = by_job v.job seen.job refl (only_jobs left unserved off)

  served_ready : (b : Bool) → is_some own ≡ true → (b || is_some own) ≡ true
  served_ready true some = refl
  served_ready false some = some

  by_piece : (o : Option Step) → own ≡ o → ((s : Step) → o ≡ Some s → (p : Piece) × (s ≡ Serve p)) → is_over r ≡ false
      → TellsNext l v (or_else r v o (or_else r v (commit_step r v) (job_step r v v.job)))
  by_piece None at serves left = by_commit left at (v.commits || due) refl
  by_piece (Some step) at serves left =
      let is_piece = serves step refl in
      subst (λ (s : Step). TellsNext l v (Some s)) (sym is_piece.1)
      (seen.ready ∙ served_ready (is_over r) (ap (λ (o : Option Step). is_some o) at))

  by_found : (o : Option Piece) (s : Step) → first_serve r v o ≡ Some s → (p : Piece) × (s ≡ Serve p)
  by_found None s e = absurd (none-some s e)
  by_found (Some p) s e = (p, sym (same_Some (Serve p) s e))

  by_ready : (b : Bool) (p : Piece) (s : Step) → cond b (Some (Serve p)) None ≡ Some s → s ≡ Serve p
  by_ready true p s e = sym (same_Some (Serve p) s e)
  by_ready false p s e = absurd (none-some s e)

  -- the class of pieces only serves
  serves_piece : (flight : Option Piece) (s : Step) → piece_step r v flight ≡ Some s → (p : Piece) × (s ≡ Serve p)
  serves_piece None s e = by_found (find (is_servable r v) r.pieces) s e
  serves_piece (Some p) s e = (p, by_ready (is_ready v p) p s e)

  pub tells : v.stopped ≡ false → is_over r ≡ false → TellsNext l v (next_step r v actor Pieces)
  tells runs left = subst (TellsNext l v)
      (sym (next_goes r v actor Pieces (or_else r v own (or_else r v (commit_step r v) (job_step r v v.job)))
      runs left refl))
      (by_piece own refl (λ s e. serves_piece (flight_of r actor) s e) left)
