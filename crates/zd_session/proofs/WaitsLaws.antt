-- An actor waits for others alone.
use Rattle.std.proofs.Common.{◌≡◌, ◌≢◌, ℕ, Bool, true, false, cond, ◌||◌, List, map, slice_get, Option, Some, None, refl, sym, ap, ◌∙◌, subst}
use Rattle.std.proofs.lemmas.Bool.{false≢true}
use Rattle.std.proofs.lemmas.Option.{none-some}
use Rattle.std.specs.Option.{option_map_or}
use Rattle.std.specs.Prelude.{is_some}
use Rattle.zd_base.specs.declared.geometry.Kind.TheVariants.{Conventional}
use Rattle.zd_base.specs.declared.numbers.Why.{Why}
use Rattle.zd_base.specs.declared.steps.Prefer.{Prefer}
use Rattle.zd_base.specs.declared.steps.Prefer.TheVariants.{Commits, Jobs, Pieces}
use Rattle.zd_base.specs.declared.steps.Stepped.{Stepped}
use Rattle.zd_base.specs.declared.steps.Stepped.TheVariants.{Idle, Over}
use Rattle.zd_disk.specs.View.{View}
use Rattle.zd_model.specs.History.{Mark, mark_of_entry}
use Rattle.zd_ports.specs.Actors.{IsLast}
use Rattle.zd_progress.proofs.AloneLaws.{tells, waiting}
use Rattle.zd_progress.specs.Alone.{FliesAlone, IsSeenBy, TellsNext}
use Rattle.zd_progress.specs.LoneRuns.{LoneRun}
use Rattle.zd_progress.specs.Stocks.{free_of}
use Rattle.zd_reclaim.proofs.NeverStuck.{some_job}
use Rattle.zd_steps.proofs.ChosenLaws.{next_goes}
use Rattle.zd_steps.specs.NextStep.{by_preference, commit_step, job_step, next_step, or_else, piece_step}
use Rattle.zd_steps.specs.Queues.{run_of}
use Rattle.zd_steps.specs.Runs.{Run, Standing, flight_of, is_over}
use Rattle.zd_steps.specs.declared.step.Step.{Step}
use Rattle.zd_session.specs.Constants.{WaitsForOthers}
use Rattle.zd_session.specs.LoneStates.{Begun, StandsSession, lone_run}
use Rattle.zd_session.specs.SessionSteps.{Makes, MakesStep, answer_by}
use Rattle.zd_session.specs.Sessions.{SessionView, ended_of, next_seen, run_seen, standing_seen}
use Rattle.zd_session.proofs.PaceEnds.{none_free, none_in_limbo}
use Rattle.zd_session.proofs.PaceSeen.{no_work_ahead, seen}
use Rattle.zd_session.proofs.PickLaws.{possible_has}

-- WITH NO STEP under one preference there is none under another
module _ (r : Run) (v : Standing) where
  no_first : (a b : Option Step) → or_else r v a b ≡ None → (a ≡ None) × (b ≡ None)
  no_first None b none = (refl, none)
  no_first (Some step) b none = absurd (none-some step (sym none))

  no_pieces : (prefer : Prefer) (p c j : Option Step) → by_preference r v prefer p c j ≡ None
      → by_preference r v Pieces p c j ≡ None
  no_pieces Pieces p c j none = none
  no_pieces Commits p c j none =
      let first = no_first c (or_else r v j p) none in
      let second = no_first j p first.1 in
      rw (first.0, second.0, second.1) refl
  no_pieces Jobs p c j none =
      let first = no_first j (or_else r v c p) none in
      let second = no_first c p first.1 in
      rw (first.0, second.0, second.1) refl

module _ {D : Type 0} (look : D → View) (s : SessionView D) (stands : StandsSession look s) (actor : ℕ)
    (alone : FliesAlone s.flights actor) where
  abbrev n : Begun
  n = record { jobs = 0; commits = 0 }

  abbrev marks : List Mark
  marks = map mark_of_entry s.volume.plain.history

  abbrev here : Standing
  here = standing_seen s actor

  -- the numbers of the run as this actor sees them
  abbrev numbers : LoneRun
  numbers = record (lone_run s n) {
    is_ready = is_over (run_seen s) || is_some (piece_step (run_seen s) here (flight_of (run_seen s) actor));
  }

  sees : IsSeenBy (run_seen s) here actor numbers
  sees =
      let first = seen s n in
      record {
        ready = refl;
        flush = first.flush;
        wanted = first.wanted;
        commits = first.commits;
        job = first.job;
        free = first.free;
        limbo = first.limbo;
      }

  flies_alone : FliesAlone stands.queue.flights actor
  flies_alone other p at = alone other p (ap (λ (r : Run). slice_get r.flights other) (sym stands.run) ∙ at)

  queue_sees : IsSeenBy (run_of stands.queue marks) here actor numbers
  queue_sees = subst (λ (r : Run). IsSeenBy r here actor numbers) (sym stands.run) sees

  none_free_of : numbers.is_wanted ≡ true → free_of Conventional numbers.stock ≡ 0
  none_free_of =
      (waiting stands.queue stands.is_queue marks stands.entered here actor flies_alone numbers queue_sees).none_free

  next_tells_of : s.volume.plain.stopped ≡ None → is_over (run_seen s) ≡ false
      → TellsNext numbers here (next_seen s actor Pieces)
  next_tells_of runs left =
      subst (λ (r : Run). TellsNext numbers here (next_step r here actor Pieces)) stands.run
      (tells stands.queue stands.is_queue marks stands.entered here actor flies_alone numbers queue_sees
      (ap (λ (o : Option Why). is_some o) runs) (ap (λ (r : Run). is_over r) stands.run ∙ left))

  -- reclaim is never stuck
  no_rest : s.volume.plain.stopped ≡ None → is_over (run_seen s) ≡ false → next_seen s actor Pieces ≡ None → ⊥
  no_rest runs left none =
      let told : TellsNext numbers here None =
      subst (λ (o : Option Step). TellsNext numbers here o) none (next_tells_of runs left) in
      let full = none_free s.volume.plain stands.fixed (none_free_of told.0.wanted) in
      let job = some_job s.volume.plain stands.fixed (no_work_ahead s n told.1)
      (none_in_limbo s.volume.plain stands.fixed told.0.no_limbo) full in
      false≢true (sym told.2 ∙ possible_has s.volume.plain stands.fixed job.0.chunk job.0.kind job.1)

  abbrev chosen_by : Prefer → Option Step
  chosen_by prefer = by_preference (run_seen s) here prefer
      (piece_step (run_seen s) here (flight_of (run_seen s) actor)) (commit_step (run_seen s) here)
      (job_step (run_seen s) here here.job)

  goes : (prefer : Prefer) → s.volume.plain.stopped ≡ None → is_over (run_seen s) ≡ false
      → next_seen s actor prefer ≡ chosen_by prefer
  goes prefer runs left =
      next_goes (run_seen s) here actor prefer (chosen_by prefer) (ap (λ (o : Option Why). is_some o) runs) left refl

  some_step : (prefer : Prefer) (o : Option Step) → chosen_by prefer ≡ o → s.volume.plain.stopped ≡ None
      → is_over (run_seen s) ≡ false → (step : Step) × (o ≡ Some step)
  some_step prefer (Some step) is runs left = (step, refl)
  some_step prefer None is runs left = absurd (no_rest runs left (goes Pieces runs left
      ∙ no_pieces (run_seen s) here prefer (piece_step (run_seen s) here (flight_of (run_seen s) actor))
      (commit_step (run_seen s) here) (job_step (run_seen s) here here.job) is))

  left_by : (stopped : Option Why) → s.volume.plain.stopped ≡ stopped
      → option_map_or (λ (why : Why). true) stopped (is_over (run_seen s)) ≡ false
      → (s.volume.plain.stopped ≡ None) × (is_over (run_seen s) ≡ false)
  left_by None is left = (is, left)
  left_by (Some why) is left = absurd (false≢true (sym left))

  waits_for_others : (prefer : Prefer) → ended_of s ≡ false → (step : Step) × (next_seen s actor prefer ≡ Some step)
  waits_for_others prefer left =
      let both = left_by s.volume.plain.stopped refl left in
      let some = some_step prefer (chosen_by prefer) refl both.0 both.1 in
      (some.0, goes prefer both.0 both.1 ∙ some.1)

pub waits_so : {D : Type 0} (look : D → View) (s : SessionView D) → StandsSession look s → WaitsForOthers s
waits_so look s stands = λ actor prefer alone left. waits_for_others look s stands actor alone prefer left

-- WHAT A STEP ANSWERS: the last answers leave the session ended, and it isn't idle where the actor flies alone
abbrev IsIdle : Stepped → Type 0
IsIdle Idle = Unit {0}
IsIdle result = ⊥

has_stopped : {D : Type 0} (x : SessionView D) (why : Why) → x.volume.plain.stopped ≡ Some why → ended_of x ≡ true
has_stopped x why stop = ap (λ (o : Option Why). option_map_or (λ w. true) o (is_over (run_seen x))) stop

goes_on : {D : Type 0} (x : SessionView D) (over : Bool) → x.volume.plain.stopped ≡ None → is_over (run_seen x) ≡ over
    → ended_of x ≡ over
goes_on x over runs is = ap (λ (o : Option Why). option_map_or (λ w. true) o (is_over (run_seen x))) runs ∙ is

module _ {D : Type 0} (look : D → View) (s t : SessionView D) (actor : ℕ) (prefer : Prefer) (result : Stepped) where
  abbrev Answers : Option Step → Option Why → Type 0
  Answers step stopped = result ≡ answer_by (run_seen s) (standing_seen s actor) step stopped

  rests : (over : Bool) → is_over (run_seen s) ≡ over → Answers None None → result ≡ cond over Over Idle
  rests over is answer = answer ∙ ap (λ (b : Bool). cond {A = Stepped} b Over Idle) is

  last_by : (step : Option Step) (stopped : Option Why) (over : Bool) → t.volume.plain.stopped ≡ stopped
      → is_over (run_seen s) ≡ over → Makes look s t actor step → Answers step stopped → IsLast result
      → ended_of t ≡ true
  last_by step (Some why) over stop is makes answer last = has_stopped t why stop
  last_by (Some step) None over stop is makes answer last = absurd (subst IsLast answer last)
  last_by None None true stop is makes answer last =
      goes_on t true stop (ap (λ (x : SessionView D). is_over (run_seen x)) makes ∙ is)
  last_by None None false stop is makes answer last = absurd (subst IsLast (rests false is answer) last)

  idle_by : (step : Option Step) (stopped : Option Why) (over : Bool) → t.volume.plain.stopped ≡ stopped
      → is_over (run_seen s) ≡ over → next_seen s actor prefer ≡ step → Makes look s t actor step → Answers step stopped
      → WaitsForOthers s → FliesAlone s.flights actor → result ≡ Idle → ⊥
  idle_by None (Some why) over stop is next makes answer waits alone idle = subst IsIdle (sym idle ∙ answer) tt
  idle_by (Some step) (Some why) over stop is next makes answer waits alone idle =
      subst IsIdle (sym idle ∙ answer) tt
  idle_by (Some step) None over stop is next makes answer waits alone idle = subst IsIdle (sym idle ∙ answer) tt
  idle_by None None true stop is next makes answer waits alone idle =
      subst IsIdle (sym idle ∙ rests true is answer) tt
  idle_by None None false stop is next makes answer waits alone idle =
      let runs : s.volume.plain.stopped ≡ None =
      ap (λ (x : SessionView D). x.volume.plain.stopped) (sym makes) ∙ stop in
      let some = waits actor prefer alone (goes_on s false runs is) in
      none-some some.0 (sym next ∙ some.1)

  pub last_ends : MakesStep look s t actor prefer result → IsLast result → ended_of t ≡ true
  last_ends step last =
      last_by (next_seen s actor prefer) t.volume.plain.stopped (is_over (run_seen s)) refl refl step.makes step.answer last

  pub no_idle : MakesStep look s t actor prefer result → WaitsForOthers s → FliesAlone s.flights actor
      → result ≢ Idle
  no_idle step waits alone = λ idle.
      idle_by (next_seen s actor prefer) t.volume.plain.stopped (is_over (run_seen s)) refl refl refl step.makes
      step.answer waits alone idle
