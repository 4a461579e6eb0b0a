-- The step that is chosen, put together, and steps one after another.
use Rattle.std.proofs.Common.{◌≡◌, ℕ, List, [], ◌∷◌, ◌++◌, length, Option, Some, None, refl, sym, ap, ◌∙◌, subst}
use Rattle.zd_base.specs.declared.steps.Prefer.{Prefer}
use Rattle.zd_base.specs.declared.steps.Stepped.{Stepped}
use Rattle.zd_disk.specs.View.{View}
use Rattle.zd_model.specs.History.{Mark}
use Rattle.zd_model.specs.declared.requests.Request.{Request}
use Rattle.zd_state.specs.Seen.{Seen}
use Rattle.zd_steps.specs.NextStep.{next_step}
use Rattle.zd_steps.specs.Queues.{HasEntered, run_of}
use Rattle.zd_steps.specs.Runs.{Run, Standing}
use Rattle.zd_steps.specs.declared.step.Step.{Step}
use Rattle.zd_session.specs.Moving.{HasMoved, IsKeptSession, seen_by}
use Rattle.zd_session.specs.SessionSteps.{Makes, MakesStep, MakesTurns, answer_by}
use Rattle.zd_session.specs.Sessions.{SessionView, next_seen, no_edges, run_seen, standing_seen}
use Rattle.zd_session.specs.Standings.{standing_of}
use Rattle.zd_session.specs.declared.progress.Progress.{Progress}
use Rattle.zd_session.proofs.MovedLaws.{calls_none}
use Rattle.zd_session.proofs.StepLaws.{map_marks, same_run}

module _ {D : Type 0} (look : D → View) (v : Seen D) (plan : List Request) (g : Progress) (list : ℕ)
    (kept : IsKeptSession look v plan g list) where
  -- THE SAME RUN and the same choice, in the words of the session
  run_is : run_of g.queue (map_marks v.plain) ≡ run_seen (seen_by v plan g)
  run_is = same_run v.plain plan g.queue kept.session.progress.chunks kept.session.pieces

  entered : HasEntered g.queue.callers (map_marks v.plain)
  entered = kept.session.progress.entered

  module _ (actor : ℕ) (prefer : Prefer) (chosen : Option Step)
      (told : (marks : List Mark) → HasEntered g.queue.callers marks
      → chosen ≡ next_step (run_of g.queue marks) (standing_of v.plain no_edges) actor prefer) where
    pub chosen_here : chosen ≡ next_step (run_of g.queue (map_marks v.plain)) (standing_of v.plain no_edges) actor prefer
    chosen_here = told (map_marks v.plain) entered

    chosen_next : chosen ≡ next_seen (seen_by v plan g) actor prefer
    chosen_next = chosen_here ∙ ap (λ (r : Run). next_step r (standing_of v.plain no_edges) actor prefer) run_is

    -- NOTHING IS TO BE DONE
    pub no_step : chosen ≡ None → (result : Stepped) → ((st : Standing)
        → result ≡ answer_by (run_seen (seen_by v plan g)) st None v.plain.stopped)
        → MakesStep look (seen_by v plan g) (seen_by v plan g) actor prefer result
    no_step none result answers = record {
      makes = subst (λ (o : Option Step). Makes look (seen_by v plan g) (seen_by v plan g) actor o) next refl;
      answer = answers (standing_seen (seen_by v plan g) actor)
          ∙ ap (λ (o : Option Step). answer_by (run_seen (seen_by v plan g)) (standing_seen (seen_by v plan g) actor) o
          v.plain.stopped) next;
      calls = calls_none look v.disk v.disk refl;
      keeps = record {
        opening = refl;
        room = refl;
        plan = refl;
        count = refl;
        geometry = refl;
        layout = refl;
        generation = refl;
      };
    }
      where
        next : None ≡ next_seen (seen_by v plan g) actor prefer
        next = sym none ∙ chosen_next

    -- A STEP IS MADE
    module _ (step : Step) (is : chosen ≡ Some step) (w : Seen D) (h : Progress) (moved : HasMoved look v w g h) where
      next_is : Some step ≡ next_seen (seen_by v plan g) actor prefer
      next_is = sym is ∙ chosen_next

      pub one_step : Makes look (seen_by v plan g) (seen_by w plan h) actor (Some step) → (result : Stepped)
          → result ≡ answer_by (run_seen (seen_by v plan g)) (standing_seen (seen_by v plan g) actor) (Some step)
          w.plain.stopped → MakesStep look (seen_by v plan g) (seen_by w plan h) actor prefer result
      one_step makes result answers = record {
        makes = subst (λ (o : Option Step). Makes look (seen_by v plan g) (seen_by w plan h) actor o) next_is makes;
        answer = answers
            ∙ ap (λ (o : Option Step). answer_by (run_seen (seen_by v plan g)) (standing_seen (seen_by v plan g) actor)
            o w.plain.stopped) next_is;
        calls = moved.calls;
        keeps = record {
          opening = moved.opening;
          room = moved.room;
          plan = refl;
          count = moved.count;
          geometry = moved.geometry;
          layout = moved.layout;
          generation = moved.generation;
        };
      }

module _ {D : Type 0} (look : D → View) where
  -- ONE TURN MORE
  pub turns_more : (from mid to : SessionView D) (turns : List (ℕ × Prefer)) (turn : ℕ × Prefer) (result : Stepped)
      → MakesTurns look from mid turns → MakesStep look mid to turn.0 turn.1 result
      → MakesTurns look from to (turns ++ turn ∷ [])
  turns_more from mid to [] turn result same step =
      (to, result, subst (λ (s : SessionView D). MakesStep look s to turn.0 turn.1 result) same step, refl)
  turns_more from mid to (first ∷ turns) turn result made step =
      (made.0, made.1, made.2, turns_more made.0 mid to turns turn result made.3 step)

  -- the actors stay
  pub turns_count : (from to : SessionView D) (turns : List (ℕ × Prefer)) → MakesTurns look from to turns
      → length to.flights ≡ length from.flights
  turns_count from to [] same = ap (λ (s : SessionView D). length s.flights) same
  turns_count from to (turn ∷ turns) made = turns_count made.0 to turns made.3 ∙ made.2.keeps.count
