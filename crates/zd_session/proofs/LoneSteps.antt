-- Each step of the first actor, as the laws on runs that end see it.
use Rattle.std.proofs.Common.{◌≡◌, ◌⊎◌, ℕ, ◌+◌, ◌*◌, ◌<◌, Bool, true, false, List, [], ◌∷◌, length, set, Option, Some, None, refl, sym, ap, ap₂, ◌∙◌, subst, inl, inr}
use Rattle.std.proofs.lemmas.Option.{none-some}
use Rattle.std.specs.Prelude.{if◌then◌else◌}
use Rattle.std.specs.Option.{option_map_or}
use Rattle.zd_base.specs.Geometry.{Shape}
use Rattle.zd_base.specs.Layout.{device_blocks, first_data_zone, used_blocks}
use Rattle.zd_base.specs.declared.layout.Layout.{Layout}
use Rattle.zd_base.specs.declared.numbers.Why.{Why}
use Rattle.zd_base.specs.declared.steps.Prefer.{Prefer}
use Rattle.zd_base.specs.declared.steps.Prefer.TheVariants.{Pieces}
use Rattle.zd_base.specs.declared.steps.StepKind.{StepKind}
use Rattle.zd_base.specs.declared.steps.Stepped.{Stepped}
use Rattle.zd_base.specs.declared.steps.Stepped.TheVariants.{Did, Idle, Over, Stopped}
use Rattle.zd_disk.specs.View.{View}
use Rattle.zd_model.specs.Pieces.{pieces_of}
use Rattle.zd_model.specs.Requests.{Operation, operation_of}
use Rattle.zd_model.specs.Requests.Operation.{Reading, Writing, Discarding, Flushing}
use Rattle.zd_model.specs.declared.requests.Piece.{Piece}
use Rattle.zd_model.specs.declared.requests.Request.{Request}
use Rattle.zd_progress.specs.Alone.{others_in}
use Rattle.zd_progress.specs.Measures.{IsRestWithin, Rest}
use Rattle.zd_progress.specs.Paces.{IsLastAnswer, IsMadeStep, KeepsLimits, LoopAnswers, LoopState}
use Rattle.zd_progress.specs.Paces.HaltsAt.{silent}
use Rattle.zd_progress.proofs.AloneLaws.{none_else}
use Rattle.zd_progress.proofs.Loops.{same_limits}
use Rattle.zd_steps.specs.Runs.{Run, Standing, is_over}
use Rattle.zd_steps.specs.declared.step.Step.{Step}
use Rattle.zd_steps.specs.declared.step.Step.TheVariants.{Begin, Commit, Serve, Work}
use Rattle.zd_volume.specs.declared.flight.Flight.{Flight}
use Rattle.zd_volume.specs.declared.flight.Ran.{Ran}
use Rattle.zd_session.proofs.LessLimits.{rest_within}
use Rattle.zd_session.proofs.LessSteps.{made_lessens}
use Rattle.zd_session.proofs.PaceEnds.{idle_flies}
use Rattle.zd_session.proofs.PaceEntries.{none_left}
use Rattle.zd_session.proofs.PaceSeen.{sound_run}
use Rattle.zd_session.proofs.PaceMade.{halts, made_paces}
use Rattle.zd_session.proofs.StepLaws.{none_stopped, step_told}
use Rattle.zd_session.specs.LoneSessions.{ats_of}
use Rattle.zd_session.specs.LoneStates.{Begun, StandsSession, begun_after, loop_of, rest_of}
use Rattle.zd_session.specs.Serving.{AfterRun, FailsEdge, LandsActor, ReadsEdgeOf, ServesBy, ServesIn}
use Rattle.zd_session.specs.SessionSteps.{KeepsSession, Makes, MakesStep, answer_by}
use Rattle.zd_session.specs.Sessions.{SessionView, ended_of, next_seen, run_seen, standing_seen}

-- what the first actor has changes nothing of the others
others_set : (flights : List (Option Piece)) (flight : Option Piece) → others_in (set flights 0 flight) ≡ others_in flights
others_set [] flight = refl
others_set (first ∷ flights) flight = refl

module _ {D : Type 0} (look : D → View) (s t : SessionView D) where
  abbrev SameOthers : Type 0
  SameOthers = others_in t.flights ≡ others_in s.flights

  gives_others : (flight : Option Piece) → t.flights ≡ set s.flights 0 flight → SameOthers
  gives_others flight is = ap others_in is ∙ others_set s.flights flight

  lands_others : LandsActor 0 s t → SameOthers
  lands_others lands = gives_others None lands.gives.flights

  run_others : (p : Piece) (f : Flight) (ran : Ran) → AfterRun 0 p f ran s t → SameOthers
  run_others p f Ran.More after = gives_others (Some p) after.2.flights
  run_others p f Ran.Entered after = lands_others after

  in_others : (p : Piece) (o : Operation) (merges : Bool) → ServesIn look s t 0 p o merges → SameOthers
  in_others p Reading merges serves = run_others p serves.next serves.ran serves.after
  in_others p Writing true serves = edge serves.did
    where
      edge : ReadsEdgeOf look s t 0 p ⊎ FailsEdge look s t → SameOthers
      edge (inl reads) = gives_others (Some p) reads.gives.flights
      edge (inr fails) = ap others_in fails.flights
  in_others p Writing false serves = lands_others serves.lands
  in_others p Discarding merges serves = lands_others serves.lands
  in_others p Flushing merges serves = absurd serves

  piece_others : (p : Piece) (past : Bool) → ServesBy look s t 0 p past → SameOthers
  piece_others p true serves = lands_others serves.lands
  piece_others p false serves = in_others p (operation_of p.what) ((standing_seen s 0).merges p) serves

  step_others : (step : Step) → Makes look s t 0 (Some step) → SameOthers
  step_others (Serve p) makes = piece_others p p.range makes
  step_others Commit makes = ap others_in makes.actors.flights
  step_others Begin makes = ap others_in makes.actors.flights
  step_others (Work kind) makes = ap others_in makes.actors.flights

  -- WHAT NO STEP CHANGES
  same_pieces : KeepsSession s t → length (run_seen t).pieces ≡ length (run_seen s).pieces
  same_pieces keeps =
      ap (λ (plan : List Request). length (pieces_of t.volume.plain.geometry.zone_blocks
      (device_blocks t.volume.plain.geometry t.volume.plain.head.layout) plan)) keeps.plan
      ∙ ap₂ (λ (g : Shape) (l : Layout). length (pieces_of g.zone_blocks (device_blocks g l) s.plan))
      keeps.geometry keeps.layout

  limits : (n m : Begun) → KeepsSession s t → SameOthers → KeepsLimits (loop_of s n) (loop_of t m)
  limits n m keeps others = record {
    most = ap₂ (λ (g : Shape) (l : Layout). record {
      pieces = 0;
      flight = g.zone_blocks + 2;
      jobs = g.conv + 2 * l.chunks;
      commit = 2 * used_blocks g l + 4;
      copies = 2 * g.zone_blocks + 2;
    }) keeps.geometry keeps.layout;
    first = ap₂ (λ (g : Shape) (l : Layout). first_data_zone g l) keeps.geometry keeps.layout;
    job_calls = ap (λ (g : Shape). g.zone_blocks + 1) keeps.geometry;
    commit_calls = ap₂ (λ (g : Shape) (l : Layout). 2 * used_blocks g l + 4) keeps.geometry keeps.layout;
    opening = keeps.generation;
    pieces = same_pieces keeps;
    others = others;
  }

no_rest : (kind : StepKind) (over : Bool) → Did kind ≡ (if over then Over else Idle) → ⊥
no_rest kind true is = cc
no_rest kind false is = cc

-- what an answer says of the step that was next, and of the volume
pub did_told : (r : Run) (v : Standing) (next : Option Step) (stopped : Option Why) (kind : StepKind)
    → Did kind ≡ answer_by r v next stopped → ((step : Step) × (next ≡ Some step)) × (stopped ≡ None)
did_told r v None (Some why) kind is = absurd (let f : ⊥ = cc in f)
did_told r v None None kind is = absurd (no_rest kind (is_over r) is)
did_told r v (Some step) (Some why) kind is = absurd (let f : ⊥ = cc in f)
did_told r v (Some step) None kind is = ((step, refl), refl)

-- what is answered where there is no step
abbrev rest_answer : Option Why → Bool → Stepped
rest_answer (Some why) over = Stopped why
rest_answer None over = if over then Over else Idle

rest_told : (r : Run) (v : Standing) (stopped : Option Why)
    → answer_by r v None stopped ≡ rest_answer stopped (is_over r)
rest_told r v (Some why) = refl
rest_told r v None = refl

goes_on : {D : Type 0} (s : SessionView D) (actor : ℕ) (prefer : Prefer) (step : Step)
    → next_seen s actor prefer ≡ Some step → s.volume.plain.stopped ≡ None
goes_on s actor prefer step is =
    none_stopped s.volume.plain.stopped (step_told (run_seen s) (standing_seen s actor) actor prefer step is).0

module _ {D : Type 0} (look : D → View) (s t : SessionView D) where
  ended_so : (why : Why) → t.volume.plain.stopped ≡ Some why → ended_of t ≡ true
  ended_so why is = ap (λ (o : Option Why). option_map_or (λ w. true) o (is_over (run_seen t))) is

  -- A STEP THAT WAS MADE
  pub made : (n : Begun) (step : Step) → next_seen s 0 Pieces ≡ Some step → StandsSession look s → StandsSession look t
      → 0 < length s.flights → Makes look s t 0 (Some step) → KeepsSession s t → t.volume.plain.stopped ≡ None
      → IsMadeStep (loop_of s n) (loop_of t (begun_after s.volume.plain (Some step) n))
  made n step is stands later some makes keeps goes =
      let m = begun_after s.volume.plain (Some step) n in
      let runs = goes_on s 0 Pieces step is in
      let others = step_others look s t step makes in
      let same = limits look s t n m keeps others in
      record {
        limits = same;
        within = subst (λ (most : Rest). IsRestWithin most (rest_of t)) same.most (rest_within look t later);
        lessens = made_lessens look s t stands some goes step is makes keeps;
        paces = λ alone. made_paces look s t n stands keeps some runs alone step is makes goes;
        sound = λ alone. rw (sym same.first, sym same.commit_calls)
            (sound_run look t m later (none_else t.flights (others ∙ alone.nobody)));
        going = goes;
      }

  pub did : (n : Begun) (kind : StepKind) → StandsSession look s → StandsSession look t → 0 < length s.flights
      → MakesStep look s t 0 Pieces (Did kind)
      → IsMadeStep (loop_of s n) (loop_of t (begun_after s.volume.plain (next_seen s 0 Pieces) n))
  did n kind stands later some makes =
      let told = did_told (run_seen s) (standing_seen s 0) (next_seen s 0 Pieces) t.volume.plain.stopped kind makes.answer in
      let is = told.0.1 in
      subst (λ (next : Option Step). IsMadeStep (loop_of s n) (loop_of t (begun_after s.volume.plain next n))) (sym is)
      (made n told.0.0 is stands later some (subst (Makes look s t 0) is makes.makes) makes.keeps told.1)

  -- THE LAST ONE, where there was no step
  module _ (n : Begun) (stands : StandsSession look s) (same : t ≡ s) (none : next_seen s 0 Pieces ≡ None) where
    same_loop : loop_of t n ≡ loop_of s n
    same_loop = ap (λ (x : SessionView D). loop_of x n) same

    was_stopped : (why : Why) → s.volume.plain.stopped ≡ Some why → LoopAnswers (Stopped why) (loop_of s n) (loop_of t n)
    was_stopped why is =
        let also : t.volume.plain.stopped ≡ Some why = ap (λ (x : SessionView D). x.volume.plain.stopped) same ∙ is in (
          silent (ap (λ (x : SessionView D). ats_of x.volume.plain.history) same),
          subst (λ (l : LoopState). KeepsLimits (loop_of s n) l) (sym same_loop) (same_limits (loop_of s n)),
          ended_so why also,
          also,
          λ goes _. absurd (none-some why (sym goes ∙ is)),
        )

    was_over : s.volume.plain.stopped ≡ None → is_over (run_seen s) ≡ true → LoopAnswers Over (loop_of s n) (loop_of t n)
    was_over goes over = (
      same_loop,
      ap (λ (x : SessionView D). ended_of x) same
          ∙ ap (λ (o : Option Why). option_map_or (λ w. true) o (is_over (run_seen s))) goes ∙ over,
      none_left (run_seen s) over,
    )

    was_idle : s.volume.plain.stopped ≡ None → is_over (run_seen s) ≡ false → LoopAnswers Idle (loop_of s n) (loop_of t n)
    was_idle goes over = (
      same_loop,
      λ alone. idle_flies look s stands goes over none (none_else s.flights alone.nobody),
    )

    rests_so : (stopped : Option Why) (over : Bool) → s.volume.plain.stopped ≡ stopped → is_over (run_seen s) ≡ over
        → (result : Stepped) → result ≡ rest_answer stopped over → LoopAnswers result (loop_of s n) (loop_of t n)
    rests_so (Some why) over stop is result answer =
        subst (λ (x : Stepped). LoopAnswers x (loop_of s n) (loop_of t n)) (sym answer) (was_stopped why stop)
    rests_so None true stop is result answer =
        subst (λ (x : Stepped). LoopAnswers x (loop_of s n) (loop_of t n)) (sym answer) (was_over stop is)
    rests_so None false stop is result answer =
        subst (λ (x : Stepped). LoopAnswers x (loop_of s n) (loop_of t n)) (sym answer) (was_idle stop is)

  -- and where there was one, which stopped the session
  stops_so : (n : Begun) (step : Step) (why : Why) → StandsSession look s → 0 < length s.flights → next_seen s 0 Pieces ≡ Some step
      → Makes look s t 0 (Some step) → KeepsSession s t → t.volume.plain.stopped ≡ Some why
      → LoopAnswers (Stopped why) (loop_of s n) (loop_of t (begun_after s.volume.plain (Some step) n))
  stops_so n step why stands some is makes keeps stop =
      let m = begun_after s.volume.plain (Some step) n in
      let runs = goes_on s 0 Pieces step is in
      let halt = halts look s t n stands keeps some runs step is makes why stop m in (
        halt.0,
        limits look s t n m keeps (step_others look s t step makes),
        ended_so why stop,
        stop,
        λ _ generation. halt.1 generation,
      )

  last_by : (n : Begun) (result : Stepped) (next : Option Step) (stopped : Option Why) → StandsSession look s
      → 0 < length s.flights → next_seen s 0 Pieces ≡ next → t.volume.plain.stopped ≡ stopped → Makes look s t 0 next → KeepsSession s t
      → result ≡ answer_by (run_seen s) (standing_seen s 0) next stopped → IsLastAnswer result
      → LoopAnswers result (loop_of s n) (loop_of t (begun_after s.volume.plain next n))
  last_by n result None stopped stands some is stop makes keeps answer last =
      rests_so n stands makes is stopped (is_over (run_seen s))
      (sym (ap (λ (x : SessionView D). x.volume.plain.stopped) makes) ∙ stop) refl result
      (answer ∙ rest_told (run_seen s) (standing_seen s 0) stopped)
  last_by n result (Some step) None stands some is stop makes keeps answer last =
      absurd (subst IsLastAnswer answer last)
  last_by n result (Some step) (Some why) stands some is stop makes keeps answer last =
      subst (λ (x : Stepped). LoopAnswers x (loop_of s n) (loop_of t (begun_after s.volume.plain (Some step) n)))
      (sym answer) (stops_so n step why stands some is makes keeps stop)

  pub last_step : (n : Begun) (result : Stepped) → StandsSession look s → 0 < length s.flights → MakesStep look s t 0 Pieces result
      → IsLastAnswer result
      → LoopAnswers result (loop_of s n) (loop_of t (begun_after s.volume.plain (next_seen s 0 Pieces) n))
  last_step n result stands some makes last =
      last_by n result (next_seen s 0 Pieces) t.volume.plain.stopped stands some refl refl makes.makes makes.keeps makes.answer
      last
