-- A session that the first actor steps until there is no step more: what is true before each step, and at the end.
use Rattle.std.proofs.Common.{◌≡◌, ◌⊎◌, inl, inr, ℕ, zero, suc, ◌<◌, true, false, Bool, cond, ◌||◌, List, length, replicate, Option, Some, None, refl, sym, ap, ◌∙◌, subst}
use Rattle.std.specs.Prelude.{is_some}
use Rattle.std.specs.Option.{option_map_or}
use Rattle.zd_base.specs.declared.numbers.Why.{Why}
use Rattle.zd_base.specs.declared.steps.Prefer.TheVariants.{Pieces}
use Rattle.zd_base.specs.declared.steps.StepKind.{StepKind}
use Rattle.zd_base.specs.declared.steps.Stepped.{Stepped}
use Rattle.zd_base.specs.declared.steps.Stepped.TheVariants.{Did, Idle, Over, Stopped}
use Rattle.zd_disk.specs.View.{View}
use Rattle.zd_progress.specs.Alone.{FliesAlone, others_in}
use Rattle.zd_progress.specs.Measures.{measure}
use Rattle.zd_progress.specs.Paces.{IsLastAnswer, IsMadeStep, IsPacedLoop, KeepsLimits, LoopAnswers}
use Rattle.zd_progress.proofs.Loops.{later_limits, less, made_paced, paced_start, promised, same_limits}
use Rattle.zd_model.specs.declared.requests.Piece.{Piece}
use Rattle.zd_steps.specs.NextStep.{by_preference, commit_step, job_step, piece_step}
use Rattle.zd_steps.specs.Runs.{flight_of, is_over}
use Rattle.zd_steps.specs.declared.step.Step.{Step}
use Rattle.zd_session.specs.LoneSessions.{IsNewSession, RunsLone}
use Rattle.zd_session.specs.LoneStates.{Begun, StandsSession, begun_after, loop_of, most_of, rest_of}
use Rattle.zd_session.specs.SessionSteps.{KeepsSession, Makes, MakesStep, MakesTurns, answer_by}
use Rattle.zd_session.specs.Sessions.{SessionView, ended_of, next_seen, run_seen, standing_seen}
use Rattle.zd_progress.proofs.AloneLaws.{none_else}
use Rattle.zd_session.proofs.LoneSteps.{did, last_step}
use Rattle.zd_session.proofs.PaceEnds.{fresh_loop, idle_flies, others_none, promised as in_time}

-- one turn more at the end
more_turns : {D : Type 0} (look : D → View) (n : ℕ) (from mid to : SessionView D) (result : Stepped)
    → MakesTurns look from mid (replicate n (0, Pieces)) → MakesStep look mid to 0 Pieces result
    → MakesTurns look from to (replicate (suc n) (0, Pieces))
more_turns {D} look zero from mid to result same step =
    (to, result, subst (λ (x : SessionView D). MakesStep look x to 0 Pieces result) same step, refl)
more_turns look (suc n) from mid to result turns step =
    (turns.0, turns.1, turns.2, more_turns look n turns.0 mid to result turns.3 step)

-- what no step changes
same_session : {D : Type 0} (s : SessionView D) → KeepsSession s s
same_session s = record {
  opening = refl;
  room = refl;
  plan = refl;
  count = refl;
  geometry = refl;
  layout = refl;
  generation = refl;
}

later_session : {D : Type 0} (a b c : SessionView D) → KeepsSession a b → KeepsSession b c → KeepsSession a c
later_session a b c one two = record {
  opening = two.opening ∙ one.opening;
  room = two.room ∙ one.room;
  plan = two.plan ∙ one.plan;
  count = two.count ∙ one.count;
  geometry = two.geometry ∙ one.geometry;
  layout = two.layout ∙ one.layout;
  generation = two.generation ∙ one.generation;
}

abbrev none_begun : Begun
none_begun = record { jobs = 0; commits = 0 }

-- who flew alone still does, where no other actor has taken off
still_alone : (before now : List (Option Piece)) → others_in now ≡ others_in before → FliesAlone before 0
    → FliesAlone now 0
still_alone before now same alone = none_else now (same ∙ others_none before alone)

-- A SESSION THAT HAS ENDED, and one that has no step, after the last answer
module _ {D : Type 0} (look : D → View) (now next : SessionView D) (stands : StandsSession look now) where
  -- what would be chosen where it goes on; a session that has stopped has no step
  abbrev chosen_of : SessionView D → Option Step
  chosen_of s = by_preference (run_seen s) (standing_seen s 0) Pieces
      (piece_step (run_seen s) (standing_seen s 0) (flight_of (run_seen s) 0))
      (commit_step (run_seen s) (standing_seen s 0))
      (job_step (run_seen s) (standing_seen s 0) (standing_seen s 0).job)

  stopped_none : (why : Why) → next.volume.plain.stopped ≡ Some why → next_seen next 0 Pieces ≡ None
  stopped_none why is =
      ap (λ (o : Option Why). cond (is_some o || is_over (run_seen next)) None (chosen_of next)) is

  no_more_by : (result : Stepped) (step : Option Step) (stopped : Option Why) → next_seen now 0 Pieces ≡ step
      → next.volume.plain.stopped ≡ stopped → Makes look now next 0 step
      → result ≡ answer_by (run_seen now) (standing_seen now 0) step stopped → IsLastAnswer result
      → next_seen next 0 Pieces ≡ None
  no_more_by result step (Some why) is stop makes answer last = stopped_none why stop
  no_more_by result None None is stop makes answer last =
      ap (λ (s : SessionView D). next_seen s 0 Pieces) makes ∙ is
  no_more_by result (Some step) None is stop makes answer last = absurd (subst IsLastAnswer answer last)

  no_more : (result : Stepped) → IsLastAnswer result → MakesStep look now next 0 Pieces result
      → next_seen next 0 Pieces ≡ None
  no_more result last makes =
      no_more_by result (next_seen now 0 Pieces) next.volume.plain.stopped refl refl makes.makes makes.answer last

  ended_by : (stopped : Option Why) (over : Bool) → next.volume.plain.stopped ≡ stopped → is_over (run_seen next) ≡ over
      → FliesAlone next.flights 0 → StandsSession look next → next_seen next 0 Pieces ≡ None → ended_of next ≡ true
  ended_by (Some why) over stop is alone later none = ap (λ (o : Option Why). option_map_or (λ w. true) o (is_over (run_seen next))) stop
  ended_by None true stop is alone later none =
      ap (λ (o : Option Why). option_map_or (λ w. true) o (is_over (run_seen next))) stop ∙ is
  ended_by None false stop is alone later none = absurd (idle_flies look next later stop is none alone)

  has_ended_by : (result : Stepped) (step : Option Step) (stopped : Option Why) → next_seen now 0 Pieces ≡ step
      → next.volume.plain.stopped ≡ stopped → Makes look now next 0 step
      → result ≡ answer_by (run_seen now) (standing_seen now 0) step stopped → IsLastAnswer result
      → FliesAlone now.flights 0 → next_seen next 0 Pieces ≡ None → ended_of next ≡ true
  has_ended_by result step (Some why) is stop makes answer last alone none =
      ap (λ (o : Option Why). option_map_or (λ w. true) o (is_over (run_seen next))) stop
  has_ended_by result None None is stop makes answer last alone none =
      ended_by None (is_over (run_seen next)) stop refl
      (subst (λ (s : SessionView D). FliesAlone s.flights 0) (sym makes) alone)
      (subst (StandsSession look) (sym makes) stands) none
  has_ended_by result (Some step) None is stop makes answer last alone none = absurd (subst IsLastAnswer answer last)

  has_ended : (result : Stepped) → IsLastAnswer result → MakesStep look now next 0 Pieces result
      → FliesAlone now.flights 0 → ended_of next ≡ true
  has_ended result last makes alone =
      has_ended_by result (next_seen now 0 Pieces) next.volume.plain.stopped refl refl makes.makes makes.answer last alone
      (no_more result last makes)

-- A SESSION THAT WAS NEW goes on in time, with so many jobs and commits begun
pub record GoesInTime {D : Type 0} (from now : SessionView D) : Type 0 where
  pub begun : Begun
  pub paced : IsPacedLoop (loop_of now begun)
  pub limits : KeepsLimits (loop_of from none_begun) (loop_of now begun)

-- BEFORE EACH STEP
pub record LoneSoFar {D : Type 0} (look : D → View) (from now : SessionView D) : Type 0 where
  pub turns : (n : ℕ) × MakesTurns look from now (replicate n (0, Pieces))
  pub stands : StandsSession look now
  pub some : 0 < length now.flights
  pub keeps : KeepsSession from now
  pub alone : FliesAlone from.flights 0 → FliesAlone now.flights 0
  pub timely : IsNewSession from → GoesInTime from now

-- the measure of what is left
abbrev pub left_of : {D : Type 0} → SessionView D → ℕ
left_of s = measure (most_of s) (rest_of s)

pub lone_begins : {D : Type 0} (look : D → View) (s : SessionView D) → 0 < length s.flights → StandsSession look s
    → LoneSoFar look s s
lone_begins look s some stands = record {
  turns = (0, refl);
  stands = stands;
  some = some;
  keeps = same_session s;
  alone = λ alone. alone;
  timely = λ new. record {
    begun = none_begun;
    paced = paced_start (loop_of s none_begun) (fresh_loop look s new stands);
    limits = same_limits (loop_of s none_begun);
  };
}

module _ {D : Type 0} (look : D → View) (from now next : SessionView D) (so : LoneSoFar look from now) where
  -- A STEP THAT WAS MADE
  module _ (kind : StepKind) (later : StandsSession look next) (makes : MakesStep look now next 0 Pieces (Did kind)) where
    step_made : (n : Begun) → IsMadeStep (loop_of now n) (loop_of next (begun_after now.volume.plain (next_seen now 0 Pieces) n))
    step_made n = did look now next n kind so.stands later so.some makes

    pub lone_goes : LoneSoFar look from next
    lone_goes = record {
      turns = (suc so.turns.0, more_turns look so.turns.0 from now next (Did kind) so.turns.1 makes);
      stands = later;
      some = subst (λ (n : ℕ). 0 < n) (sym makes.keeps.count) so.some;
      keeps = later_session from now next so.keeps makes.keeps;
      alone = λ alone. still_alone now.flights next.flights (step_made none_begun).limits.others (so.alone alone);
      timely = λ new.
          let before = so.timely new in
          let step = step_made before.begun in
          record {
            begun = begun_after now.volume.plain (next_seen now 0 Pieces) before.begun;
            paced = made_paced _ _ step before.paced;
            limits = later_limits _ _ _ before.limits step.limits;
          };
    }

    pub lone_lessens : left_of next < left_of now
    lone_lessens = less _ _ (step_made none_begun)

  -- THE LAST ONE
  module _ (result : Stepped) (last : IsLastAnswer result) (makes : MakesStep look now next 0 Pieces result) where
    answers : (n : Begun)
        → LoopAnswers result (loop_of now n) (loop_of next (begun_after now.volume.plain (next_seen now 0 Pieces) n))
    answers n = last_step look now next n result so.stands so.some makes last

    pub lone_ends : RunsLone look from next
    lone_ends = record {
      turns = (suc so.turns.0, more_turns look so.turns.0 from now next result so.turns.1 makes);
      last = no_more look now next so.stands result last makes;
      ended = λ alone. has_ended look now next so.stands result last makes (so.alone alone);
      timely = λ new.
          let before = so.timely new in
          let m = begun_after now.volume.plain (next_seen now 0 Pieces) before.begun in
          in_time from next none_begun m
          (promised (loop_of from none_begun) (loop_of now before.begun) before.limits before.paced result (loop_of next m)
          last (answers before.begun))
          (later_session from now next so.keeps makes.keeps);
    }

-- the answers that end the loop
pub is_last : (result : Stepped) → (result ≡ Idle) ⊎ (result ≡ Over) ⊎ ((why : Why) × (result ≡ Stopped why))
    → IsLastAnswer result
is_last result (inl idle) = subst IsLastAnswer (sym idle) tt
is_last result (inr (inl over)) = subst IsLastAnswer (sym over) tt
is_last result (inr (inr stops)) = subst IsLastAnswer (sym stops.1) tt
