-- The step of a piece, as the loop sees it: the piece flies on or is entered now; or the disk failed.
use Rattle.std.proofs.Common.{◌≡◌, ◌≢◌, ℕ, ◌<◌, Bool, true, cond, eqb, List, [], ◌∷◌, ◌++◌, length, get_or, map, set, Option, Some, None, refl, sym, ap, ◌∙◌, arith}
use Rattle.std.specs.Prelude.{is_some, option_map}
use Rattle.std.proofs.lemmas.Bool.{or_right}
use Rattle.std.proofs.lemmas.List.{get_or-set_same, map-append}
use Rattle.std.proofs.lemmas.Option.{none-some, same_Some}
use Rattle.zd_base.specs.declared.numbers.Why.{Why}
use Rattle.zd_base.specs.declared.numbers.Why.TheVariants.{Device, Generation}
use Rattle.zd_disk.specs.View.{View}
use Rattle.zd_model.specs.History.{Mark, mark_of_entry, mark_of_piece}
use Rattle.zd_model.specs.declared.requests.Piece.{Piece}
use Rattle.zd_progress.specs.LoneRuns.{LoneRun}
use Rattle.zd_progress.specs.LoneSteps.EntryCause.{ready as when_ready}
use Rattle.zd_progress.specs.Paces.{CountsCommits, HaltsAt, IsAtLast, Pace, PacesOn, commits_under_way}
use Rattle.zd_progress.specs.Paces.{with_entries}
use Rattle.zd_progress.specs.Paces.HaltsAt.{faults, silent}
use Rattle.zd_progress.specs.Paces.PacesOn.{enters, flies}
use Rattle.zd_steps.specs.NextStep.{piece_step}
use Rattle.zd_steps.specs.Runs.{flight_of, is_over, is_ready}
use Rattle.zd_steps.specs.declared.step.Step.TheVariants.{Serve}
use Rattle.zd_volume.specs.Volumes.{PlainVolume}
use Rattle.zd_session.specs.LoneSessions.{ats_of}
use Rattle.zd_session.specs.LoneStates.{Begun, StandsSession, commit_ahead, job_ahead, lone_run, loop_of}
use Rattle.zd_session.specs.SessionSteps.{KeepsSession}
use Rattle.zd_session.specs.Sessions.{SessionView, entries_to_come, no_edges, run_seen, standing_seen}
use Rattle.zd_session.specs.Standings.{standing_of}
use Rattle.zd_session.proofs.CountLaws.{same_to_come, some_to_come}
use Rattle.zd_session.proofs.PaceEntries.{ats_one, one_less}
use Rattle.zd_session.proofs.PaceSeen.{no_work_ahead}
use Rattle.zd_session.proofs.PaceServes.{EntersOne, ServeDid}
use Rattle.zd_session.proofs.PaceServes.ServeDid.{entered, failed, failed_with, flew}
use Rattle.zd_session.proofs.PaceSteps.{IsServed, in_order, same_pieces}

-- THE COMMIT UNDER WAY, if any, stays
same_under_way : (a b : LoneRun) → b.commit ≡ a.commit → commits_under_way b ≡ commits_under_way a
same_under_way a b same = ap {B = ℕ} (λ (k : ℕ). cond (eqb k 0) 0 1) same

-- where the generation, the commit under way and those that began stay
pub counts_still : (a b : Pace) → b.generation ≡ a.generation → b.run.commit ≡ a.run.commit
    → b.run.commits ≡ a.run.commits → CountsCommits a b
counts_still a b generation commit commits =
    let under = same_under_way a.run b.run commit in omega (arith, generation, under, commits)

pub stopped_runs : (o : Option Why) (why : Why) → o ≡ Some why → o ≡ None → ⊥
stopped_runs o why stopped runs = none-some why (sym runs ∙ stopped)

pub device_alone : (o : Option Why) (why : Why) → o ≡ Some Device → o ≡ Some why → why ≡ Generation → ⊥
device_alone o why device stopped last = no_generation (same_Some Device why (sym device ∙ stopped) ∙ last)
  where
    no_generation : Device ≢ Generation
    no_generation same = cc

module _ {D : Type 0} (look : D → View) (s t : SessionView D) (n : Begun) (stands : StandsSession look s)
    (keeps : KeepsSession s t) (p : Piece) (is : IsServed s p) where
  abbrev v : PlainVolume
  v = s.volume.plain

  abbrev w : PlainVolume
  w = t.volume.plain

  numbered : EntersOne v w p → ats_of w.history ≡ with_entries w.since 1 (ats_of v.history)
  numbered did =
      ap ats_of did.history ∙ ats_one v.history did.entry
      ∙ ap (λ (k : ℕ). with_entries k 1 (ats_of v.history)) did.at

  marked : EntersOne v w p → map mark_of_entry w.history ≡ map mark_of_entry v.history ++ mark_of_piece p ∷ []
  marked did =
      ap (map mark_of_entry) did.history ∙ map-append mark_of_entry v.history (did.entry ∷ [])
      ∙ ap (λ (m : Mark). map mark_of_entry v.history ++ m ∷ []) did.mark

  module _ (ready : (lone_run s n).is_ready ≡ true) where
    -- THE PIECE IS ENTERED
    pub enters_paces : EntersOne v w p → PacesOn (loop_of s n).job_calls (loop_of s n).pace (loop_of t n).pace
    enters_paces did =
        enters (record {
          cause = when_ready ready refl;
          no_job = λ none. ap (option_map (job_ahead w)) (did.job (no_work_ahead s n none));
          commit = (let same = did.commit in omega (arith, same));
          jobs = refl;
          calls = did.calls;
        }) 0
        (numbered did)
        (one_less (run_seen s) (run_seen t) (mark_of_piece p ∷ []) (same_pieces s t keeps) (marked did)
        (in_order look s stands) p is.there is.fresh refl)
        (counts_still (loop_of s n).pace (loop_of t n).pace did.generation did.commit refl)

    -- IT GOES ON
    module _ (inside : 0 < length s.flights) (same : w ≡ v) (flights : t.flights ≡ set s.flights 0 (Some p)) where
      flight_then : flight_of (run_seen t) 0 ≡ Some p
      flight_then =
          ap (λ (fs : List (Option Piece)). get_or fs 0 None) flights ∙ get_or-set_same s.flights 0 (Some p) None inside

      ready_then : is_some (piece_step (run_seen t) (standing_seen t 0) (flight_of (run_seen t) 0)) ≡ true
      ready_then =
          ap (λ (f : Option Piece). is_some (piece_step (run_seen t) (standing_seen t 0) f)) flight_then
          ∙ ap (λ (x : PlainVolume). is_some (cond (is_ready (standing_of x no_edges) p) (Some (Serve p)) None)) same
          ∙ ap (λ (b : Bool). is_some (cond b (Some (Serve p)) None)) is.ready

      still_to_come : entries_to_come (run_seen t) ≡ entries_to_come (run_seen s)
      still_to_come = same_to_come (run_seen s) (run_seen t) (same_pieces s t keeps)
          (ap (λ (x : PlainVolume). map mark_of_entry x.history) same)

      pub flies_paces : PacesOn (loop_of s n).job_calls (loop_of s n).pace (loop_of t n).pace
      flies_paces =
          flies (record {
            ready = ready;
            still_ready = or_right (is_over (run_seen t))
                (is_some (piece_step (run_seen t) (standing_seen t 0) (flight_of (run_seen t) 0))) ready_then;
            no_job = λ none. ap (λ (x : PlainVolume). option_map (job_ahead x) x.job) same ∙ none;
            commit = ap commit_ahead same;
            jobs = refl;
            commits = refl;
            calls = ap (λ (x : PlainVolume). x.since) same;
          })
          (ap (λ (x : PlainVolume). ats_of x.history) same)
          (let some = some_to_come (run_seen s) p is.there is.fresh in omega (arith, some, still_to_come))
          still_to_come
          (counts_still (loop_of s n).pace (loop_of t n).pace (ap (λ (x : PlainVolume). x.head.generation) same)
          (ap commit_ahead same) refl)

    -- WHERE THE VOLUME GOES ON
    pub serve_paces : 0 < length s.flights → w.stopped ≡ None → ServeDid s t p
        → PacesOn (loop_of s n).job_calls (loop_of s n).pace (loop_of t n).pace
    serve_paces inside runs (flew same flights) = flies_paces inside same flights
    serve_paces inside runs (entered did) = enters_paces did
    serve_paces inside runs (failed stopped history) = absurd (stopped_runs w.stopped Device stopped runs)
    serve_paces inside runs (failed_with stopped at near ats) = absurd (stopped_runs w.stopped Device stopped runs)

  -- WHERE IT STOPPED, the disk failed
  pub serve_halts : v.stopped ≡ None → ServeDid s t p → (why : Why) → w.stopped ≡ Some why → (m : Begun)
      → HaltsAt (loop_of s n).pace (loop_of t m).pace × (why ≡ Generation → IsAtLast (loop_of s n).pace)
  serve_halts runs (flew same flights) why stopped m =
      absurd (stopped_runs w.stopped why stopped (ap (λ (x : PlainVolume). x.stopped) same ∙ runs))
  serve_halts runs (entered did) why stopped m = absurd (stopped_runs w.stopped why stopped (did.stopped ∙ runs))
  serve_halts runs (failed device history) why stopped m =
      (silent (ap ats_of history), λ last. absurd (device_alone w.stopped why device stopped last))
  serve_halts runs (failed_with device at near ats) why stopped m =
      (faults at 0 near ats, λ last. absurd (device_alone w.stopped why device stopped last))
