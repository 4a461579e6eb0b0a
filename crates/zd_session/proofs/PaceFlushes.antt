-- The last call of a commit, which enters the flushes that wait, and one that stops the volume.
use Rattle.std.proofs.Common.{◌≡◌, inl, inr, ℕ, suc, ◌+◌, ◌-◌, ◌<◌, ◌≤◌, Bool, true, false, List, ◌++◌, length, map, Some, None, refl, sym, ap, ap₂, ◌∙◌, arith}
use Rattle.std.specs.Prelude.{option_map}
use Rattle.std.proofs.lemmas.Bool.{cases_Bool, cases_lt, true≢false}
use Rattle.std.proofs.lemmas.List.{append-nil}
use Rattle.zd_base.specs.declared.numbers.Why.{Why}
use Rattle.zd_base.specs.declared.numbers.Why.TheVariants.{Device, Generation, Memory}
use Rattle.zd_alloc.specs.Zones.{Division, after_limbo}
use Rattle.zd_alloc.specs.declared.uses.ZoneUse.{ZoneUse}
use Rattle.zd_commit.specs.Closed.{calls_to_finish}
use Rattle.zd_disk.specs.Told.{next_count}
use Rattle.zd_disk.specs.View.{View}
use Rattle.zd_model.specs.History.{mark_of_entry, mark_of_piece}
use Rattle.zd_model.specs.Plain.{Answer}
use Rattle.zd_model.specs.Plain.Answer.{Done, Fault}
use Rattle.zd_model.specs.declared.metadata.MapEntry.{MapEntry}
use Rattle.zd_model.specs.declared.requests.Piece.{Piece}
use Rattle.zd_progress.specs.LoneSteps.{CommitsOn, IsCommitNeeded}
use Rattle.zd_progress.specs.LoneSteps.EntryCause.{flush as by_flush}
use Rattle.zd_progress.specs.LoneSteps.LoneStep.{commits}
use Rattle.zd_progress.specs.Paces.{CountsCommits, HaltsAt, IsAtLast, PacesOn, with_entries}
use Rattle.zd_progress.specs.Paces.HaltsAt.{faults, silent}
use Rattle.zd_progress.specs.Paces.PacesOn.{enters, steps}
use Rattle.zd_progress.proofs.Counts.{ended}
use Rattle.zd_steps.specs.Runs.{Run, eligible_flushes, has_flush, is_over}
use Rattle.zd_steps.specs.declared.step.Step.TheVariants.{Commit}
use Rattle.zd_volume.proofs.CallsLeft.{last_call}
use Rattle.zd_volume.specs.Commits.{CommitStep, EndsCommit, EndsLimbo, flush_entries}
use Rattle.zd_volume.specs.Flights.{tables_now}
use Rattle.zd_volume.specs.Phases.{end_generation}
use Rattle.zd_volume.specs.Volumes.{PlainVolume}
use Rattle.zd_volume.specs.declared.phase.Committed.{Committed}
use Rattle.zd_session.specs.LoneSessions.{ats_of}
use Rattle.zd_session.specs.LoneStates.{Begun, StandsSession, begun_after, commit_ahead, job_ahead, lone_run, loop_of, stock_of}
use Rattle.zd_session.specs.Serving.{KeepsActors}
use Rattle.zd_session.specs.SessionSteps.{KeepsSession}
use Rattle.zd_session.specs.Sessions.{SessionView, entries_to_come, run_seen}
use Rattle.zd_session.proofs.MakingLaws.{marks_flushed}
use Rattle.zd_session.proofs.PaceCommits.{all_left, flush_none, flush_some, is_begun, left_stays, more_paces, one_commit, run_stays, some_stay}
use Rattle.zd_session.proofs.PaceEntries.{ats_flushed, flushes_less, some_left}
use Rattle.zd_session.proofs.PaceSeen.{no_work_ahead}
use Rattle.zd_session.proofs.PaceServed.{device_alone, stopped_runs}
use Rattle.zd_session.proofs.PaceSteps.{count_most, in_order, same_pieces}

-- LIMBO HAS ENDED
ended_is : (d e : Division) → EndsLimbo d e → e ≡ ended d
ended_is d e is =
    ap₂ (λ (uses : List ZoneUse) (k : ℕ). record { conv = k; zones = uses; order = e.order }) is.zones is.conv
    ∙ ap (λ (order : List ℕ). record { conv = d.conv; zones = map after_limbo d.zones; order = order }) is.order

-- the generation is one greater at most
few_generations : (alone : Bool) (generation : ℕ) → end_generation alone generation ≤ generation + 1
few_generations true generation = omega arith
few_generations false generation = omega arith

-- so many entries more, where there are some
pub some_more : (at k : ℕ) (ats : List ℕ) → 0 < k → with_entries at k ats ≡ with_entries at (suc (k - 1)) ats
some_more at k ats some =
    (let same : k ≡ suc (k - 1) = omega (arith, some) in ap (λ (x : ℕ). with_entries at x ats) same)

module _ {D : Type 0} (look : D → View) (s t : SessionView D) (n : Begun) (stands : StandsSession look s)
    (keeps : KeepsSession s t) (actors : KeepsActors s t) (left : is_over (run_seen s) ≡ false) where
  abbrev v : PlainVolume
  v = s.volume.plain

  abbrev w : PlainVolume
  w = t.volume.plain

  abbrev waiting : List Piece
  waiting = eligible_flushes (run_seen s)

  abbrev then_begun : Begun
  then_begun = begun_after v (Some Commit) n

  -- the flushes are entered
  module _ (reply : Answer) (history : w.history ≡ v.history ++ flush_entries reply (next_count v.since) waiting) where
    same_if_none : has_flush (run_seen s) ≡ false → w.history ≡ v.history
    same_if_none none =
        history ∙ ap (λ (list : List Piece). v.history ++ flush_entries reply (next_count v.since) list)
        (flush_none (run_seen s) none)
        ∙ append-nil v.history

    ats_then : ats_of w.history ≡ with_entries (next_count v.since) (length waiting) (ats_of v.history)
    ats_then = ap ats_of history ∙ ats_flushed v.history reply (next_count v.since) waiting

    fewer_then : entries_to_come (run_seen t) + length waiting ≡ entries_to_come (run_seen s)
    fewer_then = flushes_less (run_seen s) (run_seen t) (map mark_of_piece waiting) (same_pieces s t keeps)
        (ap (map mark_of_entry) history ∙ marks_flushed v.history reply (next_count v.since) waiting)
        (in_order look s stands) refl

  module _ (not_ready : (lone_run s n).is_ready ≡ false)
      (due : (lone_run s n).commit ≡ 0 → IsCommitNeeded (lone_run s n)) (none : (lone_run s n).job ≡ None) where
    -- IT HAS ENDED
    module _ (did : EndsCommit v w waiting) where
      history_then : w.history ≡ v.history ++ flush_entries Done (next_count v.since) waiting
      history_then = ap (λ (x : PlainVolume). x.history) did.rest

      since_then : w.since ≡ next_count v.since
      since_then = ap (λ (x : PlainVolume). x.since) did.rest

      commit_then : commit_ahead w ≡ 0
      commit_then = ap (λ (x : PlainVolume). calls_to_finish w.dirty x.phase) did.rest

      job_then : (lone_run t then_begun).job ≡ None
      job_then =
          ap (λ (x : PlainVolume). option_map (job_ahead w) x.job) did.rest
          ∙ ap (option_map (job_ahead w)) (no_work_ahead s n none)

      ends_counts : CountsCommits (loop_of s n).pace (loop_of t then_begun).pace
      ends_counts =
          let one = one_commit (commit_ahead v) in
          let idle : is_begun (commit_ahead w) ≡ 0 = ap is_begun commit_then in
          let generation : w.head.generation ≡ end_generation did.alone v.head.generation =
          ap (λ (x : PlainVolume). x.head.generation) did.rest in
          let few = few_generations did.alone v.head.generation in
          omega (arith, one, idle, generation, few)

      stock_then : stock_of w ≡ record (stock_of v) { division = ended v.division }
      stock_then = ap₂ (λ (d : Division) (es : List MapEntry). record { division = d; entries = es })
          (ended_is v.division w.division did.limbo) (ap (λ (x : PlainVolume). (tables_now x).entries) did.rest)

      -- no flush waits
      module _ (no_flush : has_flush (run_seen s) ≡ false) where
        history_stays : w.history ≡ v.history
        history_stays = same_if_none Done history_then no_flush

        commits_last : CommitsOn (lone_run s n) (lone_run t then_begun)
        commits_last = record {
          not_ready = not_ready;
          no_job = none;
          no_job_yet = job_then;
          due = due;
          flush = ap (λ (r : Run). has_flush r) (run_stays look s t n stands keeps actors left history_stays);
          goes_on = λ waits. absurd (true≢false (sym waits ∙ no_flush));
          left = (
              let last = last_call v.dirty did.alone v.phase did.last in
              let all = all_left v.dirty v.phase in
              omega (arith, last, all, commit_then));
          under_way = λ some. absurd (omega (arith, some, commit_then));
          ended = λ over. stock_then;
          begun = refl;
          jobs = refl;
          calls = omega (arith, since_then, count_most v.since);
        }

        ends_alone : PacesOn (loop_of s n).job_calls (loop_of s n).pace (loop_of t then_begun).pace
        ends_alone = steps (commits commits_last) (ap ats_of history_stays)
            (some_stay look s t n stands keeps actors left history_stays)
            (left_stays look s t n stands keeps actors left history_stays) ends_counts

      -- some wait, and are entered
      ends_with : has_flush (run_seen s) ≡ true
          → PacesOn (loop_of s n).job_calls (loop_of s n).pace (loop_of t then_begun).pace
      ends_with waits =
          let some = flush_some (run_seen s) waits in
          enters (record {
            cause = by_flush not_ready waits refl;
            no_job = λ none. job_then;
            commit = omega (arith, commit_then);
            jobs = refl;
            calls = omega (arith, since_then, count_most v.since);
          }) (length waiting - 1)
          (ats_then Done history_then ∙ some_more (next_count v.since) (length waiting) (ats_of v.history) some
          ∙ ap (λ (k : ℕ). with_entries k (suc (length waiting - 1)) (ats_of v.history)) (sym since_then))
          (let fewer = fewer_then Done history_then in omega (arith, some, fewer))
          ends_counts

      pub ended_paces : PacesOn (loop_of s n).job_calls (loop_of s n).pace (loop_of t then_begun).pace
      ended_paces = elim (cases_Bool (has_flush (run_seen s))) [
        | inl waits ↦ ends_with waits
        | inr no_flush ↦ ends_alone no_flush
      ]

    -- WHERE THE VOLUME GOES ON
    pub commit_paces : (result : Committed) → CommitStep v w waiting result → w.stopped ≡ None
        → PacesOn (loop_of s n).job_calls (loop_of s n).pace (loop_of t then_begun).pace
    commit_paces Committed.More did runs =
        more_paces look s t n stands keeps actors left not_ready due none did
    commit_paces Committed.Ended did runs = ended_paces did
    commit_paces (Committed.Stopped Device) did runs =
        absurd (stopped_runs w.stopped Device (ap (λ (x : PlainVolume). x.stopped) did) runs)
    commit_paces (Committed.Stopped Memory) did runs = absurd did
    commit_paces (Committed.Stopped Generation) did runs =
        absurd (stopped_runs w.stopped Generation (ap (λ (x : PlainVolume). x.stopped) did.3) runs)

  -- THE DISK FAILED: the flushes that wait are entered at once
  fault_halts : (m : Begun) → w.history ≡ v.history ++ flush_entries Fault (next_count v.since) waiting
      → HaltsAt (loop_of s n).pace (loop_of t m).pace
  fault_halts m history = elim (cases_lt 0 (length waiting)) [
    | inl some ↦ faults (next_count v.since) (length waiting - 1) (count_most v.since)
        (ats_then Fault history ∙ some_more (next_count v.since) (length waiting) (ats_of v.history) some)
    | inr none ↦
        let all : length waiting ≡ 0 = omega (arith, none) in
        silent (ats_then Fault history ∙ ap (λ (k : ℕ). with_entries (next_count v.since) k (ats_of v.history)) all)
  ]

  -- WHERE IT STOPPED: for want of a generation only with the last one
  pub commit_halts : (lone_run s n).is_ready ≡ false
      → ((lone_run s n).commit ≡ 0 → IsCommitNeeded (lone_run s n)) → v.stopped ≡ None → (result : Committed)
      → CommitStep v w waiting result → (why : Why) → w.stopped ≡ Some why → (m : Begun)
      → HaltsAt (loop_of s n).pace (loop_of t m).pace × (why ≡ Generation → IsAtLast (loop_of s n).pace)
  commit_halts not_ready due runs Committed.More did why stopped m =
      absurd (stopped_runs w.stopped why stopped (ap (λ (x : PlainVolume). x.stopped) did.rest ∙ runs))
  commit_halts not_ready due runs Committed.Ended did why stopped m =
      absurd (stopped_runs w.stopped why stopped (ap (λ (x : PlainVolume). x.stopped) did.rest ∙ runs))
  commit_halts not_ready due runs (Committed.Stopped Device) did why stopped m = (
    fault_halts m (ap (λ (x : PlainVolume). x.history) did),
    λ last. absurd (device_alone w.stopped why (ap (λ (x : PlainVolume). x.stopped) did) stopped last),
  )
  commit_halts not_ready due runs (Committed.Stopped Memory) did why stopped m = absurd did
  commit_halts not_ready due runs (Committed.Stopped Generation) did why stopped m =
      let idle : commit_ahead v ≡ 0 = ap (calls_to_finish v.dirty) did.0 in (
        silent (ap (λ (x : PlainVolume). ats_of x.history) did.3),
        λ last. record {
          left = some_left (run_seen s) left;
          not_ready = not_ready;
          idle = idle;
          due = due idle;
          last = did.2;
        },
      )
