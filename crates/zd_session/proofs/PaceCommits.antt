-- The calls of a commit, as the loop sees them.
use Rattle.std.proofs.Common.{◌≡◌, ◌≢◌, ◌⊎◌, inl, inr, ℕ, ◌+◌, ◌<◌, Bool, true, false, cond, eqb, List, [], ◌∷◌, length, Option, Some, None, refl, sym, ap, ◌∙◌, arith}
use Rattle.std.specs.Prelude.{option_map}
use Rattle.std.proofs.lemmas.Bool.{cond-false, ne_eqb, true≢false}
use Rattle.zd_commit.specs.Closed.{calls_to_finish}
use Rattle.zd_disk.specs.Told.{next_count}
use Rattle.zd_disk.specs.View.{View}
use Rattle.zd_model.specs.declared.requests.Piece.{Piece}
use Rattle.zd_progress.specs.LoneRuns.{IsAlone, IsBeside, JobAhead, LoneRun, calls_of_commit}
use Rattle.zd_progress.specs.LoneSteps.{CommitsOn, IsCommitNeeded}
use Rattle.zd_progress.specs.LoneSteps.IsCommitNeeded.{flush, zone}
use Rattle.zd_progress.specs.LoneSteps.LoneStep.{commits}
use Rattle.zd_progress.specs.Paces.{CountsCommits, PacesOn}
use Rattle.zd_progress.specs.Paces.PacesOn.{steps}
use Rattle.zd_progress.proofs.OnConventional.{cases_option}
use Rattle.zd_steps.proofs.MemberLaws.{In, any-in, filter-in, in-any, in-filter}
use Rattle.zd_steps.specs.Runs.{Run, eligible_flushes, has_flush, is_eligible_flush, is_over}
use Rattle.zd_steps.specs.declared.step.Step.TheVariants.{Commit}
use Rattle.zd_volume.proofs.CallsLeft.{one_less}
use Rattle.zd_volume.specs.Commits.{Advances, IsPhaseAfter, calls_left}
use Rattle.zd_volume.specs.Phases.{after_block}
use Rattle.zd_volume.specs.Uses.{dirty_from}
use Rattle.zd_volume.specs.Volumes.{PlainVolume}
use Rattle.zd_volume.specs.declared.phase.Phase.{Phase}
use Rattle.zd_volume.specs.declared.phase.Phase.TheVariants.{Idle, InPlace, InPlaceFlush, InPlaceSuper, InPlaceSuperFlush, Log, LogFlush, LogSuper, LogSuperFlush}
use Rattle.zd_session.specs.LoneSessions.{ats_of}
use Rattle.zd_session.specs.LoneStates.{Begun, StandsSession, begun_after, commit_ahead, job_ahead, lone_run, loop_of, stock_of}
use Rattle.zd_session.specs.Serving.{KeepsActors}
use Rattle.zd_session.specs.SessionSteps.{KeepsSession}
use Rattle.zd_session.specs.Sessions.{SessionView, entries_to_come, run_seen}
use Rattle.zd_session.proofs.PaceEntries.{some_left}
use Rattle.zd_session.proofs.PaceSteps.{count_most, same_seen}

-- IN EVERY PHASE BUT THE FIRST the calls that are left are those of a commit under way
idle_or_left : (p : Phase) → (p ≡ Idle)
    ⊎ ((dirty : List Bool) → (calls_to_finish dirty p ≡ calls_left dirty p) × (0 < calls_left dirty p))
idle_or_left Idle = inl refl
idle_or_left (Log k) = inr (λ dirty. (refl, omega arith))
idle_or_left LogFlush = inr (λ dirty. (refl, omega arith))
idle_or_left LogSuper = inr (λ dirty. (refl, omega arith))
idle_or_left LogSuperFlush = inr (λ dirty. (refl, omega arith))
idle_or_left (InPlace k) = inr (λ dirty. (refl, omega arith))
idle_or_left InPlaceFlush = inr (λ dirty. (refl, omega arith))
idle_or_left InPlaceSuper = inr (λ dirty. (refl, omega arith))
idle_or_left InPlaceSuperFlush = inr (λ dirty. (refl, omega arith))

-- the calls that are left, with those of a commit that would begin
abbrev pub left_or_all : List Bool → ℕ → ℕ
left_or_all dirty k = cond (eqb k 0) (calls_of_commit (dirty_from dirty 1)) k

pub all_left : (dirty : List Bool) (p : Phase) → left_or_all dirty (calls_to_finish dirty p) ≡ calls_left dirty p
all_left dirty p = elim (idle_or_left p) [
  | inl idle ↦
      ap (λ (x : Phase). left_or_all dirty (calls_to_finish dirty x)) idle ∙ ap (calls_left dirty) (sym idle)
  | inr left ↦ (let some = (left dirty).1 in let same = (left dirty).0 in
      ap (left_or_all dirty) same
      ∙ cond-false (eqb (calls_left dirty p) 0) (calls_of_commit (dirty_from dirty 1)) (calls_left dirty p)
      (ne_eqb (calls_left dirty p) 0 (λ none. omega (arith, some, none))))
]

-- a commit is under way, or begins
abbrev pub begins : ℕ → ℕ
begins k = cond (eqb k 0) 1 0

abbrev pub is_begun : ℕ → ℕ
is_begun k = cond (eqb k 0) 0 1

pub one_commit : (k : ℕ) → is_begun k + begins k ≡ 1
one_commit k = by (eqb k 0)
  where
    by : (b : Bool) → cond {A = ℕ} b 0 1 + cond b 1 0 ≡ 1
    by true = refl
    by false = refl

begun_one : (k : ℕ) → 0 < k → is_begun k ≡ 1
begun_one k some = ap {B = ℕ} (λ (b : Bool). cond b 0 1) (ne_eqb k 0 (λ none. omega (arith, some, none)))

-- THE NEXT PHASE is another one
block_begun : (b : Bool) (next : Option ℕ) → after_block b next ≢ Idle
block_begun false None same = cc
block_begun false (Some k) same = cc
block_begun true None same = cc
block_begun true (Some k) same = cc

after_begun : (dirty : List Bool) (p q : Phase) → IsPhaseAfter dirty p q → q ≢ Idle
after_begun dirty Idle q after same = block_begun false after.1 (sym after.4 ∙ same)
after_begun dirty (Log k) q after same = block_begun false after.0 (sym after.2 ∙ same)
after_begun dirty LogFlush q after same = (let is : LogSuper ≡ Idle = sym after ∙ same in cc)
after_begun dirty LogSuper q after same = (let is : LogSuperFlush ≡ Idle = sym after ∙ same in cc)
after_begun dirty LogSuperFlush q after same = block_begun true after.0 (sym after.2 ∙ same)
after_begun dirty (InPlace k) q after same = block_begun true after.0 (sym after.2 ∙ same)
after_begun dirty InPlaceFlush q after same = (let is : InPlaceSuper ≡ Idle = sym after ∙ same in cc)
after_begun dirty InPlaceSuper q after same = (let is : InPlaceSuperFlush ≡ Idle = sym after ∙ same in cc)
after_begun dirty InPlaceSuperFlush q after same = absurd after

after_left : (dirty : List Bool) (p q : Phase) → IsPhaseAfter dirty p q
    → (calls_to_finish dirty q ≡ calls_left dirty q) × (0 < calls_left dirty q)
after_left dirty p q after = elim (idle_or_left q) [
  | inl idle ↦ absurd (after_begun dirty p q after idle)
  | inr left ↦ left dirty
]

-- FLUSHES WAIT exactly where one is found
some_member : {X : Type 0} (x : X) (xs : List X) → In x xs → 0 < length xs
some_member x [] is = absurd is
some_member x (y ∷ ys) is = omega arith

pub flush_some : (r : Run) → has_flush r ≡ true → 0 < length (eligible_flushes r)
flush_some r waits =
    let one = any-in (is_eligible_flush r) r.pieces waits in
    some_member one.0 (eligible_flushes r) (filter-in (is_eligible_flush r) one.0 r.pieces one.1 one.2)

pub flush_none : (r : Run) → has_flush r ≡ false → eligible_flushes r ≡ []
flush_none r none = by (eligible_flushes r) (λ x is. is)
  where
    by : (list : List Piece) → ((x : Piece) → In x list → In x (eligible_flushes r)) → list ≡ []
    by [] are = refl
    by (x ∷ list) are =
        let one = in-filter (is_eligible_flush r) x r.pieces (are x (inl refl)) in
        absurd (true≢false (sym (in-any (is_eligible_flush r) x r.pieces one.0 one.1) ∙ none))

-- A COMMIT THAT IS DUE has no job beside it
beside_none : (r : LoneRun) (w : JobAhead) → IsBeside w r → (r.commit ≡ 0 → IsCommitNeeded r) → ⊥
beside_none r w b due = by (due b.no_commit)
  where
    by : IsCommitNeeded r → ⊥
    by (flush waits) = true≢false (sym waits ∙ b.no_flush)
    by (zone wanted some) = (let none = b.no_limbo in omega (arith, some, none))

pub no_job_beside : (first j c : ℕ) (r : LoneRun) → IsAlone first j c r
    → (r.commit ≡ 0 → IsCommitNeeded r) → r.job ≡ None
no_job_beside first j c r is due = elim (cases_option r.job) [
  | inl none ↦ none
  | inr (w, at) ↦ absurd (beside_none r w (is.beside w at) due)
]

module _ {D : Type 0} (look : D → View) (s t : SessionView D) (n : Begun) (stands : StandsSession look s)
    (keeps : KeepsSession s t) (actors : KeepsActors s t) (left : is_over (run_seen s) ≡ false) where
  abbrev v : PlainVolume
  v = s.volume.plain

  abbrev w : PlainVolume
  w = t.volume.plain

  abbrev m : Begun
  m = begun_after v (Some Commit) n

  -- where nothing is entered
  module _ (history : w.history ≡ v.history) where
    pub run_stays : run_seen t ≡ run_seen s
    run_stays = same_seen s t keeps actors.flights history

    pub left_stays : entries_to_come (run_seen t) ≡ entries_to_come (run_seen s)
    left_stays = ap (λ (r : Run). entries_to_come r) run_stays

    pub some_stay : 0 < entries_to_come (run_seen t)
    some_stay = (let some = some_left (run_seen s) left in omega (arith, some, left_stays))

  module _ (not_ready : (lone_run s n).is_ready ≡ false)
      (due : (lone_run s n).commit ≡ 0 → IsCommitNeeded (lone_run s n)) (none : (lone_run s n).job ≡ None) where
    -- MORE OF IT IS LEFT
    module _ (did : Advances v w) where
      phase_after : (calls_to_finish v.dirty w.phase ≡ calls_left v.dirty w.phase) × (0 < calls_left v.dirty w.phase)
      phase_after = after_left v.dirty v.phase w.phase did.phase

      calls_then : commit_ahead w ≡ calls_left v.dirty w.phase
      calls_then = ap (λ (x : PlainVolume). calls_to_finish x.dirty w.phase) did.rest ∙ phase_after.0

      one_fewer : commit_ahead w + 1 ≡ left_or_all v.dirty (commit_ahead v)
      one_fewer =
          let less = one_less v.dirty v.phase w.phase v.head.generation stands.fixed.under_way did.phase in
          let all = all_left v.dirty v.phase in
          omega (arith, calls_then, less, all)

      some_then : 0 < commit_ahead w
      some_then = (let some = phase_after.1 in omega (arith, some, calls_then))

      history_stays : w.history ≡ v.history
      history_stays = ap (λ (x : PlainVolume). x.history) did.rest

      since_then : w.since ≡ next_count v.since
      since_then = ap (λ (x : PlainVolume). x.since) did.rest

      commits_on : CommitsOn (lone_run s n) (lone_run t m)
      commits_on = record {
        not_ready = not_ready;
        no_job = none;
        no_job_yet = ap (λ (x : PlainVolume). option_map (job_ahead x) x.job) did.rest ∙ none;
        due = due;
        flush = ap (λ (r : Run). has_flush r) (run_stays history_stays);
        goes_on = λ waits. some_then;
        left = one_fewer;
        under_way = λ some. ap stock_of did.rest;
        ended = λ over. absurd (omega (arith, some_then, over));
        begun = refl;
        jobs = refl;
        calls = omega (arith, since_then, count_most v.since);
      }

      more_counts : CountsCommits (loop_of s n).pace (loop_of t m).pace
      more_counts =
          let one = one_commit (commit_ahead v) in
          let then = begun_one (commit_ahead w) some_then in
          let generation : w.head.generation ≡ v.head.generation =
          ap (λ (x : PlainVolume). x.head.generation) did.rest in
          omega (arith, one, then, generation)

      pub more_paces : PacesOn (loop_of s n).job_calls (loop_of s n).pace (loop_of t m).pace
      more_paces = steps (commits commits_on) (ap ats_of history_stays) (some_stay history_stays)
          (left_stays history_stays) more_counts
