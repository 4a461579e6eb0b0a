-- What the choice of a step tells of a volume.
use Rattle.std.proofs.Common.{◌≡◌, ◌≢◌, ◌⊎◌, inl, inr, ℕ, Bool, true, false, not, cond, ◌&&◌, ◌||◌, List, map, Option, Some, None, find, refl, sym, ap, ap₂, ◌∙◌, subst}
use Rattle.std.proofs.lemmas.Bool.{and_parts, false≢true, not-true}
use Rattle.std.proofs.lemmas.Option.{cond_some, none-some, same_Some}
use Rattle.std.specs.Prelude.{is_some}
use Rattle.zd_base.specs.declared.numbers.Why.{Why}
use Rattle.zd_base.specs.declared.steps.Prefer.{Prefer}
use Rattle.zd_base.specs.declared.steps.Prefer.TheVariants.{Commits, Jobs, Pieces}
use Rattle.zd_base.specs.declared.steps.StepKind.{StepKind}
use Rattle.zd_model.specs.History.{Mark, mark_of_entry}
use Rattle.zd_model.specs.Requests.{Operation, operation_of}
use Rattle.zd_model.specs.Requests.Operation.{Reading, Writing, Discarding, Flushing}
use Rattle.zd_model.specs.declared.requests.Piece.{Piece}
use Rattle.zd_model.specs.declared.requests.Request.{Request}
use Rattle.zd_routes.specs.Routes.{LacksZone}
use Rattle.zd_routes.specs.declared.edges.Edges.{Edges}
use Rattle.zd_volume.specs.Volumes.{PlainVolume}
use Rattle.zd_volume.specs.declared.phase.Phase.TheVariants.{Idle}
use Rattle.zd_steps.specs.NextStep.{by_preference, commit_step, first_serve, is_commit_due, is_job_due, job_step, may_work, next_step, or_else, piece_step}
use Rattle.zd_steps.specs.Queues.{MayServe, QueueState, run_of}
use Rattle.zd_steps.specs.Runs.{Run, Standing, flight_of, has_flush, is_discarding, is_over, is_reading, is_ready, is_servable, is_wanted, is_writing, lacks_zone}
use Rattle.zd_steps.specs.declared.step.Step.{Step}
use Rattle.zd_steps.specs.declared.step.Step.TheVariants.{Begin, Commit, Serve, Work}
use Rattle.zd_session.specs.Moving.{MayMake}
use Rattle.zd_session.specs.Sessions.{no_edges, pieces_on, run_with}
use Rattle.zd_session.specs.Standings.{kind_next, standing_of}
use Rattle.zd_session.proofs.StandingLaws.{idle_decides, lacks_place, none_decides}

module _ (r : Run) (v : Standing) where
  -- the first of two steps is one of them
  first_of_two : (a b : Option Step) (s : Step) → or_else r v a b ≡ Some s → (a ≡ Some s) ⊎ (b ≡ Some s)
  first_of_two None b s is = inr is
  first_of_two (Some x) b s is = inl is

  of_three : (a b c : Option Step) (s : Step) → or_else r v a (or_else r v b c) ≡ Some s
      → (a ≡ Some s) ⊎ (b ≡ Some s) ⊎ (c ≡ Some s)
  of_three a b c s is = elim (first_of_two a (or_else r v b c) s is) [
    | inl one ↦ inl one
    | inr rest ↦ inr (first_of_two b c s rest)
  ]

  of_class : (prefer : Prefer) (p c j : Option Step) (s : Step) → by_preference r v prefer p c j ≡ Some s
      → (p ≡ Some s) ⊎ (c ≡ Some s) ⊎ (j ≡ Some s)
  of_class Pieces p c j s is = of_three p c j s is
  of_class Commits p c j s is = elim (of_three c j p s is) [
    | inl commits ↦ inr (inl commits)
    | inr (inl jobs) ↦ inr (inr jobs)
    | inr (inr pieces) ↦ inl pieces
  ]
  of_class Jobs p c j s is = elim (of_three j c p s is) [
    | inl jobs ↦ inr (inr jobs)
    | inr (inl commits) ↦ inr (inl commits)
    | inr (inr pieces) ↦ inl pieces
  ]

  -- A STEP IS OF ONE CLASS, and the volume goes on
  pub step_told : (actor : ℕ) (prefer : Prefer) (s : Step) → next_step r v actor prefer ≡ Some s
      → (v.stopped ≡ false)
      × ((piece_step r v (flight_of r actor) ≡ Some s) ⊎ (commit_step r v ≡ Some s) ⊎ (job_step r v v.job ≡ Some s))
  step_told actor prefer s is = by v.stopped (is_over r) refl
      (of_class prefer (piece_step r v (flight_of r actor)) (commit_step r v) (job_step r v v.job) s) is
    where
      by : (stopped over : Bool) → v.stopped ≡ stopped
          → (by_preference r v prefer (piece_step r v (flight_of r actor)) (commit_step r v) (job_step r v v.job) ≡ Some s
          → (piece_step r v (flight_of r actor) ≡ Some s) ⊎ (commit_step r v ≡ Some s) ⊎ (job_step r v v.job ≡ Some s))
          → cond (stopped || over) None
          (by_preference r v prefer (piece_step r v (flight_of r actor)) (commit_step r v) (job_step r v v.job)) ≡ Some s
          → (v.stopped ≡ false)
          × ((piece_step r v (flight_of r actor) ≡ Some s) ⊎ (commit_step r v ≡ Some s) ⊎ (job_step r v v.job ≡ Some s))
      by true over off class is = absurd (none-some s is)
      by false true off class is = absurd (none-some s is)
      by false false off class is = (off, class is)

  -- what serves a piece, and what goes on with a commit, is no step of a job
  serves_job : (o : Option Piece) (s : Step) → first_serve r v o ≡ Some s → (p : Piece) × (s ≡ Serve p)
  serves_job None s is = absurd (none-some s is)
  serves_job (Some p) s is = (p, sym (same_Some (Serve p) s is))

  piece_serves : (o : Option Piece) (s : Step) → piece_step r v o ≡ Some s → (p : Piece) × (s ≡ Serve p)
  piece_serves None s is = serves_job (find (is_servable r v) r.pieces) s is
  piece_serves (Some p) s is = (p, sym (cond_some (is_ready v p) (Serve p) s is).1)

  commits : (s : Step) → commit_step r v ≡ Some s → s ≡ Commit
  commits s is = sym (cond_some (v.commits || is_commit_due v (has_flush r) (is_wanted r v)) Commit s is).1

  -- A JOB THAT BEGINS is due
  begins : (job : Option StepKind) → job_step r v job ≡ Some Begin → (job ≡ None) × (is_job_due v (is_wanted r v) ≡ true)
  begins None is = (refl, (cond_some (is_job_due v (is_wanted r v)) Begin Begin is).0)
  begins (Some kind) is = absurd (let both = cond_some (may_work v kind) (Work kind) Begin is in
      no_begin kind both.1)
    where
      no_begin : (kind : StepKind) → Work kind ≢ Begin
      no_begin kind same = cc

  works : (job : Option StepKind) (kind : StepKind) → job_step r v job ≡ Some (Work kind)
      → (job ≡ Some kind) × (may_work v kind ≡ true)
  works None kind is = absurd (no_work (cond_some (is_job_due v (is_wanted r v)) Begin (Work kind) is).1)
    where
      no_work : Begin ≢ Work kind
      no_work same = cc
  works (Some other) kind is =
      let both = cond_some (may_work v other) (Work other) (Work kind) is in
      let same : other ≡ kind = same_kind other kind both.1 in
      (ap Some same, subst (λ (k : StepKind). may_work v k ≡ true) same both.0)
    where
      same_kind : (a b : StepKind) → Work a ≡ Work b → a ≡ b
      same_kind a b same = cc

  of_job : (actor : ℕ) (prefer : Prefer) (s : Step) → ((p : Piece) → s ≢ Serve p) → s ≢ Commit
      → next_step r v actor prefer ≡ Some s → job_step r v v.job ≡ Some s
  of_job actor prefer s serves commit is = elim (step_told actor prefer s is).1 [
    | inl piece ↦ (let one = piece_serves (flight_of r actor) s piece in absurd (serves one.0 one.1))
    | inr (inl one) ↦ absurd (commit (commits s one))
    | inr (inr job) ↦ job
  ]

  -- what is due has no job and no commit under way, and is picked
  due_parts : (wanted : Bool) → is_job_due v wanted ≡ true → (v.commits ≡ false) × (v.picks ≡ true)
  due_parts wanted due =
      let last = and_parts _ v.picks due in
      let low = and_parts _ _ last.0 in
      let two = and_parts _ (not v.commits) low.0 in
      (not-true v.commits two.1, last.1)

  pub begin_told : (actor : ℕ) (prefer : Prefer) → next_step r v actor prefer ≡ Some Begin
      → (v.job ≡ None) × (v.commits ≡ false) × (v.picks ≡ true)
  begin_told actor prefer is =
      let job = begins v.job (of_job actor prefer Begin (λ p same. begin_serves p same) begin_commits is) in
      let due = due_parts (is_wanted r v) job.1 in
      (job.0, due.0, due.1)
    where
      begin_serves : (p : Piece) → Begin ≢ Serve p
      begin_serves p same = cc

      begin_commits : Begin ≢ Commit
      begin_commits same = cc

  pub work_told : (actor : ℕ) (prefer : Prefer) (kind : StepKind) → next_step r v actor prefer ≡ Some (Work kind)
      → (v.job ≡ Some kind) × (may_work v kind ≡ true)
  work_told actor prefer kind is =
      works v.job kind (of_job actor prefer (Work kind) (λ p same. work_serves p same) work_commits is)
    where
      work_serves : (p : Piece) → Work kind ≢ Serve p
      work_serves p same = cc

      work_commits : Work kind ≢ Commit
      work_commits same = cc

-- A STEP THAT IS CHOSEN MAY BE MADE
pub none_stopped : (o : Option Why) → is_some o ≡ false → o ≡ None
none_stopped None off = refl
none_stopped (Some why) off = absurd (false≢true (sym off))

module _ (v : PlainVolume) (q : QueueState) (marks : List Mark) (actor : ℕ) (prefer : Prefer) where
  abbrev r : Run
  r = run_of q marks

  abbrev st : Standing
  st = standing_of v no_edges

  pub chosen_runs : (s : Step) → next_step r st actor prefer ≡ Some s → v.stopped ≡ None
  chosen_runs s is = none_stopped v.stopped (step_told r st actor prefer s is).0

  idle : st.commits ≡ false → v.phase ≡ Idle
  idle off = (idle_decides v.phase).0 (ap not off)

  no_job : (o : Option StepKind) → kind_next v v.job ≡ o → o ≡ None → v.job ≡ None
  no_job None is none = (none_decides v v.job).0 (ap (λ (x : Option StepKind). not (is_some x)) is)
  no_job (Some kind) is none = absurd (none-some kind (sym none))

  pub chosen_may : (s : Step) → next_step r st actor prefer ≡ Some s
      → ((p : Piece) → s ≡ Serve p → MayServe q actor p × (is_ready st p ≡ true)) → MayMake v q actor s
  chosen_may (Serve p) is serves = serves p refl
  chosen_may Commit is serves = tt
  chosen_may Begin is serves =
      let told = begin_told r st actor prefer is in
      (idle told.1, no_job (kind_next v v.job) refl told.0, told.2)
  chosen_may (Work kind) is serves =
      let told = work_told r st actor prefer kind is in
      (told.0, λ same. idle (not-true st.commits (subst (λ (k : StepKind). may_work st k ≡ true) same told.1)))

-- the marks of what is entered
abbrev pub map_marks : PlainVolume → List Mark
map_marks v = map mark_of_entry v.history

-- THE SAME RUN, in the words of the queue and of the session
pub same_run : (v : PlainVolume) (plan : List Request) (q : QueueState) → q.chunk_blocks ≡ v.geometry.zone_blocks
    → q.callers.pieces ≡ pieces_on v plan → run_of q (map_marks v) ≡ run_with v plan q.flights
same_run v plan q blocks pieces =
    ap₂ (λ (z : ℕ) (ps : List Piece). record {
      chunk_blocks = z;
      pieces = ps;
      entered = map_marks v;
      flights = q.flights;
    }) blocks pieces

-- the edges that an actor has read are nothing to the choice
pub same_choice : (r : Run) (v : PlainVolume) (e f : Edges) (actor : ℕ) (prefer : Prefer)
    → next_step r (standing_of v e) actor prefer ≡ next_step r (standing_of v f) actor prefer
same_choice r v e f actor prefer = refl

-- WHAT IS READY, by its operation
abbrev ready_by : Operation → Bool → Bool → Bool → Bool
ready_by o range commits lacks =
    is_reading o || range || (not commits && (is_discarding o || (is_writing o && not lacks)))

ready_of : (v : Standing) (p : Piece) (o : Operation) → operation_of p.what ≡ o → p.range ≡ false
    → is_ready v p ≡ true → ready_by o false v.commits (lacks_zone v p) ≡ true
ready_of v p o is range ready =
    ap₂ (λ (x : Operation) (b : Bool). ready_by x b v.commits (lacks_zone v p)) (sym is) (sym range) ∙ ready

pub ready_idle : (v : PlainVolume) (p : Piece) → p.range ≡ false → operation_of p.what ≢ Reading
    → is_ready (standing_of v no_edges) p ≡ true → v.phase ≡ Idle
ready_idle v p range other ready =
    by (operation_of p.what) (λ is. other is)
    (ready_of (standing_of v no_edges) p (operation_of p.what) refl range ready)
  where
    idle : (rest : Bool) → (not (standing_of v no_edges).commits && rest) ≡ true → v.phase ≡ Idle
    idle rest both = (idle_decides v.phase).0 (and_parts (not (standing_of v no_edges).commits) rest both).0

    by : (o : Operation) → o ≢ Reading
        → ready_by o false (standing_of v no_edges).commits (lacks_zone (standing_of v no_edges) p) ≡ true → v.phase ≡ Idle
    by Reading off is = absurd (off refl)
    by Writing off is = idle (not (lacks_zone (standing_of v no_edges) p)) is
    by Discarding off is = idle true is
    by Flushing off is = idle false is

pub ready_zone : (v : PlainVolume) (p : Piece) → p.range ≡ false → operation_of p.what ≡ Writing
    → is_ready (standing_of v no_edges) p ≡ true → lacks_zone (standing_of v no_edges) p ≡ false
ready_zone v p range writing ready =
    not-true (lacks_zone (standing_of v no_edges) p)
    (and_parts (not (standing_of v no_edges).commits) (not (lacks_zone (standing_of v no_edges) p))
    (ready_of (standing_of v no_edges) p Writing writing range ready)).1

-- a write that is ready lacks no zone
pub ready_place : (v : PlainVolume) (p : Piece) → p.range ≡ false → operation_of p.what ≡ Writing
    → is_ready (standing_of v no_edges) p ≡ true → LacksZone v p.what → ⊥
ready_place v p range writing ready lacks =
    false≢true (sym (ready_zone v p range writing ready)
    ∙ sym (lacks_place v p None (ap is_writing writing) range tt lacks))
