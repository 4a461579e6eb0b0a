-- What the choice of a step tells of it: a piece that is served is its caller's first, ready, and in flight with no
-- other actor; and the flushes of a commit are the first pieces of different callers.
use Rattle.std.proofs.Common.{◌≡◌, ℕ, suc, ◌<◌, Bool, true, false, cond, ◌&&◌, ◌||◌, not, eqb, List, [], ◌∷◌}
use Rattle.std.proofs.Common.{length, get_or, find, slice_get, Option, Some, None, refl, sym, ap, ◌∙◌, inl, inr}
use Rattle.std.specs.List.{list_any}
use Rattle.std.proofs.lemmas.Bool.{false≢true, and_parts, and_from, or_from, cases_lt, eq-eqb, not-true, cases_Bool, cond-true, cond-false}
use Rattle.std.proofs.lemmas.Option.{cond_some, none-some, same_Some, slice_get-get_or, get_or_from_slice_get}
use Rattle.std.proofs.lemmas.List.{get_or_past}
use Rattle.zd_base.specs.declared.steps.Prefer.{Prefer}
use Rattle.zd_base.specs.declared.steps.Prefer.TheVariants.{Pieces, Commits, Jobs}
use Rattle.zd_base.specs.declared.steps.StepKind.{StepKind}
use Rattle.zd_model.specs.History.{Mark}
use Rattle.zd_model.specs.declared.requests.Piece.{Piece}
use Rattle.zd_steps.specs.NextStep.{by_preference, commit_step, first_serve, is_commit_due, is_job_due, job_step, may_work}
use Rattle.zd_steps.specs.NextStep.{next_step, or_else, piece_step}
use Rattle.zd_steps.specs.Queues.{HasEntered, IsQueue, MayServe, QueueState, first_of, run_of}
use Rattle.zd_steps.specs.Runs.{Run, Standing, flies, flight_of, has_flush, holds_back, is_eligible, is_entered}
use Rattle.zd_steps.specs.Runs.{chunk_of, is_flight_of, is_flight_on, is_held, is_over, is_ready, is_servable, is_wanted}
use Rattle.zd_steps.specs.declared.step.Step.{Step}
use Rattle.zd_steps.specs.declared.step.Step.TheVariants.{Serve, Commit, Begin, Work}
use Rattle.zd_steps.proofs.EligibleLaws.{eligible_first, same_chunk}
use Rattle.zd_steps.proofs.MemberLaws.{in-any, place-in}

-- what is found stands somewhere, and passes
found : {X : Type 0} (test : X → Bool) (xs : List X) (x : X) → find test xs ≡ Some x
    → (k : ℕ) × (slice_get xs k ≡ Some x) × (test x ≡ true)
found test [] x e = absurd (none-some x e)
found {X} test (y ∷ ys) x e = elim (cases_Bool (test y)) [
  | inl t ↦ (let is : y ≡ x = same_Some y x (sym (cond-true (test y) (Some y) (find test ys) t) ∙ e) in
      (0, ap Some is, ap test (sym is) ∙ t))
  | inr f ↦ (let rest = found test ys x (sym (cond-false (test y) (Some y) (find test ys) f) ∙ e) in (suc rest.0, rest.1, rest.2))
]

-- what an actor has in flight, as a place of the list
pub flight_at : (flights : List (Option Piece)) (actor : ℕ) (p : Piece) → get_or flights actor None ≡ Some p → slice_get flights actor ≡ Some (Some p)
flight_at flights actor p e = elim (cases_lt actor (length flights)) [
  | inl low ↦ (slice_get-get_or flights actor None low ∙ ap Some e)
  | inr high ↦ absurd (none-some p (sym (get_or_past flights actor None high) ∙ e))
]

-- only the class of pieces serves a piece
no_commit : (b : Bool) (p : Piece) → cond b (Some Commit) None ≡ Some (Serve p) → ⊥
no_commit true p e = cc
no_commit false p e = cc

no_begin : (b : Bool) (p : Piece) → cond b (Some Begin) None ≡ Some (Serve p) → ⊥
no_begin true p e = cc
no_begin false p e = cc

no_work : (b : Bool) (kind : StepKind) (p : Piece) → cond b (Some (Work kind)) None ≡ Some (Serve p) → ⊥
no_work true kind p e = cc
no_work false kind p e = cc

same_serve : (x p : Piece) → Serve x ≡ Serve p → x ≡ p
same_serve x p e = cc

module _ (r : Run) (v : Standing) where
  no_job : (job : Option StepKind) (p : Piece) → job_step r v job ≡ Some (Serve p) → ⊥
  no_job None p e = no_begin (is_job_due v (is_wanted r v)) p e
  no_job (Some kind) p e = no_work (may_work v kind) kind p e

  first_serves : (a b : Option Step) (p : Piece) → (b ≡ Some (Serve p) → ⊥) → or_else r v a b ≡ Some (Serve p) → a ≡ Some (Serve p)
  first_serves None b p out e = absurd (out e)
  first_serves (Some step) b p out e = e

  later_serves : (a b : Option Step) (p : Piece) → (a ≡ Some (Serve p) → ⊥) → or_else r v a b ≡ Some (Serve p) → b ≡ Some (Serve p)
  later_serves None b p out e = e
  later_serves (Some step) b p out e = absurd (out e)

  piece_serves : (prefer : Prefer) (a b c : Option Step) (p : Piece) → (b ≡ Some (Serve p) → ⊥) → (c ≡ Some (Serve p) → ⊥)
      → by_preference r v prefer a b c ≡ Some (Serve p) → a ≡ Some (Serve p)
  piece_serves Pieces a b c p nb nc e = first_serves a (or_else r v b c) p (λ f. nc (later_serves b c p nb f)) e
  piece_serves Commits a b c p nb nc e = later_serves c a p nc (later_serves b (or_else r v c a) p nb e)
  piece_serves Jobs a b c p nb nc e = later_serves b a p nb (later_serves c (or_else r v b a) p nc e)

  serves_piece : (actor : ℕ) (prefer : Prefer) (p : Piece) → next_step r v actor prefer ≡ Some (Serve p)
      → piece_step r v (flight_of r actor) ≡ Some (Serve p)
  serves_piece actor prefer p e =
      let steps : Option Step = by_preference r v prefer (piece_step r v (flight_of r actor)) (commit_step r v) (job_step r v v.job) in
      elim (cases_Bool (v.stopped || is_over r)) [
        | inl ends ↦ absurd (none-some (Serve p) (sym (cond-true (v.stopped || is_over r) None steps ends) ∙ e))
        | inr goes ↦ piece_serves prefer (piece_step r v (flight_of r actor)) (commit_step r v) (job_step r v v.job) p
            (no_commit (v.commits || is_commit_due v (has_flush r) (is_wanted r v)) p) (no_job v.job p)
            (sym (cond-false (v.stopped || is_over r) None steps goes) ∙ e)
      ]

  -- what the classes give is the next step, where the volume runs and pieces are left
  pub next_goes : (actor : ℕ) (prefer : Prefer) (o : Option Step) → v.stopped ≡ false → is_over r ≡ false
      → o ≡ by_preference r v prefer (piece_step r v (flight_of r actor)) (commit_step r v) (job_step r v v.job)
      → next_step r v actor prefer ≡ o
  next_goes actor prefer o runs left is =
      cond-false (v.stopped || is_over r) None (by_preference r v prefer (piece_step r v (flight_of r actor)) (commit_step r v) (job_step r v v.job))
      (or_from v.stopped (is_over r) runs left) ∙ sym is

  found_first : (o : Option Piece) (p : Piece) → first_serve r v o ≡ Some (Serve p) → o ≡ Some p
  found_first None p e = absurd (none-some (Serve p) e)
  found_first (Some x) p e = ap Some (same_serve x p (same_Some (Serve x) (Serve p) e))

  -- the class of pieces, as the code finds it
  pub own_ready : (actor : ℕ) (p : Piece) → slice_get r.flights actor ≡ Some (Some p) → is_ready v p ≡ true
      → Some (Serve p) ≡ piece_step r v (flight_of r actor)
  own_ready actor p at ready =
      sym (ap (piece_step r v) (get_or_from_slice_get r.flights actor (Some p) None at) ∙ cond-true (is_ready v p) (Some (Serve p)) None ready)

  pub own_waits : (actor : ℕ) (p : Piece) → slice_get r.flights actor ≡ Some (Some p) → is_ready v p ≡ false
      → None ≡ piece_step r v (flight_of r actor)
  own_waits actor p at waits =
      sym (ap (piece_step r v) (get_or_from_slice_get r.flights actor (Some p) None at) ∙ cond-false (is_ready v p) (Some (Serve p)) None waits)

  pub first_found : (actor : ℕ) (o : Option Piece) → slice_get r.flights actor ≡ Some None → o ≡ find (is_servable r v) r.pieces
      → first_serve r v o ≡ piece_step r v (flight_of r actor)
  first_found actor o at is =
      ap (first_serve r v) is ∙ sym (ap (piece_step r v) (get_or_from_slice_get r.flights actor None None at))

module _ (q : QueueState) (is : IsQueue q.chunk_blocks q.callers q.flights) (entered : List Mark) (before : HasEntered q.callers entered) (v : Standing) where
  abbrev r : Run
  r = run_of q entered

  -- a piece that is eligible is its caller's first, and no actor has its caller's piece in flight
  eligible_serves : (actor i : ℕ) (p : Piece) → slice_get q.callers.pieces i ≡ Some p → is_eligible r p ≡ true
      → slice_get q.flights actor ≡ Some None → MayServe q actor p
  eligible_serves actor i p at e free =
      let level = eligible_first q is entered before i p at e in
      let first : first_of q.callers p.caller ≡ Some p = ap (slice_get q.callers.pieces) (sym level) ∙ at in
      let all = and_parts (not (is_entered r p) && not (flies r p) && not (list_any (holds_back r p) q.callers.pieces)) (not (is_held r p)) e in
      let three = and_parts (not (is_entered r p) && not (flies r p)) (not (list_any (holds_back r p) q.callers.pieces)) all.0 in
      let two = and_parts (not (is_entered r p)) (not (flies r p)) three.0 in
      record {
        first = first;
        caller = λ a f at_a same. (
            let one : f ≡ p = same_Some f p (sym (is.flying.each a f at_a).first ∙ ap (first_of q.callers) same ∙ first) in
            absurd (false≢true (sym (not-true (flies r p) two.1) ∙ in-any (is_flight_of p) (Some f) q.flights (place-in (Some f) q.flights a at_a)
            (and_from (eqb f.request p.request) (eqb f.piece p.piece) (eq-eqb f.request p.request (ap (λ u. u.request) one)) (eq-eqb f.piece p.piece (ap (λ u. u.piece) one))))));
        chunk = λ a c f at_a on_f on_p. absurd (false≢true (sym (not-true (is_held r p) all.1)
            ∙ in-any (is_flight_on q.chunk_blocks (chunk_of q.chunk_blocks p)) (Some f) q.flights (place-in (Some f) q.flights a at_a)
            (same_chunk (chunk_of q.chunk_blocks p) (chunk_of q.chunk_blocks f) c on_p on_f)));
        only = λ f at_f. absurd (none-some f (same_Some None (Some f) (sym free ∙ at_f)));
      }

  -- so is what the actor has in flight
  flight_serves : (actor : ℕ) (p : Piece) → slice_get q.flights actor ≡ Some (Some p) → MayServe q actor p
  flight_serves actor p at = record {
    first = (is.flying.each actor p at).first;
    caller = λ a f at_a same. is.flying.callers a actor f p at_a at same;
    chunk = λ a c f at_a on_f on_p. is.flying.chunks a actor c f p at_a at on_f on_p;
    only = λ f at_f. same_Some f p (same_Some (Some f) (Some p) (sym at_f ∙ at));
  }

  by_flight : (actor : ℕ) (p : Piece) (o : Option Piece) → actor < length q.flights → get_or q.flights actor None ≡ o
      → piece_step r v o ≡ Some (Serve p) → MayServe q actor p × (is_ready v p ≡ true)
  by_flight actor p (Some x) inside at e =
      let parts = cond_some (is_ready v x) (Serve x) (Serve p) e in
      let one : x ≡ p = same_serve x p parts.1 in
      (flight_serves actor p (flight_at q.flights actor p (at ∙ ap Some one)), ap (is_ready v) (sym one) ∙ parts.0)
  by_flight actor p None inside at e =
      let there = found (is_servable r v) q.callers.pieces p (found_first r v (find (is_servable r v) q.callers.pieces) p e) in
      let tests = and_parts (is_eligible r p) (is_ready v p) there.2 in
      (eligible_serves actor there.0 p there.1 tests.0 (slice_get-get_or q.flights actor None inside ∙ ap Some at), tests.1)

  pub may_serve : (actor : ℕ) (prefer : Prefer) (p : Piece) → actor < length q.flights → next_step r v actor prefer ≡ Some (Serve p)
      → MayServe q actor p × (is_ready v p ≡ true)
  may_serve actor prefer p inside e = by_flight actor p (get_or q.flights actor None) inside refl (serves_piece r v actor prefer p e)
