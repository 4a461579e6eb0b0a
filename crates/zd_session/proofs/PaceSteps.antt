-- What the steps of a run by the first actor have in common: the run as far as it has come, the piece that is served,
-- and what a step leaves of the numbers.
use Rattle.std.proofs.Common.{◌≡◌, ℕ, ◌+◌, ◌<◌, ◌≤◌, Bool, true, false, not, ◌&&◌, ◌||◌, cond, eqb, List, [], ◌∷◌, length, map, find, slice_get, Option, Some, None, refl, sym, ap, ap₂, ◌∙◌, subst, arith}
use Rattle.std.specs.Prelude.{is_some, nat_le, slice_index}
use Rattle.zd_base.specs.Geometry.{Shape}
use Rattle.zd_base.specs.Layout.{device_blocks}
use Rattle.zd_base.specs.declared.layout.Layout.{Layout}
use Rattle.zd_base.specs.declared.steps.Prefer.TheVariants.{Pieces}
use Rattle.zd_disk.specs.Told.{next_count}
use Rattle.zd_disk.specs.View.{View}
use Rattle.zd_model.specs.History.{HistoryEntry, Mark, mark_of_entry}
use Rattle.zd_model.specs.Pieces.{pieces_of}
use Rattle.zd_model.specs.declared.requests.Piece.{Piece}
use Rattle.zd_steps.proofs.ChosenLaws.{may_serve}
use Rattle.zd_steps.proofs.MemberLaws.{In, place-in}
use Rattle.zd_steps.specs.NextStep.{first_serve, next_step, piece_step}
use Rattle.zd_steps.specs.Queues.{AreInOrder, head_of}
use Rattle.zd_steps.specs.Runs.{Run, flight_of, is_over, is_eligible, is_entered, is_ready, is_servable}
use Rattle.zd_steps.specs.declared.step.Step.{Step}
use Rattle.zd_steps.specs.declared.step.Step.TheVariants.{Serve}
use Rattle.zd_volume.specs.Volumes.{PlainVolume}
use Rattle.zd_routes.specs.declared.edges.Edges.{Edges}
use Rattle.zd_session.specs.LoneStates.{Begun, StandsSession, lone_run}
use Rattle.zd_session.specs.SessionSteps.{KeepsSession}
use Rattle.zd_session.specs.Sessions.{SessionView, edges_seen, next_seen, pieces_on, run_seen, run_with, standing_seen}
use Rattle.zd_session.specs.Standings.{is_under_way, needs_zone, standing_of, takes_zone}
use Rattle.zd_session.proofs.GoingLaws.{head_fresh}

-- THE NEXT COUNT is one more at most
pub count_most : (n : ℕ) → next_count n ≤ n + 1
count_most n = omega arith

pub count_least : (n : ℕ) → n ≤ next_count n
count_least n = omega arith

-- THE PIECES of a session stay
pub same_pieces : {D : Type 0} (s t : SessionView D) → KeepsSession s t
    → pieces_on t.volume.plain t.plan ≡ pieces_on s.volume.plain s.plan
same_pieces s t keeps =
    ap (pieces_on t.volume.plain) keeps.plan
    ∙ ap₂ (λ (g : Shape) (l : Layout). pieces_of g.zone_blocks (device_blocks g l) s.plan) keeps.geometry keeps.layout

-- where nothing is entered, and no actor begins or ends a piece, the run stays
pub same_seen : {D : Type 0} (s t : SessionView D) → KeepsSession s t → t.flights ≡ s.flights
    → t.volume.plain.history ≡ s.volume.plain.history → run_seen t ≡ run_seen s
same_seen s t keeps flights history =
    ap₂ (λ (z : ℕ) (ps : List Piece). record {
      chunk_blocks = z;
      pieces = ps;
      entered = map mark_of_entry t.volume.plain.history;
      flights = t.flights;
    }) (ap (λ (g : Shape). g.zone_blocks) keeps.geometry) (same_pieces s t keeps)
    ∙ ap₂ (λ (h : List HistoryEntry) (fs : List (Option Piece)). run_with (record s.volume.plain { history = h }) s.plan fs)
    history flights

-- THE PIECE THAT IS SERVED is ready, and isn't entered yet
pub record IsServed {D : Type 0} (s : SessionView D) (p : Piece) : Type 0 where
  pub there : In p (run_seen s).pieces
  pub fresh : is_entered (run_seen s) p ≡ false
  pub ready : is_ready (standing_seen s 0) p ≡ true
  pub only : (f : Piece) → slice_get s.flights 0 ≡ Some (Some f) → f ≡ p

module _ {D : Type 0} (look : D → View) (s : SessionView D) (stands : StandsSession look s) where
  abbrev marks : List Mark
  marks = map mark_of_entry s.volume.plain.history

  pub in_order : AreInOrder (run_seen s).pieces
  in_order = subst (λ (r : Run). AreInOrder r.pieces) stands.run stands.is_queue.script.order

  pub served : 0 < length s.flights → (p : Piece) → next_seen s 0 Pieces ≡ Some (Serve p) → IsServed s p
  served inside p next =
      let size : length stands.queue.flights ≡ length s.flights = ap (λ (r : Run). length r.flights) stands.run in
      let may = may_serve stands.queue stands.is_queue marks stands.entered (standing_seen s 0) 0 Pieces p
      (omega (arith, inside, size))
      (ap (λ (r : Run). next_step r (standing_seen s 0) 0 Pieces) stands.run ∙ next) in
      record {
        there = subst (λ (r : Run). In p r.pieces) stands.run
            (place-in p stands.queue.callers.pieces (head_of stands.queue.callers p.caller) may.0.first);
        fresh = ap (λ (r : Run). is_entered r p) (sym stands.run)
            ∙ head_fresh stands.queue marks p stands.is_queue stands.entered may.0.first;
        ready = may.1;
        only = λ f at. may.0.only f (ap (λ (r : Run). slice_get r.flights 0) stands.run ∙ at);
      }

-- READINESS depends on three numbers of a volume alone
module _ (v w : PlainVolume) (e f : Edges) (commits : is_under_way w.phase ≡ is_under_way v.phase)
    (free : (standing_of w f).free ≡ (standing_of v e).free) (needs : (p : Piece) → needs_zone w p ≡ needs_zone v p)
  where
    same_ready : (p : Piece) → is_ready (standing_of w f) p ≡ is_ready (standing_of v e) p
    same_ready p =
        ap (λ (b : Bool). is_ready (record (standing_of w f) { needs_zone = λ q. b }) p) (needs p)
        ∙ ap₂ (λ (b : Bool) (n : ℕ). is_ready (record (standing_of v e) { commits = b; free = n }) p) commits free

    same_find : {X : Type 0} (test other : X → Bool) (xs : List X) → ((x : X) → test x ≡ other x)
        → find test xs ≡ find other xs
    same_find test other [] same = refl
    same_find test other (x ∷ xs) same =
        ap₂ (λ (b : Bool) (o : Option _). cond b (Some x) o) (same x) (same_find test other xs same)

    -- so does the step of a piece
    pub same_piece : (r : Run) (flight : Option Piece)
        → piece_step r (standing_of w f) flight ≡ piece_step r (standing_of v e) flight
    same_piece r (Some p) = ap (λ (b : Bool). cond b (Some (Serve p)) None) (same_ready p)
    same_piece r None =
        ap (first_step r) (same_find (is_servable r (standing_of w f)) (is_servable r (standing_of v e)) r.pieces
        (λ p. ap (λ (b : Bool). is_eligible r p && b) (same_ready p)))
      where
        first_step : Run → Option Piece → Option Step
        first_step r o = first_serve r (standing_of v e) o

-- so does what waits for a zone, where the pointers of the chunks' own zones stay
pub same_takes : (g : Shape) (old new : List ℕ) (first : ℕ) (zone buffer : Option ℕ)
    → ((z : ℕ) → zone ≡ Some z → buffer ≡ None → slice_index new z ≡ slice_index old z)
    → takes_zone g new first zone buffer ≡ takes_zone g old first zone buffer
same_takes g old new first None buffer same = refl
same_takes g old new first (Some z) (Some b) same = refl
same_takes g old new first (Some z) None same =
    ap (λ (k : ℕ). nat_le g.conv z && not (eqb k first)) (same z refl refl)

-- A RUN IS READY as before, where it stays and its pieces are as ready
pub ready_stays : {D : Type 0} (s t : SessionView D) (n m : Begun) → run_seen t ≡ run_seen s
    → is_under_way t.volume.plain.phase ≡ is_under_way s.volume.plain.phase
    → (standing_seen t 0).free ≡ (standing_seen s 0).free
    → ((p : Piece) → needs_zone t.volume.plain p ≡ needs_zone s.volume.plain p)
    → (lone_run t m).is_ready ≡ (lone_run s n).is_ready
ready_stays s t n m run commits free needs =
    ap (λ (r : Run). is_over r || is_some (piece_step r (standing_seen t 0) (flight_of r 0))) run
    ∙ ap (λ (o : Option Step). is_over (run_seen s) || is_some o)
    (same_piece s.volume.plain t.volume.plain (edges_seen s.actors 0) (edges_seen t.actors 0) commits free needs
    (run_seen s) (flight_of (run_seen s) 0))
