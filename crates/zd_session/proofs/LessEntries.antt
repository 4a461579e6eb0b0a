-- How many pieces are to be entered, as the steps of a session enter them.
use Rattle.std.proofs.Common.{◌≡◌, ℕ, ◌<◌, Bool, true, false, List, [], ◌∷◌, ◌++◌, length, map, filter}
use Rattle.std.proofs.Common.{Some, refl, sym, ap, ap₂, ◌∙◌, subst, arith}
use Rattle.std.proofs.lemmas.Bool.{cond-false, or_parts}
use Rattle.std.proofs.lemmas.List.{append-nil}
use Rattle.std.specs.List.{list_any}
use Rattle.zd_base.specs.Geometry.{Shape}
use Rattle.zd_base.specs.Layout.{device_blocks}
use Rattle.zd_base.specs.declared.layout.Layout.{Layout}
use Rattle.zd_base.specs.declared.steps.Prefer.TheVariants.{Pieces}
use Rattle.zd_disk.specs.View.{View}
use Rattle.zd_model.specs.History.{HistoryEntry, Mark, mark_of_entry, mark_of_piece}
use Rattle.zd_model.specs.Pieces.{pieces_of}
use Rattle.zd_model.specs.Plain.{Answer}
use Rattle.zd_model.specs.declared.requests.Piece.{Piece}
use Rattle.zd_steps.specs.NextStep.{next_step}
use Rattle.zd_steps.specs.Queues.{MayServe, head_of}
use Rattle.zd_steps.specs.Runs.{Run, eligible_flushes, has_flush, is_eligible_flush, is_entered}
use Rattle.zd_steps.specs.declared.step.Step.TheVariants.{Serve}
use Rattle.zd_steps.proofs.ChosenLaws.{may_serve}
use Rattle.zd_steps.proofs.MemberLaws.{In, any-in, filter-in, place-in}
use Rattle.zd_volume.specs.Commits.{flush_entries}
use Rattle.zd_session.specs.LoneStates.{StandsSession}
use Rattle.zd_session.specs.SessionSteps.{KeepsSession}
use Rattle.zd_session.specs.Sessions.{SessionView, entries_to_come, next_seen, pieces_on, run_seen}
use Rattle.zd_session.specs.Sessions.{standing_seen}
use Rattle.zd_session.proofs.CountLaws.{flushes_less_to_come, one_less_to_come, same_to_come}
use Rattle.zd_session.proofs.GoingLaws.{head_fresh}

-- a commit for which a flush waits has one to enter, and another one none
some_in : {X : Type 0} (x : X) (xs : List X) → In x xs → 0 < length xs
some_in x [] is = absurd is
some_in x (y ∷ xs) is = omega arith

none_kept : {X : Type 0} (test : X → Bool) (xs : List X) → list_any test xs ≡ false → filter test xs ≡ []
none_kept test [] none = refl
none_kept test (x ∷ xs) none =
    let both = or_parts (test x) (list_any test xs) none in
    cond-false (test x) (x ∷ filter test xs) (filter test xs) both.0 ∙ none_kept test xs both.1

some_flush : (r : Run) → has_flush r ≡ true → 0 < length (eligible_flushes r)
some_flush r waits =
    let one = any-in (is_eligible_flush r) r.pieces waits in
    some_in one.0 (eligible_flushes r) (filter-in (is_eligible_flush r) one.0 r.pieces one.1 one.2)

pub none_flushed : (r : Run) (reply : Answer) (at : ℕ) (h : List HistoryEntry) → has_flush r ≡ false
    → h ++ flush_entries reply at (eligible_flushes r) ≡ h
none_flushed r reply at h none =
    ap (λ (list : List Piece). h ++ flush_entries reply at list) (none_kept (is_eligible_flush r) r.pieces none)
    ∙ append-nil h

module _ {D : Type 0} (look : D → View) (s : SessionView D) (stands : StandsSession look s) where
  abbrev marks : List Mark
  marks = map mark_of_entry s.volume.plain.history

  -- A PIECE THAT IS SERVED is its caller's first
  pub chosen_serves : 0 < length s.flights → (p : Piece) → next_seen s 0 Pieces ≡ Some (Serve p)
      → MayServe stands.queue 0 p
  chosen_serves some p is =
      (may_serve stands.queue stands.is_queue marks stands.entered (standing_seen s 0) 0 Pieces p
      (let same = ap (λ (r : Run). length r.flights) stands.run in omega (arith, some, same))
      (subst (λ (r : Run). next_step r (standing_seen s 0) 0 Pieces ≡ Some (Serve p)) (sym stands.run) is)).0

  module _ (t : SessionView D) (keeps : KeepsSession s t) where
    same_pieces : (run_seen t).pieces ≡ (run_seen s).pieces
    same_pieces =
        ap₂ (λ (g : Shape) (l : Layout). pieces_of g.zone_blocks (device_blocks g l) t.plan) keeps.geometry keeps.layout
        ∙ ap (pieces_on s.volume.plain) keeps.plan

    -- NOTHING IS ENTERED
    pub come_same : t.volume.plain.history ≡ s.volume.plain.history
        → entries_to_come (run_seen t) ≡ entries_to_come (run_seen s)
    come_same history =
        same_to_come (run_seen s) (run_seen t) same_pieces (ap (map mark_of_entry) history)

    -- A PIECE IS ENTERED that may be served
    pub come_one : (p : Piece) → MayServe stands.queue 0 p
        → map mark_of_entry t.volume.plain.history ≡ map mark_of_entry s.volume.plain.history ++ mark_of_piece p ∷ []
        → entries_to_come (run_seen t) < entries_to_come (run_seen s)
    come_one p serve entered =
        let there : In p (run_seen s).pieces =
        subst (λ (r : Run). In p r.pieces) stands.run
        (place-in p stands.queue.callers.pieces (head_of stands.queue.callers p.caller) serve.first) in
        let fresh : is_entered (run_seen s) p ≡ false =
        subst (λ (r : Run). is_entered r p ≡ false) stands.run
        (head_fresh stands.queue marks p stands.is_queue stands.entered serve.first) in
        let less =
        one_less_to_come (run_seen s) (run_seen t) (mark_of_piece p ∷ []) same_pieces entered p there fresh refl in
        omega (arith, less)

    -- THE FLUSHES OF A COMMIT are, of which one waits
    pub come_flushes : has_flush (run_seen s) ≡ true
        → map mark_of_entry t.volume.plain.history
        ≡ map mark_of_entry s.volume.plain.history ++ map mark_of_piece (eligible_flushes (run_seen s))
        → entries_to_come (run_seen t) < entries_to_come (run_seen s)
    come_flushes waits entered =
        let less = flushes_less_to_come (run_seen s) (run_seen t) (map mark_of_piece (eligible_flushes (run_seen s)))
        same_pieces entered refl in
        let some = some_flush (run_seen s) waits in
        omega (arith, less, some)
