-- Where nothing is ready for a lone actor and no commit is under way, a flush waits or a zone is wanted.
use Rattle.std.proofs.Common.{◌≡◌, ◌⊎◌, inl, inr, ℕ, zero, suc, ◌≤◌, Bool, true, false, cond, ◌&&◌, ◌||◌, not, eqb}
use Rattle.std.proofs.Common.{List, [], ◌∷◌, get_or, find, slice_get, Option, Some, None, refl, sym, ap, ◌∙◌}
use Rattle.std.proofs.Common.{true≢false, arith}
use Rattle.std.specs.List.{list_all}
use Rattle.std.proofs.lemmas.Bool.{and_from, and_parts, cases_Bool, cases_lt, cond-false, cond-true, eq-eqb, eqb-true}
use Rattle.std.proofs.lemmas.Bool.{false_from_ne_true, false≢true, not_from_false, or_left, or_right}
use Rattle.std.proofs.lemmas.Option.{none-some, same_Some, slice_get-get_or, slice_get_within, get_or_from_slice_get}
use Rattle.zd_model.specs.History.{Mark}
use Rattle.zd_model.specs.Requests.{Operation, operation_of}
use Rattle.zd_model.specs.Requests.Operation.{Reading, Writing, Discarding, Flushing}
use Rattle.zd_model.specs.declared.requests.Piece.{Piece}
use Rattle.zd_steps.specs.NextStep.{first_serve, piece_step}
use Rattle.zd_steps.specs.Queues.{Callers, HasEntered, IsQueue, QueueState, head_of, run_of}
use Rattle.zd_steps.specs.Runs.{Run, Standing, chunk_of, flies, flight_of, flushes, has_flush, is_discarding}
use Rattle.zd_steps.specs.Runs.{is_eligible}
use Rattle.zd_steps.specs.Runs.{is_eligible_flush, is_entered, is_flight_of, is_flight_on, is_flushing, is_held}
use Rattle.zd_steps.specs.Runs.{is_over}
use Rattle.zd_steps.specs.Runs.{is_reading, is_ready, is_servable, is_wanted, is_writing, lacks_zone, wants_zone}
use Rattle.zd_steps.specs.declared.step.Step.TheVariants.{Serve}
use Rattle.zd_steps.proofs.ChosenLaws.{flight_at}
use Rattle.zd_steps.proofs.EligibleLaws.{first_eligible}
use Rattle.zd_steps.proofs.EnteredLaws.{entered_decides}
use Rattle.zd_steps.proofs.LinkLaws.{nobody}
use Rattle.zd_steps.proofs.MemberLaws.{any-in, in-any, in-place, place-in}
use Rattle.zd_progress.specs.Alone.{FliesAlone}
use Rattle.zd_progress.proofs.OnConventional.{cases_option}

-- an element that fails, where not all pass
fails : {X : Type 0} (test : X → Bool) (xs : List X) → list_all test xs ≡ false
    → (k : ℕ) × (x : X) × (slice_get xs k ≡ Some x) × (test x ≡ false)
fails test [] none = absurd (true≢false none)
fails test (x ∷ xs) none = elim (cases_Bool (test x)) [
  | inl ok ↦ (let rest = fails test xs (sym (ap (λ b. b && list_all test xs) ok) ∙ none) in
      (suc rest.0, rest.1, rest.2, rest.3))
  | inr ng ↦ (zero, x, refl, ng)
]

-- nothing passes where nothing is found
first_fails : {X : Type 0} (test : X → Bool) (x : X) (xs : List X) → find test (x ∷ xs) ≡ None
    → (test x ≡ false) × (find test xs ≡ None)
first_fails test x xs none = elim (cases_Bool (test x)) [
  | inl ok ↦ absurd (none-some x (sym none ∙ cond-true (test x) (Some x) (find test xs) ok))
  | inr ng ↦ (ng, sym (cond-false (test x) (Some x) (find test xs) ng) ∙ none)
]

not_found : {X : Type 0} (test : X → Bool) (xs : List X) (k : ℕ) (x : X) → find test xs ≡ None
    → slice_get xs k ≡ Some x → test x ≡ false
not_found test [] k x none at = absurd (none-some x at)
not_found test (y ∷ ys) zero x none at = ap test (sym (same_Some y x at)) ∙ (first_fails test y ys none).0
not_found test (y ∷ ys) (suc k) x none at = not_found test ys k x (first_fails test y ys none).1 at

-- a piece that isn't ready outside a commit is a flush, or a write that lacks a zone
waits_by : (o : Operation) (range commits lacks : Bool) → commits ≡ false
    → (is_reading o || range || (not commits && (is_discarding o || (is_writing o && not lacks)))) ≡ false
    → (is_flushing o ≡ true) ⊎ (lacks ≡ true)
waits_by Reading range commits lacks idle off = absurd (true≢false off)
waits_by Flushing range commits lacks idle off = inl refl
waits_by Discarding true commits lacks idle off = absurd (true≢false off)
waits_by Discarding false true lacks idle off = absurd (true≢false idle)
waits_by Discarding false false lacks idle off = absurd (true≢false off)
waits_by Writing range commits true idle off = inr refl
waits_by Writing true commits false idle off = absurd (true≢false off)
waits_by Writing false true false idle off = absurd (true≢false idle)
waits_by Writing false false false idle off = absurd (true≢false off)

moves_no_flush : (o : Operation) → (is_reading o || is_writing o) ≡ true → is_flushing o ≡ true → ⊥
moves_no_flush Reading moves is = false≢true is
moves_no_flush Writing moves is = false≢true is
moves_no_flush Discarding moves is = false≢true is
moves_no_flush Flushing moves is = false≢true moves

waits : (v : Standing) (p : Piece) → v.commits ≡ false → is_ready v p ≡ false
    → (flushes p ≡ true) ⊎ (lacks_zone v p ≡ true)
waits v p = waits_by (operation_of p.what) p.range v.commits (lacks_zone v p)

not_served : (o : Option Piece) (r : Run) (v : Standing) → first_serve r v o ≡ None → o ≡ None
not_served None r v none = refl
not_served (Some p) r v none = absurd (none-some (Serve p) (sym none))

serves_or_none : (b : Bool) (p : Piece) → cond b (Some (Serve p)) None ≡ None → b ≡ false
serves_or_none true p none = absurd (none-some (Serve p) (sym none))
serves_or_none false p none = refl

-- a zone is wanted only where none is free
pub none_free : (r : Run) (v : Standing) → is_wanted r v ≡ true → v.free ≡ 0
none_free r v wanted =
    let found = any-in (wants_zone r v) r.pieces wanted in
    let p : Piece = found.0 in
    let lacks : lacks_zone v p ≡ true = (and_parts (is_eligible r p || flies r p) (lacks_zone v p) found.2).1 in
    eqb-true v.free 0
    (and_parts (is_writing (operation_of p.what) && not p.range && v.needs_zone p) (eqb v.free 0) lacks).1

module _ (q : QueueState) (is : IsQueue q.chunk_blocks q.callers q.flights) (entered : List Mark)
    (before : HasEntered q.callers entered) (v : Standing) (actor : ℕ) (alone : FliesAlone q.flights actor) where
  abbrev h : Callers
  h = q.callers

  abbrev r : Run
  r = run_of q entered

  wants : (k : ℕ) (p : Piece) → slice_get h.pieces k ≡ Some p → (is_eligible r p || flies r p) ≡ true
      → lacks_zone v p ≡ true → is_wanted r v ≡ true
  wants k p at there lacks = in-any (wants_zone r v) p h.pieces (place-in p h.pieces k at)
      (and_from (is_eligible r p || flies r p) (lacks_zone v p) there lacks)

  -- by the piece that the actor has in flight
  own : (p : Piece) → slice_get q.flights actor ≡ Some (Some p) → v.commits ≡ false → is_ready v p ≡ false
      → is_wanted r v ≡ true
  own p at idle off = elim (waits v p idle off) [
    | inl flush ↦ absurd (moves_no_flush (operation_of p.what) (is.flying.each actor p at).moves flush)
    | inr lacks ↦ wants (head_of h p.caller) p (is.flying.each actor p at).first
        (or_right (is_eligible r p) (flies r p)
        (in-any (is_flight_of p) (Some p) q.flights (place-in (Some p) q.flights actor at)
        (and_from (eqb p.request p.request) (eqb p.piece p.piece) (eq-eqb p.request p.request refl)
        (eq-eqb p.piece p.piece refl))))
        lacks
  ]

  -- else nothing is in flight
  module _ (none : get_or q.flights actor None ≡ None) where
    not_on : (p : Piece) (f : Option Piece) (k : ℕ) → slice_get q.flights k ≡ Some f
        → is_flight_on q.chunk_blocks (chunk_of q.chunk_blocks p) f ≡ true → ⊥
    not_on p None k at on = false≢true on
    not_on p (Some x) k at on =
        let mine : slice_get q.flights actor ≡ Some (Some x) =
        ap (slice_get q.flights) (sym (alone k x at)) ∙ at in
        none-some x (sym none ∙ get_or_from_slice_get q.flights actor (Some x) None mine)

    not_held : (p : Piece) → is_held r p ≡ false
    not_held p = false_from_ne_true (is_held r p) (λ held.
        let found = any-in (is_flight_on q.chunk_blocks (chunk_of q.chunk_blocks p)) q.flights held in
        let place = in-place found.0 q.flights found.1 in
        not_on p found.0 place.0 place.1 found.2)

    -- and the first piece of some caller is eligible
    eligible : is_over r ≡ false → (k : ℕ) × (p : Piece) × (slice_get h.pieces k ≡ Some p) × (is_eligible r p ≡ true)
    eligible left =
        let out = fails (is_entered r) h.pieces left in
        let caller : ℕ = (out.1).caller in
        let inside = slice_get_within h.pieces out.0 out.1 out.2 in
        let head : head_of h caller ≤ out.0 = elim (cases_lt out.0 (head_of h caller)) [
          | inl low ↦ absurd (false≢true (sym out.3
              ∙ (entered_decides h entered is.script.order before out.0 out.1 out.2).1 low))
          | inr high ↦ high
        ] in
        let p : Piece = get_or h.pieces (head_of h caller) nobody in
        let at : slice_get h.pieces (head_of h caller) ≡ Some p =
        slice_get-get_or h.pieces (head_of h caller) nobody (omega (arith, head, inside)) in
        let same : head_of h caller ≡ head_of h p.caller =
        ap (head_of h) (sym (is.heads.own caller p at)) in (
          head_of h caller,
          p,
          at,
          first_eligible q is entered before (head_of h caller) p at same ∙ not_from_false (is_held r p) (not_held p),
        )

    unheld : is_over r ≡ false → v.commits ≡ false → find (is_servable r v) h.pieces ≡ None → has_flush r ≡ false
        → is_wanted r v ≡ true
    unheld left idle unserved no_flush =
        let some = eligible left in
        let p : Piece = some.1 in
        let off : is_ready v p ≡ false = false_from_ne_true (is_ready v p) (λ ready.
        false≢true (sym (not_found (is_servable r v) h.pieces some.0 p unserved some.2)
        ∙ and_from (is_eligible r p) (is_ready v p) some.3 ready)) in
        elim (waits v p idle off) [
          | inl flush ↦ absurd (false≢true (sym no_flush
              ∙ in-any (is_eligible_flush r) p h.pieces (place-in p h.pieces some.0 some.2)
              (and_from (flushes p) (is_eligible r p) flush some.3)))
          | inr lacks ↦ wants some.0 p some.2 (or_left (is_eligible r p) (flies r p) some.3) lacks
        ]

  pub wanted : is_over r ≡ false → v.commits ≡ false → piece_step r v (flight_of r actor) ≡ None
      → has_flush r ≡ false → is_wanted r v ≡ true
  wanted left idle unserved no_flush = elim (cases_option (get_or q.flights actor None)) [
    | inl none ↦ unheld none left idle
        (not_served (find (is_servable r v) h.pieces) r v (sym (ap (piece_step r v) none) ∙ unserved)) no_flush
    | inr (p, flight) ↦ own p (flight_at q.flights actor p flight) idle
        (serves_or_none (is_ready v p) p (sym (ap (piece_step r v) flight) ∙ unserved))
  ]
