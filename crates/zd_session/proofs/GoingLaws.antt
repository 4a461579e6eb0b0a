-- What is always true of a session is so after each step.
use Rattle.std.proofs.Common.{◌≡◌, ℕ, ◌+◌, ◌*◌, ◌<◌, ◌≤◌, Bool, true, false, List, [], ◌∷◌, ◌++◌, length, map, slice_get, Option, Some, None, refl, sym, ap, ◌∙◌, subst, arith}
use Rattle.std.proofs.lemmas.Bool.{false_from_ne_true}
use Rattle.zd_base.specs.Geometry.{Shape}
use Rattle.zd_base.specs.declared.layout.Layout.{Layout}
use Rattle.zd_model.specs.History.{Mark, mark_of_entry, mark_of_piece}
use Rattle.zd_model.specs.Image.{Image}
use Rattle.zd_model.specs.Plain.{ends_past}
use Rattle.zd_model.specs.Requests.{Operation, operation_of}
use Rattle.zd_model.specs.Requests.Operation.{Reading, Writing, Discarding, Flushing}
use Rattle.zd_model.specs.Room.{ListWithRoom}
use Rattle.zd_model.specs.declared.requests.Piece.{Piece}
use Rattle.zd_volume.specs.Discards.{chunk_touched, range_end}
use Rattle.zd_volume.specs.Volumes.{PlainVolume}
use Rattle.zd_steps.specs.Queues.{Callers, EntersFlushes, EntersPiece, HasEntered, IsQueue, MayServe, QueueState, first_of, head_of, run_of}
use Rattle.zd_steps.specs.Runs.{eligible_flushes, is_entered}
use Rattle.zd_steps.proofs.EnteredLaws.{entered_decides}
use Rattle.zd_steps.proofs.MemberLaws.{place-in}
use Rattle.zd_session.specs.Sessions.{AreActors, AreReplies, CanServe, CanServeBy, CanServeIn, IsProgress, entries_to_come}
use Rattle.zd_session.specs.declared.actor.Actor.{Actor}
use Rattle.zd_session.proofs.CountLaws.{flushes_less_to_come, flushes_to_come, one_less_to_come, same_to_come, some_to_come}
use Rattle.zd_session.proofs.HeldLaws.{device_stays, piece_stays, write_stays}
use Rattle.zd_session.proofs.SparedLaws.{Spares}

-- what can be served depends on the device alone
module _ (told : Option Image) (Touched : ℕ → Type 0) (v w : PlainVolume) (spared : Spares told Touched v w)
    (some : 0 < v.geometry.zone_blocks) where
  can_in : (p : Piece) (o : Operation) → CanServeIn v p o → CanServeIn w p o
  can_in p Reading can = piece_stays told Touched v w spared some p can
  can_in p Writing can = write_stays told Touched v w spared some p.what can
  can_in p Discarding can = record {
    discards = can.discards;
    inside = device_stays told Touched v w spared some (λ (g : Shape) (l : Layout). range_end g.zone_blocks p.what ≤ g.zone_blocks) can.inside;
    there = device_stays told Touched v w spared some (λ (g : Shape) (l : Layout). chunk_touched g.zone_blocks p.what < l.chunks) can.there;
  }
  can_in p Flushing can = tt

  can_by : (p : Piece) (b : Bool) → CanServeBy v p b → CanServeBy w p b
  can_by p true can = device_stays told Touched v w spared some (λ (g : Shape) (l : Layout). ends_past (l.chunks * g.zone_blocks * 8) p.what ≡ true) can
  can_by p false can = can_in p (operation_of p.what) can

  pub can_stays : (p : Piece) → CanServe v p → CanServe w p
  can_stays p can = can_by p p.range can

-- a piece at its caller's head is to be entered
pub head_fresh : (q : QueueState) (marks : List Mark) (p : Piece) → IsQueue q.chunk_blocks q.callers q.flights
    → HasEntered q.callers marks → first_of q.callers p.caller ≡ Some p → is_entered (run_of q marks) p ≡ false
head_fresh q marks p sound entered first =
    false_from_ne_true (is_entered (run_of q marks) p) (λ is.
    let low = (entered_decides q.callers marks sound.script.order entered (head_of q.callers p.caller) p first).0 is in
    omega (arith, low))

module _ (told : Option Image) (v w : PlainVolume) (spare later room : ℕ) (q new : QueueState) (actors next : List Actor)
    (replies left : List (Option (ListWithRoom ℕ))) (going : IsProgress v spare room told q actors replies)
    (runs : v.stopped ≡ None) (some : 0 < v.geometry.zone_blocks) (Touched : ℕ → Type 0) (spared : Spares told Touched v w)
    (pieces : new.callers.pieces ≡ q.callers.pieces) (blocks : new.chunk_blocks ≡ q.chunk_blocks) where
  -- all that depends on the device and the pieces alone
  progress_with : HasEntered new.callers (map mark_of_entry w.history)
      → (w.stopped ≡ None → entries_to_come (run_of new (map mark_of_entry w.history)) ≤ later)
      → AreActors w told new.flights next
      → AreReplies new.callers new.flights left → IsProgress w later room told new next left
  progress_with entered come holds space = record {
    chunks = blocks ∙ going.chunks ∙ sym (ap (λ (g : Shape). g.zone_blocks) spared.geometry);
    can = λ i p at. can_stays told Touched v w spared some p (going.can i p (sym (ap (λ (ps : List Piece). slice_get ps i) pieces) ∙ at));
    entered = entered;
    spare_entries = come;
    room_for = λ i p at. going.room_for i p (sym (ap (λ (ps : List Piece). slice_get ps i) pieces) ∙ at);
    holds = holds;
    space = space;
  }

  -- the same are entered
  pub progress_same : new.callers ≡ q.callers → map mark_of_entry w.history ≡ map mark_of_entry v.history
      → (w.stopped ≡ None → spare ≤ later) → AreActors w told new.flights next → AreReplies new.callers new.flights left
      → IsProgress w later room told new next left
  progress_same callers marks enough holds space =
      progress_with
      (subst (λ (h : Callers). HasEntered h (map mark_of_entry w.history)) (sym callers)
      (subst (λ (ms : List Mark). HasEntered q.callers ms) (sym marks) going.entered))
      (λ goes_on.
      let same = same_to_come (run_of q (map mark_of_entry v.history)) (run_of new (map mark_of_entry w.history)) pieces marks in
      let was = going.spare_entries runs in
      let fits = enough goes_on in
      omega (arith, same, was, fits))
      holds space

  -- a piece is entered
  pub progress_enter : (actor : ℕ) (p : Piece) → IsQueue q.chunk_blocks q.callers q.flights → MayServe q actor p
      → EntersPiece q new actor p → map mark_of_entry w.history ≡ map mark_of_entry v.history ++ mark_of_piece p ∷ []
      → spare ≤ later + 1 → AreActors w told new.flights next → AreReplies new.callers new.flights left
      → IsProgress w later room told new next left
  progress_enter actor p sound serve enters marks enough holds space =
      progress_with
      (subst (λ (ms : List Mark). HasEntered new.callers ms) (sym marks) (enters.entered (map mark_of_entry v.history) going.entered))
      (λ goes_on.
      let less = one_less_to_come (run_of q (map mark_of_entry v.history)) (run_of new (map mark_of_entry w.history))
      (mark_of_piece p ∷ []) pieces marks p
      (place-in p q.callers.pieces (head_of q.callers p.caller) serve.first)
      (head_fresh q (map mark_of_entry v.history) p sound going.entered serve.first) refl in
      let was = going.spare_entries runs in omega (arith, less, was, enough))
      holds space

  -- the flushes of a commit are entered
  pub progress_flush : (list : List Piece) → list ≡ eligible_flushes (run_of q (map mark_of_entry v.history))
      → EntersFlushes q new list → map mark_of_entry w.history ≡ map mark_of_entry v.history ++ map mark_of_piece list
      → spare ≤ later + length list → AreActors w told new.flights next → AreReplies new.callers new.flights left
      → IsProgress w later room told new next left
  progress_flush list is enters marks enough holds space =
      progress_with
      (subst (λ (ms : List Mark). HasEntered new.callers ms) (sym marks) (enters.entered (map mark_of_entry v.history) going.entered))
      (λ goes_on.
      let less = flushes_less_to_come (run_of q (map mark_of_entry v.history)) (run_of new (map mark_of_entry w.history))
      (map mark_of_piece list) pieces marks (ap (map mark_of_piece) is) in
      let count = ap (λ (ps : List Piece). length ps) is in
      let was = going.spare_entries runs in omega (arith, less, was, enough, count))
      holds space

-- there is room for an entry of a piece at its caller's head, and for the flushes of a commit
module _ (told : Option Image) (v : PlainVolume) (spare room : ℕ) (q : QueueState) (actors : List Actor)
    (replies : List (Option (ListWithRoom ℕ))) (going : IsProgress v spare room told q actors replies)
    (runs : v.stopped ≡ None) where
  pub entry_fits : (p : Piece) → IsQueue q.chunk_blocks q.callers q.flights → first_of q.callers p.caller ≡ Some p
      → 0 < spare
  entry_fits p sound first =
      let one = some_to_come (run_of q (map mark_of_entry v.history)) p
      (place-in p q.callers.pieces (head_of q.callers p.caller) first)
      (head_fresh q (map mark_of_entry v.history) p sound going.entered first) in
      let all = going.spare_entries runs in
      omega (arith, one, all)

  pub flushes_fit : (list : List Piece) → list ≡ eligible_flushes (run_of q (map mark_of_entry v.history))
      → length list ≤ spare
  flushes_fit list is =
      let all = flushes_to_come (run_of q (map mark_of_entry v.history)) in
      let count = ap (λ (ps : List Piece). length ps) is in
      let fits = going.spare_entries runs in
      omega (arith, all, count, fits)

  pub can_first : (p : Piece) → first_of q.callers p.caller ≡ Some p → CanServe v p
  can_first p first = going.can (head_of q.callers p.caller) p first
