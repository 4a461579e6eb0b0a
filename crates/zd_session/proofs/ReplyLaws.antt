-- The space for replies, as reads are taken up, pieces are entered and callers go on.
use Rattle.std.proofs.Common.{◌≡◌, ◌≢◌, ◌⊎◌, inl, inr, ℕ, zero, suc, ◌*◌, ◌<◌, ◌≤◌, false, List, [], ◌∷◌, length, set, slice_get, Option, Some, None, refl, sym, ap, ◌∙◌, subst, arith}
use Rattle.std.proofs.lemmas.Bool.{cases_eq}
use Rattle.std.proofs.lemmas.List.{length-set}
use Rattle.std.proofs.lemmas.Option.{same_Some}
use Rattle.zd_model.specs.Requests.{operation_of, sector_count}
use Rattle.zd_model.specs.Requests.Operation.{Reading}
use Rattle.zd_model.specs.Room.{ListWithRoom}
use Rattle.zd_model.specs.declared.requests.Piece.{Piece}
use Rattle.zd_steps.specs.Queues.{EntersFlushes, EntersPiece, MayServe, QueueState, head_of}
use Rattle.zd_session.specs.Sessions.{AreReplies, HasNoneInFlight, HasSpace}

abbrev Replies : Type 0
Replies = List (Option (ListWithRoom ℕ))

-- what stands at other places stays
pub set_other : {X : Type 0} (xs : List X) (a b : ℕ) (x : X) → b ≢ a → slice_get (set xs a x) b ≡ slice_get xs b
set_other [] a b x off = refl
set_other (y ∷ xs) zero zero x off = absurd (off refl)
set_other (y ∷ xs) zero (suc b) x off = refl
set_other (y ∷ xs) (suc a) zero x off = refl
set_other (y ∷ xs) (suc a) (suc b) x off = set_other xs a b x (λ same. off (ap suc same))

pub set_here : {X : Type 0} (xs : List X) (a : ℕ) (x : X) → a < length xs → slice_get (set xs a x) a ≡ Some x
set_here [] a x low = absurd (omega (arith, low))
set_here (y ∷ xs) zero x low = refl
set_here (y ∷ xs) (suc a) x low = set_here xs a x (omega (arith, low))

-- replies but for this place are as they were
pub record SameBut (place : ℕ) (old new : Replies) : Type 0 where
  pub count : length new ≡ length old
  pub at : (i : ℕ) → i ≢ place → slice_get new i ≡ slice_get old i

pub same_replies : (place : ℕ) (old new : Replies) → new ≡ old → SameBut place old new
same_replies place old new same = record {
  count = ap (λ (rs : Replies). length rs) same;
  at = λ i off. ap (λ (rs : Replies). slice_get rs i) same;
}

pub taken_reply : (place : ℕ) (old new : Replies) → new ≡ set old place None → SameBut place old new
taken_reply place old new taken = record {
  count = ap (λ (rs : Replies). length rs) taken ∙ length-set old place None;
  at = λ i off. ap (λ (rs : Replies). slice_get rs i) taken ∙ set_other old place i None off;
}

module _ (q : QueueState) (actor : ℕ) (p : Piece) (serve : MayServe q actor p) where
  -- none of another caller is in flight where none is, once the actor has another flight
  none_before : (flight : Option Piece) (caller : ℕ) → caller ≢ p.caller
      → HasNoneInFlight caller (set q.flights actor flight) → HasNoneInFlight caller q.flights
  none_before flight caller other none j f at same = elim (cases_eq j actor) [
    | inl here ↦ other (sym same ∙ ap (λ (x : Piece). x.caller) (serve.only f (sym (ap (slice_get q.flights) here) ∙ at)))
    | inr off ↦ none j f (set_other q.flights actor j flight off ∙ at) same
  ]

  -- a piece of another caller doesn't stand at the head
  not_head : (i : ℕ) (x : Piece) → slice_get q.callers.pieces i ≡ Some x → x.caller ≢ p.caller
      → i ≢ head_of q.callers p.caller
  not_head i x at other here =
      other (ap (λ (y : Piece). y.caller) (same_Some x p (sym at ∙ ap (slice_get q.callers.pieces) here ∙ serve.first)))

  module _ (replies later : Replies) (are : AreReplies q.callers q.flights replies)
      (same : SameBut (head_of q.callers p.caller) replies later) where
    -- A PIECE IS ENTERED
    pub replies_enter : (new : QueueState) → EntersPiece q new actor p → AreReplies new.callers new.flights later
    replies_enter new enters = record {
      count = same.count ∙ are.count ∙ sym (ap (λ (ps : List Piece). length ps) enters.pieces);
      space = λ i x at range reads above none. by i x (sym (ap (λ (ps : List Piece). slice_get ps i) enters.pieces) ∙ at) range reads above
          (λ here. subst (λ (fs : List (Option Piece)). HasNoneInFlight x.caller fs) (ap (λ (s : QueueState). s.flights) enters.rest) (none here))
          (cases_eq x.caller p.caller);
    }
      where
        by : (i : ℕ) (x : Piece) → slice_get q.callers.pieces i ≡ Some x → x.range ≡ false
            → operation_of x.what ≡ Reading → head_of new.callers x.caller ≤ i
            → (i ≡ head_of new.callers x.caller → HasNoneInFlight x.caller (set q.flights actor None))
            → (x.caller ≡ p.caller) ⊎ (x.caller ≡ p.caller → ⊥) → HasSpace (512 * sector_count x.what) (slice_get later i)
        by i x at range reads above none (inl mine) =
            let passes = enters.passes in
            let moved : head_of q.callers x.caller < i =
            subst (λ (c : ℕ). head_of q.callers c < i) (sym mine)
            (let up = subst (λ (c : ℕ). head_of new.callers c ≤ i) mine above in omega (arith, passes, up)) in
            subst (λ (r : Option (Option (ListWithRoom ℕ))). HasSpace (512 * sector_count x.what) r)
            (sym (same.at i (λ here. (let low = subst (λ (c : ℕ). head_of q.callers c < i) mine moved in omega (arith, here, low)))))
            (are.space i x at range reads (omega (arith, moved)) (λ here. absurd (omega (arith, here, moved))))
        by i x at range reads above none (inr other) =
            let stays = enters.stays x.caller other in
            subst (λ (r : Option (Option (ListWithRoom ℕ))). HasSpace (512 * sector_count x.what) r)
            (sym (same.at i (not_head i x at other)))
            (are.space i x at range reads (omega (arith, stays, above))
            (λ here. none_before None x.caller other (none (here ∙ sym stays))))

    -- A PIECE IS IN FLIGHT
    pub replies_fly : actor < length q.flights → AreReplies q.callers (set q.flights actor (Some p)) later
    replies_fly inside = record {
      count = same.count ∙ are.count;
      space = λ i x at range reads above none. by i x at range reads above none (cases_eq x.caller p.caller) (cases_eq i (head_of q.callers x.caller));
    }
      where
        there : slice_get (set q.flights actor (Some p)) actor ≡ Some (Some p)
        there = set_here q.flights actor (Some p) inside

        by : (i : ℕ) (x : Piece) → slice_get q.callers.pieces i ≡ Some x → x.range ≡ false
            → operation_of x.what ≡ Reading → head_of q.callers x.caller ≤ i
            → (i ≡ head_of q.callers x.caller → HasNoneInFlight x.caller (set q.flights actor (Some p)))
            → (x.caller ≡ p.caller) ⊎ (x.caller ≡ p.caller → ⊥)
            → (i ≡ head_of q.callers x.caller) ⊎ (i ≡ head_of q.callers x.caller → ⊥)
            → HasSpace (512 * sector_count x.what) (slice_get later i)
        by i x at range reads above none (inl mine) (inl here) = absurd (none here actor p there (sym mine))
        by i x at range reads above none (inl mine) (inr off) =
            subst (λ (r : Option (Option (ListWithRoom ℕ))). HasSpace (512 * sector_count x.what) r)
            (sym (same.at i (λ here. off (here ∙ sym (ap (head_of q.callers) mine)))))
            (are.space i x at range reads above (λ here. absurd (off here)))
        by i x at range reads above none (inr other) place =
            subst (λ (r : Option (Option (ListWithRoom ℕ))). HasSpace (512 * sector_count x.what) r)
            (sym (same.at i (not_head i x at other)))
            (are.space i x at range reads above (λ here. none_before (Some p) x.caller other (none here)))

-- THE FLUSHES OF A COMMIT ARE ENTERED
pub replies_flush : (q new : QueueState) (list : List Piece) (replies : Replies) → EntersFlushes q new list
    → AreReplies q.callers q.flights replies → AreReplies new.callers new.flights replies
replies_flush q new list replies enters are = record {
  count = are.count ∙ sym (ap (λ (ps : List Piece). length ps) enters.pieces);
  space = λ i x at range reads above none.
      let later = enters.later x.caller in
      are.space i x (sym (ap (λ (ps : List Piece). slice_get ps i) enters.pieces) ∙ at) range reads (omega (arith, later, above))
      (λ here. subst (λ (fs : List (Option Piece)). HasNoneInFlight x.caller fs)
      (ap (λ (s : QueueState). s.flights) enters.rest) (none (omega (arith, here, later, above))));
}
