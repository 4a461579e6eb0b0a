-- A session that begins has all that a session keeps.
use Rattle.std.proofs.Common.{◌≡◌, ◌⊎◌, inl, inr, ℕ, zero, suc, ◌+◌, ◌<◌, ◌≤◌, All, false, not, List, [], ◌∷◌}
use Rattle.std.proofs.Common.{◌++◌, get_or, length, length-append, map, replicate, slice_get, take, Option, Some, None}
use Rattle.std.proofs.Common.{refl, sym, ap, ◌∙◌, subst, arith}
use Rattle.std.proofs.Common.{Ordering, Less, Equal, Greater, cond, max}
use Rattle.std.proofs.lemmas.List.{length-replicate, length-take-le}
use Rattle.std.proofs.lemmas.List.Elements.{All-contains, All-more, All-weaker, Contains-get_or}
use Rattle.std.proofs.lemmas.List.Sums.{count_by-le-length}
use Rattle.std.proofs.lemmas.Bool.{cases_eq, cases_lt, cases_order}
use Rattle.std.proofs.lemmas.Option.{none-some, same_Some, slice_get_within}
use Rattle.std.specs.Cmp.{nat_cmp_is}
use Rattle.std.specs.List.{Contains}
use Rattle.std.specs.Ordering.{MatchOrdering, is_lt, nat_cmp, ord_max}
use Rattle.zd_base.specs.Layout.{device_blocks}
use Rattle.zd_model.specs.History.{HistoryEntry, Mark, mark_of_entry}
use Rattle.zd_model.specs.Image.{Image}
use Rattle.zd_model.specs.Requests.{block_count, operation_of}
use Rattle.zd_model.specs.Requests.Operation.{Writing}
use Rattle.zd_model.specs.Room.{ListWithRoom}
use Rattle.zd_model.specs.declared.requests.Piece.{Piece}
use Rattle.zd_model.specs.declared.requests.Request.{Request}
use Rattle.zd_plain.specs.Plan.{IsPlan, IsRequest}
use Rattle.zd_steps.specs.Queues.{HasEntered, IsScriptOf, run_of}
use Rattle.zd_steps.specs.Runs.{is_entered}
use Rattle.zd_steps.proofs.LinkLaws.{nobody}
use Rattle.zd_steps.proofs.MemberLaws.{contains_at}
use Rattle.zd_steps.proofs.ScriptLaws.{is_script}
use Rattle.zd_volume.specs.Sets.{AreSets}
use Rattle.zd_volume.specs.Volumes.{PlainVolume, sets_of}
use Rattle.zd_session.specs.Beginnings.{AreNewActors, AreReadyFor, IsNewActor, IsReadyFor, IsUnbegun, IsWriteOf}
use Rattle.zd_session.specs.Sessions.{AreActors, HasBlocksFor, HasInHand, IsProgress, IsSession, pieces_on}
use Rattle.zd_session.specs.declared.actor.Actor.{Actor}
use Rattle.zd_session.specs.declared.progress.Progress.{Progress}
use Rattle.zd_session.proofs.CutPieceLaws.{pieces_can}

-- each place of the same items has that item
same_item : {X : Type 0} (n i : ℕ) (x y : X) → slice_get (replicate n x) i ≡ Some y → y ≡ x
same_item zero i x y at = absurd (none-some y at)
same_item (suc n) zero x y at = sym (same_Some x y at)
same_item (suc n) (suc i) x y at = same_item n i x y at

-- the callers of a plan are below 64
callers_below : (plan : List Request) → All IsRequest plan → All (λ (r : Request). r.caller < 64) plan
callers_below plan each =
    All-weaker IsRequest (λ (r : Request). r.caller < 64) (λ (r : Request) (is : IsRequest r). is.caller) plan each

-- what holds of each holds of the one at a place
pub at_place : {X : Type 0} (P : X → Type 0) (xs : List X) (i : ℕ) (x : X) → All P xs → slice_get xs i ≡ Some x → P x
at_place P xs i x all at = All-contains P xs x all (contains_at xs i x at)

pub plan_script : (v : PlainVolume) (plan : List Request) → IsPlan plan → IsScriptOf 64 (pieces_on v plan)
plan_script v plan is =
    is_script v.geometry.zone_blocks (device_blocks v.geometry v.head.layout) 64 plan (callers_below plan is.each)

-- no actor holds anything
new_actors : (v : PlainVolume) (told : Option Image) (count : ℕ) (flights : List (Option Piece)) (actors : List Actor)
    → flights ≡ replicate count None → AreNewActors count actors → AreActors v told flights actors
new_actors v told count flights actors none free = record {
  count = free.count_is ∙ sym (ap (λ (fs : List (Option Piece)). length fs) none ∙ length-replicate count None);
  holds = λ i flight a at_flight at.
      let is : flight ≡ None =
      same_item count i None flight (sym (ap (λ (fs : List (Option Piece)). slice_get fs i) none) ∙ at_flight) in
      subst (λ (f : Option Piece). HasInHand v told f a) (sym is) (at_place IsNewActor actors i a free.each at).free;
  first_room = λ i a at. (let room = (at_place IsNewActor actors i a free.each at).first in omega (arith, room));
  last_room = λ i a at. (let room = (at_place IsNewActor actors i a free.each at).last in omega (arith, room));
}

-- the greater of two numbers, as code has it
pub greater : (a b : ℕ) → ord_max nat_cmp a b ≡ max a b
greater a b = by (cases_order a b)
  where
    picks : (o : Ordering) → MatchOrdering o (b < a) (b ≡ a) (a < b) → ord_max nat_cmp a b ≡ cond (is_lt o) a b
    picks o is = ap (λ (x : Ordering). cond (is_lt x) a b) (sym (nat_cmp_is b a o is))

    by : (a ≡ b) ⊎ ((a < b) ⊎ (b < a)) → ord_max nat_cmp a b ≡ max a b
    by (inl same) = picks Equal (sym same) ∙ (let e : b ≡ max a b = omega (arith, same) in e)
    by (inr (inl less)) = picks Greater less ∙ (let e : b ≡ max a b = omega (arith, less) in e)
    by (inr (inr more)) = picks Less more ∙ (let e : a ≡ max a b = omega (arith, more) in e)

-- THE LONGEST WRITE so far, with one piece more
wider : (few many : ℕ) → few ≤ many → (p : Piece) → HasBlocksFor few p → HasBlocksFor many p
wider few many order p room range writes = (let most = room range writes in omega (arith, most, order))

-- the longest of the first i pieces
pub record IsLongestSoFar (pieces : List Piece) (i blocks : ℕ) : Type 0 where
  pub most : All (HasBlocksFor blocks) (take i pieces)
  pub reached : (blocks ≡ 0) ⊎ ((p : Piece) × Contains pieces p × IsWriteOf blocks p)

module _ (pieces : List Piece) (i : ℕ) (low : i < length pieces) (few many : ℕ) (was : IsLongestSoFar pieces i few) where
  abbrev here : Piece
  here = get_or pieces i nobody

  most_then : few ≤ many → HasBlocksFor many here → All (HasBlocksFor many) (take (i + 1) pieces)
  most_then order room =
      All-more (HasBlocksFor many) pieces i nobody low
      (All-weaker (HasBlocksFor few) (HasBlocksFor many) (wider few many order) (take i pieces) was.most) room

  -- another piece than a write in range
  pub longest_other : many ≡ few → ((here.range ≡ false) × (operation_of here.what ≡ Writing) → ⊥)
      → IsLongestSoFar pieces (i + 1) many
  longest_other same other = record {
    most = most_then (omega (arith, same)) (λ range writes. absurd (other (range, writes)));
    reached = subst (λ (n : ℕ). (n ≡ 0) ⊎ ((p : Piece) × Contains pieces p × IsWriteOf n p)) (sym same) was.reached;
  }

  -- a write in range
  pub longest_write : many ≡ max few (block_count here.what)
      → (here.range ≡ false) × (operation_of here.what ≡ Writing) → IsLongestSoFar pieces (i + 1) many
  longest_write is writes = record {
    most = most_then (omega (arith, is)) (λ range write. omega (arith, is));
    reached = elim (cases_lt few (block_count here.what)) [
      | inl longer ↦ inr (
        here,
        Contains-get_or pieces i nobody low,
        record { range = writes.0; writes = writes.1; count = omega (arith, is, longer) },
      )
      | inr not ↦ subst (λ (n : ℕ). (n ≡ 0) ⊎ ((p : Piece) × Contains pieces p × IsWriteOf n p))
          (omega (arith, is, not)) was.reached
    ];
  }

-- WHAT STANDS READY so far, with that of one piece more
take_at : {X : Type 0} (xs : List X) (n i : ℕ) → i < n → slice_get (take n xs) i ≡ slice_get xs i
take_at xs zero i low = absurd (omega (arith, low))
take_at [] (suc n) i low = refl
take_at (x ∷ xs) (suc n) zero low = refl
take_at (x ∷ xs) (suc n) (suc i) low = take_at xs n i (omega (arith, low))

front_at : {X : Type 0} (xs : List X) (n i : ℕ) (x : X) → slice_get (take n xs) i ≡ Some x
    → (i < n) × (slice_get xs i ≡ Some x)
front_at xs zero i x at = absurd (none-some x at)
front_at [] (suc n) i x at = absurd (none-some x at)
front_at (y ∷ xs) (suc n) zero x at = (omega arith, at)
front_at (y ∷ xs) (suc n) (suc i) x at =
    let rest = front_at xs n i x at in let low = rest.0 in (omega (arith, low), rest.1)

before_last : {X : Type 0} (xs : List X) (y : X) (i : ℕ) → i < length xs → slice_get (xs ++ y ∷ []) i ≡ slice_get xs i
before_last [] y i low = absurd (omega (arith, low))
before_last (x ∷ xs) y zero low = refl
before_last (x ∷ xs) y (suc i) low = before_last xs y i (omega (arith, low))

at_last : {X : Type 0} (xs : List X) (y : X) (i : ℕ) → i ≡ length xs → slice_get (xs ++ y ∷ []) i ≡ Some y
at_last [] y zero is = refl
at_last [] y (suc i) is = absurd (omega (arith, is))
at_last (x ∷ xs) y zero is = absurd (omega (arith, is))
at_last (x ∷ xs) y (suc i) is = at_last xs y i (omega (arith, is))

pub ready_then : (pieces : List Piece) (i : ℕ) (p : Piece) (replies : List (Option (ListWithRoom ℕ)))
    (reply : Option (ListWithRoom ℕ)) → slice_get pieces i ≡ Some p → AreReadyFor (take i pieces) replies
    → IsReadyFor p (Some reply) → AreReadyFor (take (i + 1) pieces) (replies ++ reply ∷ [])
ready_then pieces i p replies reply at have here =
    let low = slice_get_within pieces i p at in
    let front : length (take i pieces) ≡ i = length-take-le i pieces (omega (arith, low)) in
    let longer : length (take (i + 1) pieces) ≡ i + 1 = length-take-le (i + 1) pieces (omega (arith, low)) in
    let count = have.count in
    let added = length-append replies (reply ∷ []) in
    record {
      count = omega (arith, front, longer, count, added);
      each = λ k q at_q.
          let there = front_at pieces (i + 1) k q at_q in
          elim (cases_eq k i) [
            | inl same ↦
                subst (λ (r : Option (Option (ListWithRoom ℕ))). IsReadyFor q r)
                (sym (at_last replies reply k (omega (arith, same, front, count))))
                (subst (λ (x : Piece). IsReadyFor x (Some reply))
                (same_Some p q (sym at ∙ sym (ap (slice_get pieces) same) ∙ there.1)) here)
            | inr other ↦
                let below = there.0 in
                let less : k < i = omega (arith, below, other) in
                subst (λ (r : Option (Option (ListWithRoom ℕ))). IsReadyFor q r)
                (sym (before_last replies reply k (omega (arith, less, front, count))))
                (have.each k q (take_at pieces i k less ∙ there.1))
          ];
    }

-- A SESSION THAT BEGINS over a volume with an entry to spare for each piece, and room for each write
module _ (v : PlainVolume) (spare room : ℕ) (told : Option Image) (plan : List Request) (is_plan : IsPlan plan)
    (are : AreSets (sets_of v)) (new : v.history ≡ []) (pieces : List Piece) (cut : pieces ≡ pieces_on v plan)
    (chunk actors : ℕ) (size : chunk ≡ v.geometry.zone_blocks) (g : Progress)
    (unbegun : IsUnbegun pieces chunk actors g) (spared : length pieces ≤ spare) (longest : ℕ)
    (blocks : All (HasBlocksFor longest) pieces) (roomy : longest ≤ room) where
  no_marks : map mark_of_entry v.history ≡ []
  no_marks = ap (λ (h : List HistoryEntry). map mark_of_entry h) new

  at_plan : (i : ℕ) (p : Piece) → slice_get g.queue.callers.pieces i ≡ Some p → slice_get (pieces_on v plan) i ≡ Some p
  at_plan i p at = sym (ap (λ (ps : List Piece). slice_get ps i) (unbegun.pieces_are ∙ cut)) ∙ at

  at_pieces : (i : ℕ) (p : Piece) → slice_get g.queue.callers.pieces i ≡ Some p → slice_get pieces i ≡ Some p
  at_pieces i p at = sym (ap (λ (ps : List Piece). slice_get ps i) unbegun.pieces_are) ∙ at

  begins_progress : IsProgress v spare room told g.queue g.actors.items g.replies.items
  begins_progress = record {
    chunks = unbegun.chunks ∙ size;
    can = λ i p at. pieces_can v are plan is_plan i p (at_plan i p at);
    entered = subst (λ (marks : List Mark). HasEntered g.queue.callers marks) (sym no_marks) unbegun.none;
    spare_entries = λ runs.
        let few = count_by-le-length (λ (p : Piece). not (is_entered (run_of g.queue (map mark_of_entry v.history)) p))
        g.queue.callers.pieces in
        let same : length g.queue.callers.pieces ≡ length pieces =
        ap (λ (ps : List Piece). length ps) unbegun.pieces_are in
        omega (arith, few, same, spared);
    room_for = λ i p at range writes.
        let most = at_place (HasBlocksFor longest) pieces i p blocks (at_pieces i p at) range writes in
        omega (arith, most, roomy);
    holds = new_actors v told actors g.queue.flights g.actors.items unbegun.flights unbegun.free;
    space = record {
      count = unbegun.ready.count ∙ sym (ap (λ (ps : List Piece). length ps) unbegun.pieces_are);
      space = λ i p at range reads above none. (unbegun.ready.each i p (at_pieces i p at)).space range reads;
    };
  }

  pub begins_session : IsSession v spare room told plan g.queue g.actors.items g.replies.items
  begins_session = record { plan_is = is_plan; pieces = unbegun.pieces_are ∙ cut; progress = begins_progress }
