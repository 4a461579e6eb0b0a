use Rattle.std.proofs.Common.{◌≡◌, Some, None, sym, subst, ap, ◌∙◌}
use Rattle.std.specs.List.{Contains}
use Rattle.zd_model.specs.declared.requests.Piece.{Piece}
use Rattle.zd_steps.specs.NextStep.{piece_step}
use Rattle.zd_steps.specs.Runs.{Standing, flight_of}
use Rattle.zd_steps.specs.Queues.{HasEntered, QueueState, head_of, queue_of, run_of}
use Rattle.zd_steps.specs.declared.step.Step.TheVariants.{Serve}
use Rattle.zd_steps.proofs.ChosenLaws.{first_found, own_ready, own_waits}
use Rattle.zd_steps.proofs.MemberLaws.{contains_at}
use Rattle.zd_steps.proofs.ToldLaws.{servable_is}
use Rattle.zd_steps.proofs.queue.Queue.piece_step.Goals as goal

pub is_ready-requires-clause-known : goal.is_ready-requires-clause-known
is_ready-requires-clause-known g c =
    let p : Piece = c.in-Some.piece in
    let flying = c.self.invariant.flying.each c.args.actor p c.in-Some.ensures in
    c.requires.known p (subst (λ (s : QueueState). Contains s.callers.pieces p) c.self.view_is
    (contains_at c.self.inside.heads.pieces (head_of c.self.inside.heads p.caller) p flying.first))

pub returns-then-is_ready : goal.returns-then-is_ready
returns-then-is_ready g c entered before =
    let q : QueueState =
    queue_of c.self.inside.flights.chunk_blocks c.self.inside.heads c.self.inside.flights.pieces.items in
    subst (λ (s : QueueState). Some (Serve c.in-Some.piece) ≡ piece_step (run_of s entered) (g.V.HasStanding.standing c.args.volume.now) (flight_of (run_of s entered) c.args.actor))
    c.self.view_is
    (own_ready (run_of q entered) (g.V.HasStanding.standing c.args.volume.now) c.args.actor c.in-Some.piece c.in-Some.ensures
    (sym c.is_ready.ensures ∙ c.if-is_ready.true))

pub returns-else-is_ready : goal.returns-else-is_ready
returns-else-is_ready g c entered before =
    let q : QueueState =
    queue_of c.self.inside.flights.chunk_blocks c.self.inside.heads c.self.inside.flights.pieces.items in
    subst (λ (s : QueueState). None ≡ piece_step (run_of s entered) (g.V.HasStanding.standing c.args.volume.now) (flight_of (run_of s entered) c.args.actor))
    c.self.view_is
    (own_waits (run_of q entered) (g.V.HasStanding.standing c.args.volume.now) c.args.actor c.in-Some.piece c.in-Some.ensures
    (sym c.is_ready.ensures ∙ c.if-is_ready.false))

pub returns-in-Some-at : goal.returns-in-Some-at
returns-in-Some-at g c entered before =
    let q : QueueState =
    queue_of c.self.inside.flights.chunk_blocks c.self.inside.heads c.self.inside.flights.pieces.items in
    let v : Standing = g.V.HasStanding.standing c.args.volume.now in
    subst (λ (s : QueueState). HasEntered s.callers entered → Some (Serve c.in-Some-at.piece.now) ≡ piece_step (run_of s entered) v (flight_of (run_of s entered) c.args.actor))
    c.self.view_is
    (λ b. first_found (run_of q entered) v c.args.actor (Some c.in-Some-at.piece.now) (c.of.ensures ∙ ap Some c.in_default.is)
    (c.in-Some-at.ensures ∙ sym (servable_is q c.self.invariant entered b v c.least-place.result c.least-place.ensures.least))) before

pub returns-in-None : goal.returns-in-None
returns-in-None g c entered before =
    let q : QueueState =
    queue_of c.self.inside.flights.chunk_blocks c.self.inside.heads c.self.inside.flights.pieces.items in
    let v : Standing = g.V.HasStanding.standing c.args.volume.now in
    subst (λ (s : QueueState). HasEntered s.callers entered → None ≡ piece_step (run_of s entered) v (flight_of (run_of s entered) c.args.actor))
    c.self.view_is
    (λ b. first_found (run_of q entered) v c.args.actor None (c.of.ensures ∙ ap Some c.in_default.is)
    (c.in-None.ensures ∙ sym (servable_is q c.self.invariant entered b v c.least-place.result c.least-place.ensures.least))) before
