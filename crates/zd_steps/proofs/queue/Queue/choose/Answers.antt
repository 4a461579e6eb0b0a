use Rattle.std.proofs.Common.{◌≡◌, ◌<◌, length, true, Some, sym, subst, ◌∙◌}
use Rattle.zd_steps.specs.NextStep.{next_step}
use Rattle.zd_steps.specs.Queues.{HasEntered, MayServe, QueueState, queue_of, run_of}
use Rattle.zd_steps.specs.Runs.{is_ready}
use Rattle.zd_steps.specs.declared.step.Step.TheVariants.{Serve}
use Rattle.zd_steps.proofs.ChosenLaws.{may_serve, next_goes}
use Rattle.zd_steps.proofs.queue.Queue.choose.Goals as goal

pub returns-clause-serve : goal.returns-clause-serve
returns-clause-serve g c entered p before e =
    let q : QueueState =
    queue_of c.self.inside.flights.chunk_blocks c.self.inside.heads c.self.inside.flights.pieces.items in
    subst (λ (s : QueueState). next_step (run_of s entered) (g.V.HasStanding.standing c.args.volume.now) c.args.actor c.args.prefer ≡ Some (Serve p)
    → HasEntered s.callers entered → c.args.actor < length s.flights → MayServe s c.args.actor p × (is_ready (g.V.HasStanding.standing c.args.volume.now) p ≡ true))
    c.self.view_is
    (λ next b inside. may_serve q c.self.invariant entered b (g.V.HasStanding.standing c.args.volume.now) c.args.actor c.args.prefer p inside next)
    (next_goes (run_of c.args.self.now entered) (g.V.HasStanding.standing c.args.volume.now) c.args.actor c.args.prefer c.by_preference.result
    (sym c.stopped.ensures ∙ c.if-stopped.false) (sym (c.is_over.ensures entered before) ∙ c.if-is_over.false) (c.by_preference.ensures entered before) ∙ e)
    before c.requires.actor
