use Rattle.std.proofs.Common.{◌≡◌, List, ltb, subst, ap, ◌∙◌}
use Rattle.zd_model.specs.History.{Mark}
use Rattle.zd_steps.specs.Runs.{is_wanted}
use Rattle.zd_steps.specs.Queues.{HasEntered, QueueState, queue_of, run_of}
use Rattle.zd_steps.proofs.ToldLaws.{wanted_is}
use Rattle.zd_steps.proofs.queue.Queue.is_wanted.Goals as goal

pub returns : goal.returns
returns g c =
    let q : QueueState =
    queue_of c.self.inside.flights.chunk_blocks c.self.inside.heads c.self.inside.flights.pieces.items in
    subst (λ (s : QueueState). (entered : List Mark) → HasEntered s.callers entered
    → ltb c.least.result c.count.result ≡ is_wanted (run_of s entered) (g.V.HasStanding.standing c.args.volume.now)) c.self.view_is
    (λ entered before. ap (ltb c.least.result) c.count.ensures
    ∙ wanted_is q c.self.invariant entered before (g.V.HasStanding.standing c.args.volume.now) c.least.result c.least.ensures.least)
