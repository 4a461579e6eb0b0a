use Rattle.std.proofs.Common.{◌≡◌, List, ltb, subst, ap, ◌∙◌}
use Rattle.zd_model.specs.History.{Mark}
use Rattle.zd_steps.specs.Runs.{has_flush}
use Rattle.zd_steps.specs.Queues.{HasEntered, QueueState, queue_of, run_of}
use Rattle.zd_steps.proofs.ToldLaws.{flush_is}
use Rattle.zd_steps.proofs.queue.Queue.has_flush.Goals as goal

pub returns : goal.returns
returns c =
    let q : QueueState =
    queue_of c.self.inside.flights.chunk_blocks c.self.inside.heads c.self.inside.flights.pieces.items in
    subst (λ (s : QueueState). (entered : List Mark) → HasEntered s.callers entered
    → ltb c.least.result c.count.result ≡ has_flush (run_of s entered)) c.self.view_is
    (λ entered before. ap (ltb c.least.result) c.count.ensures ∙ flush_is q c.self.invariant entered before c.least.result c.least.ensures.least)
