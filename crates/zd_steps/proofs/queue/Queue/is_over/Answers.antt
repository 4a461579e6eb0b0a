use Rattle.std.proofs.Common.{◌≡◌, List, subst}
use Rattle.zd_model.specs.History.{Mark}
use Rattle.zd_steps.specs.Runs.{is_over}
use Rattle.zd_steps.specs.Queues.{HasEntered, QueueState, queue_of, run_of}
use Rattle.zd_steps.proofs.ToldLaws.{over_is}
use Rattle.zd_steps.proofs.queue.Queue.is_over.Goals as goal

pub returns : goal.returns
returns c =
    let q : QueueState =
    queue_of c.self.inside.flights.chunk_blocks c.self.inside.heads c.self.inside.flights.pieces.items in
    subst (λ (s : QueueState). (entered : List Mark) → HasEntered s.callers entered → c.is_over.result ≡ is_over (run_of s entered))
    c.self.view_is (λ entered before. over_is q c.self.invariant entered before c.is_over.result c.is_over.ensures)
