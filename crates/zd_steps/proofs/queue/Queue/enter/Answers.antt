use Rattle.std.proofs.Common.{None, set, sym, subst}
use Rattle.zd_steps.specs.Queues.{MayServe, QueueState, queue_of}
use Rattle.zd_steps.proofs.KeptLaws.{entered_fly, same_first, same_flights, same_script}
use Rattle.zd_steps.proofs.queue.Queue.enter.Goals as goal

pub invariant_of-self : goal.invariant_of-self
invariant_of-self c =
    let q : QueueState =
    queue_of c.self.inside.flights.chunk_blocks c.self.inside.heads c.self.inside.flights.pieces.items in
    record {
      script = same_script c.self.inside.heads.pieces c.enter.new.self.pieces c.enter.ensures.pieces c.self.invariant.script;
      heads = c.enter.ensures.heads;
      flying = same_flights c.enter.new.self c.self.inside.flights.chunk_blocks c.set.new.self.chunk_blocks
          (set c.self.inside.flights.pieces.items c.args.actor None) c.set.new.self.pieces.items c.set.ensures.blocks c.set.ensures.pieces
          (entered_fly q c.self.invariant.flying c.args.actor c.args.piece.now
          (subst (λ (s : QueueState). MayServe s c.args.actor c.args.piece.now) (sym c.self.view_is) c.requires.served)
          c.enter.new.self (λ d other. same_first c.self.inside.heads c.enter.new.self d c.enter.ensures.pieces (c.enter.ensures.stays d other)));
    }
