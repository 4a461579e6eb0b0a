use Rattle.std.proofs.Common.{Some, set, sym, subst}
use Rattle.zd_steps.specs.Queues.{MayServe, QueueState, queue_of}
use Rattle.zd_steps.proofs.KeptLaws.{flown_fly, same_flights}
use Rattle.zd_steps.proofs.queue.Queue.fly.Goals as goal

pub invariant_of-self : goal.invariant_of-self
invariant_of-self c =
    let q : QueueState =
    queue_of c.self.inside.flights.chunk_blocks c.self.inside.heads c.self.inside.flights.pieces.items in
    record {
      script = c.self.invariant.script;
      heads = c.self.invariant.heads;
      flying = same_flights c.self.inside.heads c.self.inside.flights.chunk_blocks c.set.new.self.chunk_blocks
          (set c.self.inside.flights.pieces.items c.args.actor (Some c.args.piece.now)) c.set.new.self.pieces.items c.set.ensures.blocks c.set.ensures.pieces
          (flown_fly q c.self.invariant.flying c.args.actor c.args.piece.now
          (subst (λ (s : QueueState). MayServe s c.args.actor c.args.piece.now) (sym c.self.view_is) c.requires.served)
          c.requires.in_range c.requires.moves);
    }
