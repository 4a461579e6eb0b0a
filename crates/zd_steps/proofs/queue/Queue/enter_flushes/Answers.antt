use Rattle.std.proofs.Common.{◌≡◌, List, ℕ, Some, true, slice_get, sym, subst}
use Rattle.zd_model.specs.History.{Mark}
use Rattle.zd_model.specs.declared.requests.Piece.{Piece}
use Rattle.zd_steps.specs.Queues.{AreFirsts, HasEntered, QueueState, queue_of, run_of}
use Rattle.zd_steps.specs.Runs.{eligible_flushes, flushes}
use Rattle.zd_steps.proofs.FlushLaws.{flush_all, flush_firsts}
use Rattle.zd_steps.proofs.KeptLaws.{committed_fly, same_script}
use Rattle.zd_steps.proofs.queue.Queue.enter_flushes.Goals as goal

pub enter_all-requires-clause-firsts : goal.enter_all-requires-clause-firsts
enter_all-requires-clause-firsts c =
    let q : QueueState =
    queue_of c.self.inside.flights.chunk_blocks c.self.inside.heads c.self.inside.flights.pieces.items in
    let known = subst (λ (s : QueueState). (entered : List Mark) × HasEntered s.callers entered × (c.args.list.now ≡ eligible_flushes (run_of s entered)))
    (sym c.self.view_is) c.requires in
    subst (λ (ps : List Piece). AreFirsts c.self.inside.heads ps) (sym known.2) (flush_firsts q c.self.invariant known.0 known.1)

pub invariant_of-self : goal.invariant_of-self
invariant_of-self c =
    let q : QueueState =
    queue_of c.self.inside.flights.chunk_blocks c.self.inside.heads c.self.inside.flights.pieces.items in
    let known = subst (λ (s : QueueState). (entered : List Mark) × HasEntered s.callers entered × (c.args.list.now ≡ eligible_flushes (run_of s entered)))
    (sym c.self.view_is) c.requires in
    record {
      script = same_script c.self.inside.heads.pieces c.enter_all.new.self.pieces c.enter_all.ensures.pieces c.self.invariant.script;
      heads = c.enter_all.ensures.heads;
      flying = committed_fly c.self.inside.flights.chunk_blocks c.self.inside.heads c.self.inside.flights.pieces.items c.args.list.now c.self.invariant.flying
          (subst (λ (ps : List Piece). AreFirsts c.self.inside.heads ps) (sym known.2) (flush_firsts q c.self.invariant known.0 known.1))
          (subst (λ (ps : List Piece). (k : ℕ) (p : Piece) → slice_get ps k ≡ Some p → flushes p ≡ true) (sym known.2) (flush_all q c.self.invariant known.0 known.1))
          c.enter_all.new.self c.enter_all.ensures.others;
    }
