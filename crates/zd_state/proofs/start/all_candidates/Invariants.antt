use Rattle.zd_state.specs.Started.{ClassesBelow}
use Rattle.zd_state.proofs.start.all_candidates.Given as goal

abbrev pub invariant-loop-chunk : goal.invariant-loop-chunk
invariant-loop-chunk l = ClassesBelow l.tables l.pointers l.chunk l.candidates
