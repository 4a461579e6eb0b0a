use Rattle.zd_state.proofs.StartClasses.{classes_next}
use Rattle.zd_state.proofs.start.all_candidates.Goals as goal

pub loop-chunk-preserved : goal.loop-chunk-preserved
loop-chunk-preserved c =
    classes_next _ _ _ _ _ _ c.loop-chunk.invariant c.set.ensures.classes c.set.ensures.numbers
    c.class_of_chunk-class.ensures
