-- So it is for the blocks before this one, and nothing else has changed.
use Rattle.std.proofs.Common.{◌≡◌, ◌-◌, ◌≤◌}
use Rattle.zd_state.specs.Joins.{JoinsBlocks}
use Rattle.zd_state.proofs.state.VolumeState.join_blocks.Given as goal

abbrev pub invariant-loop-at : goal.invariant-loop-at
invariant-loop-at l = record {
  inside : l.at ≤ l.end;
  end : l.end ≡ l.fn.self.plain.geometry.zone_blocks;
  joins : JoinsBlocks l.fn.self.plain.geometry l.fn.self.plain.head.layout l.from l.to 0 l.at l.fn.self.plain.fresh
      l.self.plain.fresh l.fn.self.plain.dirty l.self.plain.dirty;
  rest : l.self ≡ record l.fn.self {
    plain = record l.fn.self.plain { fresh = l.self.plain.fresh; dirty = l.self.plain.dirty };
  };
}

abbrev pub decreases-loop-at : goal.decreases-loop-at
decreases-loop-at l = l.end - l.at
