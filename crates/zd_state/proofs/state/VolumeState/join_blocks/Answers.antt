use Rattle.std.proofs.Common.{◌∙◌, ap, arith}
use Rattle.zd_state.specs.Seen.{KeptState}
use Rattle.zd_state.proofs.JoinSteps.{joins_next}
use Rattle.zd_state.proofs.state.VolumeState.join_blocks.Goals as goal

pub loop-at-preserved : goal.loop-at-preserved
loop-at-preserved c = record {
  inside =
      let end = c.loop-at.invariant.end in
      let same = ap (λ (k : KeptState). k.plain.geometry.zone_blocks) c.loop-at.invariant.rest in
      let inside = c.join_run-at.ensures.inside in
      omega (arith, end, same, inside);
  end = c.loop-at.invariant.end;
  joins = joins_next c.args.self.now.plain c.loop-at.self.plain c.join_run-at.new.self.plain c.args.from c.args.to
      c.loop-at.at c.join_run-at.result (rw c.geometry.ensures at c.zone_blocks-end.ensures.shape) c.requires.apart
      c.requires.to c.join_run-at.ensures.more c.join_run-at.ensures.inside
      (ap (λ (k : KeptState). k.plain) c.loop-at.invariant.rest) c.loop-at.invariant.joins c.join_run-at.ensures.joins;
  rest = c.join_run-at.ensures.rest
      ∙ ap (λ (k : KeptState). record k {
        plain = record k.plain {
          fresh = c.join_run-at.new.self.plain.fresh;
          dirty = c.join_run-at.new.self.plain.dirty;
        };
      }) c.loop-at.invariant.rest;
}
