use Rattle.zd_base.specs.Layout.{Fits}
use Rattle.zd_bits.specs.Bits.{IsBitRun}
use Rattle.zd_tables.specs.Tables.{bits_in_blocks}
use Rattle.zd_state.proofs.JoinSteps.{joins_none, joins_valid}
use Rattle.zd_state.proofs.state.VolumeState.join_run.Goals as goal
use Rattle.zd_state.proofs.state.VolumeState.join_run.Goals.{else-valid, then-valid}

pub returns-clause-joins : goal.returns-clause-joins
returns-clause-joins c =
    let v = c.args.self.now.plain in
    let run : IsBitRun (bits_in_blocks c.args.self.now.plain.geometry c.args.self.now.plain.head.layout
    c.args.self.now.plain.fresh c.args.from) c.args.at c.args.self.now.plain.geometry.zone_blocks
    c.run_at-valid.result.0
    c.run_at-valid.result.1 =
    rw (← c.self.view_is) (rw (c.self.invariant, c.zone_blocks-end.ensures.value, c.geometry.ensures, ← c.self.view_is)
    at c.run_at-valid.ensures) in
    let fits : Fits c.args.self.now.plain.geometry c.args.self.now.plain.head.layout =
    rw (← c.self.view_is) (rw c.self.invariant at c.layout-fits.ensures.fits) in
    elim c.if-valid.branch [
      | then-valid w ↦ rw w.self-is (joins_valid v.geometry v.head.layout c.args.from c.args.to c.args.at
          c.run_at-valid.result.1 c.requires.from c.run_at-valid.result.0 v.fresh run
          (rw c.geometry.ensures at c.zone_blocks-end.ensures.shape) fits.map c.requires.to w.if-valid.true
          w.give_blocks.new.self.plain.fresh v.dirty w.give_blocks.new.self.plain.dirty w.give_blocks.ensures.gives)
      | else-valid w ↦ rw w.self-is (joins_none v.geometry v.head.layout c.args.from c.args.to c.args.at
          c.run_at-valid.result.1 c.requires.from c.run_at-valid.result.0 v.fresh run w.if-valid.false v.dirty)
    ]
