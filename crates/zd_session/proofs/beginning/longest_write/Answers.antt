use Rattle.std.proofs.Common.{All, subst, sym, arith, ◌∙◌}
use Rattle.std.proofs.lemmas.Bool.{false≢true}
use Rattle.std.proofs.lemmas.List.{take_all}
use Rattle.zd_session.specs.Sessions.{HasBlocksFor}
use Rattle.zd_session.proofs.BeginLaws.{greater, longest_other, longest_write}
use Rattle.zd_session.proofs.beginning.longest_write.Goals as goal
use Rattle.zd_session.proofs.beginning.longest_write.Goals.{then-writes_inside, else-writes_inside}

pub loop-piece-preserved : goal.loop-piece-preserved
loop-piece-preserved c =
    let pieces = c.args.pieces.now in
    let i = c.loop-piece.piece-index in
    let longest = c.loop-piece.longest in
    elim c.if-writes_inside.branch [
      | then-writes_inside w ↦
          let is = w.longest-is ∙ w.max-longest.ensures ∙ greater longest w.cover.result.1 in
          let count = w.cover.ensures.count in
          longest_write pieces i c.loop-piece-test.true longest c.if-writes_inside.longest c.loop-piece.invariant
          (omega (arith, is, count)) (c.writes_inside.ensures.0 w.if-writes_inside.true)
      | else-writes_inside w ↦
          longest_other pieces i c.loop-piece-test.true longest c.if-writes_inside.longest c.loop-piece.invariant
          w.longest-is
          (λ writes. false≢true (sym w.if-writes_inside.false ∙ c.writes_inside.ensures.1 writes))
    ]

pub returns : goal.returns
returns c = record {
  most = subst (All (HasBlocksFor c.loop-piece.longest))
      (take_all c.loop-piece.piece-index c.args.pieces.now c.loop-piece-test.false) c.loop-piece.invariant.most;
  reached = c.loop-piece.invariant.reached;
}
