use Rattle.zd_check.specs.Verdicts.{HaveSameBlocks, block_in}
use Rattle.zd_check.proofs.comparing.first_difference.Given as goal

-- the blocks so far are the same
abbrev pub invariant-loop-block : goal.invariant-loop-block
invariant-loop-block l = HaveSameBlocks (block_in l.blocks) (block_in l.others) l.block
