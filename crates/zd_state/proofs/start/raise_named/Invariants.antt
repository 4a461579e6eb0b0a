use Rattle.zd_state.specs.Started.{FlagNamedBelow}
use Rattle.zd_tables.specs.Held.{tables_held}
use Rattle.zd_state.proofs.start.raise_named.Given as goal

abbrev pub invariant-loop-chunk : goal.invariant-loop-chunk
invariant-loop-chunk l = FlagNamedBelow l.tables.geometry (tables_held l.tables) l.chunk l.flags
