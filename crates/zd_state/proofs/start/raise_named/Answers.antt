use Rattle.std.proofs.Common.{ap, ◌∙◌, length, List, Bool}
use Rattle.zd_state.proofs.EntryZones.{buffer_flag, zone_flag}
use Rattle.zd_state.proofs.NamedFlags.{flags_next, length-raised}
use Rattle.zd_state.proofs.start.raise_named.Goals as goal

pub raise-requires : goal.raise-requires
raise-requires c =
    zone_flag _ _ _ c.requires.rules _ _ c.entry-entry.ensures _ c.loop-chunk.invariant.size

pub raise-requires-in-loop-chunk : goal.raise-requires-in-loop-chunk
raise-requires-in-loop-chunk c =
    buffer_flag _ _ _ c.requires.rules _ _ c.entry-entry.ensures _
    (ap (λ (f : List Bool). length f) c.raise.ensures ∙ length-raised _ _ ∙ c.loop-chunk.invariant.size)

pub loop-chunk-preserved : goal.loop-chunk-preserved
loop-chunk-preserved c =
    flags_next _ _ _ _ _ c.entry-entry.ensures c.loop-chunk.invariant _ _ c.raise.ensures
    c.raise-in-loop-chunk.ensures
