use Rattle.std.proofs.Common.{inl, sym, ap, ◌∙◌}
use Rattle.zd_model.specs.declared.metadata.MapEntry.{MapEntry}
use Rattle.zd_write.proofs.route.route.Goals as goal

pub pointer-requires-clause-zone : goal.pointer-requires-clause-zone
pointer-requires-clause-zone g c =
    (c.sound.ensures.sets.new_rules.map.data_zones c.start_of-chunk.result.0 c.in-Some.zone
    (inl (ap (λ (e : MapEntry). e.zone) (sym c.entry-entry.ensures) ∙ c.in-Some.is))).1
