-- The counts of a zone's parts count its blocks.
use Rattle.std.proofs.Common.{◌≡◌, ◌≢◌, sym, ◌∙◌, subst}
use Rattle.zd_base.specs.Geometry.{per}
use Rattle.zd_tables.specs.Counts.{AreHeld}
use Rattle.zd_tables.specs.Held.{HeldTables}
use Rattle.zd_tables.proofs.ZoneCounts.{first_counts, no_second, second_counts}
use Rattle.zd_tables.proofs.volume_tables.VolumeTables.counts_of.Goals as goal

pub returns-then-per-eq1 : goal.returns-then-per-eq1
returns-then-per-eq1 c =
    let at = c.part-part.ensures in
    let held = subst (λ (h : HeldTables). AreHeld h.geometry h.layout h.bytes c.self.inside.counts.items)
    c.self.view_is c.self.invariant in
    let one = subst (λ (h : HeldTables). per h.geometry ≡ 1) c.self.view_is
    (sym c.per.ensures.value ∙ c.if-per-eq1.true) in
    record {
      first = first_counts c.args.self.now c.self.inside.counts.items held at.shape c.args.zone
          c.part-part.result c.requires at.value c.index.result.now c.index.ensures;
      second = no_second c.args.self.now c.self.inside.counts.items held at.shape c.args.zone c.part-part.result
          c.requires at.value c.index.result.now c.index.ensures one;
      shape = at.shape;
    }

pub returns-else-per-eq1 : goal.returns-else-per-eq1
returns-else-per-eq1 c =
    let at = c.part-part.ensures in
    let held = subst (λ (h : HeldTables). AreHeld h.geometry h.layout h.bytes c.self.inside.counts.items)
    c.self.view_is c.self.invariant in
    let more = subst (λ (h : HeldTables). per h.geometry ≢ 1) c.self.view_is
    (λ one. c.if-per-eq1.false (c.per.ensures.value ∙ one)) in
    let first = c.index-else-per-eq1 in
    let second = c.index-else-per-eq1-2 in
    record {
      first = first_counts c.args.self.now c.self.inside.counts.items held at.shape c.args.zone
          c.part-part.result c.requires at.value first.result.now first.ensures;
      second = second_counts c.args.self.now c.self.inside.counts.items held at.shape c.args.zone
          c.part-part.result c.requires at.value first.result.now first.ensures more second.result.now second.ensures;
      shape = at.shape;
    }
