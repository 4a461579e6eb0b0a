use Rattle.std.proofs.Common.{ap, ◌∙◌, inl, arith}
use Rattle.zd_base.specs.Geometry.{Shape, zone_sectors}
use Rattle.zd_memdisk.specs.declared.store.Store.{Store}
use Rattle.zd_memdisk.proofs.StopNumbers.{no_sector, no_zone, values_to}
use Rattle.zd_memdisk.proofs.memory.MemDisk.values.Goals as goal
use Rattle.zd_memdisk.proofs.memory.MemDisk.values.Goals.{then-k-calls-via-then-k-calls}
use Rattle.zd_memdisk.proofs.memory.MemDisk.values.Goals.{then-k-calls-via-else-k-calls+then-zone-conv}
use Rattle.zd_memdisk.proofs.memory.MemDisk.values.Goals.{then-k-calls-via-else-k-calls+else-zone-conv+then-sector-zone_blocks}

pub returns-then-k-calls-clause-none : goal.returns-then-k-calls-clause-none
returns-then-k-calls-clause-none c =
    let d = c.args.self.now in
    let told = c.geometry-geometry.ensures ∙ ap (λ (s : Store). s.geometry) c.store.ensures in
    let conv = ap (λ (g : Shape). g.conv) told in
    let sectors = ap zone_sectors told in
    elim c.then-k-calls.branch [
      | then-k-calls-via-then-k-calls w ↦ inl (omega (arith, w.if-k-calls.true))
      | then-k-calls-via-else-k-calls+then-zone-conv w ↦
          no_zone d c.args.k c.args.zone c.args.sector (omega (arith, conv, w.if-zone-conv.true, w.conv.ensures.value))
      | then-k-calls-via-else-k-calls+else-zone-conv+then-sector-zone_blocks w ↦
          no_sector d c.args.k c.args.zone c.args.sector
          (omega (arith, sectors, w.if-sector-zone_blocks.true, w.zone_blocks.ensures.value))
    ]

pub returns-clause-some : goal.returns-clause-some
returns-clause-some c =
    let told = c.geometry-geometry.ensures ∙ ap (λ (s : Store). s.geometry) c.store.ensures in
    values_to c.args.self.now c.args.k c.args.zone c.args.sector c.event_count.result c.event_count.ensures
    (omega arith) (omega (arith, ap (λ (g : Shape). g.conv) told)) (omega (arith, ap zone_sectors told))
