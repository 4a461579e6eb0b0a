use Rattle.std.proofs.Common.{◌≡◌, ◌+◌, ◌<◌, ◌≤◌, sym, ◌∙◌, ap, subst, arith}
use Rattle.zd_base.specs.Geometry.{Shape}
use Rattle.zd_model.specs.Image.{Image}
use Rattle.zd_disk.proofs.ToldLaws.{IfSome-each, Some-same}
use Rattle.test_stops.proofs.stops.byte.Goals as goal

pub read-requires-clause-below : goal.read-requires-clause-below
read-requires-clause-below g c =
    let view = g.D.ZonedDisk.view c.geometry.new.self in
    let shape = c.in_ok-geometry.geometry in
    let zone = c.args.zone in
    IfSome-each view.zones (λ (i : Image). c.args.sector + 1 ≤ i.held zone) (λ i e.
    let told = sym c.in_ok-geometry.ensures.value ∙ view.agrees i e in
    let same : shape ≡ i.geometry = Some-same shape i.geometry told in
    let below = subst (λ (s : Shape). zone < s.conv) same (omega (arith, c.conv.ensures.value)) in
    let held = (view.shaped i e).conventional zone below in
    let size = ap (λ (s : Shape). s.zone_blocks) same in
    omega (arith, c.conv.ensures.shape.size.least))
