-- How many writing calls an opening makes up to its pads.
use Rattle.std.proofs.Common.{◌≡◌, Some, ◌<◌, ◌≤◌, sym, ◌∙◌, ap, arith}
use Rattle.zd_base.specs.Geometry.{Shape}
use Rattle.zd_base.specs.Layout.{used_blocks}
use Rattle.zd_model.specs.Image.{Same}
use Rattle.zd_disk.specs.Told.{next_count}
use Rattle.zd_disk.specs.View.{View, MadeOf, Reaches}
use Rattle.zd_disk.proofs.ViewLaws.{read_as, turned}
use Rattle.zd_sets.specs.Calls.{equal_calls}
use Rattle.zd_sets.specs.Choice.{IsPlacedChoice}
use Rattle.zd_sets.specs.declared.choice.Chosen.{Chosen}
use Rattle.zd_sets.proofs.CallLaws.{equal_calls_same}
use Rattle.zd_examine.specs.Opened.{set_calls}

-- a flush, and then the calls that make the other set equal
pub counted_sets : {c : Chosen} {u v w : View} (g : Shape) → IsPlacedChoice g c → 0 < g.zone_blocks → v.told ≡ Some g → v.calls ≡ next_count u.calls
    → Reaches Same u v → (order : v.calls ≤ w.calls) → MadeOf (equal_calls c (used_blocks g c.head.layout)) v w → MadeOf (set_calls c) u w
counted_sets {c} {u} {v} {w} g placed some told one settled later made = record {
  number_is = λ low image e. (
      let there = turned settled.reads image e in
      let geometry : image.geometry ≡ g = sym there.2.geometry ∙ (read_as {v = v} told there.0 there.1).geometry in
      let same = equal_calls_same g c placed some image there.0 geometry (u.shaped image e) there.2 in
      let shape = ap (λ (h : Shape). equal_calls c (used_blocks h c.head.layout) image) geometry in
      omega (arith, one, later, low, made.number_is low there.0 there.1, same, shape));
}
