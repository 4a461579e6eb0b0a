use Rattle.std.proofs.Common.{◌≡◌, ◌↔◌, ◌+◌, ◌*◌, ◌/◌, IsTrue, length, take, sym, ◌∙◌}
use Rattle.std.proofs.lemmas.List.FromFn.{length-map-range_with_len}
use Rattle.std.specs.List.{slice_range}
use Rattle.std.proofs.lemmas.Slice.Eq.{bytes_eq-Decides}
use Rattle.zd_model.specs.Bytes.{sectors_of}
use Rattle.zd_model.specs.Entries.{shown_entry}
use Rattle.zd_hold.proofs.OneMore.{may_first, now_first, take_next}
use Rattle.zd_hold.proofs.held.may_hold.Goals as goal

pub loop-i-init : goal.loop-i-init
loop-i-init c =
    let base = c.args.base.now in
    let i = c.args.sector in
    let first = c.eq-is_first.result in
    let decides = bytes_eq-Decides c.args.value.now (slice_range base (512 * i) (512 * i + 512)) in
    let same : IsTrue first ↔ (c.args.value.now ≡ slice_range base (512 * i) (512 * i + 512)) =
    (λ holds. decides.0 (sym c.eq-is_first.ensures ∙ holds), λ is. c.eq-is_first.ensures ∙ decides.1 is) in
    record {
      now = now_first base c.args.k i c.args.value.now c.requires first same;
      may = may_first base c.args.k i c.args.value.now c.requires first same;
    }

pub loop-i-preserved : goal.loop-i-preserved
loop-i-preserved c =
    let base = sectors_of c.args.base.now in
    let history = c.args.history.now.items in
    let e = shown_entry c.get.result.now in
    let size = length-map-range_with_len (λ j. slice_range c.args.base.now (512 * j) (512 * j + 512)) 0
    (length c.args.base.now / 512) in
    rw (take_next history c.loop-i.i e c.get.ensures)
    (c.after-held.ensures base (take c.loop-i.i history) size c.loop-i.invariant)
