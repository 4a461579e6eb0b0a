use Rattle.std.proofs.Common.{◌≡◌, ◌+◌, ◌≤◌, List, [], length, drop, ap, subst, arith}
use Rattle.std.proofs.lemmas.List.{at_drop_all}
use Rattle.zd_memdisk.specs.Calls.{byte_count, total_bytes}
use Rattle.zd_memdisk.specs.Events.{AreFit}
use Rattle.zd_memdisk.specs.declared.record.Noted.{Noted}
use Rattle.zd_memdisk.proofs.CountedCalls.{IsCountedTo, counted_all, counted_before, counted_more}
use Rattle.zd_memdisk.proofs.CountedCalls.{counted_under, none_counted}
use Rattle.zd_memdisk.proofs.Walking.{opened}
use Rattle.zd_memdisk.proofs.greatest.EventsOf.up_to.Goals as goal

pub loop-noted-init : goal.loop-noted-init
loop-noted-init c = record {
  fit = c.requires.fit;
  room = omega arith;
  counted = λ bytes skipped sized. none_counted c.args.self.now c.args.noted.now c.args.stop bytes skipped sized;
}

pub returns-then-left-noted : goal.returns-then-left-noted
returns-then-left-noted c bytes skipped sized =
    let l = c.loop-noted in
    let n = c.noted-item.result in
    let noted = c.args.noted.now in
    let behind = drop (l.noted-index + 1) noted in
    let to = subst (λ (r : List Noted). IsCountedTo c.args.self.now noted c.args.stop bytes skipped r l.left l.count)
    (opened noted l.noted-index n c.loop-noted-test.true c.noted-item.is) (l.invariant.counted bytes skipped sized) in
    counted_before c.args.self.now noted c.args.stop bytes skipped n behind l.left l.count to c.if-left-noted.true

pub returns-then-left-noted-2 : goal.returns-then-left-noted-2
returns-then-left-noted-2 c bytes skipped sized =
    let l = c.loop-noted in
    let n = c.noted-item.result in
    let noted = c.args.noted.now in
    let behind = drop (l.noted-index + 1) noted in
    let to = subst (λ (r : List Noted). IsCountedTo c.args.self.now noted c.args.stop bytes skipped r l.left l.count)
    (opened noted l.noted-index n c.loop-noted-test.true c.noted-item.is) (l.invariant.counted bytes skipped sized) in
    let within : to.at + byte_count n.call ≤ length bytes = let whole = to.sized in omega arith in
    counted_under c.args.self.now noted c.args.stop bytes skipped n behind l.left l.count to c.if-left-noted-2.true
    c.of_asked.result (c.of_asked.ensures.value bytes to.at within)

pub loop-noted-preserved : goal.loop-noted-preserved
loop-noted-preserved c =
    let l = c.loop-noted in
    let n = c.noted-item.result in
    let noted = c.args.noted.now in
    let behind = drop (l.noted-index + 1) noted in
    let rest = opened noted l.noted-index n c.loop-noted-test.true c.noted-item.is in
    let total = ap total_bytes rest in
    let size = ap length rest in
    record {
      fit = (subst AreFit rest l.invariant.fit).1;
      room = let few = c.after-count.ensures.few in omega (arith, total, size, l.invariant.room);
      counted = λ bytes skipped sized.
          let to = subst (λ (r : List Noted). IsCountedTo c.args.self.now noted c.args.stop bytes skipped r l.left l.count)
          rest (l.invariant.counted bytes skipped sized) in
          let within : to.at + byte_count n.call ≤ length bytes = let whole = to.sized in omega arith in
          counted_more c.args.self.now noted c.args.stop bytes skipped n behind l.left l.count to (omega arith)
          c.after-count.result (c.after-count.ensures.value bytes to.at to.so_far within to.counted);
    }

pub returns : goal.returns
returns c bytes skipped sized =
    let l = c.loop-noted in
    let noted = c.args.noted.now in
    let none : drop l.noted-index noted ≡ [] =
    at_drop_all (λ (r : List Noted). r) noted l.noted-index c.loop-noted-test.false in
    counted_all c.args.self.now noted c.args.stop bytes skipped l.left l.count
    (subst (λ (r : List Noted). IsCountedTo c.args.self.now noted c.args.stop bytes skipped r l.left l.count) none
    (l.invariant.counted bytes skipped sized))
