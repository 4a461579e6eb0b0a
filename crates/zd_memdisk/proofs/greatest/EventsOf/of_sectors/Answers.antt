use Rattle.std.proofs.Common.{◌≡◌, ◌≢◌, ℕ, Bool, true, false, not, eqb, sym, ap, ◌∙◌, arith}
use Rattle.std.proofs.lemmas.Bool.Decides.{nat_tests}
use Rattle.zd_disk.specs.Growth.{puts}
use Rattle.zd_memdisk.specs.Greatest.{event_count}
use Rattle.zd_memdisk.specs.declared.greatest.EventsOf.{EventsOf}
use Rattle.zd_memdisk.proofs.CountedEvents.{all_of_zone, no_sector, none_of_zone, sector_among, sector_before}
use Rattle.zd_memdisk.proofs.CountedEvents.{sector_behind}
use Rattle.zd_memdisk.proofs.greatest.EventsOf.of_sectors.Goals as goal

is_other : (zone written : ℕ) (b : Bool) → b ≡ not (eqb zone written) → b ≡ true → written ≢ zone
is_other zone written b told holds same = grind (arith, nat_tests)

is_same : (zone written : ℕ) (b : Bool) → b ≡ not (eqb zone written) → b ≡ false → written ≡ zone
is_same zone written b told fails = grind (arith, nat_tests)

pub returns-then-ne-clause-value : goal.returns-then-ne-clause-value
returns-then-ne-clause-value c bytes =
    let s = c.in-Sector in
    let a = c.args in
    let apart = is_other s.zone a.written c.ne.result c.ne.ensures c.if-ne.true in
    sym (ap (λ (w : EventsOf). event_count w (puts a.written a.start bytes 0 a.count)) s.is
    ∙ no_sector bytes a.start s.zone s.sector a.written 0 a.count apart)

pub returns-then-sector-start-clause-value : goal.returns-then-sector-start-clause-value
returns-then-sector-start-clause-value c bytes =
    let s = c.in-Sector in
    let a = c.args in
    sym (ap (λ (w : EventsOf). event_count w (puts a.written a.start bytes 0 a.count)) s.is
    ∙ sector_before bytes a.start s.zone s.sector a.written 0 a.count (omega arith))

pub returns-then-start-count-clause-value : goal.returns-then-start-count-clause-value
returns-then-start-count-clause-value c bytes =
    let s = c.in-Sector in
    let a = c.args in
    sym (ap (λ (w : EventsOf). event_count w (puts a.written a.start bytes 0 a.count)) s.is
    ∙ sector_behind bytes a.start s.zone s.sector a.written 0 a.count (omega arith))

pub returns-else-start-count-clause-value : goal.returns-else-start-count-clause-value
returns-else-start-count-clause-value c bytes =
    let s = c.in-Sector in
    let a = c.args in
    let here = is_same s.zone a.written c.ne.result c.ne.ensures c.if-ne.false in
    sym (ap (λ (w : EventsOf). event_count w (puts a.written a.start bytes 0 a.count)) s.is
    ∙ sector_among bytes a.start s.zone s.sector a.written 0 a.count here (omega arith) (omega arith))

pub returns-then-ne-2-clause-value : goal.returns-then-ne-2-clause-value
returns-then-ne-2-clause-value c bytes =
    let z = c.in-Zone in
    let a = c.args in
    let apart = is_other z.zone a.written c.ne-in-Zone.result c.ne-in-Zone.ensures c.if-ne-2.true in
    sym (ap (λ (w : EventsOf). event_count w (puts a.written a.start bytes 0 a.count)) z.is
    ∙ none_of_zone bytes a.start z.zone a.written 0 a.count apart)

pub returns-else-ne-2-clause-value : goal.returns-else-ne-2-clause-value
returns-else-ne-2-clause-value c bytes =
    let z = c.in-Zone in
    let a = c.args in
    let here = is_same z.zone a.written c.ne-in-Zone.result c.ne-in-Zone.ensures c.if-ne-2.false in
    sym (ap (λ (w : EventsOf). event_count w (puts a.written a.start bytes 0 a.count)) z.is
    ∙ all_of_zone bytes a.start z.zone a.written 0 a.count here)
