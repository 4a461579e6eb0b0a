-- What is counted of the calls that were noted first, and that the sums fit.
use Rattle.std.proofs.Common.{◌≡◌, ℕ, ◌+◌, ◌≤◌, List, length, drop}
use Rattle.zd_memdisk.specs.Calls.{total_bytes}
use Rattle.zd_memdisk.specs.Events.{AreFit}
use Rattle.zd_memdisk.proofs.CountedCalls.{IsCountedTo}
use Rattle.zd_memdisk.proofs.greatest.EventsOf.up_to.Given as goal

abbrev pub invariant-loop-noted : goal.invariant-loop-noted
invariant-loop-noted l =
    let rest = drop l.noted-index l.noted in
    record {
      fit : AreFit rest;
      room : l.count + (length rest + total_bytes rest) ≤ length l.noted + total_bytes l.noted;
      counted : (bytes : List ℕ) (skipped : ℕ) → length bytes ≡ total_bytes l.noted →
          IsCountedTo l.self l.noted l.stop bytes skipped rest l.left l.count;
    }
