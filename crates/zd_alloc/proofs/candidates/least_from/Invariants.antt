-- What was found has the least number from the bound on, of the places before this one.
use Rattle.std.proofs.Common.{take}
use Rattle.zd_alloc.specs.Candidates.{IsFirstSuch, HasNoSuch, is_from}
use Rattle.std.specs.Option.{IfSome, IfNone}
use Rattle.zd_alloc.proofs.candidates.least_from.Given as goal

abbrev pub invariant-loop-place : goal.invariant-loop-place
invariant-loop-place l =
    let before = take l.place l.numbers in
    record {
      some : IfSome l.found (λ place. IsFirstSuch (is_from l.bound before) before place);
      none : IfNone l.found (HasNoSuch (is_from l.bound before) before);
    }
