use Rattle.std.proofs.Common.{◌≡◌, Some}
use Rattle.bench_tools.proofs.bare.write_bare.Given as goal

abbrev pub invariant-loop : goal.invariant-loop
invariant-loop l = l.disk.told ≡ Some l.geometry
