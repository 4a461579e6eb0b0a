-- The requests so far, and the last number that was drawn for them.
use Rattle.std.proofs.Common.{◌≡◌, ◌*◌}
use Rattle.zd_script.specs.Generator.{made, number_of}
use Rattle.zd_script.proofs.generator.make.Given as goal

abbrev pub invariant-loop-i : goal.invariant-loop-i
invariant-loop-i l = record {
  plan : l.plan ≡ made l.fn.seed l.i l.fn.blocks;
  numbers : l.numbers.last ≡ number_of l.fn.seed (5 * l.i);
}
