-- The words before word j stand in front.
use Rattle.std.proofs.Common.{◌≡◌, ◌*◌, take}
use Rattle.std.specs.Int.{w64, to_le_bytes}
use Rattle.std.specs.List.{range_with_len, flat_map}
use Rattle.zd_model.specs.Plain.{word}
use Rattle.zd_plain.proofs.words.pattern.Given as goal

abbrev pub invariant-loop-j : goal.invariant-loop-j
invariant-loop-j l = take (8 * l.j) l.out ≡ flat_map (λ j. to_le_bytes w64 (word l.fn.seed l.fn.sector j)) (range_with_len 0 l.j)
