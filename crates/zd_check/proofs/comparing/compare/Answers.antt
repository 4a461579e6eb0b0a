use Rattle.std.proofs.Common.{◌≡◌, true, false, length, refl, sym, ap, ◌∙◌, arith}
use Rattle.zd_model.specs.Super.{decoded}
use Rattle.zd_sets.proofs.BlockLaws.{block_size}
use Rattle.zd_check.proofs.CompareLaws.{blocks_same, differ_first, same_supers, supers_same}
use Rattle.zd_check.proofs.comparing.compare.Goals as goal

pub is_super_of-requires : goal.is_super_of-requires
is_super_of-requires c = record {
  size = ap length c.block.ensures ∙ block_size c.args.others.now 0 (omega (arith, c.requires.others));
}

pub returns-then-not-is_super_of : goal.returns-then-not-is_super_of
returns-then-not-is_super_of c image sets = (
  λ same. (
      let is = c.is_super_of.ensures.1 (ap decoded c.block.ensures
      ∙ same_supers c.args.geometry.now c.args.chosen.now c.args.blocks.now c.args.others.now image sets same) in
      let wrong : true ≡ false = sym is ∙ c.if-not-is_super_of.true in
      absurd (let none : ⊥ = cc in none)
      ),
  refl,
)

pub returns-in-Some : goal.returns-in-Some
returns-in-Some c image sets = (
  supers_same c.args.geometry.now c.args.chosen.now c.args.blocks.now c.args.others.now image sets
      (ap decoded (sym c.block.ensures) ∙ c.is_super_of.ensures.0 c.if-not-is_super_of.false),
  differ_first c.args.geometry.now c.args.chosen.now c.args.blocks.now c.args.others.now image sets c.in-Some.block
      (rw c.used_blocks-used.ensures at c.in-Some.ensures.some),
)

pub returns-in-None : goal.returns-in-None
returns-in-None c image sets = (
  supers_same c.args.geometry.now c.args.chosen.now c.args.blocks.now c.args.others.now image sets
      (ap decoded (sym c.block.ensures) ∙ c.is_super_of.ensures.0 c.if-not-is_super_of.false),
  blocks_same c.args.geometry.now c.args.chosen.now c.args.blocks.now c.args.others.now image sets
      (rw c.used_blocks-used.ensures at c.in-None.ensures.none),
)
