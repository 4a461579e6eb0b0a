use Rattle.std.proofs.Common.{◌∙◌, inr, refl, sym, arith}
use Rattle.std.proofs.lemmas.Bool.{false≢true}
use Rattle.zd_state.proofs.state.VolumeState.step_of.Goals as goal

pub returns-else-has_gap : goal.returns-else-has_gap
returns-else-has_gap c =
    let none = c.if-work-gt0.false in
    inr (inr (
      omega (arith, none),
      (
        c.in-Some.run'.at,
        c.in-Some.run'.count,
        c.in-Some.ensures.some.0,
        inr ((λ gap. absurd (false≢true (sym c.if-has_gap.false ∙ c.has_gap.ensures.1 gap))), refl),
      ),
    ))
