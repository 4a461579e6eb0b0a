use Rattle.std.proofs.Common.{Bool, Option, IfNone, refl, sym, ap, ◌∙◌, subst}
use Rattle.std.proofs.lemmas.Bool.{false≢true}
use Rattle.zd_jobs.specs.Possible.{IsPossible}
use Rattle.zd_volume.specs.declared.work.Job.{Job}
use Rattle.zd_volume.specs.declared.work.JobKind.{JobKind}
use Rattle.zd_reclaim.specs.Picks.{kind_of_class}
use Rattle.zd_reclaim.proofs.PossibleHere.{none_possible, none_without, possible_by}
use Rattle.zd_reclaim.proofs.choice.possible.Goals as goal

pub returns-in_err-class-clause-none : goal.returns-in_err-class-clause-none
returns-in_err-class-clause-none g c =
    let v = c.args.v.now.plain in
    let chunk = c.args.chunk in
    subst (λ (o : Option Job). IfNone o ((kind : JobKind) → IsPossible v chunk kind → ⊥)) (sym c.from_residual.ensures)
    (none_possible v c.sound.ensures chunk c.requires c.candidates.result.now c.candidates.ensures
    (sym c.class.ensures ∙ c.in_err-class.was))

pub returns-then-not-has_target-clause-none : goal.returns-then-not-has_target-clause-none
returns-then-not-has_target-clause-none g c =
    none_without c.args.v.now.plain c.sound.ensures c.args.chunk c.requires c.candidates.result.now
    c.candidates.ensures c.in_ok-class.class (sym c.class.ensures ∙ c.in_ok-class.was)
    (λ has. false≢true (sym c.if-not-has_target.true ∙ c.has_target.ensures.1 has))

pub returns-clause-some : goal.returns-clause-some
returns-clause-some g c =
    let v = c.args.v.now.plain in
    let chunk = c.args.chunk in
    let class = c.in_ok-class.class in (
      refl,
      subst (λ (k : JobKind). IsPossible v chunk k)
          (sym (c.kind_of-kind.ensures ∙ ap (λ (b : Bool). kind_of_class class b) c.is_some.ensures))
          (possible_by v c.sound.ensures chunk c.requires c.candidates.result.now c.candidates.ensures class
          c.entry.result (sym c.class.ensures ∙ c.in_ok-class.was) (c.has_target.ensures.0 c.if-not-has_target.false) c.entry.ensures),
    )
