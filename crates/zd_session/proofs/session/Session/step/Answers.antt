use Rattle.std.proofs.Common.{◌≡◌, Some, None, ap, subst, sym, vec_capacity, ◌∙◌}
use Rattle.zd_base.specs.declared.steps.Stepped.TheVariants.{Did}
use Rattle.zd_steps.specs.Runs.{Standing}
use Rattle.zd_session.specs.Moving.{seen_by}
use Rattle.zd_session.specs.SessionSteps.{MakesStep, answer_by}
use Rattle.zd_session.specs.Sessions.{SessionView, run_seen, standing_seen}
use Rattle.zd_session.proofs.StepLaws.{chosen_may, chosen_runs, map_marks}
use Rattle.zd_session.proofs.TurnLaws.{chosen_here, no_step, one_step}
use Rattle.zd_session.proofs.session.Session.step.Goals.{in-Some-stopped, in-None}
use Rattle.zd_session.proofs.session.Session.step.Goals as goal

pub returns-in_default : goal.returns-in_default
returns-in_default g c =
    subst (λ (s : SessionView g.row.D.Denot). MakesStep g.D.ZonedDisk.view s s c.args.actor c.args.prefer c.rest.result)
    c.self.view_is
    (no_step g.D.ZonedDisk.view c.self.inside.volume c.self.inside.plan.items c.self.inside.progress
    (vec_capacity c.self.inside.list) c.self.invariant c.args.actor c.args.prefer c.choose.result c.choose.ensures.step
    c.in_default.is c.rest.result
    (subst (λ (s : SessionView g.row.D.Denot). (st : Standing)
    → c.rest.result ≡ answer_by (run_seen s) st None s.volume.plain.stopped) (sym c.self.view_is) c.rest.ensures))

pub make-kind-requires-clause-running : goal.make-kind-requires-clause-running
make-kind-requires-clause-running g c =
    chosen_runs c.self.inside.volume.plain c.self.inside.progress.queue (map_marks c.self.inside.volume.plain)
    c.args.actor c.args.prefer c.in-Some.step
    (sym (chosen_here g.D.ZonedDisk.view c.self.inside.volume c.self.inside.plan.items c.self.inside.progress
    (vec_capacity c.self.inside.list) c.self.invariant c.args.actor c.args.prefer c.choose.result
    c.choose.ensures.step) ∙ c.in-Some.is)

pub make-kind-requires-clause-may : goal.make-kind-requires-clause-may
make-kind-requires-clause-may g c =
    chosen_may c.self.inside.volume.plain c.self.inside.progress.queue (map_marks c.self.inside.volume.plain)
    c.args.actor c.args.prefer c.in-Some.step
    (sym (chosen_here g.D.ZonedDisk.view c.self.inside.volume c.self.inside.plan.items c.self.inside.progress
    (vec_capacity c.self.inside.list) c.self.invariant c.args.actor c.args.prefer c.choose.result
    c.choose.ensures.step) ∙ c.in-Some.is)
    (λ p serves. c.choose.ensures.serve (map_marks c.self.inside.volume.plain) p
    c.self.invariant.session.progress.entered (c.in-Some.is ∙ ap Some serves))

pub returns : goal.returns
returns g c =
    subst (λ (s : SessionView g.row.D.Denot). MakesStep g.D.ZonedDisk.view s
    (seen_by c.make-kind.new.volume c.self.inside.plan.items c.make-kind.new.progress) c.args.actor c.args.prefer
    c.match-stopped.result) c.self.view_is
    (one_step g.D.ZonedDisk.view c.self.inside.volume c.self.inside.plan.items c.self.inside.progress
    (vec_capacity c.self.inside.list) c.self.invariant c.args.actor c.args.prefer c.choose.result c.choose.ensures.step
    c.in-Some.step c.in-Some.is c.make-kind.new.volume c.make-kind.new.progress c.make-kind.ensures.moved
    (c.make-kind.ensures.makes c.self.inside.plan.items c.self.invariant.session.pieces) c.match-stopped.result
    (elim c.match-stopped.branch [
      | in-Some-stopped w ↦
          w.result-is
          ∙ ap (answer_by (run_seen (seen_by c.self.inside.volume c.self.inside.plan.items c.self.inside.progress))
          (standing_seen (seen_by c.self.inside.volume c.self.inside.plan.items c.self.inside.progress) c.args.actor)
          (Some c.in-Some.step)) (sym w.in-Some-stopped.is ∙ c.stopped.ensures)
      | in-None w ↦
          w.result-is ∙ ap Did c.make-kind.ensures.kind
          ∙ ap (answer_by (run_seen (seen_by c.self.inside.volume c.self.inside.plan.items c.self.inside.progress))
          (standing_seen (seen_by c.self.inside.volume c.self.inside.plan.items c.self.inside.progress) c.args.actor)
          (Some c.in-Some.step)) (sym w.in-None.is ∙ c.stopped.ensures)
    ]))
