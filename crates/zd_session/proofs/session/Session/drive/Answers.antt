use Rattle.std.proofs.Common.{◌<◌, ℕ, List, get_or, subst, sym, take}
use Rattle.std.proofs.lemmas.List.{take_more}
use Rattle.zd_base.specs.declared.steps.Prefer.{Prefer}
use Rattle.zd_base.specs.declared.steps.Prefer.TheVariants.{Pieces}
use Rattle.zd_session.specs.SessionSteps.{MakesTurns}
use Rattle.zd_session.proofs.TurnLaws.{turns_count, turns_more}
use Rattle.zd_session.proofs.session.Session.drive.Goals as goal

pub step-stepped-requires : goal.step-stepped-requires
step-stepped-requires g c =
    subst (λ (n : ℕ). (get_or c.args.turns.now c.loop-turn.turn-index (0, Pieces)).0 < n)
    (sym (turns_count g.D.ZonedDisk.view c.args.self.now c.loop-turn.self
    (take c.loop-turn.turn-index c.args.turns.now) c.loop-turn.invariant))
    (c.requires c.loop-turn.turn-index (0, Pieces) c.loop-turn-test.true)

pub loop-turn-preserved : goal.loop-turn-preserved
loop-turn-preserved g c =
    subst (λ (turns : List (ℕ × Prefer)). MakesTurns g.D.ZonedDisk.view c.args.self.now c.step-stepped.new.self turns)
    (sym (take_more c.args.turns.now c.loop-turn.turn-index (0, Pieces) c.loop-turn-test.true))
    (turns_more g.D.ZonedDisk.view c.args.self.now c.loop-turn.self c.step-stepped.new.self
    (take c.loop-turn.turn-index c.args.turns.now) (get_or c.args.turns.now c.loop-turn.turn-index (0, Pieces))
    c.step-stepped.result c.loop-turn.invariant c.step-stepped.ensures)
