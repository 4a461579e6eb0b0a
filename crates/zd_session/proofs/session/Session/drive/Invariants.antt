use Rattle.std.proofs.Common.{take}
use Rattle.zd_session.specs.SessionSteps.{MakesTurns}
use Rattle.zd_session.proofs.session.Session.drive.Given as goal

abbrev pub invariant-loop-turn : goal.invariant-loop-turn
invariant-loop-turn g l = MakesTurns g.D.ZonedDisk.view l.initial.self l.self (take l.turn-index l.turns)
