use Rattle.std.proofs.Common.{refl, rules}
use Rattle.zd_session.proofs.MakingLaws.{commit_ended, commit_failed, commit_more, commit_refused, handed_firsts, handed_fits, handed_flushes}
use Rattle.zd_session.proofs.making.commit.Goals as goal

pub step-requires-clause-flushes : goal.step-requires-clause-flushes
step-requires-clause-flushes g c =
    handed_flushes g.D.ZonedDisk.view c.args.volume.now c.args.progress.now c.requires.going c.requires.running
    c.flushes.new.list.items c.known.ensures.queue c.flushes.ensures.list c.deref.result.now c.deref.ensures.value

pub step-requires-clause-spare : goal.step-requires-clause-spare
step-requires-clause-spare g c =
    handed_fits g.D.ZonedDisk.view c.args.volume.now c.args.progress.now c.requires.going c.requires.running
    c.flushes.new.list.items c.known.ensures.queue c.flushes.ensures.list c.deref.result.now c.deref.ensures.value

pub enter_flushes-requires : goal.enter_flushes-requires
enter_flushes-requires g c =
    handed_firsts g.D.ZonedDisk.view c.args.volume.now c.args.progress.now c.requires.going c.requires.running
    c.flushes.new.list.items c.known.ensures.queue c.flushes.ensures.list c.deref-in-Ended.result.now
    c.deref-in-Ended.ensures.value

pub enter_flushes-requires-then-eq : goal.enter_flushes-requires-then-eq
enter_flushes-requires-then-eq g c =
    handed_firsts g.D.ZonedDisk.view c.args.volume.now c.args.progress.now c.requires.going c.requires.running
    c.flushes.new.list.items c.known.ensures.queue c.flushes.ensures.list c.deref-then-eq.result.now
    c.deref-then-eq.ensures.value

pub returns-in-More-clause-moved : goal.returns-in-More-clause-moved
returns-in-More-clause-moved g c =
    commit_more g.D.ZonedDisk.view c.args.volume.now c.args.progress.now c.requires.going c.requires.running
    c.flushes.new.list.items c.known.ensures.queue c.flushes.ensures.list c.known.ensures.volume c.step.new.v
    c.deref.result.now c.deref.ensures.value c.step.result c.step.ensures.step c.step.ensures.call c.step.ensures.same
    c.in-More.is

pub returns-in-Ended-clause-moved : goal.returns-in-Ended-clause-moved
returns-in-Ended-clause-moved g c =
    commit_ended g.D.ZonedDisk.view c.args.volume.now c.args.progress.now c.requires.going c.requires.running
    c.flushes.new.list.items c.known.ensures.queue c.flushes.ensures.list c.known.ensures.volume c.step.new.v
    c.deref.result.now c.deref.ensures.value c.step.result c.step.ensures.step c.step.ensures.call c.step.ensures.same
    c.in-Ended.is _ c.deref-in-Ended.result.now c.deref-in-Ended.ensures.value c.enter_flushes.ensures refl refl

pub returns-then-eq-clause-moved : goal.returns-then-eq-clause-moved
returns-then-eq-clause-moved g c =
    commit_failed g.D.ZonedDisk.view c.args.volume.now c.args.progress.now c.requires.going c.requires.running
    c.flushes.new.list.items c.known.ensures.queue c.flushes.ensures.list c.known.ensures.volume c.step.new.v
    c.deref.result.now c.deref.ensures.value c.step.result c.step.ensures.step c.step.ensures.call c.step.ensures.same
    c.in-Stopped.why c.in-Stopped.is (search rules) _
    c.deref-then-eq.result.now c.deref-then-eq.ensures.value
    c.enter_flushes-then-eq.ensures refl refl

pub returns-else-eq-clause-moved : goal.returns-else-eq-clause-moved
returns-else-eq-clause-moved g c =
    commit_refused g.D.ZonedDisk.view c.args.volume.now c.args.progress.now c.requires.going c.requires.running
    c.flushes.new.list.items c.known.ensures.queue c.flushes.ensures.list c.known.ensures.volume c.step.new.v
    c.deref.result.now c.deref.ensures.value c.step.result c.step.ensures.step c.step.ensures.call c.step.ensures.same
    c.in-Stopped.why c.in-Stopped.is (λ device. search rules)
