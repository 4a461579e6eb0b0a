use Rattle.std.proofs.Common.{refl, sym, ap, subst}
use Rattle.zd_disk.proofs.ToldLaws.{OnErr-at, OnOk-at}
use Rattle.zd_volume.specs.Volumes.{IsKeptVolume, PlainVolume}
use Rattle.zd_volume.proofs.Still.{kept_read}
use Rattle.zd_routes.proofs.EdgeKeeps.{kept_merge_failed}
use Rattle.zd_state.specs.Seen.{KeptState}
use Rattle.zd_state.proofs.volume.Volume.merge_read.Goals as goal

pub read_due-requires-clause-below : goal.read_due-requires-clause-below
read_due-requires-clause-below g c i there =
    (c.self.invariant.reads (rw (← c.self.view_is) at c.requires.running) i there).read.below

pub invariant_of-self : goal.invariant_of-self
invariant_of-self g c =
    subst (λ (w : PlainVolume). IsKeptVolume w (g.D.ZonedDisk.view c.self.inside.opening.value)
    (g.D.ZonedDisk.view c.read_due.new.disk))
    (sym (ap (λ (s : KeptState). s.plain) c.stop_by_device.ensures))
    (kept_merge_failed c.self.inside.state.plain (g.D.ZonedDisk.view c.self.inside.opening.value)
    (g.D.ZonedDisk.view c.self.inside.disk) (g.D.ZonedDisk.view c.read_due.new.disk)
    (rw (← c.self.view_is) at c.requires.running) c.self.invariant c.read_due.ensures.reads
    (OnErr-at c.read_due.result _ c.if-is_err.ensures.negation c.read_due.ensures.cause))

pub returns-then-is_err-clause-err : goal.returns-then-is_err-clause-err
returns-then-is_err-clause-err g c =
    let same = OnErr-at c.read_due.result _ c.if-is_err.ensures.negation c.read_due.ensures.err in
    rw (← c.self.view_is) (refl, ap (λ (s : KeptState). s.plain) c.stop_by_device.ensures, same.0, same.1)

pub invariant_of-self-else-is_err : goal.invariant_of-self-else-is_err
invariant_of-self-else-is_err g c =
    kept_read c.self.inside.state.plain (g.D.ZonedDisk.view c.self.inside.opening.value)
    (g.D.ZonedDisk.view c.self.inside.disk) (g.D.ZonedDisk.view c.read_due.new.disk) c.read_due.ensures.reads
    c.self.invariant

pub returns-clause-ok : goal.returns-clause-ok
returns-clause-ok g c =
    rw (← c.self.view_is)
    (OnOk-at c.read_due.result _ c.if-is_err.ensures.negation c.read_due.ensures.ok, refl)
