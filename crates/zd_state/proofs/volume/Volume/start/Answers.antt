use Rattle.std.proofs.Common.{sym, subst}
use Rattle.zd_model.specs.declared.metadata.Super.{Super}
use Rattle.zd_model.specs.Super.{HasBlock}
use Rattle.zd_state.specs.Started.{IsStarted}
use Rattle.zd_state.proofs.StartValues.{kept_started}
use Rattle.zd_volume.specs.Volumes.{IsKeptVolume}
use Rattle.zd_state.proofs.volume.Volume.start.Goals as goal

pub invariant_of-result : goal.invariant_of-result
invariant_of-result g c =
    subst (λ (d : _). IsKeptVolume c.in-Ok.state.plain (g.D.ZonedDisk.view d) (g.D.ZonedDisk.view c.args.disk))
    (sym c.of.ensures)
    (kept_started c.args.geometry c.args.chosen.head c.args.blocks c.args.pointers.items c.in-Ok.state.plain
    (g.D.ZonedDisk.view c.args.disk)
    (subst (λ (h : Super). IsStarted c.args.geometry h c.args.blocks c.args.pointers.items c.in-Ok.state.plain)
    c.sized-head.ensures.value c.in-Ok.ensures)
    c.requires.told c.zone_blocks-zone_blocks.ensures.shape c.requires.fits
    (subst HasBlock c.sized-head.ensures.value c.sized-head.ensures.sizes)
    c.requires.size c.requires.rules c.requires.pointers c.requires.in_zones
    c.requires.disk)
