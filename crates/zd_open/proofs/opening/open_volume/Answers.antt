use Rattle.std.proofs.Common.{List, ℕ, sym, ◌∙◌, subst}
use Rattle.zd_examine.specs.Opened.{IsOpening}
use Rattle.zd_state.specs.Started.{IsStarted}
use Rattle.zd_open.proofs.OpenedSets.{in_zones_opened, opened_as}
use Rattle.zd_volume.specs.Starts.{OpensAs}
use Rattle.zd_volume.specs.Volumes.{StandInZones}
use Rattle.zd_volume.proofs.FixedStart.{same_sets}
use Rattle.zd_open.proofs.opening.open_volume.Goals as goal

pub start-requires-clause-in_zones : goal.start-requires-clause-in_zones
start-requires-clause-in_zones g c =
    subst (StandInZones c.in-Ok.image.geometry) (sym c.in_blocks-pointers.ensures)
    (in_zones_opened c.in-Ok.image (g.D.ZonedDisk.view c.args.disk) (g.D.ZonedDisk.view c.open.new.disk)
    c.in-Ok.ensures.ok c.zone_blocks-zone_blocks.ensures.shape)

pub start-requires-clause-disk : goal.start-requires-clause-disk
start-requires-clause-disk g c =
    subst (λ (ps : List ℕ). OpensAs
    (same_sets c.in-Ok.image.geometry c.in-Ok.image.chosen.head c.in-Ok.image.blocks) ps
    (g.D.ZonedDisk.view c.open.new.disk))
    (sym c.in_blocks-pointers.ensures)
    (opened_as c.in-Ok.image (g.D.ZonedDisk.view c.args.disk) (g.D.ZonedDisk.view c.open.new.disk)
    c.in-Ok.ensures.ok c.zone_blocks-zone_blocks.ensures.shape)

pub returns-in-Ok-start-clause-ok : goal.returns-in-Ok-start-clause-ok
returns-in-Ok-start-clause-ok g c =
    let ok = c.in-Ok-start.ensures.ok in
    let view = g.D.ZonedDisk.view in
    record {
      image = c.in-Ok.image;
      opened = subst (λ (d : _). IsOpening c.in-Ok.image (view c.args.disk) (view d)) (sym ok.disk_is)
          c.in-Ok.ensures.ok;
      opening = ok.opening ∙ sym ok.disk_is;
      values = subst (λ (ps : List ℕ). IsStarted c.in-Ok.image.geometry c.in-Ok.image.chosen.head c.in-Ok.image.blocks
          ps c.in-Ok-start.volume.plain) c.in_blocks-pointers.ensures ok.values;
    }
