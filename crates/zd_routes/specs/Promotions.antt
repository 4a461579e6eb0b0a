-- What a promotion makes of a volume's values: a chunk's buffer becomes its zone.
use Rattle.std.specs.Prelude.{◌≡◌, ℕ, ◌<◌, false, length, get_or, set, Some, None}
use Rattle.zd_alloc.specs.Candidates.{GivesClass}
use Rattle.zd_alloc.specs.Zones.{use_after_release}
use Rattle.zd_model.specs.Tables.{entry_of, is_valid}
use Rattle.zd_sets.specs.Blocks.{blocks_of}
use Rattle.zd_tables.specs.Changes.{ChangesEntry}
use Rattle.zd_volume.specs.Flights.{tables_now}
use Rattle.zd_volume.specs.Jobs.{class_in}
use Rattle.zd_volume.specs.Marks.{MarksChanged}
use Rattle.zd_volume.specs.Volumes.{PlainVolume}

-- A chunk of the device that is buffered and whose zone has no valid block, with both zones
pub record IsBare (v : PlainVolume) (chunk zone buffer : ℕ) : Type 0 where
  pub there : chunk < v.head.layout.chunks
  pub entry : entry_of (tables_now v) chunk ≡ record { zone = Some zone; buffer = Some buffer }
  pub bare : (x : ℕ) → x < v.geometry.zone_blocks → is_valid (tables_now v) zone x ≡ false

-- A PROMOTION: the buffer is the chunk's zone, the old one is released, what changed of the set is
-- dirty, and the chunk has its class anew. The zone goes into limbo where the committed map names it,
-- else it is free
pub record PromotesChunk (from to : PlainVolume) (chunk zone buffer : ℕ) : Type 0 where
  pub tables : ChangesEntry chunk (record { zone = Some buffer; buffer = None }) (tables_now from)
      (tables_now (record from { fresh = to.fresh }))
  pub front : blocks_of to.fresh 0 1 ≡ blocks_of from.fresh 0 1
  pub size : length to.fresh ≡ length from.fresh
  pub dirty : MarksChanged from.fresh to.fresh from.dirty to.dirty
  pub zones : to.division.zones
      ≡ set from.division.zones zone (use_after_release (get_or from.named zone false))
  pub conv : to.division.conv ≡ from.division.conv
  pub order : to.division.order ≡ from.division.order
  pub classes : GivesClass chunk (class_in from.geometry from.pointers
      (tables_now (record from { fresh = to.fresh })) chunk)
      from.standings.classes to.standings.classes
  pub rest : to ≡ record from {
    fresh = to.fresh;
    dirty = to.dirty;
    division = to.division;
    standings = record from.standings { classes = to.standings.classes };
  }
