-- Runs of blocks of a chunk with one place.
use Rattle.std.specs.Prelude.{◌≡◌, ◌≢◌, ℕ, ◌+◌, ◌/◌, ◌%◌, Option, Some, None}
use Rattle.zd_model.specs.Places.{IsPlacedRun}
use Rattle.zd_model.specs.Tables.{entry_of}
use Rattle.zd_model.specs.declared.metadata.MapEntry.{MapEntry}
use Rattle.zd_volume.specs.Flights.{place_now, tables_now}
use Rattle.zd_volume.specs.Volumes.{PlainVolume}
use Rattle.zd_volume.specs.declared.work.Place.{Place}
use Rattle.zd_volume.specs.declared.work.Place.TheVariants.{Main, NewMain, Buffer, NewBuffer}
use Rattle.zd_read.specs.declared.run.Run.{Run}

-- the zone of blocks that are read from this place of a chunk: the chunk's, or its buffer; none where
-- they are zeros
abbrev pub IsReadFrom : MapEntry → Option Place → Option ℕ → Type 0
IsReadFrom e None from = from ≡ None
IsReadFrom e (Some Main) from = (from ≢ None) × (from ≡ e.zone)
IsReadFrom e (Some Buffer) from = (from ≢ None) × (from ≡ e.buffer)
IsReadFrom e (Some NewMain) from = ⊥
IsReadFrom e (Some NewBuffer) from = ⊥

-- from this block of the device on stand exactly so many with this place, before so many blocks are
-- over or one has another place
pub record IsRunFrom (v : PlainVolume) (block most : ℕ) (run : Run) : Type 0 where
  pub zone : Option ℕ
  pub from : IsReadFrom (entry_of (tables_now v) (block / v.geometry.zone_blocks)) run.place zone
  pub is : IsPlacedRun (place_now v (block / v.geometry.zone_blocks))
      (block % v.geometry.zone_blocks) (block % v.geometry.zone_blocks + most) zone run.count
