-- A zone from which a block is read is the chunk's or its buffer.
use Rattle.std.proofs.Common.{◌≡◌, ℕ, Some}
use Rattle.zd_model.specs.Tables.{NamesZone, entry_of}
use Rattle.zd_model.proofs.ServedLaws.{place_valid}
use Rattle.zd_volume.specs.Flights.{place_now, tables_now}
use Rattle.zd_volume.specs.Volumes.{PlainVolume}

pub names_place : (v : PlainVolume) (chunk x z : ℕ) → place_now v chunk x ≡ Some z
    → NamesZone (entry_of (tables_now v) chunk) z
names_place v chunk x z is = (place_valid (tables_now v) (entry_of (tables_now v) chunk) x z is).0
