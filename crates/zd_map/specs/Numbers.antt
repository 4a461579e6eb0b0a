-- The numbers that stand in entries for zones.
use Rattle.std.specs.Prelude.{ℕ, ◌<◌, Option, Some, None}
use Rattle.zd_model.specs.declared.metadata.MapEntry.{MapEntry}

-- the number that stands for a zone, or for none
abbrev pub number_of : Option ℕ → ℕ
number_of None = 0xFFFFFFFF
number_of (Some zone) = zone

-- no zone has the number that stands for none
abbrev pub IsZoneField : Option ℕ → Type 0
IsZoneField None = Unit {0}
IsZoneField (Some zone) = zone < 0xFFFFFFFF

abbrev pub NamesZones : MapEntry → Type 0
NamesZones entry = IsZoneField entry.zone × IsZoneField entry.buffer

-- the entry of a chunk that has no zones
abbrev pub unmapped : MapEntry
unmapped = record { zone = None; buffer = None }
