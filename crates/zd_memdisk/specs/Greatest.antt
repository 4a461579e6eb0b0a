-- The greatest numbers that choices may name: how many events there are of a sector or a zone.
use Rattle.std.specs.Prelude.{ℕ, ◌+◌, ◌==◌, ◌&&◌, Bool, false, List, length, filter}
use Rattle.zd_model.specs.Left.{Call, Event, under_way, zone_of}
use Rattle.zd_model.specs.Left.Event.{Put, Clear}
use Rattle.zd_memdisk.specs.Events.{done_by}
use Rattle.zd_memdisk.specs.declared.greatest.EventsOf.{EventsOf}
use Rattle.zd_memdisk.specs.declared.greatest.EventsOf.TheVariants.{Sector, Zone}

-- it puts a value into the sector, or is done to the zone
abbrev pub is_event_of : EventsOf → Event → Bool
is_event_of (Sector zone sector) (Put y j v) = y == zone && j == sector
is_event_of (Sector zone sector) (Clear y) = false
is_event_of (Zone zone) e = zone_of e == zone

-- how many of these events are
abbrev pub event_count : EventsOf → List Event → ℕ
event_count which events = length (filter (is_event_of which) events)

-- those that were done since the last flush when k calls had returned, and those that were under way
abbrev pub events_by : EventsOf → List Call → ℕ → ℕ
events_by which calls k = event_count which (done_by calls k).since + event_count which (under_way calls k)
