-- What a write makes of a volume's values, done or failed.
use Rattle.std.specs.Prelude.{◌≡◌, ℕ, List, [], ◌∷◌, ◌++◌, Some}
use Rattle.zd_base.specs.declared.numbers.Why.{Why}
use Rattle.zd_alloc.specs.Candidates.{Follows, GivesClass}
use Rattle.zd_alloc.specs.Order.{PutsLast}
use Rattle.zd_disk.specs.Told.{next_count}
use Rattle.zd_disk.specs.View.{HasFailed, Stays, View}
use Rattle.zd_model.specs.Plain.Answer.{Done, Fault}
use Rattle.zd_model.specs.declared.requests.Piece.{Piece}
use Rattle.zd_volume.specs.Discards.{chunk_touched, range_end, range_first}
use Rattle.zd_volume.specs.Flights.{answered, tables_now}
use Rattle.zd_volume.specs.Jobs.{class_in}
use Rattle.zd_volume.specs.Marks.{MarksChanged}
use Rattle.zd_volume.specs.Volumes.{PlainVolume, sets_of}
use Rattle.zd_volume.specs.declared.flight.Wrote.{Wrote}
use Rattle.zd_volume.specs.declared.work.Place.{Place}
use Rattle.zd_routes.specs.Routes.{IsRoute, WritesRange, entry_touched, entry_with, other_zone, pointers_with, uses_with}

-- the piece is entered with this reply when its call has returned
abbrev pub entered : PlainVolume → Piece → PlainVolume
entered v p = record v {
  history = v.history ++ answered p Done (next_count v.since) ∷ [];
  since = next_count v.since;
}

-- tables, flags, uses, pointers and candidates are these, and the piece is entered as done
abbrev pub with_write : PlainVolume → Piece → List ℕ → PlainVolume → PlainVolume
with_write v p pointers to = record (entered v p) {
  fresh = to.fresh;
  dirty = to.dirty;
  division = to.division;
  pointers = pointers;
  standings = to.standings;
}

-- A WRITE THAT WAS DONE, to this place and zone: its blocks are valid there and not in the chunk's
-- other zone, a new zone is held and named, the pointer of a sequential one stands behind the blocks,
-- what changed of the set is dirty, the chunk is last in the use order and has its class anew, and the
-- piece is entered with Done
pub record WritesPiece (from to : PlainVolume) (p : Piece) (place : Place) (zone : ℕ) : Type 0 where
  pub route : IsRoute from p.what place zone
  pub range : WritesRange (sets_of from) (chunk_touched from.geometry.zone_blocks p.what)
      (range_first from.geometry.zone_blocks p.what) (range_end from.geometry.zone_blocks p.what)
      (entry_with (entry_touched from p.what) place zone) zone
      (other_zone (entry_touched from p.what) place) to.fresh
  pub dirty : MarksChanged from.fresh to.fresh from.dirty to.dirty
  pub zones : to.division.zones ≡ uses_with place zone from.division.zones
  pub conv : to.division.conv ≡ from.division.conv
  pub order : PutsLast (chunk_touched from.geometry.zone_blocks p.what) from.division.order
      to.division.order
  pub classes : GivesClass (chunk_touched from.geometry.zone_blocks p.what)
      (class_in from.geometry
      (pointers_with from.geometry from.pointers zone (range_end from.geometry.zone_blocks p.what))
      (tables_now (record from { fresh = to.fresh }))
      (chunk_touched from.geometry.zone_blocks p.what))
      from.standings.classes to.standings.classes
  pub numbers : Follows (chunk_touched from.geometry.zone_blocks p.what) from.standings.numbers
      to.standings.numbers
  pub rest : to ≡ with_write from p
      (pointers_with from.geometry from.pointers zone (range_end from.geometry.zone_blocks p.what)) to

-- A WRITE THAT FAILED: it is entered with Fault, the volume is stopped, and no table has changed
abbrev pub with_failed_write : PlainVolume → Piece → PlainVolume
with_failed_write v p = record v {
  history = v.history ++ answered p Fault (next_count v.since) ∷ [];
  since = next_count v.since;
  stopped = Some Why.Device;
}

-- one writing call was made, and no reading call
pub record CallsOnce (u x : View) : Type 0 where
  pub stays : Stays u x
  pub calls : x.calls ≡ next_count u.calls
  pub read_calls : x.read_calls ≡ u.read_calls

-- what a write did
abbrev pub WriteDid : PlainVolume → PlainVolume → Piece → Place → Wrote → Type 0
WriteDid from to p place Wrote.Entered = (zone : ℕ) × WritesPiece from to p place zone
WriteDid from to p place Wrote.Stopped = to ≡ with_failed_write from p

-- only the disk stops it
abbrev pub WriteCause : Wrote → View → View → Type 0
WriteCause Wrote.Entered u x = Unit {0}
WriteCause Wrote.Stopped u x = HasFailed u x
