-- A WRITE AND A PROMOTION, by what they do to the blocks of the set.
use Rattle.std.proofs.Common.{◌≡◌, ℕ, Bool, true, false, List, set, get_or, Option, Some, None, refl}
use Rattle.zd_alloc.specs.Candidates.{Follows, GivesClass, Standings}
use Rattle.zd_alloc.specs.Order.{PutsLast}
use Rattle.zd_alloc.specs.Zones.{Division, use_after_release}
use Rattle.zd_alloc.specs.declared.job_class.JobClass.{JobClass}
use Rattle.zd_model.specs.declared.requests.Piece.{Piece}
use Rattle.zd_tables.specs.Changes.{SetsEntry, entry_block}
use Rattle.zd_tables.specs.Tables.{tables_in}
use Rattle.zd_volume.specs.Discards.{chunk_touched, range_end, range_first}
use Rattle.zd_volume.specs.Jobs.{class_in}
use Rattle.zd_volume.specs.Marks.{GivesBits, GivesBitsIn}
use Rattle.zd_volume.specs.Sets.{AreSets}
use Rattle.zd_volume.specs.Volumes.{IsFixed, PlainVolume, sets_of}
use Rattle.zd_volume.specs.declared.work.Place.{Place}
use Rattle.zd_routes.specs.Promotions.{IsBare, PromotesChunk}
use Rattle.zd_routes.specs.Routes.{GivesEntry, IsRoute, WritesBlocks, entry_touched, entry_with, other_zone, pointers_with}
use Rattle.zd_routes.specs.Routes.{uses_with}
use Rattle.zd_routes.specs.Writes.{WritesPiece, entered}
use Rattle.zd_routes.proofs.RouteBlocks.{entry_front, promoted_entry, written_marks, written_range}

pub writes_by : (v : PlainVolume) (fixed : IsFixed v) (p : Piece) (place : Place) (zone : ℕ)
    (start middle bytes : List ℕ) (early half marked : List Bool) (d : Division) (standings : Standings)
    → IsRoute v p.what place zone → WritesBlocks (sets_of v) p.what
    → GivesEntry place (chunk_touched v.geometry.zone_blocks p.what)
    (entry_with (entry_touched v p.what) place zone) v.fresh start v.dirty early
    → GivesBits true v.geometry v.head.layout zone (range_first v.geometry.zone_blocks p.what)
    (range_end v.geometry.zone_blocks p.what) start middle early half
    → GivesBitsIn false v.geometry v.head.layout (other_zone (entry_touched v p.what) place)
    (range_first v.geometry.zone_blocks p.what) (range_end v.geometry.zone_blocks p.what) middle bytes half marked
    → d.zones ≡ uses_with place zone v.division.zones → d.conv ≡ v.division.conv
    → PutsLast (chunk_touched v.geometry.zone_blocks p.what) v.division.order d.order
    → GivesClass (chunk_touched v.geometry.zone_blocks p.what)
    (class_in v.geometry (pointers_with v.geometry v.pointers zone (range_end v.geometry.zone_blocks p.what))
    (tables_in v.geometry v.head.layout bytes) (chunk_touched v.geometry.zone_blocks p.what))
    v.standings.classes standings.classes
    → Follows (chunk_touched v.geometry.zone_blocks p.what) v.standings.numbers standings.numbers
    → WritesPiece v (record (entered v p) {
      fresh = bytes;
      dirty = marked;
      division = d;
      pointers = pointers_with v.geometry v.pointers zone (range_end v.geometry.zone_blocks p.what);
      standings = standings;
    }) p place zone
writes_by v fixed p place zone start middle bytes early half marked d standings route is begins one two zones conv
    order classes numbers = record {
      route = route;
      range = written_range v fixed p.what place zone route is start middle bytes early half marked begins one two;
      dirty = written_marks v fixed p.what place zone route is start middle bytes early half marked begins one two;
      zones = zones;
      conv = conv;
      order = order;
      classes = classes;
      numbers = numbers;
      rest = refl;
    }

pub promotes_by : (v : PlainVolume) (chunk zone buffer : ℕ) (bytes : List ℕ) (d : Division)
    (classes : List (Option JobClass)) → AreSets (sets_of v) → IsBare v chunk zone buffer
    → SetsEntry chunk (record { zone = Some buffer; buffer = None }) v.fresh bytes
    → d.zones ≡ set v.division.zones zone (use_after_release (get_or v.named zone false))
    → d.conv ≡ v.division.conv → d.order ≡ v.division.order
    → GivesClass chunk (class_in v.geometry v.pointers (tables_in v.geometry v.head.layout bytes) chunk)
    v.standings.classes classes
    → PromotesChunk v (record v {
      fresh = bytes;
      dirty = set v.dirty (entry_block chunk) true;
      division = d;
      standings = record v.standings { classes = classes };
    }) chunk zone buffer
promotes_by v chunk zone buffer bytes d classes are is sets zones conv order gives =
    let has = promoted_entry v chunk zone buffer bytes are is sets in
    record {
      tables = has.tables;
      front = entry_front (sets_of v) chunk (record { zone = Some buffer; buffer = None }) bytes v.dirty
          (set v.dirty (entry_block chunk) true) has;
      size = has.only.size;
      dirty = has.marks;
      zones = zones;
      conv = conv;
      order = order;
      classes = gives;
      rest = refl;
    }
