-- The numbers that choices may name at a stop of a disk.
use Rattle.std.proofs.Common.{◌≡◌, ℕ, ◌+◌, ◌<◌, ◌≤◌, List, [], ◌++◌, length, take, sym, ap, ◌∙◌, inr, arith}
use Rattle.zd_base.specs.Geometry.{Shape, zone_count, zone_sectors}
use Rattle.zd_model.specs.Image.{Image}
use Rattle.zd_model.specs.Left.{Call, Since, on_zone}
use Rattle.zd_model.proofs.LeftLaws.{flushed_geometry, geometry-now}
use Rattle.zd_memdisk.specs.Choices.{Moment, moment_at, values_put}
use Rattle.zd_memdisk.specs.DiskChoices.{disk_moment}
use Rattle.zd_memdisk.specs.Disks.{disk_beginning, disk_calls, disk_geometry, disk_history}
use Rattle.zd_memdisk.specs.Events.{done_by}
use Rattle.zd_memdisk.specs.Greatest.{event_count, events_by}
use Rattle.zd_memdisk.specs.Numbers.{HasNoPrefix, HasNoValue, HasPrefixesUpTo, HasValuesUpTo}
use Rattle.zd_memdisk.specs.declared.greatest.EventsOf.{EventsOf}
use Rattle.zd_memdisk.specs.declared.greatest.EventsOf.TheVariants.{Sector, Zone}
use Rattle.zd_memdisk.specs.declared.memory.MemDisk.{MemDisk}
use Rattle.zd_memdisk.proofs.CountedEvents.{count-append, values_counted, zone_counted}
use Rattle.zd_memdisk.proofs.Sound.{all_by}

-- a disk has one geometry at all times
pub flushed_told : (d : MemDisk) (k : ℕ) → (disk_moment d k).flushed.geometry ≡ disk_geometry d
flushed_told d k =
    flushed_geometry (record { flushed = disk_beginning d; events = [] }) (take k (disk_history d))
    ∙ sym (d.recorded.recorded.tied.geometry ∙ geometry-now (disk_beginning d) (disk_history d))

-- the events of a moment are those that are counted
all_events : (which : EventsOf) (first : Image) (calls : List Call) (k : ℕ)
    → events_by which calls k ≡ event_count which ((moment_at first calls k).done ++ (moment_at first calls k).asked)
all_events which first calls k =
    let m = moment_at first calls k in
    let done : m.done ≡ (done_by calls k).since =
    ap (λ (s : Since). s.events) (all_by first (record { before = []; since = [] }) (take k calls)) in
    ap (λ n. n + event_count which m.asked) (ap (event_count which) (sym done))
    ∙ sym (count-append which m.done m.asked)

module _ (d : MemDisk) (k : ℕ) where
  abbrev m : Moment
  m = disk_moment d k

  conv_is : m.flushed.geometry.conv ≡ (disk_geometry d).conv
  conv_is = ap (λ (g : Shape). g.conv) (flushed_told d k)

  -- A SECTOR
  module _ (zone sector : ℕ) where
    last_value : events_by (Sector zone sector) (disk_history d) k ≡ length (values_put zone sector (m.done ++ m.asked))
    last_value =
        all_events (Sector zone sector) (disk_beginning d) (disk_history d) k
        ∙ values_counted zone sector (m.done ++ m.asked)

    pub values_to : (last : ℕ) → last ≡ events_by (Sector zone sector) (disk_history d) k → k ≤ disk_calls d
        → zone < (disk_geometry d).conv → sector < zone_sectors (disk_geometry d) → HasValuesUpTo d k zone sector last
    values_to last is within conventional inside = record {
      within = within;
      there = λ n. (
        λ named. let low = named.value in omega (arith, is, last_value),
        λ low. record {
          zone = omega (arith, conv_is);
          sector = omega (arith, ap zone_sectors (flushed_told d k));
          value = omega (arith, is, last_value);
        },
      );
    }

    pub no_zone : (disk_geometry d).conv ≤ zone → HasNoValue d k zone sector
    no_zone other = inr (λ n named. let low = named.zone in omega (arith, conv_is))

    pub no_sector : zone_sectors (disk_geometry d) ≤ sector → HasNoValue d k zone sector
    no_sector past = inr (λ n named. let low = named.sector in omega (arith, ap zone_sectors (flushed_told d k)))

  -- A ZONE
  module _ (zone : ℕ) where
    longest_prefix : events_by (Zone zone) (disk_history d) k ≡ length (on_zone zone (m.done ++ m.asked))
    longest_prefix =
        all_events (Zone zone) (disk_beginning d) (disk_history d) k ∙ zone_counted zone (m.done ++ m.asked)

    pub prefixes_to : (longest : ℕ) → longest ≡ events_by (Zone zone) (disk_history d) k → k ≤ disk_calls d
        → (disk_geometry d).conv ≤ zone → zone < zone_count (disk_geometry d) → HasPrefixesUpTo d k zone longest
    prefixes_to longest is within sequential inside = record {
      within = within;
      there = λ n. (
        λ named. let low = named.front in omega (arith, is, longest_prefix),
        λ low. record {
          sequential = omega (arith, conv_is);
          zone = omega (arith, ap zone_count (flushed_told d k));
          front = omega (arith, is, longest_prefix);
        },
      );
    }

    pub no_sequential : zone < (disk_geometry d).conv → HasNoPrefix d k zone
    no_sequential other = inr (λ n named. let low = named.sequential in omega (arith, conv_is))

    pub no_such_zone : zone_count (disk_geometry d) ≤ zone → HasNoPrefix d k zone
    no_such_zone past = inr (λ n named. let low = named.zone in omega (arith, ap zone_count (flushed_told d k)))
