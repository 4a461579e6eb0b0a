-- What the last step of a job makes of a volume's values.
use Rattle.std.specs.Prelude.{◌≡◌, ◌≢◌, ℕ, ◌<◌, Bool, ◌||◌, false, List, length, get_or, set, Option, Some, None}
use Rattle.zd_alloc.specs.Candidates.{GivesClass}
use Rattle.zd_alloc.specs.Zones.{use_after_release}
use Rattle.zd_alloc.specs.declared.uses.ZoneUse.{ZoneUse}
use Rattle.zd_model.specs.Tables.{Tables, entry_of, is_valid}
use Rattle.zd_model.specs.declared.metadata.MapEntry.{MapEntry}
use Rattle.zd_sets.specs.Blocks.{blocks_of}
use Rattle.zd_volume.specs.Flights.{tables_now}
use Rattle.zd_volume.specs.Jobs.{class_in}
use Rattle.zd_volume.specs.Marks.{MarksChanged}
use Rattle.zd_volume.specs.Volumes.{PlainVolume}
use Rattle.zd_volume.specs.declared.work.JobKind.{JobKind}
use Rattle.zd_volume.specs.declared.work.JobKind.TheVariants.{Empty, Move, Append, Merge}
use Rattle.zd_volume.specs.declared.work.Work.{Work}

-- the zone that a job gives back when it ends
abbrev pub leaving : JobKind → MapEntry → Option ℕ
leaving Empty e = e.zone
leaving Move e = e.zone
leaving Append e = e.buffer
leaving Merge e = e.zone

-- the uses once it is given back: in limbo where the committed map names it, else free
abbrev pub uses_without : Option ℕ → List Bool → List ZoneUse → List ZoneUse
uses_without None named uses = uses
uses_without (Some z) named uses = set uses z (use_after_release (get_or named z false))

-- the target has the valid blocks of the zone that is given back beside its own, and that zone has none; all other
-- zones are as they were
pub record JoinsBits (target leaves : Option ℕ) (blocks : ℕ) (old new : Tables) : Type 0 where
  pub joined : (z y x : ℕ) → target ≡ Some z → leaves ≡ Some y → x < blocks →
      is_valid new z x ≡ (is_valid old z x || is_valid old y x)
  pub cleared : (y x : ℕ) → leaves ≡ Some y → x < blocks → is_valid new y x ≡ false
  pub others : (u x : ℕ) → target ≢ Some u → leaves ≢ Some u → is_valid new u x ≡ is_valid old u x

-- THE JOB ENDS: its chunk has the target for its zone, and none where there is no target; the target has the valid
-- blocks of the zone that is given back; what changed of the set is dirty, and the chunk has its class anew
pub record RemapsChunk (from to : PlainVolume) (w : Work) : Type 0 where
  pub here : entry_of (tables_now (record from { fresh = to.fresh })) w.job.chunk
      ≡ record { zone = w.target; buffer = None }
  pub others : (c : ℕ) → c ≢ w.job.chunk →
      entry_of (tables_now (record from { fresh = to.fresh })) c ≡ entry_of (tables_now from) c
  pub bits : JoinsBits w.target (leaving w.job.kind (entry_of (tables_now from) w.job.chunk))
      from.geometry.zone_blocks (tables_now from) (tables_now (record from { fresh = to.fresh }))
  pub front : blocks_of to.fresh 0 1 ≡ blocks_of from.fresh 0 1
  pub size : length to.fresh ≡ length from.fresh
  pub dirty : MarksChanged from.fresh to.fresh from.dirty to.dirty
  pub zones : to.division.zones
      ≡ uses_without (leaving w.job.kind (entry_of (tables_now from) w.job.chunk)) from.named from.division.zones
  pub conv : to.division.conv ≡ from.division.conv
  pub order : to.division.order ≡ from.division.order
  pub classes : GivesClass w.job.chunk (class_in from.geometry from.pointers
      (tables_now (record from { fresh = to.fresh })) w.job.chunk)
      from.standings.classes to.standings.classes
  pub rest : to ≡ record from {
    fresh = to.fresh;
    dirty = to.dirty;
    division = to.division;
    standings = record from.standings { classes = to.standings.classes };
    job = None;
  }
