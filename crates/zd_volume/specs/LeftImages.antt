-- What each image is like that a stop may leave now, and what the disk reads as, in each phase.
use Rattle.std.specs.Prelude.{◌≡◌, ℕ, ◌<◌, List}
use Rattle.zd_model.specs.History.{HistoryEntry}
use Rattle.zd_model.specs.Image.{Image}
use Rattle.zd_model.specs.Safe.{last_at}
use Rattle.zd_model.specs.Stops.{MayHold}
use Rattle.zd_sets.specs.Stages.{InStage, IsWritten}
use Rattle.zd_tables.specs.Rules.{AreBelow}
use Rattle.zd_volume.specs.declared.phase.Phase.{Phase}
use Rattle.zd_volume.specs.Phases.{first_count, first_head, first_stage}
use Rattle.zd_volume.specs.Phases.{second_count, second_head, second_stage, TakesNew, TakesOld}
use Rattle.zd_volume.specs.Sets.{Sets, device_sectors, new_tables, old_tables, sector_by, used}
use Rattle.zd_volume.specs.Sets.{second as second_zone}

-- An image that a stop may leave at moment k: how far its sets are, and what it holds by the tables
-- that it may choose. By the committed ones each sector has a value that it may hold; by the new
-- ones each has the last.
pub record MayBeLeft (p : Phase) (s : Sets) (base : List (List ℕ)) (history : List HistoryEntry)
    (k : ℕ) (i : Image) : Type 0 where
  pub first : InStage (first_stage p) s.geometry 0 (used s) s.head s.old s.new i
  pub second : InStage (second_stage p) s.geometry (second_zone s) (used s) s.head s.old s.new i
  pub by_old : TakesOld p → (n : ℕ) → n < device_sectors s →
      MayHold base history k n (sector_by s (old_tables s) i n)
  pub below_old : TakesOld p → AreBelow s.geometry i.held (old_tables s)
  pub below_new : TakesNew p → AreBelow s.geometry i.held (new_tables s)
  pub by_new : TakesNew p → (n : ℕ) → n < device_sectors s →
      sector_by s (new_tables s) i n ≡ last_at base history n

-- what the disk reads as: how far each set is written, and that the new tables serve what is there
-- last
pub record ReadsAs (p : Phase) (s : Sets) (base : List (List ℕ)) (history : List HistoryEntry)
    (i : Image) : Type 0 where
  pub first : IsWritten s.geometry 0 (used s) (first_head p s.head) s.old s.new
      (first_count p (used s)) i
  pub second : IsWritten s.geometry (second_zone s) (used s) (second_head p s.head) s.old s.new
      (second_count p (used s)) i
  pub below : AreBelow s.geometry i.held (new_tables s)
  pub served : (n : ℕ) → n < device_sectors s →
      sector_by s (new_tables s) i n ≡ last_at base history n
