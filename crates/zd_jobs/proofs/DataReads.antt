-- What the disk reads as where one data zone changes: both sets stay.
use Rattle.std.proofs.Common.{◌≡◌, ◌≢◌, ℕ, ◌<◌, ◌≤◌, List}
use Rattle.zd_base.specs.Layout.{first_data_zone}
use Rattle.zd_model.specs.History.{HistoryEntry}
use Rattle.zd_model.specs.Image.{Image, SameZone}
use Rattle.zd_model.specs.Safe.{last_at}
use Rattle.zd_disk.specs.OfGeometry.{IsImageOf}
use Rattle.zd_sets.proofs.StageLaws.{written_stays}
use Rattle.zd_tables.specs.Rules.{AreBelow}
use Rattle.zd_volume.specs.LeftImages.{ReadsAs}
use Rattle.zd_volume.specs.Phases.{first_count, first_head, second_count, second_head}
use Rattle.zd_volume.specs.Sets.{AreSets, BothStay, Sets, device_sectors, new_tables, second, sector_by, used}
use Rattle.zd_volume.specs.declared.phase.Phase.{Phase}
use Rattle.zd_volume.proofs.Choices.{sets_apart}

pub reads_data : (s : Sets) → AreSets s → (p : Phase) (base : List (List ℕ)) (h : List HistoryEntry) (r j : Image)
    → IsImageOf s.geometry r → (z : ℕ) → first_data_zone s.geometry s.head.layout ≤ z → j.geometry ≡ r.geometry
    → ((y : ℕ) → y ≢ z → SameZone r j y) → AreBelow s.geometry j.held (new_tables s)
    → ((n : ℕ) → n < device_sectors s → sector_by s (new_tables s) j n ≡ last_at base h n)
    → ReadsAs p s base h r → ReadsAs p s base h j
reads_data s are p base h r j of z far geometry others below served reads = record {
  first = written_stays s.geometry 0 (used s) r j stays.first (first_head p s.head) s.old s.new
      (first_count p (used s)) reads.first;
  second = written_stays s.geometry (second s) (used s) r j stays.second (second_head p s.head) s.old s.new
      (second_count p (used s)) reads.second;
  below = below;
  served = served;
}
  where
    stays : BothStay s r j
    stays = sets_apart s are r j of z far geometry others
