-- What a call makes of the image that the disk reads as.
use Rattle.std.proofs.Common.{ℕ, List, ◌∙◌}
use Rattle.zd_model.specs.History.{HistoryEntry}
use Rattle.zd_model.specs.Image.{Image}
use Rattle.zd_disk.specs.OfGeometry.{IsImageOf}
use Rattle.zd_sets.specs.Stages.{InStage, IsWritten}
use Rattle.zd_sets.proofs.StageLaws.{all_written, before_mixed, written_stays}
use Rattle.zd_volume.proofs.PlaceLaws.{below_stays, content_stays}
use Rattle.zd_volume.specs.declared.phase.Phase.{Phase}
use Rattle.zd_volume.specs.declared.phase.Phase.TheVariants.{LogFlush, LogSuper, LogSuperFlush, InPlace, InPlaceFlush, InPlaceSuper}
use Rattle.zd_volume.specs.Phases.{first_count, first_head, first_stage, second_count, second_head, second_stage, TakesOld}
use Rattle.zd_volume.specs.LeftImages.{MayBeLeft, ReadsAs}
use Rattle.zd_volume.specs.Sets.{AreSets, BothStay, DataStays, Sets, new_tables, second, used}
use Rattle.zd_volume.proofs.Choices.{lowest, some_blocks}

module _ (s : Sets) (are : AreSets s) where
  -- no data sector changes
  pub read_step : (p q : Phase) (base : List (List ℕ)) (h : List HistoryEntry) (i c : Image) → IsImageOf s.geometry i
      → (IsWritten s.geometry 0 (used s) (first_head p s.head) s.old s.new (first_count p (used s)) i
      → IsWritten s.geometry 0 (used s) (first_head q s.head) s.old s.new (first_count q (used s)) c)
      → (IsWritten s.geometry (second s) (used s) (second_head p s.head) s.old s.new (second_count p (used s)) i
      → IsWritten s.geometry (second s) (used s) (second_head q s.head) s.old s.new (second_count q (used s)) c)
      → DataStays s i c
      → ReadsAs p s base h i → ReadsAs q s base h c
  read_step p q base h i c of first second stay r = record {
    first = first r.first;
    second = second r.second;
    below = below_stays s.geometry s.head.layout (some_blocks s are)
        (new_tables s) are.new_rules.map i c of r.below stay.zones (lowest s are);
    served = λ n l. content_stays s.geometry s.head.layout (some_blocks s are)
        (new_tables s) are.new_rules.map i c of r.below stay.zones (lowest s are) n ∙ r.served n l;
  }

  -- an image with the same sectors reads as the same
  pub read_stays : (p : Phase) (base : List (List ℕ)) (h : List HistoryEntry) (i c : Image) → IsImageOf s.geometry i
      → BothStay s i c → DataStays s i c
      → ReadsAs p s base h i → ReadsAs p s base h c
  read_stays p base h i c of stays rest r =
      read_step p p base h i c of
      (written_stays s.geometry 0 (used s) i c stays.first (first_head p s.head) s.old s.new (first_count p (used s)))
      (written_stays s.geometry (second s) (used s) i c stays.second (second_head p s.head) s.old s.new
      (second_count p (used s)))
      rest r

  -- A FLUSH THAT WAS DONE: what a stop may leave is what the disk reads as
  pub narrow : (p q : Phase) (base : List (List ℕ)) (h : List HistoryEntry) (k : ℕ) (c : Image)
      → (InStage (first_stage p) s.geometry 0 (used s) s.head s.old s.new c
      → IsWritten s.geometry 0 (used s) (first_head p s.head) s.old s.new (first_count p (used s)) c
      → InStage (first_stage q) s.geometry 0 (used s) s.head s.old s.new c)
      → (InStage (second_stage p) s.geometry (second s) (used s) s.head s.old s.new c
      → IsWritten s.geometry (second s) (used s) (second_head p s.head) s.old s.new (second_count p (used s)) c
      → InStage (second_stage q) s.geometry (second s) (used s) s.head s.old s.new c)
      → (TakesOld q → TakesOld p)
      → MayBeLeft p s base h k c → ReadsAs p s base h c → MayBeLeft q s base h k c
  narrow p q base h k c first second takes f r = record {
    first = first f.first r.first;
    second = second f.second r.second;
    by_old = λ t n l. f.by_old (takes t) n l;
    below_old = λ t. f.below_old (takes t);
    below_new = λ _. r.below;
    by_new = λ _ n l. r.served n l;
  }

  -- the three flushes inside a commit
  pub narrow_log : (base : List (List ℕ)) (h : List HistoryEntry) (k : ℕ) (c : Image) → MayBeLeft LogFlush s base h k c
      → ReadsAs LogFlush s base h c → MayBeLeft LogSuper s base h k c
  narrow_log base h k c = narrow LogFlush LogSuper base h k c (λ st _. st)
      (λ _ w. all_written s.geometry (second s) (used s) s.head s.old s.new c w) (λ t. t)

  pub narrow_super : (m : ℕ) (base : List (List ℕ)) (h : List HistoryEntry) (k : ℕ) (c : Image)
      → MayBeLeft LogSuperFlush s base h k c → ReadsAs LogSuperFlush s base h c → MayBeLeft (InPlace m) s base h k c
  narrow_super m base h k c = narrow LogSuperFlush (InPlace m) base h k c
      (λ st _. before_mixed s.geometry 0 (used s) s.head s.old s.new c st)
      (λ _ w. all_written s.geometry (second s) (used s) (second_head LogSuperFlush s.head) s.old s.new c w)
      (λ t. absurd t)

  pub narrow_place : (base : List (List ℕ)) (h : List HistoryEntry) (k : ℕ) (c : Image)
      → MayBeLeft InPlaceFlush s base h k c → ReadsAs InPlaceFlush s base h c → MayBeLeft InPlaceSuper s base h k c
  narrow_place base h k c = narrow InPlaceFlush InPlaceSuper base h k c
      (λ _ w. all_written s.geometry 0 (used s) s.head s.old s.new c w) (λ st _. st) (λ t. absurd t)
