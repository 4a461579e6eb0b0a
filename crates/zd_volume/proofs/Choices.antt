-- Which tables an image takes, by phase.
use Rattle.std.proofs.Common.{◌≡◌, ◌≢◌, ◌⊎◌, ℕ, ◌+◌, ◌/◌, ◌<◌, ◌≤◌, Some, inl, inr, refl, arith}
use Rattle.zd_model.specs.Volume.{good_super}
use Rattle.zd_sets.specs.Equal.{head_at}
use Rattle.zd_model.specs.Image.{Image, SameZone, Same}
use Rattle.zd_sets.proofs.EqualLaws.{in_zones}
use Rattle.zd_disk.specs.OfGeometry.{IsImageOf}
use Rattle.zd_sets.specs.Stages.{ChoosesBlocks, HasSet, InStage, next_head}
use Rattle.zd_sets.proofs.ChosenBlocks.{first_chooses, second_chooses, set_conventional}
use Rattle.zd_sets.proofs.StageLaws.{IsConventionalSet, zones_stay}
use Rattle.zd_base.specs.Layout.{first_data_zone}
use Rattle.zd_volume.specs.declared.phase.Phase.{Phase}
use Rattle.zd_volume.specs.declared.phase.Phase.TheVariants.{Idle, Log, LogFlush, LogSuper, LogSuperFlush, InPlace, InPlaceFlush, InPlaceSuper, InPlaceSuperFlush}
use Rattle.zd_volume.specs.Phases.{first_stage, second_stage, TakesNew, TakesOld}
use Rattle.zd_volume.specs.Sets.{AreSets, BothStay, DataStays, Sets, second, used}

module _ (s : Sets) (are : AreSets s) where
  -- where the sets stand
  pub some_blocks : 0 < s.geometry.zone_blocks
  some_blocks = (let size = are.shape.size.least in omega (arith, size))

  pub inside : (k : ℕ) → k < used s → k / s.geometry.zone_blocks < second s
  inside k low = in_zones s.geometry s.head.layout are.fits some_blocks k low

  pub first_set : IsConventionalSet s.geometry 0 (used s)
  first_set = set_conventional s.geometry s.head.layout are.shape are.fits 0 (omega arith)

  pub second_set : IsConventionalSet s.geometry (second s) (used s)
  second_set = set_conventional s.geometry s.head.layout are.shape are.fits (second s) (omega arith)

  pub lowest : first_data_zone s.geometry s.head.layout ≤ s.geometry.conv
  lowest = (let room = are.fits.conventional_data in omega arith)

  -- THE CHOICE, the one case by case look at the nine phases
  module _ (i : Image) (geometry : i.geometry ≡ s.geometry) where
    old_first : HasSet s.geometry 0 (used s) s.head s.old i
        → (HasSet s.geometry (second s) (used s) s.head s.old i → ChoosesBlocks s.geometry s.head.layout s.old i)
    old_first a b =
        first_chooses s.geometry i geometry s.head.layout s.old are.fits are.old_size s.head s.head refl
        (omega arith) a b.super

    -- set 0 has the committed head, and set 1 no newer one
    by_first : HasSet s.geometry 0 (used s) s.head s.old i
        → good_super i (second s) ≡ Some (head_at s.geometry (second s) s.head)
        → ChoosesBlocks s.geometry s.head.layout s.old i
    by_first a good =
        first_chooses s.geometry i geometry s.head.layout s.old are.fits are.old_size s.head s.head refl
        (omega arith) a good

    by_second : good_super i 0 ≡ Some (head_at s.geometry 0 s.head)
        → HasSet s.geometry (second s) (used s) (next_head s.head) s.new i
        → ChoosesBlocks s.geometry s.head.layout s.new i
    by_second good b =
        second_chooses s.geometry i geometry s.head.layout s.new are.fits are.new_size
        (next_head s.head) s.head refl refl (omega arith) b good

    by_both : HasSet s.geometry 0 (used s) (next_head s.head) s.new i
        → HasSet s.geometry (second s) (used s) (next_head s.head) s.new i
        → ChoosesBlocks s.geometry s.head.layout s.new i
    by_both a b =
        first_chooses s.geometry i geometry s.head.layout s.new are.fits are.new_size (next_head s.head)
        (next_head s.head) refl (omega arith) a b.super

    pub choice : (p : Phase) → InStage (first_stage p) s.geometry 0 (used s) s.head s.old s.new i
        → InStage (second_stage p) s.geometry (second s) (used s) s.head s.old s.new i
        → (TakesOld p × ChoosesBlocks s.geometry s.head.layout s.old i)
        ⊎ (TakesNew p × ChoosesBlocks s.geometry s.head.layout s.new i)
    choice Idle a b = inl (tt, by_first a b.super)
    choice (Log k) a b = inl (tt, by_first a b.super)
    choice LogFlush a b = inl (tt, by_first a b.super)
    choice LogSuper a b = inl (tt, by_first a b.super)
    choice LogSuperFlush a (inl b) = inl (tt, by_first a b.super)
    choice LogSuperFlush a (inr b) = inr (tt, by_second a.super b)
    choice (InPlace k) a b = inr (tt, by_second a.super b)
    choice InPlaceFlush a b = inr (tt, by_second a.super b)
    choice InPlaceSuper a b = inr (tt, by_second a.super b)
    choice InPlaceSuperFlush (inl a) b = inr (tt, by_second a.super b)
    choice InPlaceSuperFlush (inr a) b = inr (tt, by_both a b)

  -- what leaves the sets, and what leaves the data
  module _ (i c : Image) (of : IsImageOf s.geometry i) where
    pub sets_apart : (z : ℕ) → first_data_zone s.geometry s.head.layout ≤ z → c.geometry ≡ i.geometry
        → ((y : ℕ) → y ≢ z → SameZone i c y) → BothStay s i c
    sets_apart z far geometry others = record {
      first = zones_stay s.geometry 0 (used s) first_set i c of geometry
          (λ k low. (let n = inside k low in others (0 + k / s.geometry.zone_blocks) (omega arith)));
      second = zones_stay s.geometry (second s) (used s) second_set i c of geometry
          (λ k low. (let n = inside k low in others (second s + k / s.geometry.zone_blocks) (omega arith)));
    }

    pub sets_same : Same i c → BothStay s i c
    sets_same same = record {
      first = zones_stay s.geometry 0 (used s) first_set i c of same.geometry
          (λ k low. same.zones (0 + k / s.geometry.zone_blocks));
      second = zones_stay s.geometry (second s) (used s) second_set i c of same.geometry
          (λ k low. same.zones (second s + k / s.geometry.zone_blocks));
    }

  pub data_same : (i c : Image) → Same i c → DataStays s i c
  data_same i c same = record { zones = λ y far. same.zones y }

  pub data_others : (i c : Image) (z : ℕ) → z < first_data_zone s.geometry s.head.layout
      → ((y : ℕ) → y ≢ z → SameZone i c y) → DataStays s i c
  data_others i c z low others = record { zones = λ y far. others y (omega arith) }
