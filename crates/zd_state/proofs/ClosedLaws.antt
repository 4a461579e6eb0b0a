-- What a stop leaves of a volume whose tables are the committed ones.
use Rattle.std.proofs.Common.{◌≡◌, ℕ, ◌-◌, ◌^◌, ◌<◌, List, length, None, Some, inl, inr, sym, ap, ◌∙◌, subst, arith}
use Rattle.zd_base.specs.Geometry.{Shape}
use Rattle.zd_base.specs.Layout.{set_zones, used_blocks}
use Rattle.zd_model.specs.History.{HistoryEntry, last_array}
use Rattle.zd_model.specs.Image.{Image}
use Rattle.zd_model.specs.Safe.{base_at}
use Rattle.zd_model.specs.Tables.{served}
use Rattle.zd_disk.specs.OfGeometry.{IsImageOf}
use Rattle.zd_disk.specs.View.{IsDurable, View}
use Rattle.zd_disk.proofs.ToldLaws.{Some-same}
use Rattle.zd_sets.specs.Stages.{ChoosesBlocks, HasSet, IsWritten}
use Rattle.zd_tables.specs.Rules.{AreBelow}
use Rattle.zd_tables.specs.Tables.{tables_in}
use Rattle.zd_volume.specs.LeftImages.{ReadsAs}
use Rattle.zd_volume.specs.Sets.{AreSets, Sets, second, used}
use Rattle.zd_volume.specs.Volumes.{IsKeptVolume, PlainVolume, sets_of}
use Rattle.zd_volume.specs.declared.phase.Phase.{Phase}
use Rattle.zd_volume.specs.declared.phase.Phase.TheVariants.{Idle}
use Rattle.zd_volume.proofs.Choices.{choice, data_same, sets_same}
use Rattle.zd_volume.proofs.Reading.{read_stays}
use Rattle.zd_volume.proofs.ServesLaws.{reads_list}
use Rattle.zd_volume.proofs.TakenImages.{content_by, well_formed_by}
use Rattle.zd_volume.specs.Sets.{device_sectors}
use Rattle.zd_state.specs.ClosedImages.{IsClosedImage}

-- an image that reads so, where the tables are the committed ones
module _ (s : Sets) (are : AreSets s) (same : s.old ≡ s.new) (base : List (List ℕ)) (h : List HistoryEntry)
    (i : Image) (of : IsImageOf s.geometry i) (size : length base ≡ device_sectors s)
    (reads : ReadsAs Idle s base h i) where
  -- where no block is new, all are the committed ones
  has_set : (first : ℕ) → IsWritten s.geometry first (used s) s.head s.old s.new 0 i
      → HasSet s.geometry first (used s) s.head s.old i
  has_set first written = record {
    super = written.super;
    each = λ k j some low few. written.from k j some low (omega arith) few;
  }

  takes : ChoosesBlocks s.geometry s.head.layout s.old i
  takes = elim (choice s are i of.geometry Idle (has_set 0 reads.first) (has_set (second s) reads.second)) [
    | inl old ↦ old.1
    | inr new ↦ absurd new.0
  ]

  below : AreBelow s.geometry i.held (tables_in s.geometry s.head.layout s.old)
  below = subst (λ (b : List ℕ). AreBelow s.geometry i.held (tables_in s.geometry s.head.layout b)) (sym same)
      reads.below

  served_last : served s.geometry.zone_blocks (tables_in s.geometry s.head.layout s.old) i.sector ≡ last_array base h
  served_last =
      ap (λ (b : List ℕ). served s.geometry.zone_blocks (tables_in s.geometry s.head.layout b) i.sector) same
      ∙ reads_list Idle s base h i size reads

  pub closed_image : IsClosedImage base h i
  closed_image = record {
    set = takes.set;
    well_formed = well_formed_by s.geometry i of.geometry s.head.layout s.old are.fits takes are.old_rules.map
        (record { named = are.old_rules.bits.named; below = below; one_place = are.old_rules.bits.one_place });
    last = content_by s.geometry i of.geometry s.head.layout s.old are.fits takes ∙ served_last;
    head = s.head;
    bytes = s.old;
    first = subst (λ (g : Shape). HasSet g 0 (used_blocks g s.head.layout) s.head s.old i) (sym of.geometry)
        (has_set 0 reads.first);
    second = subst (λ (g : Shape). HasSet g (set_zones g s.head.layout) (used_blocks g s.head.layout) s.head s.old i)
        (sym of.geometry) (has_set (second s) reads.second);
  }

-- what a stop leaves of a volume at rest, where it leaves what the disk reads as alone
pub closed_left : (v : PlainVolume) (opening now : View) → IsKeptVolume v opening now → v.stopped ≡ None
    → v.phase ≡ Idle → v.committed ≡ v.fresh → IsDurable now → now.calls < 2 ^ 64 - 1
    → (r : Image) → now.zones ≡ Some r → (i : Image) → now.left now.calls i
    → IsClosedImage (base_at opening.zones) v.history i
closed_left v opening now kept runs idle same durable small r there i can =
    let law = now.leaves now.calls i (omega arith) can in
    let of : IsImageOf v.geometry i =
    record { image = law.0; geometry = Some-same i.geometry v.geometry (sym law.1 ∙ kept.tells) } in
    let of_r : IsImageOf v.geometry r = record {
      image = now.shaped r there;
      geometry = Some-same r.geometry v.geometry (sym (now.agrees r there) ∙ kept.tells);
    } in
    let equal = durable.left small r there i can in
    let reads = subst (λ (p : Phase). ReadsAs p (sets_of v) (base_at opening.zones) v.history r) idle
    (kept.reads runs r there).read in
    closed_image (sets_of v) kept.fixed.sets same (base_at opening.zones) v.history i of (kept.based r there)
    (read_stays (sets_of v) kept.fixed.sets Idle (base_at opening.zones) v.history r i of_r
    (sets_same (sets_of v) kept.fixed.sets r i of_r equal) (data_same (sets_of v) kept.fixed.sets r i equal) reads)
