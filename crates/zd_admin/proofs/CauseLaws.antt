-- Causes exclude each other.
use Rattle.std.proofs.Common.{◌≡◌, ℕ, List, Option, Some, None, refl, sym, ap, ap₂, ◌∙◌, subst, arith}
use Rattle.std.specs.Prelude.{IsSome}
use Rattle.std.proofs.lemmas.Bool.{false≢true}
use Rattle.zd_base.specs.Geometry.{Shape, zone_count}
use Rattle.zd_base.specs.Layout.{first_data_zone, formatted}
use Rattle.zd_check.proofs.VerdictLaws.{one_verdict}
use Rattle.zd_check.specs.declared.comparing.Verdict.TheVariants.{Same}
use Rattle.zd_disk.specs.Told.{WhereTold}
use Rattle.zd_disk.proofs.ToldLaws.{Some-same}
use Rattle.zd_examine.specs.Examined.{ExplainsRefusal}
use Rattle.zd_examine.proofs.RefusalLaws.{layout_or_placed, map_or_bits, none_or_layout, none_or_placed, one_bit, one_chunk, refused_bits, refused_layout, refused_map, refused_none}
use Rattle.zd_format.specs.Fresh.{IsFormatted, IsUnfit}
use Rattle.zd_model.specs.Image.{Image}
use Rattle.zd_model.specs.Volume.{Chosen, IsWellFormed, WellFormed, tables_of}
use Rattle.zd_model.specs.declared.metadata.Super.{Super as Head}
use Rattle.zd_model.specs.declared.texts.NoVolume.{NoVolume as Kind}
use Rattle.zd_model.specs.declared.texts.NoVolume.TheVariants.{NoSuperBlock, Layout, BadMap, BadBits}
use Rattle.zd_repair.specs.declared.tables.Repaired.{Repaired as Dropped}
use Rattle.zd_tell.specs.Stages.{DecidesAt, RunStage}
use Rattle.zd_tell.specs.Stages.RunStage.{Words, Script, Opening, Run}
use Rattle.zd_tell.proofs.StageLaws.{causes_exclude}
use Rattle.zd_admin.proofs.AskLaws.{asked_once}
use Rattle.zd_admin.proofs.LeftOnce.{one_repair, repair_or_last}
use Rattle.zd_admin.specs.Words.{Asks, IsAdminCommand}
use Rattle.zd_admin.specs.Shown.{IsStatus, buffered_chunks, free_zones, mapped_chunks}
use Rattle.zd_admin.specs.Ends.{AdminCause, AskedEnds, CanRise, CheckEnds, EndsExamining, EndsWork, Examines, FormatEnds, IsAdminDecided, IsAtLast, IsOfVersion, IsOpenedFor, OneAdminOutcome, RelabelEnds, RepairEnds, ShowEnds, UpgradeEnds, admin_course, refusal_of, verdict_of}
use Rattle.zd_admin.specs.declared.outcome.AdminWork.TheVariants.{Formatted, Checked, Repaired, Shown, Relabeled, Upgraded}
use Rattle.zd_admin.specs.declared.outcome.Difference.{Difference}
use Rattle.zd_admin.specs.declared.outcome.Difference.TheVariants.{Super, Block}
use Rattle.zd_admin.specs.declared.outcome.Outcome.{Outcome}
use Rattle.zd_admin.specs.declared.outcome.Outcome.TheVariants.{Done, Usage, NoVolume, Device, Memory, Generation, Differs, Unfit, Old, NotOld}
use Rattle.zd_admin.specs.declared.volume.VolumeStatus.{VolumeStatus}
use Rattle.zd_admin.specs.declared.words.Asked.{Asked}
use Rattle.zd_admin.specs.declared.words.Asked.TheVariants.{Format, Check, Repair, Relabel, Show, Upgrade}

-- a volume isn't refused
pub never_refused : (kind : Kind) (image : Image) → ExplainsRefusal (refusal_of kind) image → WellFormed image → ⊥
never_refused NoSuperBlock image why well = refused_none image why well
never_refused Layout image why well = refused_layout image why well
never_refused (BadMap chunk) image why well = refused_map chunk image why well
never_refused (BadBits zone block) image why well = refused_bits zone block image why well

-- an image is refused for one reason
one_refusal : (k l : Kind) (image : Image) → ExplainsRefusal (refusal_of k) image → ExplainsRefusal (refusal_of l) image → k ≡ l
one_refusal NoSuperBlock NoSuperBlock image h i = refl
one_refusal NoSuperBlock Layout image h i = absurd (none_or_layout image h i)
one_refusal NoSuperBlock (BadMap n) image h i = absurd (none_or_placed image h i.0 i.1)
one_refusal NoSuperBlock (BadBits z x) image h i = absurd (none_or_placed image h i.0 i.1)
one_refusal Layout NoSuperBlock image h i = absurd (none_or_layout image i h)
one_refusal Layout Layout image h i = refl
one_refusal Layout (BadMap n) image h i = absurd (layout_or_placed image h i.0 i.1)
one_refusal Layout (BadBits z x) image h i = absurd (layout_or_placed image h i.0 i.1)
one_refusal (BadMap m) NoSuperBlock image h i = absurd (none_or_placed image i h.0 h.1)
one_refusal (BadMap m) Layout image h i = absurd (layout_or_placed image i h.0 h.1)
one_refusal (BadMap m) (BadMap n) image h i = ap (λ (chunk : ℕ). BadMap chunk) (one_chunk image m n h i)
one_refusal (BadMap m) (BadBits z x) image h i = absurd (map_or_bits image m z x h i)
one_refusal (BadBits y w) NoSuperBlock image h i = absurd (none_or_placed image i h.0 h.1)
one_refusal (BadBits y w) Layout image h i = absurd (layout_or_placed image i h.0 h.1)
one_refusal (BadBits y w) (BadMap n) image h i = absurd (map_or_bits image n y w i h)
one_refusal (BadBits y w) (BadBits z x) image h i =
    let same = one_bit image y w z x h i in ap₂ (λ (zone block : ℕ). BadBits zone block) same.0 same.1

some_of : {X : Type 0} (o : Option X) → IsSome o → (x : X) × (o ≡ Some x)
some_of (Some x) h = (x, refl)
some_of None h = absurd (false≢true h)

-- formatting ends in one way
unfit_at : (r : ℕ) (told : Option Shape) (g : Shape) → IsUnfit r told → IsFormatted r g (formatted g r) told → ⊥
unfit_at r told g unfit made = subst (IsUnfit r) made.geometry unfit made.fits

one_format : (r : ℕ) (told : Option Shape) (o p : Outcome) → IsAdminDecided o → IsAdminDecided p
    → FormatEnds r told o → FormatEnds r told p → o ≡ p
one_format r told (Done (Formatted chunks zone_blocks)) (Done (Formatted more blocks)) d e f h =
    let same : f.0 ≡ h.0 = Some-same f.0 h.0 (sym f.1.geometry ∙ h.1.geometry) in
    ap₂ (λ (a b : ℕ). Done (Formatted a b))
    (f.2 ∙ ap (λ (g : Shape). (formatted g r).chunks) same ∙ sym h.2)
    (f.3 ∙ ap (λ (g : Shape). g.zone_blocks) same ∙ sym h.3)
one_format r told (Done (Formatted chunks zone_blocks)) Unfit d e f h = absurd (unfit_at r told f.0 h f.1)
one_format r told Unfit (Done (Formatted chunks zone_blocks)) d e f h = absurd (unfit_at r told h.0 f h.1)
one_format r told Unfit Unfit d e f h = refl
one_format r told Device p d e f h = absurd d
one_format r told Memory p d e f h = absurd d
one_format r told o Device d e f h = absurd e
one_format r told o Memory d e f h = absurd e
one_format r told (Done (Formatted chunks zone_blocks)) p d e f h = absurd h
one_format r told Unfit p d e f h = absurd h
one_format r told o p d e f h = absurd f

-- a difference is no sameness, and is told by its verdict
pub differs_not_same : (d : Difference) → verdict_of d ≡ Same → ⊥
differs_not_same (Super set) e = cc
differs_not_same (Block block) e = cc

same_difference : (d e : Difference) → verdict_of d ≡ verdict_of e → d ≡ e
same_difference (Super set) (Super other) e = cc
same_difference (Super set) (Block block) e = cc
same_difference (Block block) (Super set) e = cc
same_difference (Block block) (Block other) e = cc

-- one set is chosen, so a volume has one version and one generation
one_set : (image : Image) (c d : Chosen) → IsWellFormed image c → IsWellFormed image d → c ≡ d
one_set image c d a b = Some-same c d (sym a.is_chosen ∙ b.is_chosen)

one_version : (image : Image) (c d : Chosen) (v w : ℕ) → IsWellFormed image c → IsWellFormed image d → c.head.version ≡ v
    → d.head.version ≡ w → v ≡ w
one_version image c d v w a b e f = sym e ∙ ap (λ (s : Chosen). s.head.version) (one_set image c d a b) ∙ f

rise_or_last : (v w : ℕ) (image : Image) → CanRise v image → IsAtLast w image → ⊥
rise_or_last v w image a b =
    let same = ap (λ (s : Chosen). s.head.generation) (one_set image a.0 b.0 a.1 b.1) in
    let low = a.3 in
    let last = b.3 in
    omega (arith, same, low, last)

rise_of : (v w : ℕ) (image : Image) → CanRise v image → IsOfVersion w image → v ≡ w
rise_of v w image a b = one_version image a.0 b.0 v w a.1 b.1 a.2 b.2

last_of : (v w : ℕ) (image : Image) → IsAtLast v image → IsOfVersion w image → v ≡ w
last_of v w image a b = one_version image a.0 b.0 v w a.1 b.1 a.2 b.2

abbrev status_with : Head → ℕ → ℕ → ℕ → ℕ → VolumeStatus
status_with head mapped buffered conventional sequential = record {
  head = head;
  mapped = mapped;
  buffered = buffered;
  free_conventional = conventional;
  free_sequential = sequential;
}

module _ (zones : Option Image) (image : Image) (is : zones ≡ Some image) where
  -- checking ends in one way, once the disk is examined
  one_check : (o p : Outcome) → EndsWork o → EndsWork p → IsAdminDecided o
      → IsAdminDecided p → CheckEnds zones o → CheckEnds zones p → o ≡ p
  one_check (Done Checked) (Done Checked) c k d e f h = refl
  one_check (Done Checked) (Differs a) c k d e f h =
      absurd (differs_not_same a (one_verdict image (verdict_of a) Same (h image is) (f image is)))
  one_check (Differs a) (Done Checked) c k d e f h =
      absurd (differs_not_same a (one_verdict image (verdict_of a) Same (f image is) (h image is)))
  one_check (Differs a) (Differs b) c k d e f h =
      ap (λ (x : Difference). Differs x) (same_difference a b (one_verdict image (verdict_of a) (verdict_of b) (f image is) (h image is)))
  one_check Device p c k d e f h = absurd d
  one_check Memory p c k d e f h = absurd d
  one_check o Device c k d e f h = absurd e
  one_check o Memory c k d e f h = absurd e
  one_check (NoVolume kind) p c k d e f h = absurd c
  one_check o (NoVolume kind) c k d e f h = absurd k
  one_check (Done Checked) p c k d e f h = absurd h
  one_check (Differs a) p c k d e f h = absurd h
  one_check o p c k d e f h = absurd f

  -- what is shown of a volume is one thing
  status_same : (s t : VolumeStatus) → s.head ≡ t.head → s.mapped ≡ t.mapped → s.buffered ≡ t.buffered
      → s.free_conventional ≡ t.free_conventional → s.free_sequential ≡ t.free_sequential → s ≡ t
  status_same s t a b c d e =
      ap₂ (λ (x : Head) (m : ℕ). status_with x m s.buffered s.free_conventional s.free_sequential) a b
      ∙ ap₂ (λ (n x : ℕ). status_with t.head t.mapped n x s.free_sequential) c d
      ∙ ap (λ (y : ℕ). status_with t.head t.mapped t.buffered t.free_conventional y) e

  one_status : (s t : VolumeStatus) → IsStatus image s → IsStatus image t → s ≡ t
  one_status s t h k =
      let same : h.set ≡ k.set = Some-same h.set k.set (sym h.well_formed.is_chosen ∙ k.well_formed.is_chosen) in
      status_same s t
      (h.head ∙ ap (λ (c : Chosen). c.head) same ∙ sym k.head)
      (h.counts.mapped ∙ ap (λ (c : Chosen). mapped_chunks (tables_of image c).entries) same ∙ sym k.counts.mapped)
      (h.counts.buffered ∙ ap (λ (c : Chosen). buffered_chunks (tables_of image c).entries) same ∙ sym k.counts.buffered)
      (h.counts.conventional ∙ sym (subst (λ (c : Chosen). t.free_conventional ≡ free_zones (tables_of image c) (first_data_zone image.geometry c.head.layout) image.geometry.conv) (sym same) k.counts.conventional))
      (h.counts.sequential ∙ sym (subst (λ (c : Chosen). t.free_sequential ≡ free_zones (tables_of image c) image.geometry.conv (zone_count image.geometry)) (sym same) k.counts.sequential))

  one_show : (o p : Outcome) → EndsWork o → EndsWork p → IsAdminDecided o
      → IsAdminDecided p → ShowEnds zones o → ShowEnds zones p → o ≡ p
  one_show (Done (Shown s)) (Done (Shown t)) c k d e f h =
      ap (λ (x : VolumeStatus). Done (Shown x)) (one_status s t (f image is) (h image is))
  one_show Device p c k d e f h = absurd d
  one_show Memory p c k d e f h = absurd d
  one_show o Device c k d e f h = absurd e
  one_show o Memory c k d e f h = absurd e
  one_show (NoVolume kind) p c k d e f h = absurd c
  one_show o (NoVolume kind) c k d e f h = absurd k
  one_show (Done (Shown s)) p c k d e f h = absurd h
  one_show o p c k d e f h = absurd f

  -- a repair ends in one way, once its set is found
  one_mend : (o p : Outcome) → EndsWork o → EndsWork p → IsAdminDecided o
      → IsAdminDecided p → RepairEnds zones o → RepairEnds zones p → o ≡ p
  one_mend (Done (Repaired a)) (Done (Repaired b)) c k d e f h =
      ap (λ (x : Dropped). Done (Repaired x)) (one_repair image a b (f image is) (h image is))
  one_mend (Done (Repaired a)) Generation c k d e f h = absurd (repair_or_last image a (f image is) (h image is))
  one_mend Generation (Done (Repaired a)) c k d e f h = absurd (repair_or_last image a (h image is) (f image is))
  one_mend Generation Generation c k d e f h = refl
  one_mend Device p c k d e f h = absurd d
  one_mend Memory p c k d e f h = absurd d
  one_mend o Device c k d e f h = absurd e
  one_mend o Memory c k d e f h = absurd e
  one_mend (NoVolume kind) p c k d e f h = absurd c
  one_mend o (NoVolume kind) c k d e f h = absurd k
  one_mend (Done (Repaired a)) p c k d e f h = absurd h
  one_mend Generation p c k d e f h = absurd h
  one_mend o p c k d e f h = absurd f

  -- giving a label ends in one way
  one_relabel : (o p : Outcome) → EndsWork o → EndsWork p → IsAdminDecided o
      → IsAdminDecided p → RelabelEnds zones o → RelabelEnds zones p → o ≡ p
  one_relabel (Done Relabeled) (Done Relabeled) c k d e f h = refl
  one_relabel (Done Relabeled) Generation c k d e f h = absurd (rise_or_last 2 2 image (f image is) (h image is))
  one_relabel (Done Relabeled) Old c k d e f h = absurd (let two = rise_of 2 1 image (f image is) (h image is) in omega (arith, two))
  one_relabel Generation (Done Relabeled) c k d e f h = absurd (rise_or_last 2 2 image (h image is) (f image is))
  one_relabel Generation Generation c k d e f h = refl
  one_relabel Generation Old c k d e f h = absurd (let two = last_of 2 1 image (f image is) (h image is) in omega (arith, two))
  one_relabel Old (Done Relabeled) c k d e f h = absurd (let two = rise_of 2 1 image (h image is) (f image is) in omega (arith, two))
  one_relabel Old Generation c k d e f h = absurd (let two = last_of 2 1 image (h image is) (f image is) in omega (arith, two))
  one_relabel Old Old c k d e f h = refl
  one_relabel Device p c k d e f h = absurd d
  one_relabel Memory p c k d e f h = absurd d
  one_relabel o Device c k d e f h = absurd e
  one_relabel o Memory c k d e f h = absurd e
  one_relabel (NoVolume kind) p c k d e f h = absurd c
  one_relabel o (NoVolume kind) c k d e f h = absurd k
  one_relabel (Done Relabeled) p c k d e f h = absurd h
  one_relabel Generation p c k d e f h = absurd h
  one_relabel Old p c k d e f h = absurd h
  one_relabel o p c k d e f h = absurd f

  -- and so does an upgrade
  one_upgrade : (o p : Outcome) → EndsWork o → EndsWork p → IsAdminDecided o
      → IsAdminDecided p → UpgradeEnds zones o → UpgradeEnds zones p → o ≡ p
  one_upgrade (Done Upgraded) (Done Upgraded) c k d e f h = refl
  one_upgrade (Done Upgraded) Generation c k d e f h = absurd (rise_or_last 1 1 image (f image is) (h image is))
  one_upgrade (Done Upgraded) NotOld c k d e f h = absurd (let one = rise_of 1 2 image (f image is) (h image is) in omega (arith, one))
  one_upgrade Generation (Done Upgraded) c k d e f h = absurd (rise_or_last 1 1 image (h image is) (f image is))
  one_upgrade Generation Generation c k d e f h = refl
  one_upgrade Generation NotOld c k d e f h = absurd (let one = last_of 1 2 image (f image is) (h image is) in omega (arith, one))
  one_upgrade NotOld (Done Upgraded) c k d e f h = absurd (let one = rise_of 1 2 image (h image is) (f image is) in omega (arith, one))
  one_upgrade NotOld Generation c k d e f h = absurd (let one = last_of 1 2 image (h image is) (f image is) in omega (arith, one))
  one_upgrade NotOld NotOld c k d e f h = refl
  one_upgrade Device p c k d e f h = absurd d
  one_upgrade Memory p c k d e f h = absurd d
  one_upgrade o Device c k d e f h = absurd e
  one_upgrade o Memory c k d e f h = absurd e
  one_upgrade (NoVolume kind) p c k d e f h = absurd c
  one_upgrade o (NoVolume kind) c k d e f h = absurd k
  one_upgrade (Done Upgraded) p c k d e f h = absurd h
  one_upgrade Generation p c k d e f h = absurd h
  one_upgrade NotOld p c k d e f h = absurd h
  one_upgrade o p c k d e f h = absurd f

module _ (zones : Option Image) (told : Option Shape) where
  -- what looks at the image
  examines_of : (asked : Asked) (kind : Kind) → AskedEnds asked zones told (NoVolume kind) → Examines asked
  examines_of (Format reserved volume) kind ends = absurd ends
  examines_of Check kind ends = tt
  examines_of Repair kind ends = tt
  examines_of Show kind ends = tt
  examines_of (Relabel label) kind ends = tt
  examines_of (Upgrade volume) kind ends = tt

  -- refuses one that it can't work on
  pub refused_for : (asked : Asked) (kind : Kind) → AskedEnds asked zones told (NoVolume kind)
      → WhereTold zones (λ image. IsOpenedFor asked image → ⊥)
  refused_for (Format reserved volume) kind ends = absurd ends
  refused_for Check kind ends = λ image is. never_refused kind image (ends image is)
  refused_for Repair NoSuperBlock ends = λ image is found. none_or_placed image (ends image is) found.0 found.1
  refused_for Repair Layout ends = λ image is found. layout_or_placed image (ends image is) found.0 found.1
  refused_for Repair (BadMap chunk) ends = absurd ends
  refused_for Repair (BadBits zone block) ends = absurd ends
  refused_for Show kind ends = λ image is. never_refused kind image (ends image is)
  refused_for (Relabel label) kind ends = λ image is. never_refused kind image (ends image is)
  refused_for (Upgrade volume) kind ends = λ image is. never_refused kind image (ends image is)

  -- for one reason
  one_kind : (asked : Asked) (k l : Kind) (image : Image) → zones ≡ Some image → AskedEnds asked zones told (NoVolume k)
      → AskedEnds asked zones told (NoVolume l) → k ≡ l
  one_kind (Format reserved volume) k l image is h i = absurd h
  one_kind Check k l image is h i = one_refusal k l image (h image is) (i image is)
  one_kind Repair NoSuperBlock NoSuperBlock image is h i = refl
  one_kind Repair NoSuperBlock Layout image is h i = absurd (none_or_layout image (h image is) (i image is))
  one_kind Repair Layout NoSuperBlock image is h i = absurd (none_or_layout image (i image is) (h image is))
  one_kind Repair Layout Layout image is h i = refl
  one_kind Repair (BadMap chunk) l image is h i = absurd h
  one_kind Repair (BadBits zone block) l image is h i = absurd h
  one_kind Repair k (BadMap chunk) image is h i = absurd i
  one_kind Repair k (BadBits zone block) image is h i = absurd i
  one_kind Show k l image is h i = one_refusal k l image (h image is) (i image is)
  one_kind (Relabel label) k l image is h i = one_refusal k l image (h image is) (i image is)
  one_kind (Upgrade volume) k l image is h i = one_refusal k l image (h image is) (i image is)

  -- and ends in one way, once the disk is examined
  one_work : (asked : Asked) → (Examines asked → IsSome zones) → (o p : Outcome) → EndsWork o → EndsWork p → IsAdminDecided o
      → IsAdminDecided p → AskedEnds asked zones told o → AskedEnds asked zones told p → o ≡ p
  one_work (Format reserved volume) here o p c k d e f h = one_format reserved told o p d e f h
  one_work Check here o p c k d e f h = let image = some_of zones (here tt) in one_check zones image.0 image.1 o p c k d e f h
  one_work Repair here o p c k d e f h = let image = some_of zones (here tt) in one_mend zones image.0 image.1 o p c k d e f h
  one_work Show here o p c k d e f h = let image = some_of zones (here tt) in one_show zones image.0 image.1 o p c k d e f h
  one_work (Relabel label) here o p c k d e f h =
      let image = some_of zones (here tt) in one_relabel zones image.0 image.1 o p c k d e f h
  one_work (Upgrade volume) here o p c k d e f h =
      let image = some_of zones (here tt) in one_upgrade zones image.0 image.1 o p c k d e f h

-- what a decided outcome of examining is
kind_of : (o : Outcome) → IsAdminDecided o → EndsExamining o → (kind : Kind) × (o ≡ NoVolume kind)
kind_of (NoVolume kind) d comes = (kind, refl)
kind_of Device d comes = absurd d
kind_of Memory d comes = absurd d
kind_of o d comes = absurd comes

-- what was asked for, where the words aren't wrong
pub asked_at : (words : List (List ℕ)) (zones : Option Image) (told : Option Shape) (o : Outcome) → (o ≡ Usage → ⊥)
    → AdminCause words zones told o → (asked : Asked) × Asks words asked × AskedEnds asked zones told o
asked_at words zones told Usage other cause = absurd (other refl)
asked_at words zones told o other cause = cause

no_usage_work : (o : Outcome) → EndsWork o → o ≡ Usage → ⊥
no_usage_work o comes is = subst EndsWork is comes

no_usage_kind : (kind : Kind) → NoVolume kind ≡ Usage → ⊥
no_usage_kind kind e = cc

module _ (words : List (List ℕ)) (zones : Option Image) (told : Option Shape)
    (here : (asked : Asked) → Asks words asked → Examines asked → IsSome zones) where
  usage_at : (o : Outcome) → o ≡ Usage → AdminCause words zones told o → IsAdminCommand words → ⊥
  usage_at o is cause = subst (AdminCause words zones told) is cause

  -- the reason why the image is refused
  refused_at : (o : Outcome) (kind : Kind) → o ≡ NoVolume kind → AdminCause words zones told o
      → (asked : Asked) × Asks words asked × AskedEnds asked zones told (NoVolume kind)
  refused_at o kind is cause =
      asked_at words zones told (NoVolume kind) (no_usage_kind kind) (subst (AdminCause words zones told) is cause)

  stage_decides : (stage : RunStage) → DecidesAt (admin_course words zones told) IsAdminDecided stage
  stage_decides Words = record {
    passed = λ o d is cause right. usage_at o is cause right;
    one = λ o p d e is same cause why. is ∙ sym same;
  }
  stage_decides Script = record { passed = λ o d none. absurd none; one = λ o p d e none. absurd none }
  stage_decides Opening = record {
    passed = λ o d comes cause examined.
        let is = kind_of o d comes in
        let why = refused_at o is.0 is.1 cause in
        let image = some_of zones (here why.0 why.1 (examines_of zones told why.0 is.0 why.2)) in
        refused_for zones told why.0 is.0 why.2 image.0 image.1 (examined why.0 why.1 image.0 image.1);
    one = λ o p d e comes others cause reason.
        let is = kind_of o d comes in
        let other = kind_of p e others in
        let why = refused_at o is.0 is.1 cause in
        let for = refused_at p other.0 other.1 reason in
        let image = some_of zones (here why.0 why.1 (examines_of zones told why.0 is.0 why.2)) in
        is.1 ∙ ap (λ (k : Kind). NoVolume k) (one_kind zones told why.0 is.0 other.0 image.0 image.1 why.2
        (subst (λ (a : Asked). AskedEnds a zones told (NoVolume other.0)) (asked_once words for.0 why.0 for.1 why.1) for.2))
        ∙ sym other.1;
  }
  stage_decides Run = record {
    passed = λ o d comes cause last. last;
    one = λ o p d e comes others cause why.
        let f = asked_at words zones told o (no_usage_work o comes) cause in
        let h = asked_at words zones told p (no_usage_work p others) why in
        one_work zones told f.0 (here f.0 f.1) o p comes others d e f.2
        (subst (λ (a : Asked). AskedEnds a zones told p) (asked_once words h.0 f.0 h.1 f.1) h.2);
  }

pub one_outcome : OneAdminOutcome
one_outcome words zones told here =
    causes_exclude (admin_course words zones told) IsAdminDecided (stage_decides words zones told here)
