-- A volume in another phase, and images that hold the same.
use Rattle.std.proofs.Common.{◌≡◌, ◌≢◌, ℕ, ◌%◌, ◌<◌, ◌≤◌, List, Option, Some, sym, ◌∙◌, ap, subst, arith}
use Rattle.zd_base.specs.Geometry.{Shape}
use Rattle.zd_base.specs.Layout.{rounded_up}
use Rattle.zd_base.specs.declared.numbers.Why.{Why}
use Rattle.zd_alloc.specs.declared.uses.ZoneUse.{ZoneUse}
use Rattle.zd_model.specs.Image.{Image, Same, SameZone}
use Rattle.zd_model.specs.Safe.{IsSafe, base_at}
use Rattle.zd_model.specs.Stops.{AreBy}
use Rattle.zd_model.proofs.HeldLaws.{AreBy-more}
use Rattle.zd_disk.specs.OfGeometry.{IsImageOf}
use Rattle.zd_disk.specs.Told.{Both, next_count}
use Rattle.zd_disk.specs.View.{View}
use Rattle.zd_disk.proofs.ToldLaws.{Both-new, Some-same}
use Rattle.zd_volume.specs.Commits.{after_phase}
use Rattle.zd_volume.specs.LeftImages.{MayBeLeft}
use Rattle.zd_volume.specs.Uses.{IsPhase}
use Rattle.zd_volume.specs.Volumes.{HasPointers, IsFixed, IsKeptVolume, IsNow, IsWhole, MayBe, PlainVolume, sets_of}
use Rattle.zd_volume.specs.declared.phase.Phase.{Phase}
use Rattle.zd_volume.proofs.Choices.{data_same, sets_same}
use Rattle.zd_volume.proofs.FixedLaws.{fixed_beside}
use Rattle.zd_volume.proofs.Images.{left_step, safe_of, stages_stay}
use Rattle.zd_volume.proofs.JobLaws.{copies_stay}
use Rattle.zd_volume.proofs.Reading.{read_stays}

-- where what a disk reads as is told before and after, the change leads from one to the other
pub both_at : (P : Image → Image → Type 0) (now now' : Option Image) → Both now now' P → (r j : Image) → now ≡ Some r
    → now' ≡ Some j → P r j
both_at P now now' b r j e f =
    let from = Both-new now now' P j b f in
    subst (λ (i : Image). P i j) (Some-same from.0 r (sym from.1 ∙ e)) from.2

-- a count goes on
pub next_more : (n : ℕ) → n ≤ next_count n
next_more n = omega arith

-- zone z alone changes, which is conventional
pub pointers_stay : (g : Shape) (pointers : List ℕ) (z : ℕ) (old new : Image) → z < g.conv
    → ((y : ℕ) → y ≢ z → SameZone old new y) → HasPointers g pointers old → HasPointers g pointers new
pointers_stay g pointers z old new conv others h = record {
  at = λ y seq l. h.at y seq l ∙ ap (λ (n : ℕ). rounded_up n 8) (sym (others y (omega arith)).held);
}

pub whole_stay : (g : Shape) (uses : List ZoneUse) (z : ℕ) (old new : Image) → z < g.conv
    → ((y : ℕ) → y ≢ z → SameZone old new y) → IsWhole g uses old → IsWhole g uses new
whole_stay g uses z old new conv others w = record {
  at = λ y seq held. ap (λ (n : ℕ). n % 8) (others y (omega arith)).held ∙ w.at y seq held;
}

module _ (v : PlainVolume) (opening d : View) (was : IsKeptVolume v opening d) where
  pub fixed_in : (q : Phase) (since : ℕ) (stopped : Option Why) → IsPhase q v.dirty v.head.generation
      → IsFixed (after_phase v q since stopped)
  fixed_in q since stopped phase = fixed_beside v was.fixed q v.history since stopped phase

  -- the history stays within the time
  pub by_next : AreBy (next_count v.since) v.history
  by_next = AreBy-more v.since (next_count v.since) v.history (next_more v.since) was.counted.by_now

  pub safe_now : (q : Phase) (k : ℕ) (r c : Image) → d.zones ≡ Some r → v.since ≤ k → IsImageOf v.geometry c
      → MayBeLeft q (sets_of v) (base_at opening.zones) v.history k c → IsSafe (base_at opening.zones) v.history k c
  safe_now q k r c t le of l =
      safe_of (sets_of v) q (base_at opening.zones) v.history k c was.fixed.sets of (was.based r t)
      (λ _. AreBy-more v.since k v.history le was.counted.by_now) l

  -- an image that holds the same may be left too, and reads as the same
  pub left_same : (i c : Image) (k : ℕ) → v.since ≤ k → IsImageOf v.geometry i → Same i c
      → MayBe v (base_at opening.zones) i
      → MayBeLeft v.phase (sets_of v) (base_at opening.zones) v.history k c
  left_same i c k le of same f =
      let stay = stages_stay (sets_of v) was.fixed.sets v.phase i c
      (sets_same (sets_of v) was.fixed.sets i c of same) in
      left_step (sets_of v) was.fixed.sets v.phase v.phase (base_at opening.zones) v.history v.since k i c of le
      was.counted.by_now stay.0 stay.1 (λ t. t) (λ t. t) (data_same (sets_of v) was.fixed.sets i c same) f

  pub read_same : (r c : Image) → IsImageOf v.geometry r → Same r c → IsNow v (base_at opening.zones) r
      → IsNow v (base_at opening.zones) c
  read_same r c of same now = record {
    read = read_stays (sets_of v) was.fixed.sets v.phase (base_at opening.zones) v.history r c of
        (sets_same (sets_of v) was.fixed.sets r c of same) (data_same (sets_of v) was.fixed.sets r c same) now.read;
    pointers = record {
      at = λ z seq l. now.pointers.at z seq l ∙ ap (λ (n : ℕ). rounded_up n 8) (sym (same.zones z).held);
    };
    whole = record {
      at = λ z seq held. ap (λ (n : ℕ). n % 8) (same.zones z).held ∙ now.whole.at z seq held;
    };
    copies = copies_stay (sets_of v) was.fixed.sets v.pointers v.buffer v.job was.fixed.job (base_at opening.zones)
        v.history r c (data_same (sets_of v) was.fixed.sets r c same) now.copies;
  }
