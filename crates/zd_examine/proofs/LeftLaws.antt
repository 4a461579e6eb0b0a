-- What a stop leaves of a disk that is opened.
use Rattle.std.proofs.Common.{◌≡◌, Option, Some, None, ℕ, ◌+◌, List, sym, ◌∙◌, subst, inl, inr, arith}
use Rattle.zd_base.specs.Geometry.{Shape, IsShape}
use Rattle.zd_base.specs.Layout.{used_blocks}
use Rattle.zd_model.specs.Image.{Image, IsImage, Same}
use Rattle.zd_disk.specs.Told.{Both, WhereTold, next_count}
use Rattle.zd_disk.specs.View.{View, IsDurable, Keeps, Reaches, ReachesBy, Turns}
use Rattle.zd_disk.proofs.SameSteps.{Same-refl, Same-trans}
use Rattle.zd_disk.proofs.ViewLaws.{by_as, by_kept, by_none, by_then, kept_by, read_as, turned, turns_with}
use Rattle.zd_sets.specs.Choice.{chosen_of}
use Rattle.zd_sets.specs.Equal.{IsMadeEqual}
use Rattle.zd_sets.specs.Kept.{KeepsVolume}
use Rattle.zd_sets.specs.declared.choice.Chosen.{Chosen as Choice}
use Rattle.zd_examine.specs.Examined.{IsExamined}
use Rattle.zd_examine.specs.Opened.{IsKept, IsLeftOrKept, IsSameVolume, KeepsFrom}
use Rattle.zd_examine.proofs.OpenedLaws.{same_volume}

-- the disk was flushed, or may be, and nothing was written since
pub settled_way : {u v : View} → Reaches Same u v → ReachesBy IsLeftOrKept u v
settled_way h = by_as (λ i a b same. inl same) h

-- no call came to it
pub unused_way : {u : View} → ReachesBy IsLeftOrKept u u
unused_way = by_none (λ i a. inl (Same-refl a))

pub settled_keeps : {u v : View} → Reaches Same u v → v.calls ≡ next_count u.calls → IsDurable v → KeepsFrom (u.calls + 1) u v
settled_keeps {u} {v} h next durable = record {
  left = λ low old e k i above below can. (
      let there = turned h.reads old e in
      let at : k ≡ v.calls = omega (arith, next, above, below, low) in
      inl (Same-trans old there.0 i there.2 (durable.left low there.0 there.1 i (subst (λ (n : ℕ). v.left n i) at can))));
}

-- where a stop could leave what the disk read as alone
pub way_keeps : {u v : View} → ReachesBy IsLeftOrKept u v → Keeps IsKept u v
way_keeps h = kept_by (λ i a b e same is. elim is [
  | inl here ↦ inl (Same-trans i a b same here)
  | inr volume ↦ inr volume
]) h

-- two changes at once
both_turns : {P Q : Image → Image → Type 0} {u v : View} → Turns P u v → Turns Q u v → Turns (λ a b. P a b × Q a b) u v
both_turns {P} {Q} {u} {v} h k = record { reads = go u.zones v.zones h.reads k.reads }
  where
    go : (o n : Option Image) → Both o n P → Both o n Q → Both o n (λ a b. P a b × Q a b)
    go None None p q = tt
    go None (Some b) p q = absurd p
    go (Some a) None p q = absurd p
    go (Some a) (Some b) p q = (p, q)

-- a disk that read as old was flushed and examined, and both its sets were made equal
pub record HasMade (g : Shape) (c : Choice) (bytes reported : List ℕ) (old new : Image) : Type 0 where
  pub middle : Image
  pub first : IsImage old
  pub second : IsImage middle
  pub third : IsImage new
  pub shape : IsShape old.geometry
  pub same : Same old middle
  pub examined : IsExamined g c bytes reported middle
  pub equal : IsMadeEqual g c (used_blocks g c.head.layout) middle new
  pub keeps : KeepsVolume (chosen_of c) middle new

module _ {h g : Shape} {choice : Choice} {bytes reported : List ℕ} {first examined : View} (told : examined.told ≡ Some h) (shape : IsShape h)
    (settled : Reaches Same first examined) (found : WhereTold examined.zones (IsExamined g choice bytes reported)) where
  shape_of : (old middle : Image) → examined.zones ≡ Some middle → Same old middle → IsShape old.geometry
  shape_of old middle m same = subst IsShape (sym (read_as {v = examined} told middle m).geometry ∙ same.geometry) shape

  volume : (old middle new : Image) → first.zones ≡ Some old → examined.zones ≡ Some middle → IsImage new → Same old middle
      → KeepsVolume (chosen_of choice) middle new → IsSameVolume old new
  volume old middle new e m is same k =
      same_volume g choice bytes reported old middle new (first.shaped old e) (examined.shaped middle m) is (shape_of old middle m same) same (found middle m) k

  pub has_made : {made : View} → Turns (IsMadeEqual g choice (used_blocks g choice.head.layout)) examined made
      → Keeps (KeepsVolume (chosen_of choice)) examined made → Turns (HasMade g choice bytes reported) first made
  has_made {made} equal kept = turns_with (λ old middle new e m is same k. record {
    middle = middle;
    first = first.shaped old e;
    second = examined.shaped middle m;
    third = is;
    shape = shape_of old middle m same;
    same = same;
    examined = found middle m;
    equal = k.0;
    keeps = k.1;
  }) settled.reads (both_turns equal kept.reads)

  module _ {made : View} (durable : IsDurable examined) (kept : Keeps (KeepsVolume (chosen_of choice)) examined made) where
    pub made_way : {R : Image → Image → Type 0} → Reaches R examined made → ReachesBy IsLeftOrKept first made
    made_way steps = by_then (λ i a b same. inl same)
        (λ i j a b c e m is same before k. inr (volume i j c e m is same k)) settled (by_kept durable kept steps)

    pub made_keeps : examined.calls ≡ next_count first.calls → KeepsFrom (first.calls + 1) first made
    made_keeps next = record {
      left = λ low old e k i above below can. (
          let there = turned settled.reads old e in
          inr (volume old there.0 i e there.1 (made.leaves k i below can).0 there.2
          (kept.left low durable there.0 there.1 k i (omega (arith, next, above, below, low)) below can)));
    }
