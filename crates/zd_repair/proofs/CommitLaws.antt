-- One set committed, in part or whole.
use Rattle.std.proofs.Common.{◌≡◌, Some, ℕ, ◌+◌, ◌/◌, ◌<◌, ◌≤◌, List, is_some, inl, inr, sym, ap, ◌∙◌, arith}
use Rattle.zd_base.specs.Geometry.{Shape}
use Rattle.zd_base.specs.Layout.{used_blocks}
use Rattle.zd_base.specs.declared.layout.Layout.{Layout}
use Rattle.zd_disk.specs.View.{View, Holds, IsDurable, Keeps, Made, MadeOf, Reaches, Turns}
use Rattle.zd_disk.proofs.ViewLaws.{keeps_first, keeps_then, reaches_as, reaches_then, turns_then}
use Rattle.zd_model.specs.Image.{Image, block_at, set_block}
use Rattle.zd_model.specs.declared.metadata.Super.{Super}
use Rattle.zd_sets.specs.Calls.{differing_from}
use Rattle.zd_sets.specs.Equal.{HasSetBlocks, HasSuper, InSet, OnlyAt}
use Rattle.zd_sets.specs.Kept.{HasPartOfBlocks}
use Rattle.zd_sets.proofs.EqualLaws.{first_block, only_more, only_then, same_good, set_still}
use Rattle.zd_sets.proofs.WayLaws.{blocks_way, outside}
use Rattle.zd_repair.specs.Committed.{HasPartOfSet, PutsSet}
use Rattle.zd_repair.specs.Heads.{HasGoodSuper, HasPartOfHead}
use Rattle.zd_repair.proofs.HeadLaws.{head_way}
use Rattle.zd_repair.proofs.HeadViews.{holds_reached}

module _ (g : Shape) (l : Layout) (zone : ℕ) (head : Super) (bytes : List ℕ) (some : 0 < g.zone_blocks)
    (inside : (i : ℕ) → i < used_blocks g l → zone + i / g.zone_blocks < g.conv) where
  abbrev used : ℕ
  used = used_blocks g l

  abbrev All : ℕ → ℕ → Type 0
  All = InSet g zone 0 (used_blocks g l)

  pub low : zone < g.conv
  low = (let here = inside 0 (omega arith) in omega (arith, here))

  -- each step changes used blocks of the set alone
  pub blocks_only : (a b : Image) → OnlyAt (InSet g zone 1 (used_blocks g l)) a b → OnlyAt (InSet g zone 0 (used_blocks g l)) a b
  blocks_only a b only = only_more (InSet g zone 1 (used_blocks g l)) (InSet g zone 0 (used_blocks g l)) a b
      (λ z x p. (p.0, omega arith, p.2, p.3, p.4)) only

  pub head_only : (a b : Image) → OnlyAt (InSet g zone 0 1) a b → OnlyAt (InSet g zone 0 (used_blocks g l)) a b
  head_only a b only = only_more (InSet g zone 0 1) (InSet g zone 0 (used_blocks g l)) a b
      (λ z x p. (p.0, p.1, omega (arith, p.2), p.3, p.4)) only

  -- the super block stays while blocks behind it are written
  front_stays : (a b : Image) → a.geometry ≡ g → OnlyAt (InSet g zone 1 (used_blocks g l)) a b → block_at b zone 0 ≡ block_at a zone 0
  front_stays a b shape only =
      sym (first_block b zone)
      ∙ set_still g zone (InSet g zone 1 (used_blocks g l)) a b some shape only 0 (inside 0 (omega arith))
      (outside g zone 1 (used_blocks g l) 0 some (inl (omega arith)))
      ∙ first_block a zone

  -- and the blocks while it is written
  rest_stays : (a b : Image) → a.geometry ≡ g → OnlyAt (InSet g zone 0 1) a b → (k : ℕ) → 1 ≤ k → k < used → set_block b zone k ≡ set_block a zone k
  rest_stays a b shape only k above below =
      set_still g zone (InSet g zone 0 1) a b some shape only k (inside k below) (outside g zone 0 1 k some (inr above))

  part_copied : (a b : Image) → a.geometry ≡ g → HasPartOfBlocks g zone 1 (used_blocks g l) bytes a b → HasPartOfSet g l zone head bytes a b
  part_copied a b shape part = record { only = blocks_only a b part.only; stage = inl (front_stays a b shape part.only) }

  part_put : (a b c : Image) → a.geometry ≡ g → HasSetBlocks g zone 1 (used_blocks g l) bytes a b → HasPartOfHead g zone head b c
      → HasPartOfSet g l zone head bytes a c
  part_put a b c shape copied put =
      let here = copied.only.geometry ∙ shape in
      record {
        only = only_then (InSet g zone 0 (used_blocks g l)) a b c (blocks_only a b copied.only) (head_only b c put.only);
        stage = elim put.super [
          | inl same ↦ inl (same ∙ front_stays a b shape copied.only)
          | inr new ↦ inr (record {
            super = new;
            each = λ k above below. rest_stays b c here put.only k above below ∙ copied.each k above below;
          })
        ];
      }

  all_put : (a b c : Image) → a.geometry ≡ g → HasSetBlocks g zone 1 (used_blocks g l) bytes a b → HasSuper g zone head b c
      → PutsSet g l zone head bytes a c
  all_put a b c shape copied put = record {
    only = only_then (InSet g zone 0 (used_blocks g l)) a b c (blocks_only a b copied.only) (head_only b c put.only);
    holds = record {
      super = put.super;
      each = λ k above below. rest_stays b c (copied.only.geometry ∙ shape) put.only k above below ∙ copied.each k above below;
    };
  }

  -- the two steps
  module _ {u m : View} (told : u.told ≡ Some g) (copy : Reaches (HasPartOfBlocks g zone 1 (used_blocks g l) bytes) u m) where
    told_then : m.told ≡ Some g
    told_then = copy.stays.told g told

    pub copied_way : Reaches (OnlyAt (InSet g zone 0 (used_blocks g l))) u m
    copied_way = reaches_as told (λ a b shape image after part. blocks_only a b part.only) copy

    pub copied_kept : Keeps (HasPartOfSet g l zone head bytes) u m
    copied_kept = keeps_first (blocks_way g zone 1 (used_blocks g l) bytes some inside) told
        (λ a b is after part. part_copied a b is.geometry part) copy

    pub still_good : Holds (HasGoodSuper zone) u → Holds (HasGoodSuper zone) m
    still_good good = holds_reached told good (λ a b shape image after fine part.
        ap is_some (same_good a b zone part.only.geometry (front_stays a b shape part.only)) ∙ fine) copy

    module _ {v : View} (put : Reaches (HasPartOfHead g zone head) m v) where
      pub put_way : Reaches (OnlyAt (InSet g zone 0 (used_blocks g l))) u v
      put_way = reaches_then (λ a b h. h)
          (λ a b c h part. only_then (InSet g zone 0 (used_blocks g l)) a b c h (head_only b c part.only)) copied_way put

      pub put_kept : Turns (HasSetBlocks g zone 1 (used_blocks g l) bytes) u m → IsDurable m → Keeps (HasPartOfSet g l zone head bytes) u v
      put_kept copied durable = keeps_then (head_way g zone head low some) told_then told copied_kept copied copy.order (λ _. durable)
          (λ a b c is after h part. part_put a b c is.geometry h part) put

    pub put_all : {v : View} → Turns (HasSetBlocks g zone 1 (used_blocks g l) bytes) u m → Turns (HasSuper g zone head) m v
        → Turns (PutsSet g l zone head bytes) u v
    put_all copied put = turns_then told (λ a b c is middle after h k. all_put a b c is.geometry h k) copied put

    pub counted_set : {v : View} → m.calls ≤ v.calls → MadeOf (λ image. differing_from bytes zone 1 (used_blocks g l) image + 1) u m
        → Made 2 m v → MadeOf (λ image. differing_from bytes zone 1 (used_blocks g l) image + 3) u v
    counted_set {v} later one two = record {
      number_is = λ low image e. (
          let first = one.number_is (omega (arith, low, later)) image e in
          let second = two.number_is low in
          omega (arith, first, second));
    }
