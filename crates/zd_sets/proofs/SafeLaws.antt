-- What a stop may leave while the other set is made equal is the same volume.
use Rattle.std.proofs.Common.{◌≡◌, Some, ◌<◌, ℕ, List, arith}
use Rattle.zd_base.specs.Geometry.{IsShape, Shape}
use Rattle.zd_base.specs.Layout.{used_blocks}
use Rattle.zd_model.specs.Image.{Image, IsImage}
use Rattle.zd_disk.specs.Told.{WhereTold}
use Rattle.zd_disk.specs.View.{View, Holds, IsDurable, Keeps, Reaches, Turns}
use Rattle.zd_disk.proofs.ViewLaws.{holds_durable, keeps_first, keeps_then, reaches_as, reaches_then, read_as, turned_back, turns_both, turns_then}
use Rattle.zd_sets.specs.Blocks.{AreBlocks}
use Rattle.zd_sets.specs.Choice.{IsChoice, IsPlacedChoice}
use Rattle.zd_sets.specs.Equal.{HasSetBlocks, HasSuper, InSet, IsCleared, IsMadeEqual, IsReady, OnlyAt}
use Rattle.zd_sets.specs.Kept.{HasPartOfBlocks, HasPartOfSuper, IsPartCleared}
use Rattle.zd_sets.specs.declared.choice.Chosen.{Chosen as Choice}
use Rattle.zd_sets.proofs.EqualLaws.{made_equal, only_more, only_then, ready, still_ready, there_inside}
use Rattle.zd_sets.proofs.WayLaws.{HoldsOnTheWay, blocks_way, clear_way, super_way, way_cleared, way_copied, way_put}

module _ (g : Shape) (c : Choice) (bytes : List ℕ) (shape : IsShape g) (placed : IsPlacedChoice g c) where
  some : 0 < g.zone_blocks
  some = let size = shape.size.least in omega (arith, size)

  -- each of the three steps changes used blocks of the other set alone
  pub clear_only : (d i : Image) → IsPartCleared g c.other c.other_good d i → OnlyAt (InSet g c.other 0 (used_blocks g c.head.layout)) d i
  clear_only d i h = only_more (InSet g c.other 0 1) (InSet g c.other 0 (used_blocks g c.head.layout)) d i
      (λ z x p. (p.0, p.1, omega (arith, p.2), p.3, p.4)) h.only

  pub blocks_only : (d i : Image) → HasPartOfBlocks g c.other 1 (used_blocks g c.head.layout) bytes d i
      → OnlyAt (InSet g c.other 0 (used_blocks g c.head.layout)) d i
  blocks_only d i h = only_more (InSet g c.other 1 (used_blocks g c.head.layout)) (InSet g c.other 0 (used_blocks g c.head.layout)) d i
      (λ z x p. (p.0, omega arith, p.2, p.3, p.4)) h.only

  pub super_only : (d i : Image) → HasPartOfSuper g c d i → OnlyAt (InSet g c.other 0 (used_blocks g c.head.layout)) d i
  super_only d i h = only_more (InSet g c.other 0 1) (InSet g c.other 0 (used_blocks g c.head.layout)) d i
      (λ z x p. (p.0, p.1, omega (arith, p.2), p.3, p.4)) h.only

-- the three steps, one after another, on a disk that reads as the chosen set says
module _ {g : Shape} {c : Choice} {bytes : List ℕ} (shape : IsShape g) (placed : IsPlacedChoice g c) {s t : View} (told : s.told ≡ Some g)
    (chosen : WhereTold s.zones (IsChoice c)) (blocks : WhereTold s.zones (λ i. AreBlocks i c.zone (used_blocks g c.head.layout) bytes))
    (clear : Reaches (IsPartCleared g c.other c.other_good) s t) where
  pub cleared_only : Reaches (OnlyAt (InSet g c.other 0 (used_blocks g c.head.layout))) s t
  cleared_only = reaches_as told (λ a b here image after h. clear_only g c bytes shape placed a b h) clear

  -- what holds all the way is kept
  pub cleared_kept : (P : Image → Image → Type 0) → HoldsOnTheWay g c P → Keeps P s t
  cleared_kept P holds = keeps_first (clear_way g c.other c.other_good placed.other (some g c bytes shape placed)) told
      (λ a b is after h. holds a b is.geometry is.image after (chosen a is.is)
      (way_cleared g c bytes placed (some g c bytes shape placed) a b is.geometry h)) clear

  module _ {u : View} (cleared : Turns (IsCleared g c.other c.other_good) s t) (durable : IsDurable s → IsDurable t)
      (copy : Reaches (HasPartOfBlocks g c.other 1 (used_blocks g c.head.layout) bytes) t u) where
    pub copied_only : Reaches (OnlyAt (InSet g c.other 0 (used_blocks g c.head.layout))) s u
    copied_only = reaches_then (λ a b h. h)
        (λ a b d h k. only_then (InSet g c.other 0 (used_blocks g c.head.layout)) a b d h (blocks_only g c bytes shape placed b d k)) cleared_only copy

    pub copied_kept : (P : Image → Image → Type 0) → HoldsOnTheWay g c P → Keeps P s u
    copied_kept P holds = keeps_then
        (blocks_way g c.other 1 (used_blocks g c.head.layout) bytes (some g c bytes shape placed)
        (there_inside g c bytes placed (some g c bytes shape placed)))
        (clear.stays.told g told) told (cleared_kept P holds) clear.reads clear.order durable
        (λ a b d is after h k. holds a d is.geometry is.image after (chosen a is.is)
        (way_copied g c bytes placed (some g c bytes shape placed) a b d is.geometry (blocks a is.is) h k)) copy

    module _ (copied : Turns (HasSetBlocks g c.other 1 (used_blocks g c.head.layout) bytes) t u) (last : IsDurable u) where
      pub copied_ready : Holds (IsReady c (used_blocks g c.head.layout)) u
      copied_ready = holds_durable (copy.stays.told g (clear.stays.told g told)) last
          (λ a b here image same h. still_ready g c bytes placed (some g c bytes shape placed) a b here image same h)
          (λ i e.
          let from = turned_back (turns_both cleared copied) i e in
          ready g c bytes placed (some g c bytes shape placed) from.0 from.2.0 i (read_as {v = s} told from.0 from.1).geometry
          (blocks from.0 from.1) (chosen from.0 from.1).other_good from.2.1 from.2.2)

      module _ {v : View} (put : Reaches (HasPartOfSuper g c) u v) where
        pub put_only : Reaches (OnlyAt (InSet g c.other 0 (used_blocks g c.head.layout))) s v
        put_only = reaches_then (λ a b h. h)
            (λ a b d h k. only_then (InSet g c.other 0 (used_blocks g c.head.layout)) a b d h (super_only g c bytes shape placed b d k)) copied_only put

        pub put_kept : (P : Image → Image → Type 0) → HoldsOnTheWay g c P → Keeps P s v
        put_kept P holds = keeps_then (super_way g c placed.other (some g c bytes shape placed))
            (copy.stays.told g (clear.stays.told g told)) told (copied_kept P holds) (turns_both clear.reads copied)
            (let one = clear.order in let two = copy.order in omega arith) (λ _. last)
            (λ a b d is after h k. holds a d is.geometry is.image after (chosen a is.is)
            (way_put g c bytes placed (some g c bytes shape placed) a h.0 b d is.geometry (blocks a is.is) h.1 h.2 k)) put

        pub put_equal : Turns (HasSuper g c.other c.head) u v → Turns (IsMadeEqual g c (used_blocks g c.head.layout)) s v
        put_equal done = turns_then told (λ a b d is middle after h k.
            made_equal g c bytes placed (some g c bytes shape placed) a h.0 b d is.geometry (blocks a is.is) h.1 h.2 k) (turns_both cleared copied) done
