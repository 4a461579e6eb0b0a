-- What holds while the other set is made equal.
use Rattle.std.specs.Prelude.{◌≡◌, ◌⊎◌, ℕ, ◌<◌, ◌≤◌, Some, None, false}
use Rattle.zd_base.specs.Geometry.{Shape}
use Rattle.zd_model.specs.Image.{Image, block_at, set_block}
use Rattle.zd_model.specs.Volume.{good_super, has_magic}
use Rattle.zd_sets.specs.Equal.{InSet, OnlyAt, head_at}
use Rattle.zd_sets.specs.declared.choice.Chosen.{Chosen as Choice}

-- the used blocks of the other set, but for its super block, are those of the chosen one, up to block `end`
abbrev pub HasItsBlocks : Choice → ℕ → Image → Image → Type 0
HasItsBlocks c end old new =
    (k : ℕ) → 1 ≤ k → k < end → set_block new c.other k ≡ set_block old c.zone k

-- the other super block is as before; or bad, as it was; or it has the chosen fields, which comes last
abbrev pub IsOtherSuper : Shape → Choice → ℕ → Image → Image → Type 0
IsOtherSuper g c end old new =
    (block_at new c.other 0 ≡ block_at old c.other 0)
    ⊎ ((c.other_good ≡ false) × (good_super new c.other ≡ None))
    ⊎ ((good_super new c.other ≡ Some (head_at g c.other c.head)) × HasItsBlocks c end old new)

-- some of the way is gone: used blocks of the other set changed alone, and each begins with the magic
-- bytes only where it did before or where the chosen set's block does
pub record IsOnTheWay (g : Shape) (c : Choice) (end : ℕ) (old new : Image) : Type 0 where
  pub only : OnlyAt (InSet g c.other 0 end) old new
  pub super : IsOtherSuper g c end old new
  pub marks : (k : ℕ) → 1 ≤ k → k < end →
      (has_magic (set_block new c.other k) ≡ has_magic (set_block old c.other k))
      ⊎ (has_magic (set_block new c.other k) ≡ has_magic (set_block old c.zone k))
