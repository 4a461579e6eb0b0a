-- New heads for both sets of a volume, whose other blocks stay.
use Rattle.std.specs.Prelude.{◌≡◌, ◌⊎◌, ℕ, ◌+◌, ◌-◌, ◌<◌, ◌≤◌, ◌^◌, min, true, List, Some, Result, Ok, Err, is_some}
use Rattle.zd_base.specs.Geometry.{Shape}
use Rattle.zd_base.specs.Layout.{set_zones, used_blocks}
use Rattle.zd_base.specs.declared.layout.Layout.{Layout}
use Rattle.zd_disk.specs.Told.{WhereTold}
use Rattle.zd_disk.specs.View.{View}
use Rattle.zd_examine.specs.Opened.{HoldsSet}
use Rattle.zd_model.specs.Image.{Image, block_at}
use Rattle.zd_model.specs.Volume.{good_super}
use Rattle.zd_model.specs.declared.metadata.Super.{Super}
use Rattle.zd_sets.specs.Equal.{InSet, OnlyAt, head_at}

-- a head of the next generation, for the same layout
pub record IsNextHead (old new : Super) : Type 0 where
  pub layout : new.layout ≡ old.layout
  pub generation : new.generation ≡ old.generation + 1

abbrev pub HasGoodSuper : ℕ → Image → Type 0
HasGoodSuper zone image = is_some (good_super image zone) ≡ true

-- the super block of a zone is as before, or has this head; no other block changed
pub record HasPartOfHead (g : Shape) (zone : ℕ) (head : Super) (old new : Image) : Type 0 where
  pub only : OnlyAt (InSet g zone 0 1) old new
  pub super : (block_at new zone 0 ≡ block_at old zone 0)
      ⊎ (good_super new zone ≡ Some (head_at g zone head))

-- some writing calls were made, and no more than so many, while their count is below its end
pub record MadeUpTo (number : ℕ) (u v : View) : Type 0 where
  pub some : v.calls < 2 ^ 64 - 1 → u.calls < v.calls
  pub few : v.calls < 2 ^ 64 - 1 → v.calls ≤ u.calls + number

-- the places of the super blocks of both sets
abbrev pub AtFronts : Shape → Layout → ℕ → ℕ → Type 0
AtFronts g l z x = InSet g (set_zones g l) 0 1 z x ⊎ InSet g 0 0 1 z x

-- each of both super blocks is as before, or has this head; no other block changed
pub record HasPartOfHeads (g : Shape) (l : Layout) (head : Super) (old new : Image) : Type 0 where
  pub only : OnlyAt (AtFronts g l) old new
  pub first_super : (block_at new 0 0 ≡ block_at old 0 0) ⊎ (good_super new 0 ≡ Some (head_at g 0 head))
  pub second_super : (block_at new (set_zones g l) 0 ≡ block_at old (set_zones g l) 0)
      ⊎ (good_super new (set_zones g l) ≡ Some (head_at g (set_zones g l) head))

-- set 0 has this head and set 1 that one, and both have these blocks
pub record HoldsHeads (g : Shape) (l : Layout) (first second : Super) (bytes : List ℕ) (i : Image)
    : Type 0 where
  pub first_set : HoldsSet g 0 (used_blocks g l) first bytes i
  pub second_set : HoldsSet g (set_zones g l) (used_blocks g l) second bytes i

-- both sets have these blocks, each with one of two heads
pub record HoldsEither (g : Shape) (old new : Super) (bytes : List ℕ) (i : Image) : Type 0 where
  pub first_set : HoldsSet g 0 (used_blocks g old.layout) old bytes i
      ⊎ HoldsSet g 0 (used_blocks g old.layout) new bytes i
  pub second_set : HoldsSet g (set_zones g old.layout) (used_blocks g old.layout) old bytes i
      ⊎ HoldsSet g (set_zones g old.layout) (used_blocks g old.layout) new bytes i

-- Both sets have these blocks, with their heads on the way from an old one to a new one. So many of four calls
-- have returned, and the next may be under way: a write of the super block of set 1, a flush, a write of
-- that of set 0, and a flush.
pub record AreHeadsAfter (calls : ℕ) (g : Shape) (old new : Super) (bytes : List ℕ) (i : Image)
    : Type 0 where
  pub first_set : HoldsSet g 0 (used_blocks g old.layout) old bytes i
      ⊎ ((2 ≤ calls) × HoldsSet g 0 (used_blocks g old.layout) new bytes i)
  pub second_set : ((calls < 2) × HoldsSet g (set_zones g old.layout) (used_blocks g old.layout) old bytes i)
      ⊎ HoldsSet g (set_zones g old.layout) (used_blocks g old.layout) new bytes i
  pub ended : 4 ≤ calls → HoldsSet g 0 (used_blocks g old.layout) new bytes i

-- how many of the calls have done their work: a failed one was the last
abbrev pub calls_done : {T E : Type 0} → Result T E → ℕ → ℕ
calls_done (Ok x) calls = calls
calls_done (Err e) calls = calls - 1

-- a stop leaves heads on this way, at each moment from `from` on, where the calls up to `done` did their work
abbrev pub LeavesHeads : ℕ → ℕ → Shape → Super → Super → List ℕ → View → Type 0
LeavesHeads from done g old new bytes v = (k : ℕ) (i : Image) → from ≤ k → k ≤ v.calls → v.left k i →
    AreHeadsAfter (min k done - from) g old new bytes i

pub record MovesHeads (g : Shape) (old new : Super) (bytes : List ℕ) (done : ℕ) (u v : View) : Type 0 where
  pub left : v.calls < 2 ^ 64 - 1 → WhereTold u.zones (λ _.
      LeavesHeads u.calls done g old new bytes v)
