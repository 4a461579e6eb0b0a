-- New tables in both sets, by a commit.
use Rattle.std.specs.Prelude.{◌≡◌, ◌⊎◌, ℕ, ◌+◌, List}
use Rattle.zd_base.specs.Geometry.{Shape}
use Rattle.zd_base.specs.Layout.{set_zones, used_blocks}
use Rattle.zd_base.specs.declared.layout.Layout.{Layout}
use Rattle.zd_examine.specs.Opened.{HoldsSet}
use Rattle.zd_model.specs.Image.{Image, block_at}
use Rattle.zd_model.specs.declared.metadata.Super.{Super}
use Rattle.zd_sets.specs.Calls.{differing_from}
use Rattle.zd_sets.specs.Equal.{InSet, OnlyAt}
use Rattle.zd_repair.specs.Heads.{HasGoodSuper, HoldsHeads}

-- the set that begins in this zone has this head and these blocks, and no other block changed
pub record PutsSet (g : Shape) (l : Layout) (zone : ℕ) (head : Super) (bytes : List ℕ) (old new : Image)
    : Type 0 where
  pub only : OnlyAt (InSet g zone 0 (used_blocks g l)) old new
  pub holds : HoldsSet g zone (used_blocks g l) head bytes new

-- used blocks of the set changed alone: its super block is as before, or the set has this head and these blocks
pub record HasPartOfSet (g : Shape) (l : Layout) (zone : ℕ) (head : Super) (bytes : List ℕ) (old new : Image)
    : Type 0 where
  pub only : OnlyAt (InSet g zone 0 (used_blocks g l)) old new
  pub stage : (block_at new zone 0 ≡ block_at old zone 0) ⊎ HoldsSet g zone (used_blocks g l) head bytes new

-- the places of the used blocks of both sets
abbrev pub InBothSets : Shape → Layout → ℕ → ℕ → Type 0
InBothSets g l z x = InSet g (set_zones g l) 0 (used_blocks g l) z x ⊎ InSet g 0 0 (used_blocks g l) z x

-- both super blocks are good
pub record HaveGoodSupers (g : Shape) (l : Layout) (i : Image) : Type 0 where
  pub first_good : HasGoodSuper 0 i
  pub second_good : HasGoodSuper (set_zones g l) i

-- how far a commit has come: set 1 alone changed, and its super block hasn't; or set 1 has this head and these blocks,
-- and the super block of set 0 hasn't changed; or both sets have them
abbrev pub IsCommitStage : Shape → Layout → Super → List ℕ → Image → Image → Type 0
IsCommitStage g l head bytes old new =
    (OnlyAt (InSet g (set_zones g l) 0 (used_blocks g l)) old new
    × (block_at new (set_zones g l) 0 ≡ block_at old (set_zones g l) 0))
    ⊎ (HoldsSet g (set_zones g l) (used_blocks g l) head bytes new × (block_at new 0 0 ≡ block_at old 0 0))
    ⊎ HoldsHeads g l head head bytes new

pub record HasPartOfCommit (g : Shape) (l : Layout) (head : Super) (bytes : List ℕ) (old new : Image)
    : Type 0 where
  pub only : OnlyAt (InBothSets g l) old new
  pub stage : IsCommitStage g l head bytes old new

-- and whole
pub record PutsBothSets (g : Shape) (l : Layout) (head : Super) (bytes : List ℕ) (old new : Image) : Type 0 where
  pub only : OnlyAt (InBothSets g l) old new
  pub heads : HoldsHeads g l head head bytes new

-- the writing calls of a commit: a write for each block that differs, a flush, a write of the super block and a flush,
-- for each set
abbrev pub commit_calls : Shape → Layout → List ℕ → Image → ℕ
commit_calls g l bytes image =
    differing_from bytes (set_zones g l) 1 (used_blocks g l) image
    + differing_from bytes 0 1 (used_blocks g l) image + 6
