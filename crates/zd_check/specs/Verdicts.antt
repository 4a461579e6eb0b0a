-- Whether the two sets of metadata of a volume are the same.
use Rattle.std.specs.Prelude.{◌≡◌, ◌≢◌, ◌↔◌, ℕ, ◌-◌, ◌<◌, ◌≤◌, List, Some}
use Rattle.zd_base.specs.Geometry.{Shape}
use Rattle.zd_base.specs.Layout.{used_blocks}
use Rattle.zd_model.specs.Image.{Image, set_block}
use Rattle.zd_model.specs.Volume.{Chosen, IsWellFormed, WellFormed, good_super}
use Rattle.zd_sets.specs.Blocks.{AreBlocks, blocks_of}
use Rattle.zd_sets.specs.Choice.{chosen_of}
use Rattle.zd_sets.specs.Equal.{IsMadeEqual, head_at}
use Rattle.zd_sets.specs.declared.choice.Chosen.{Chosen as Choice}
use Rattle.zd_examine.specs.Examined.{ExplainsRefusal}
use Rattle.zd_examine.specs.Opened.{IsRefusal}
use Rattle.zd_examine.specs.declared.examining.OpenFault.{OpenFault}
use Rattle.zd_check.specs.declared.comparing.Verdict.{Verdict}
use Rattle.zd_check.specs.declared.comparing.Verdict.TheVariants.{Same, Super, Block}

-- the super block of the other set is good, with the fields of the chosen one beside its own number
abbrev pub HaveSameSupers : Image → Chosen → Type 0
HaveSameSupers image c = good_super image c.other ≡ Some (head_at image.geometry c.other c.head)

-- from block 1 on, below block `end`, two sets have the same blocks
abbrev pub HaveSameBlocks : (ℕ → List ℕ) → (ℕ → List ℕ) → ℕ → Type 0
HaveSameBlocks one other end = (k : ℕ) → 1 ≤ k → k < end → other k ≡ one k

-- this is the first of them in which they differ
pub record DifferFirstIn (one other : ℕ → List ℕ) (end k : ℕ) : Type 0 where
  pub low : 1 ≤ k
  pub high : k < end
  pub differ : other k ≢ one k
  pub before : HaveSameBlocks one other k

-- how the other set of an image compares with this one
abbrev pub IsVerdictOf : Image → Chosen → Verdict → Type 0
IsVerdictOf image c Same = HaveSameSupers image c
    × HaveSameBlocks (set_block image c.first) (set_block image c.other)
    (used_blocks image.geometry c.head.layout)
IsVerdictOf image c (Super set) = (HaveSameSupers image c → ⊥) × (set ≡ 1 - c.set)
IsVerdictOf image c (Block block) = HaveSameSupers image c
    × DifferFirstIn (set_block image c.first) (set_block image c.other)
    (used_blocks image.geometry c.head.layout) block

-- the verdict on a well-formed image: how the other set compares with the chosen one
pub record IsVerdict (image : Image) (verdict : Verdict) : Type 0 where
  pub set : Chosen
  pub well_formed : IsWellFormed image set
  pub compares : IsVerdictOf image set verdict

-- a block of a set whose bytes these are
abbrev pub block_in : List ℕ → ℕ → List ℕ
block_in bytes k = blocks_of bytes k 1

-- these are the used blocks of the chosen set and of the other one
pub record AreBothSets (g : Shape) (c : Choice) (bytes others : List ℕ) (image : Image) : Type 0 where
  pub geometry : g ≡ image.geometry
  pub chosen : AreBlocks image c.zone (used_blocks g c.head.layout) bytes
  pub other : AreBlocks image c.other (used_blocks g c.head.layout) others

-- a well-formed image has a verdict
abbrev pub EachVolumeHasAVerdict : Type 0
EachVolumeHasAVerdict = (image : Image) → WellFormed image → (v : Verdict) × IsVerdict image v

-- and one alone
abbrev pub OneVolumeHasOneVerdict : Type 0
OneVolumeHasOneVerdict =
    (image : Image) (v w : Verdict) → IsVerdict image v → IsVerdict image w → v ≡ w

-- an image that is refused for what it holds has none
abbrev pub NoRefusedImageHasAVerdict : Type 0
NoRefusedImageHasAVerdict = (image : Image) (fault : OpenFault) (v : Verdict) →
    IsRefusal fault → ExplainsRefusal fault image → IsVerdict image v → ⊥

-- the verdict is `Same` exactly where the other set is made equal by leaving all as it is
abbrev pub SameIsMadeEqual : Type 0
SameIsMadeEqual = (image : Image) (c : Choice) → IsVerdictOf image (chosen_of c) Same
    ↔ IsMadeEqual image.geometry c (used_blocks image.geometry c.head.layout) image image
