-- A set that is written block by block.
use Rattle.std.proofs.Common.{◌≡◌, ◌⊎◌, ℕ, ◌+◌, ◌-◌, ◌*◌, ◌/◌, ◌%◌, ◌<◌, ◌≤◌, List, sym, ap, ◌∙◌, subst, arith, inl, inr}
use Rattle.std.proofs.Math.Nat.{mod-lt}
use Rattle.std.proofs.lemmas.Bool.{cases_lt}
use Rattle.zd_base.specs.Geometry.{Shape, IsShape}
use Rattle.zd_base.specs.Layout.{set_zones}
use Rattle.zd_model.specs.Image.{Image, set_block}
use Rattle.zd_model.specs.declared.metadata.Super.{Super}
use Rattle.zd_disk.specs.Told.{WhereTold}
use Rattle.zd_disk.specs.View.{Turns, View}
use Rattle.zd_disk.proofs.ViewLaws.{turned_back}
use Rattle.zd_format.specs.Sets.{IsFreshBlock, PutBlocks, HasWritten, IsFittingSet, block_in}
use Rattle.zd_disk.specs.Runs.{blocks_in}
use Rattle.zd_model.specs.Super.{with_own}
use Rattle.zd_format.proofs.PlaceLaws.{within_zones, zone_within}

-- a set behind zone 0 begins behind all blocks of the first
pub behind_first : (g : Shape) (head : Super) (first : ℕ) → IsFittingSet g head first → 0 < first → head.layout.meta_blocks ≤ first * g.zone_blocks
behind_first g head first set some = by set.start
  where
    by : (first ≡ 0) ⊎ (first ≡ set_zones g head.layout) → head.layout.meta_blocks ≤ first * g.zone_blocks
    by (inl e) = absurd (omega (arith, e, some))
    by (inr e) =
        let least = set.shape.size.least in
        let room = within_zones head.layout.meta_blocks g.zone_blocks (omega (arith, least)) in
        subst (λ (n : ℕ). head.layout.meta_blocks ≤ n * g.zone_blocks) (sym e) room

-- with each run the set is written further
pub written_more : (g : Shape) (head : Super) (first b : ℕ) (bytes : List ℕ) (old new : Image)
    → IsFittingSet g head first → ((j : ℕ) → j < blocks_in bytes → IsFreshBlock head (b + j) (block_in bytes j))
    → PutBlocks first b bytes old new → HasWritten g head first b old
    → HasWritten g head first (b + blocks_in bytes) new
written_more g head first b bytes old new set fresh put written = record {
  geometry = put.geometry ∙ written.geometry;
  earlier = λ some k low.
      let behind = behind_first g head first set some in
      let same : old.geometry.zone_blocks ≡ g.zone_blocks = ap (λ (s : Shape). s.zone_blocks) written.geometry in
      let scaled : first * old.geometry.zone_blocks ≡ first * g.zone_blocks = ap (λ (n : ℕ). first * n) same in
      subst (IsFreshBlock (with_own 0 head) k) (sym (put.before 0 k (omega (arith, behind, scaled, low)))) (written.earlier some k low);
  blocks = λ k low. by k low (cases_lt k b);
}
  where
    by : (k : ℕ) → k < b + blocks_in bytes → (k < b) ⊎ (b ≤ k) → IsFreshBlock head k (set_block new first k)
    by k low (inl less) =
        subst (IsFreshBlock head k) (sym (put.before first k (omega (arith, less)))) (written.blocks k less)
    by k low (inr most) =
        let j : ℕ = k - b in
        let at : b + j ≡ k = omega (arith, most) in
        let there : j < blocks_in bytes = omega (arith, low, most) in
        subst (λ (n : ℕ). IsFreshBlock head n (set_block new first n)) at
        (subst (IsFreshBlock head (b + j)) (sym (put.put j there)) (fresh j there))

-- where it is told
pub told_more : {u v : View} (g : Shape) (head : Super) (first b c : ℕ) (bytes : List ℕ)
    → IsFittingSet g head first → ((j : ℕ) → j < blocks_in bytes → IsFreshBlock head (b + j) (block_in bytes j))
    → b + blocks_in bytes ≡ c → Turns (PutBlocks first b bytes) u v → WhereTold u.zones (HasWritten g head first b)
    → WhereTold v.zones (HasWritten g head first c)
told_more g head first b c bytes set fresh end turns written image e =
    let found = turned_back turns image e in
    subst (λ (n : ℕ). HasWritten g head first n image) end
    (written_more g head first b bytes found.0 image set fresh found.2 (written found.0 found.1))

-- a block of a set stands in a conventional zone
pub zone_low : (g : Shape) (head : Super) (first b : ℕ) → IsFittingSet g head first → b < head.layout.meta_blocks → first + b / g.zone_blocks < g.conv
zone_low g head first b set low = by set.start
  where
    by : (first ≡ 0) ⊎ (first ≡ set_zones g head.layout) → first + b / g.zone_blocks < g.conv
    by start =
        let least = set.shape.size.least in
        let some : 0 < g.zone_blocks = omega (arith, least) in
        let zone = zone_within b head.layout.meta_blocks g.zone_blocks some low in
        let rest = set.fits.conventional_data in
        by_start start zone rest
      where
        by_start : (first ≡ 0) ⊎ (first ≡ set_zones g head.layout) → b / g.zone_blocks < set_zones g head.layout → 2 * set_zones g head.layout < g.conv → first + b / g.zone_blocks < g.conv
        by_start (inl e) zone rest = omega (arith, e, zone, rest)
        by_start (inr e) zone rest = omega (arith, e, zone, rest)

-- one block lies in one zone
pub one_within : (g : Shape) (b n : ℕ) → IsShape g → n ≡ 1 → b % g.zone_blocks + n ≤ g.zone_blocks
one_within g b n shape one =
    let least = shape.size.least in
    let some : 0 < g.zone_blocks = omega (arith, least) in
    let less = mod-lt b {m = g.zone_blocks} some in
    omega (arith, less, one)
