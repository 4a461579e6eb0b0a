-- What is written in both sets depends on what the disk holds alone.
use Rattle.std.proofs.Common.{◌≡◌, ◌⊎◌, ℕ, ◌+◌, ◌*◌, ◌/◌, ◌%◌, ◌<◌, ◌≤◌, refl, sym, ap, ◌∙◌, subst, arith, inl, inr}
use Rattle.std.proofs.Math.Nat.{mod-lt}
use Rattle.std.proofs.lemmas.Bool.{cases_lt}
use Rattle.zd_base.specs.Geometry.{Shape, IsShape}
use Rattle.zd_base.specs.Layout.{Fits, set_zones}
use Rattle.zd_model.specs.Image.{Image, IsImage, Same, block_at, set_block}
use Rattle.zd_model.specs.declared.metadata.Super.{Super}
use Rattle.zd_model.proofs.SameLaws.{same_block}
use Rattle.zd_disk.specs.Told.{WhereTold}
use Rattle.zd_disk.specs.View.{Turns, View}
use Rattle.zd_disk.proofs.ViewLaws.{turned_back}
use Rattle.zd_format.specs.Sets.{IsFreshBlock, HasWritten, HasBothSets, IsFittingSet}
use Rattle.zd_model.specs.Super.{with_own}
use Rattle.zd_format.proofs.PlaceLaws.{within_zones}
use Rattle.zd_format.proofs.SetLaws.{zone_low}

-- a disk of this geometry with room for both sets, the first with this head
module _ (g : Shape) (head : Super) (shape : IsShape g) (fits : Fits g head.layout) (own : head.own ≡ 0) where
  abbrev n : ℕ
  n = set_zones g head.layout

  abbrev other : Super
  other = with_own (n * g.zone_blocks) head

  back : with_own 0 other ≡ head
  back = ap (λ (o : ℕ). with_own o head) (sym own)

  some_zone : 0 < n
  some_zone =
      let set = fits.set in
      let least = shape.size.least in
      let room = within_zones head.layout.meta_blocks g.zone_blocks (omega (arith, least)) in
      by (cases_lt 0 n) room set
    where
      by : (0 < n) ⊎ (n ≤ 0) → head.layout.meta_blocks ≤ n * g.zone_blocks → 1 + head.layout.map_blocks + head.layout.bitmap_blocks ≤ head.layout.meta_blocks → 0 < n
      by (inl some) room set = some
      by (inr none) room set =
          let zero_zones : n ≡ 0 = omega (arith, none) in
          let empty : n * g.zone_blocks ≡ 0 * g.zone_blocks = ap (λ (m : ℕ). m * g.zone_blocks) zero_zones in
          absurd (omega (arith, room, set, empty))

  -- the second set is written last
  pub both_sets : (image : Image) → HasWritten g other n head.layout.meta_blocks image → HasBothSets g head image
  both_sets image written = record {
    geometry = written.geometry;
    first = λ k low. subst (λ (h : Super). IsFreshBlock h k (set_block image 0 k)) back (written.earlier some_zone k low);
    second = λ k low. written.blocks k low;
  }

  same_set : (old new : Image) → IsImage old → old.geometry ≡ g → Same old new → (h : Super) (f k : ℕ) → IsFittingSet g h f → k < h.layout.meta_blocks
      → set_block new f k ≡ set_block old f k
  same_set old new image is same h f k set low =
      let zone : f + k / old.geometry.zone_blocks < old.geometry.conv =
      subst (λ (s : Shape). f + k / s.zone_blocks < s.conv) (sym is) (zone_low g h f k set low) in
      let least = shape.size.least in
      let some : 0 < old.geometry.zone_blocks = subst (λ (s : Shape). 0 < s.zone_blocks) (sym is) (omega (arith, least)) in
      ap (λ (s : Shape). block_at new (f + k / s.zone_blocks) (k % s.zone_blocks)) same.geometry
      ∙ same_block old new image same (f + k / old.geometry.zone_blocks) (k % old.geometry.zone_blocks) zone (mod-lt k {m = old.geometry.zone_blocks} some)

  pub same_sets : (old new : Image) → IsImage old → Same old new → HasBothSets g head old → HasBothSets g head new
  same_sets old new image same sets = record {
    geometry = same.geometry ∙ sets.geometry;
    first = λ k low. subst (IsFreshBlock head k)
        (sym (same_set old new image sets.geometry same head 0 k (record { shape = shape; fits = fits; start = inl refl }) low)) (sets.first k low);
    second = λ k low. subst (IsFreshBlock other k)
        (sym (same_set old new image sets.geometry same head n k (record { shape = shape; fits = fits; start = inr refl }) low)) (sets.second k low);
  }

  -- after the flush the disk reads so
  pub told_sets : {u v : View} → WhereTold u.zones (HasWritten g other n head.layout.meta_blocks)
      → Turns Same u v → WhereTold v.zones (HasBothSets g head)
  told_sets {u} {v} written turns image e =
      let found = turned_back turns image e in
      same_sets found.0 image (u.shaped found.0 found.1) found.2 (both_sets found.0 (written found.0 found.1))
