use Rattle.std.proofs.Common.{◌≡◌, ℕ, List, subst, sym}
use Rattle.zd_base.specs.Geometry.{Shape, IsShape}
use Rattle.zd_base.specs.Layout.{Fits, formatted}
use Rattle.zd_base.specs.declared.layout.Layout.{Layout}
use Rattle.zd_model.specs.Image.{Image}
use Rattle.zd_model.specs.Super.{HasBlock}
use Rattle.zd_model.specs.declared.metadata.Super.{Super}
use Rattle.zd_disk.proofs.ViewLaws.{holds_as}
use Rattle.zd_format.specs.Fresh.{IsFresh, head_of}
use Rattle.zd_format.specs.Sets.{HasBothSets}
use Rattle.zd_format.proofs.VolumeLaws.{fresh_volume}
use Rattle.zd_format.proofs.formatting.format_disk.Goals as goal

-- by the geometry, the layout and the head that were found
by_found : (g : Shape) (reserved : ℕ) (layout : Layout) (label volume : List ℕ) (head : Super) (image : Image) → IsShape g
    → (layout ≡ formatted g reserved) × Fits g (formatted g reserved) → head ≡ head_of layout label volume 0 → HasBlock head → HasBothSets g head image
    → IsFresh reserved label volume layout image
by_found g reserved layout label volume head image shape found is sizes sets =
    subst (λ (s : Shape). IsShape s → layout ≡ formatted s reserved → Fits s layout → HasBothSets s (head_of layout label volume 0) image
    → IsFresh reserved label volume layout image) sets.geometry
    (λ sh f fi se. fresh_volume image reserved layout label volume sh f fi (subst HasBlock is sizes) se)
    shape found.0 (subst (Fits g) (sym found.0) found.1) (subst (λ (h : Super). HasBothSets g h image) is sets)

pub returns-in-Ok-write_sets-clause-ok : goal.returns-in-Ok-write_sets-clause-ok
returns-in-Ok-write_sets-clause-ok g c =
    holds_as (λ image sets. by_found c.in-Ok.geometry c.args.reserved c.in-Some.layout c.args.label c.args.volume c.head_of-head.result image
    c.write_sets.ensures.shape c.in-Some.ensures.some c.head_of-head.ensures.value c.head_of-head.ensures.sizes sets) c.in-Ok-write_sets.ensures.ok
