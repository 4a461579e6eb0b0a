-- An image that chooses blocks with tables that follow the rules is well-formed, and serves what they serve.
use Rattle.std.proofs.Common.{◌≡◌, ℕ, ◌<◌, ◌≤◌, List, sym, ap₂, ◌∙◌, subst}
use Rattle.zd_base.specs.Geometry.{Shape}
use Rattle.zd_base.specs.Layout.{Fits, used_blocks}
use Rattle.zd_base.specs.declared.layout.Layout.{Layout}
use Rattle.zd_model.specs.Image.{Image, set_block}
use Rattle.zd_model.specs.Tables.{BitsFollowRules, MapFollowsRules, Tables, served}
use Rattle.zd_model.specs.Volume.{IsWellFormed, content, tables_of}
use Rattle.zd_sets.specs.Blocks.{blocks_of}
use Rattle.zd_sets.specs.Stages.{ChoosesBlocks}
use Rattle.zd_tables.specs.Tables.{entries_in, tables_in}
use Rattle.zd_tables.proofs.TakenLaws.{tables_taken}

module _ (g : Shape) (image : Image) (geometry : image.geometry ≡ g) (l : Layout) (bytes : List ℕ) (fits : Fits g l)
    (chooses : ChoosesBlocks g l bytes image) where
  fits_chosen : Fits image.geometry chooses.set.head.layout
  fits_chosen =
      subst (λ (h : Shape). Fits h chooses.set.head.layout) (sym geometry)
      (subst (λ (m : Layout). Fits g m) (sym chooses.layout) fits)

  each_chosen : (k : ℕ) → 1 ≤ k → k < used_blocks image.geometry chooses.set.head.layout
      → blocks_of bytes k 1 ≡ set_block image chooses.set.first k
  each_chosen k above below =
      sym (chooses.each k above
      (subst (λ (m : Layout). k < used_blocks g m) chooses.layout
      (subst (λ (h : Shape). k < used_blocks h chooses.set.head.layout) geometry below)))

  pub tables_are : tables_of image chooses.set ≡ tables_in g l bytes
  tables_are =
      sym (tables_taken image chooses.set bytes fits_chosen each_chosen)
      ∙ ap₂ (λ (h : Shape) (m : Layout). tables_in h m bytes) geometry chooses.layout

  pub well_formed_by : MapFollowsRules g l (entries_in l bytes) → BitsFollowRules g image.held (tables_in g l bytes)
      → IsWellFormed image chooses.set
  well_formed_by map_rules bit_rules = record {
    is_chosen = chooses.is_chosen;
    layout = fits_chosen;
    no_other_magic = λ bad. absurd (chooses.some_good bad);
    map = subst (λ (h : Shape). MapFollowsRules h chooses.set.head.layout (tables_of image chooses.set).entries)
        (sym geometry)
        (subst (λ (m : Layout). MapFollowsRules g m (tables_of image chooses.set).entries) (sym chooses.layout)
        (subst (λ (u : Tables). MapFollowsRules g l u.entries) (sym tables_are) map_rules));
    bits = subst (λ (h : Shape). BitsFollowRules h image.held (tables_of image chooses.set)) (sym geometry)
        (subst (λ (u : Tables). BitsFollowRules g image.held u) (sym tables_are) bit_rules);
  }

  pub content_by : content image chooses.set ≡ served g.zone_blocks (tables_in g l bytes) image.sector
  content_by = ap₂ (λ (h : Shape) (u : Tables). served h.zone_blocks u image.sector) geometry tables_are
