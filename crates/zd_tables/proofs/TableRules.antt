-- The tables of a volume follow the rules, and are below its pointers.
use Rattle.std.proofs.Common.{◌≡◌, ℕ, ◌≤◌, ◌<◌, List, sym, subst, arith}
use Rattle.zd_base.specs.Geometry.{Shape}
use Rattle.zd_base.specs.Layout.{used_blocks}
use Rattle.zd_base.specs.declared.layout.Layout.{Layout}
use Rattle.zd_model.specs.Image.{Image, set_block}
use Rattle.zd_model.specs.Tables.{BitsFollowRules, MapFollowsRules, Tables}
use Rattle.zd_model.specs.Volume.{Chosen, IsWellFormed, tables_of}
use Rattle.zd_sets.specs.Blocks.{blocks_of}
use Rattle.zd_tables.specs.Rules.{AreBelow, FollowRules}
use Rattle.zd_tables.specs.Tables.{entries_in, tables_in}
use Rattle.zd_tables.proofs.TakenLaws.{tables_taken}

module _ (g : Shape) (l : Layout) (bytes : List ℕ) (pointer : ℕ → ℕ) where
  -- the rules with pointers are the rules as if all zones were full, and that valid blocks are below the pointers
  pub rules_of : MapFollowsRules g l (entries_in l bytes) → BitsFollowRules g pointer (tables_in g l bytes)
      → FollowRules g l bytes
  rules_of map bits = record {
    map = map;
    bits = record {
      named = bits.named;
      below = λ z x seq low inside valid. omega (arith, inside);
      one_place =
          bits.one_place;
    };
  }

  pub below_of : BitsFollowRules g pointer (tables_in g l bytes) → AreBelow g pointer (tables_in g l bytes)
  below_of bits = bits.below

  pub bits_of : FollowRules g l bytes → AreBelow g pointer (tables_in g l bytes)
      → BitsFollowRules g pointer (tables_in g l bytes)
  bits_of rules below = record { named = rules.bits.named; below = below; one_place = rules.bits.one_place }

-- those of a well-formed image, in the blocks of its chosen set
module _ (image : Image) (c : Chosen) (well_formed : IsWellFormed image c) (bytes : List ℕ)
    (each : (k : ℕ) → 1 ≤ k → k < used_blocks image.geometry c.head.layout
    → blocks_of bytes k 1 ≡ set_block image c.first k) where
  taken : tables_of image c ≡ tables_in image.geometry c.head.layout bytes
  taken = sym (tables_taken image c bytes well_formed.layout each)

  image_bits : BitsFollowRules image.geometry image.held (tables_in image.geometry c.head.layout bytes)
  image_bits = subst (λ (t : Tables). BitsFollowRules image.geometry image.held t) taken well_formed.bits

  pub image_rules : FollowRules image.geometry c.head.layout bytes
  image_rules =
      rules_of image.geometry c.head.layout bytes image.held
      (subst (λ (t : Tables). MapFollowsRules image.geometry c.head.layout t.entries) taken well_formed.map)
      image_bits

  pub image_below : AreBelow image.geometry image.held (tables_in image.geometry c.head.layout bytes)
  image_below = image_bits.below
