-- What was read is what the disk holds.
use Rattle.std.proofs.Common.{◌≡◌, ℕ, zero, suc, ◌+◌, ◌<◌, ◌≤◌, Bool, true, List, [], ◌∷◌, ◌++◌, map, Option, Some, refl, sym, ap, ap₂, ◌∙◌, subst, inl, inr, arith, cond}
use Rattle.std.proofs.lemmas.Bool.{cases_lt}
use borrow.Author.Tests.{lt-ltb}
use Rattle.std.specs.Prelude.{find, slice_index}
use Rattle.std.specs.List.{flat_map, range_with_len}
use Rattle.zd_base.specs.Geometry.{Shape, zone_count, is_conventional}
use Rattle.zd_base.specs.Layout.{Fits, used_blocks}
use Rattle.zd_model.specs.Faults.{bad_bit, bad_chunk}
use Rattle.zd_model.specs.Image.{Image}
use Rattle.zd_model.specs.Tables.{Tables}
use Rattle.zd_model.specs.Volume.{Chosen, tables_of}
use Rattle.zd_model.proofs.FaultLaws.{map_follows}
use Rattle.zd_model.proofs.BitLaws.{bits_follow}
use Rattle.zd_sets.specs.Blocks.{AreBlocks}
use Rattle.zd_sets.specs.Choice.{IsChoice, chosen_of}
use Rattle.zd_sets.specs.declared.choice.Chosen.{Chosen as Choice}
use Rattle.zd_examine.proofs.Pairs.{is_bad_pair, pairs_of}
use Rattle.zd_tables.specs.Tables.{entries_in, tables_in}
use Rattle.zd_tables.proofs.TakenLaws.{tables_taken}
use Rattle.zd_examine.specs.Examined.{ArePointers, BreaksTableRule, ExplainsRefusal, FollowsRules, IsExamined, IsPlacedSet}
use Rattle.zd_examine.specs.declared.examining.OpenFault.{OpenFault}
use Rattle.zd_examine.specs.declared.examining.OpenFault.TheVariants.{NoSuperBlock, Layout as BadLayout, BadMap, BadBits, Device, Memory}

-- the tables in the blocks are those of the image
pub tables_are : (image : Image) (c : Chosen) (bytes : List ℕ) → Fits image.geometry c.head.layout
    → AreBlocks image c.first (used_blocks image.geometry c.head.layout) bytes
    → tables_in image.geometry c.head.layout bytes ≡ tables_of image c
tables_are image c bytes fits blocks =
    tables_taken image c bytes fits (λ k some below. blocks.each k below)

-- pointers of conventional zones don't count
module _ (g : Shape) (t : Tables) (p q : ℕ → ℕ) (same : (z : ℕ) → g.conv ≤ z → z < zone_count g → p z ≡ q z) where
  same_pair : (z x : ℕ) → z < zone_count g → is_bad_pair g p t (z, x) ≡ is_bad_pair g q t (z, x)
  same_pair z x low = elim (cases_lt z g.conv) [
    | inl conv ↦ (let here : is_conventional g z ≡ true = lt-ltb z g.conv conv in rw here refl)
    | inr seq ↦ rw (same z seq low) refl
  ]

  same_row : (z : ℕ) (xs : List ℕ) (rest : List (ℕ × ℕ)) → z < zone_count g → find (is_bad_pair g p t) rest ≡ find (is_bad_pair g q t) rest
      → find (is_bad_pair g p t) (map (λ x. (z, x)) xs ++ rest) ≡ find (is_bad_pair g q t) (map (λ x. (z, x)) xs ++ rest)
  same_row z [] rest low others = others
  same_row z (x ∷ xs) rest low others =
      ap₂ (λ (b : Bool) (o : Option (ℕ × ℕ)). cond b (Some (z, x)) o) (same_pair z x low) (same_row z xs rest low others)

  same_rows : (a n : ℕ) → a + n ≤ zone_count g
      → find (is_bad_pair g p t) (flat_map (pairs_of g) (range_with_len a n)) ≡ find (is_bad_pair g q t) (flat_map (pairs_of g) (range_with_len a n))
  same_rows a zero low = refl
  same_rows a (suc n) low = same_row a (range_with_len 0 g.zone_blocks) (flat_map (pairs_of g) (range_with_len (a + 1) n)) (omega arith) (same_rows (a + 1) n (omega arith))

  pub same_bits : bad_bit g p t ≡ bad_bit g q t
  same_bits = same_rows 0 (zone_count g) (omega arith)

-- a choice is a placed set
pub placed_set : (image : Image) (c : Choice) → IsChoice c image → IsPlacedSet image (chosen_of c)
placed_set image c choice = record { is_chosen = choice.is_chosen; layout = choice.layout; no_other_magic = choice.no_other_magic }

module _ (g : Shape) (c : Choice) (bytes reported : List ℕ) (image : Image) (same : g ≡ image.geometry) (choice : IsChoice c image) (blocks : AreBlocks image c.zone (used_blocks g c.head.layout) bytes) (pointers : ArePointers image reported) where
  here : AreBlocks image c.zone (used_blocks image.geometry c.head.layout) bytes
  here = subst (λ (h : Shape). AreBlocks image c.zone (used_blocks h c.head.layout) bytes) same blocks

  tables : tables_in g c.head.layout bytes ≡ tables_of image (chosen_of c)
  tables = ap (λ (h : Shape). tables_in h c.head.layout bytes) same ∙ tables_are image (chosen_of c) bytes choice.layout here

  map_is : bad_chunk g c.head.layout [] 0 (entries_in c.head.layout bytes) ≡ bad_chunk image.geometry c.head.layout [] 0 (tables_of image (chosen_of c)).entries
  map_is = ap₂ (λ (h : Shape) (t : Tables). bad_chunk h c.head.layout [] 0 t.entries) same tables

  bits_is : bad_bit g (slice_index reported) (tables_in g c.head.layout bytes) ≡ bad_bit image.geometry image.held (tables_of image (chosen_of c))
  bits_is =
      ap₂ (λ (h : Shape) (t : Tables). bad_bit h (slice_index reported) t) same tables
      ∙ same_bits image.geometry (tables_of image (chosen_of c)) (slice_index reported) image.held pointers.sequential

  -- what the rules say of the blocks they say of the image
  pub explained : (fault : OpenFault) → BreaksTableRule g c.head.layout reported bytes fault → ExplainsRefusal fault image
  explained NoSuperBlock breaks = absurd breaks
  explained BadLayout breaks = absurd breaks
  explained (BadMap chunk) breaks = (chosen_of c, placed_set image c choice, sym map_is ∙ breaks)
  explained (BadBits zone block) breaks = (chosen_of c, placed_set image c choice, sym map_is ∙ breaks.0, sym bits_is ∙ breaks.1)
  explained Device breaks = absurd breaks
  explained Memory breaks = tt

  pub examined : FollowsRules g c.head.layout reported bytes → IsExamined g c bytes reported image
  examined follows =
      let map_rules = map_follows image.geometry c.head.layout (tables_of image (chosen_of c)).entries (sym map_is ∙ follows.map) in
      record {
        geometry = same;
        well_formed = record {
          is_chosen = choice.is_chosen;
          layout = choice.layout;
          no_other_magic = choice.no_other_magic;
          map = map_rules;
          bits = bits_follow image.geometry c.head.layout image.held (tables_of image (chosen_of c)) map_rules (sym bits_is ∙ follows.bits);
        };
        other_good = choice.other_good;
        blocks = here;
        pointers = pointers;
      }
