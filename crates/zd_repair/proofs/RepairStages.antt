-- An image whose chosen set was found, both whose sets were made equal then, and committed then: how far its repair has
-- come.
use Rattle.std.proofs.Common.{◌≡◌, ◌⊎◌, ℕ, ◌*◌, ◌<◌, List, IsNone, length, slice_index, inl, inr, refl, sym, ap, ◌∙◌, subst, arith}
use Rattle.zd_base.specs.Geometry.{Shape}
use Rattle.zd_base.specs.Layout.{Fits, set_zones, used_blocks}
use Rattle.zd_base.specs.declared.layout.Layout.{Layout}
use Rattle.zd_examine.specs.Examined.{ArePointers}
use Rattle.zd_examine.specs.Opened.{HoldsBothSets, HoldsSet}
use Rattle.zd_examine.proofs.ChosenHead.{chosen_head}
use Rattle.zd_examine.proofs.OpenLaws.{tables_are}
use Rattle.zd_model.specs.Image.{Image, IsImage, block_at, set_block}
use Rattle.zd_model.specs.Tables.{BitsFollowRules, MapFollowsRules, Tables}
use Rattle.zd_model.specs.Volume.{IsWellFormed, good_super, tables_of}
use Rattle.zd_model.specs.declared.metadata.Super.{Super}
use Rattle.zd_model.proofs.SameLaws.{image_at, same_block}
use Rattle.zd_sets.specs.Blocks.{AreBlocks}
use Rattle.zd_sets.specs.Choice.{IsChoice, IsPlacedChoice, NoMagicAfter, chosen_of}
use Rattle.zd_sets.specs.Equal.{InSet, IsMadeEqual, OnlyAt}
use Rattle.zd_sets.specs.Kept.{ChoosesSame}
use Rattle.zd_sets.specs.Stages.{next_head}
use Rattle.zd_sets.specs.declared.choice.Chosen.{Chosen as Choice}
use Rattle.zd_sets.proofs.EqualLaws.{first_block, only_more, only_then, same_good, same_only}
use Rattle.zd_sets.proofs.VolumeLaws.{tables_moved}
use Rattle.std.proofs.lemmas.List.FromFn.{length-map-range_with_len}
use Rattle.zd_tables.specs.Tables.{entries_in, entry_in_blocks, tables_in}
use Rattle.zd_repair.specs.Committed.{InBothSets}
use Rattle.zd_repair.specs.Finished.{AreLeftBlocks, IsFinishing}
use Rattle.zd_repair.specs.Heads.{HoldsHeads}
use Rattle.zd_repair.specs.Repaired.{CountsDropped, IsLeftOf, IsNothing}
use Rattle.zd_repair.specs.Repairing.{AreLeft, ChoosesWith, HasEqualSets, HasWrong, IsPartOfRepair, equal_set}
use Rattle.zd_repair.specs.declared.tables.Repaired.{Repaired}
use Rattle.zd_repair.proofs.CommitViews.{first_holds}
use Rattle.zd_repair.proofs.HeadChoices.{ChoosesHead, first_by, first_chooses, first_is, second_chooses}
use Rattle.zd_repair.proofs.LeftRules.{left_by}
use Rattle.zd_repair.proofs.TakenVolumes.{tables_are as tables_chosen, well_formed_by}

-- the chosen set of an image was found, with its used blocks, and the pointers of the zones
pub record IsFoundSet (g : Shape) (c : Choice) (bytes pointers : List ℕ) (image : Image) : Type 0 where
  pub some : 0 < g.zone_blocks
  pub placed : IsPlacedChoice g c
  pub size : length bytes ≡ 4096 * used_blocks g c.head.layout
  pub choice : IsChoice c image
  pub blocks : AreBlocks image c.zone (used_blocks g c.head.layout) bytes
  pub reported : ArePointers image pointers

module _ (c : Choice) (bytes pointers : List ℕ) (old : Image) (found : IsFoundSet old.geometry c bytes pointers old) where
  abbrev g : Shape
  g = old.geometry

  abbrev l : Layout
  l = c.head.layout

  fits : Fits old.geometry c.head.layout
  fits = found.placed.fits

  -- its tables
  pub found_tables : tables_in old.geometry c.head.layout bytes ≡ tables_of old (chosen_of c)
  found_tables = tables_are old (chosen_of c) bytes found.placed.fits found.blocks

  -- with an image whose chosen set has these blocks
  chooses_with : (head : Super) (put : List ℕ) (P : Tables → Type 0) (b : Image) → b.geometry ≡ g
      → ChoosesHead old.geometry c.head.layout put head b → P (tables_in old.geometry c.head.layout put) → ChoosesWith head P b
  chooses_with head put P b shape h has = record {
    set = h.chooses.set;
    placed = record {
      is_chosen = h.chooses.is_chosen;
      layout = subst (λ (s : Shape). Fits s h.chooses.set.head.layout) (sym shape)
          (subst (λ (m : Layout). Fits old.geometry m) (sym h.chooses.layout) found.placed.fits);
      no_other_magic = λ bad. absurd (h.chooses.some_good bad);
    };
    same_head = h.same_head;
    tables = subst P (sym (tables_chosen old.geometry b shape c.head.layout put found.placed.fits h.chooses)) has;
  }

  -- the other set is one of both
  other_in : (z x : ℕ) → InSet old.geometry c.other 0 (used_blocks old.geometry c.head.layout) z x → InBothSets old.geometry c.head.layout z x
  other_in z x at = elim found.placed.places [
    | inl p ↦ inl (subst (λ (zone : ℕ). InSet old.geometry zone 0 (used_blocks old.geometry c.head.layout) z x) p.2 at)
    | inr p ↦ inr (subst (λ (zone : ℕ). InSet old.geometry zone 0 (used_blocks old.geometry c.head.layout) z x) p.2 at)
  ]

  pub other_only : (b : Image) → OnlyAt (InSet old.geometry c.other 0 (used_blocks old.geometry c.head.layout)) old b
      → OnlyAt (InBothSets old.geometry c.head.layout) old b
  other_only b only = only_more (InSet old.geometry c.other 0 (used_blocks old.geometry c.head.layout)) (InBothSets old.geometry c.head.layout) old b other_in only

  -- while the other set is made equal
  module _ (b : Image) (only : OnlyAt (InSet old.geometry c.other 0 (used_blocks old.geometry c.head.layout)) old b)
      (same : ChoosesSame (chosen_of c) (used_blocks old.geometry c.head.layout) old b) where
    layout : same.set.head.layout ≡ c.head.layout
    layout = ap (λ (s : Super). s.layout) same.same_head

    moved : tables_of b same.set ≡ tables_of old (chosen_of c)
    moved =
        let here : image_at old.geometry b.held b.sector ≡ b = sym (ap (λ (s : Shape). image_at s b.held b.sector) only.geometry) in
        sym (ap (λ (i : Image). tables_of i same.set) here)
        ∙ tables_moved old b.held b.sector (chosen_of c) same.set found.placed.fits layout
        (λ k above below. ap (λ (i : Image). set_block i same.set.first k) here ∙ same.blocks k above below)

    pub equal_stage : IsPartOfRepair (chosen_of c) old b
    equal_stage = record {
      only = other_only b only;
      chooses = inl (record {
        set = same.set;
        placed = record {
          is_chosen = same.is_chosen;
          layout = subst (λ (s : Shape). Fits s same.set.head.layout) (sym only.geometry)
              (subst (λ (m : Layout). Fits old.geometry m) (sym layout) found.placed.fits);
          no_other_magic = subst (λ (s : Shape). IsNone (good_super b 0) → NoMagicAfter b same.set.first (set_zones s same.set.head.layout)) (sym only.geometry)
              (subst (λ (m : Layout). IsNone (good_super b 0) → NoMagicAfter b same.set.first (set_zones old.geometry m)) (sym layout) same.no_other_magic);
        };
        same_head = same.same_head;
        tables = moved;
      });
    }

  -- once it is
  module _ (m : Image) (equal : IsMadeEqual old.geometry c (used_blocks old.geometry c.head.layout) old m) where
    there_held : HoldsSet old.geometry c.other (used_blocks old.geometry c.head.layout) c.head bytes m
    there_held = record {
      super = equal.super;
      each = λ k above below. equal.each k above below ∙ sym (found.blocks.each k below);
    }

    here_held : HoldsSet old.geometry c.zone (used_blocks old.geometry c.head.layout) c.head bytes m
    here_held = record {
      super = same_good old m c.zone equal.only.geometry
          (sym (first_block m c.zone) ∙ equal.kept 0 (omega arith) ∙ first_block old c.zone)
          ∙ chosen_head old c found.placed found.choice.is_chosen;
      each = λ k above below. equal.kept k below ∙ sym (found.blocks.each k below);
    }

    pub equal_held : HoldsBothSets old.geometry c bytes m
    equal_held = elim found.placed.places [
      | inl p ↦ record {
        first = subst (λ (z : ℕ). HoldsSet old.geometry z (used_blocks old.geometry c.head.layout) c.head bytes m) p.1 here_held;
        second = subst (λ (z : ℕ). HoldsSet old.geometry z (used_blocks old.geometry c.head.layout) c.head bytes m) p.2 there_held;
      }
      | inr p ↦ record {
        first = subst (λ (z : ℕ). HoldsSet old.geometry z (used_blocks old.geometry c.head.layout) c.head bytes m) p.2 there_held;
        second = subst (λ (z : ℕ). HoldsSet old.geometry z (used_blocks old.geometry c.head.layout) c.head bytes m) p.1 here_held;
      }
    ]

    pub both_only : (b : Image) → OnlyAt (InBothSets old.geometry c.head.layout) m b → OnlyAt (InBothSets old.geometry c.head.layout) old b
    both_only b only = only_then (InBothSets old.geometry c.head.layout) old m b (other_only m equal.only) only

    -- with what is left of its tables
    module _ (dropped : Repaired) (left : List ℕ) (are : AreLeftBlocks old.geometry c.head.layout bytes pointers dropped left) where
      pub are_left : AreLeft (chosen_of c) old (tables_in old.geometry c.head.layout left)
      are_left = subst (λ (t : Tables). IsLeftOf old.geometry c.head.layout old.held t (tables_in old.geometry c.head.layout left)) found_tables
          (left_by old.geometry c.head.layout (slice_index pointers) old.held (tables_in old.geometry c.head.layout bytes)
          (tables_in old.geometry c.head.layout left) found.reported.sequential are.tables)

      pub has_wrong : (IsNothing dropped → ⊥) → HasWrong (chosen_of c) old
      has_wrong some = record {
        dropped = dropped;
        left = tables_in old.geometry c.head.layout left;
        count = length-map-range_with_len (entry_in_blocks left) 0 c.head.layout.chunks;
        tables = are_left;
        counts = subst (λ (t : Tables). CountsDropped old.geometry c.head.layout t (tables_in old.geometry c.head.layout left) dropped) found_tables are.counts;
        some = some;
      }

    old_head : (b : Image) → b.geometry ≡ g → ChoosesHead old.geometry c.head.layout bytes c.head b
        → ChoosesWith c.head (λ t. t ≡ tables_of old (chosen_of c)) b
    old_head b shape h = chooses_with c.head bytes (λ t. t ≡ tables_of old (chosen_of c)) b shape h found_tables

    -- set 1 alone has changed, but its super block
    second_part : (b : Image) → OnlyAt (InSet old.geometry (set_zones old.geometry c.head.layout) 0 (used_blocks old.geometry c.head.layout)) m b
        → block_at b (set_zones old.geometry c.head.layout) 0 ≡ block_at m (set_zones old.geometry c.head.layout) 0
        → ChoosesHead old.geometry c.head.layout bytes c.head b
    second_part b only front =
        first_chooses old.geometry c.head.layout c.head c.head refl refl b (only.geometry ∙ equal.only.geometry) found.placed.fits bytes (omega arith)
        (first_holds old.geometry c.head.layout c.head bytes found.some found.placed.fits m b equal.only.geometry only c.head bytes equal_held.first)
        (same_good m b (set_zones old.geometry c.head.layout) only.geometry front ∙ equal_held.second.super)

    -- while what is left is committed
    pub finish_stage : (b : Image) → IsImage m → IsFinishing old.geometry c bytes pointers m b → IsPartOfRepair (chosen_of c) old b
    finish_stage b image (inl same) = record {
      only = both_only b (same_only (InBothSets old.geometry c.head.layout) m b image same);
      chooses = inl (old_head b (same.geometry ∙ equal.only.geometry) (second_part b
          (same_only (InSet old.geometry (set_zones old.geometry c.head.layout) 0 (used_blocks old.geometry c.head.layout)) m b image same)
          (same_block m b image same (set_zones old.geometry c.head.layout) 0
          (let room = found.placed.fits.conventional_data in let conv = ap (λ (s : Shape). s.conv) equal.only.geometry in omega (arith, room, conv))
          (let some = found.some in let blocks = ap (λ (s : Shape). s.zone_blocks) equal.only.geometry in omega (arith, some, blocks)))));
    }
    finish_stage b image (inr (dropped, left, are, some, part)) = record {
      only = both_only b part.only;
      chooses = elim part.stage [
        | inl second ↦ inl (old_head b (part.only.geometry ∙ equal.only.geometry) (second_part b second.0 second.1))
        | inr more ↦ inr (
          has_wrong dropped left are some,
          chooses_with (next_head c.head) left (AreLeft (chosen_of c) old) b
              (part.only.geometry ∙ equal.only.geometry) (new_head more) (are_left dropped left are),
        )
      ];
    }
      where
        new_head : (HoldsSet old.geometry (set_zones old.geometry c.head.layout) (used_blocks old.geometry c.head.layout) (next_head c.head) left b
            × (block_at b 0 0 ≡ block_at m 0 0)) ⊎ HoldsHeads old.geometry c.head.layout (next_head c.head) (next_head c.head) left b
            → ChoosesHead old.geometry c.head.layout left (next_head c.head) b
        new_head (inl one) =
            second_chooses old.geometry c.head.layout c.head (next_head c.head) refl refl b (part.only.geometry ∙ equal.only.geometry) found.placed.fits left (omega arith)
            (same_good m b 0 part.only.geometry one.1 ∙ equal_held.first.super) one.0
        new_head (inr both) =
            first_chooses old.geometry c.head.layout (next_head c.head) (next_head c.head) refl refl b (part.only.geometry ∙ equal.only.geometry) found.placed.fits left (omega arith)
            both.first_set both.second_set.super

    -- at the end: both sets have a head and blocks
    module _ (head : Super) (put : List ℕ) (same : head.layout ≡ c.head.layout) (b : Image) (only : OnlyAt (InBothSets old.geometry c.head.layout) m b)
        (holds : HoldsHeads old.geometry head.layout head head put b) where
      now : b.geometry ≡ g
      now = only.geometry ∙ equal.only.geometry

      fits_head : Fits old.geometry head.layout
      fits_head = subst (λ (m : Layout). Fits old.geometry m) (sym same) found.placed.fits

      pub equal_sets : HasEqualSets old.geometry head b
      equal_sets = record {
        is_chosen = first_is old.geometry head.layout head head refl refl b now fits_head (omega arith) holds.first_set.super holds.second_set.super;
        second = holds.second_set.super;
        each = λ k above below. holds.second_set.each k above below ∙ sym (holds.first_set.each k above below);
      }

      pub equal_tables : tables_of b (equal_set old.geometry head) ≡ tables_in old.geometry head.layout put
      equal_tables = tables_chosen old.geometry b now head.layout put fits_head
          (first_by old.geometry head.layout head head refl refl b now fits_head put (omega arith) holds.first_set holds.second_set.super)

      pub equal_well : MapFollowsRules old.geometry head.layout (entries_in head.layout put) → BitsFollowRules old.geometry b.held (tables_in old.geometry head.layout put)
          → IsWellFormed b (equal_set old.geometry head)
      equal_well map bits = well_formed_by old.geometry b now head.layout put fits_head
          (first_by old.geometry head.layout head head refl refl b now fits_head put (omega arith) holds.first_set holds.second_set.super) map bits
