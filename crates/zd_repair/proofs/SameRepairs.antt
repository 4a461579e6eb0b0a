-- The repair of an image is that of one that holds the same.
use Rattle.std.proofs.Common.{◌≡◌, ℕ, ◌<◌, List, [], is_some, inl, inr, refl, ap, ◌∙◌, subst, arith}
use Rattle.zd_base.specs.Geometry.{IsShape, Shape}
use Rattle.zd_base.specs.Layout.{used_blocks}
use Rattle.zd_examine.specs.Examined.{IsPlacedSet}
use Rattle.zd_examine.specs.declared.examining.OpenFault.TheVariants.{NoSuperBlock as OpenNone, Layout as OpenLayout}
use Rattle.zd_examine.proofs.OpenLaws.{placed_set}
use Rattle.zd_examine.proofs.OpenedLaws.{explains_same, placed_same}
use Rattle.zd_model.specs.Image.{Image, IsImage, Same, set_block}
use Rattle.zd_model.specs.Tables.{Tables}
use Rattle.zd_model.specs.Volume.{Chosen as Set, IsWellFormed, tables_of}
use Rattle.zd_model.specs.declared.metadata.Super.{Super}
use Rattle.zd_model.proofs.ContentLaws.{tables_of_same}
use Rattle.zd_model.proofs.SameLaws.{same_block}
use Rattle.zd_sets.specs.Calls.{differ, equal_calls, passing}
use Rattle.zd_sets.specs.Choice.{IsChoice, IsPlacedChoice, chosen_of}
use Rattle.zd_sets.specs.Equal.{InSet, OnlyAt}
use Rattle.zd_sets.specs.declared.choice.Chosen.{Chosen as Choice}
use Rattle.zd_sets.proofs.CallLaws.{equal_calls_same, passing_same}
use Rattle.zd_sets.proofs.EqualLaws.{here_inside, only_then, same_good, same_only, set_still}
use Rattle.zd_repair.specs.Committed.{InBothSets}
use Rattle.zd_repair.specs.Repaired.{CountsDropped, IsLeftOf}
use Rattle.zd_repair.specs.Repairing.{AreLeft, CountsRepair, ExplainsFind, ExplainsRepair, HasEqualSets, HasWrong, IsMadeSame, IsPartOfRepair, IsRepair, changed_blocks, equal_set}
use Rattle.zd_repair.specs.declared.repairing.RepairFault.{RepairFault}
use Rattle.zd_repair.specs.declared.repairing.RepairFault.TheVariants.{NoSuperBlock, Layout as BadLayout, Device, Generation, Memory}
use Rattle.zd_repair.specs.declared.tables.Repaired.{Repaired}
use Rattle.zd_repair.proofs.LeftRules.{left_by}

module _ (old mid : Image) (image : IsImage old) (shape : IsShape old.geometry) (same : Same old mid) where
  -- why no set was found
  pub find_same : (fault : RepairFault) → ExplainsFind fault mid → ExplainsRepair fault old
  find_same NoSuperBlock why = explains_same old mid image shape same OpenNone why
  find_same BadLayout why = explains_same old mid image shape same OpenLayout why
  find_same Device why = tt
  find_same Generation why = absurd why
  find_same Memory why = tt

  only_before : (At : Shape → ℕ → ℕ → Type 0) (b : Image) → OnlyAt (At mid.geometry) mid b → OnlyAt (At old.geometry) old b
  only_before At b only = only_then (At old.geometry) old mid b (same_only (At old.geometry) old mid image same)
      (subst (λ (s : Shape). OnlyAt (At s) mid b) same.geometry only)

  module _ (c : Set) (placed : IsPlacedSet old c) where
    tables : tables_of mid c ≡ tables_of old c
    tables = tables_of_same old mid c image shape same placed.is_chosen placed.layout

    left_before : (t : Tables) → AreLeft c mid t → AreLeft c old t
    left_before t left = left_by old.geometry c.head.layout mid.held old.held (tables_of old c) t (λ z seq low. (same.zones z).held)
        (subst (λ (u : Tables). IsLeftOf old.geometry c.head.layout mid.held u t) tables
        (subst (λ (s : Shape). IsLeftOf s c.head.layout mid.held (tables_of mid c) t) same.geometry left))

    counts_before : (t : Tables) (dropped : Repaired) → CountsDropped mid.geometry c.head.layout (tables_of mid c) t dropped
        → CountsDropped old.geometry c.head.layout (tables_of old c) t dropped
    counts_before t dropped counts =
        subst (λ (u : Tables). CountsDropped old.geometry c.head.layout u t dropped) tables
        (subst (λ (s : Shape). CountsDropped s c.head.layout (tables_of mid c) t dropped) same.geometry counts)

    pub wrong_before : HasWrong c mid → HasWrong c old
    wrong_before wrong = record {
      dropped = wrong.dropped;
      left = wrong.left;
      count = wrong.count;
      tables = left_before wrong.left wrong.tables;
      counts = counts_before wrong.left wrong.dropped wrong.counts;
      some = wrong.some;
    }

    both_before : (b : Image) → OnlyAt (InBothSets mid.geometry c.head.layout) mid b → OnlyAt (InBothSets old.geometry c.head.layout) old b
    both_before b only = only_before (λ (s : Shape). InBothSets s c.head.layout) b only

    pub part_before : (b : Image) → IsPartOfRepair c mid b → IsPartOfRepair c old b
    part_before b part = record {
      only = both_before b part.only;
      chooses = elim part.chooses [
        | inl still ↦ inl (record {
          set = still.set;
          placed = still.placed;
          same_head = still.same_head;
          tables = still.tables ∙ tables;
        })
        | inr next ↦ inr (
          wrong_before next.0,
          record {
            set = next.1.set;
            placed = next.1.placed;
            same_head = next.1.same_head;
            tables = left_before (tables_of b next.1.set) next.1.tables;
          },
        )
      ];
    }

    sets_before : (head : Super) (b : Image) → HasEqualSets mid.geometry head b → HasEqualSets old.geometry head b
    sets_before head b sets = subst (λ (s : Shape). HasEqualSets s head b) same.geometry sets

    pub repair_before : (dropped : Repaired) (b : Image) → IsRepair c dropped mid b → IsRepair c dropped old b
    repair_before dropped b done = record {
      only = both_before b done.only;
      head = done.head;
      head_is = done.head_is;
      sets = sets_before done.head b done.sets;
      well_formed = subst (λ (s : Shape). IsWellFormed b (equal_set s done.head)) same.geometry done.well_formed;
      left = subst (λ (s : Shape). AreLeft c old (tables_of b (equal_set s done.head))) same.geometry
          (left_before (tables_of b (equal_set mid.geometry done.head)) done.left);
      counts = subst (λ (s : Shape). CountsDropped old.geometry c.head.layout (tables_of old c) (tables_of b (equal_set s done.head)) dropped) same.geometry
          (counts_before (tables_of b (equal_set mid.geometry done.head)) dropped done.counts);
    }

  module _ (c : Choice) (placed : IsPlacedChoice old.geometry c) where
    pub choice_before : IsChoice c mid → IsChoice c old
    choice_before choice =
        let here = placed_same old mid image shape same (chosen_of c) (placed_set mid c choice) in
        let low = placed.other in
        let blocks = shape.size.least in
        record {
          is_chosen = here.is_chosen;
          layout = here.layout;
          no_other_magic = here.no_other_magic;
          other_good = choice.other_good
              ∙ ap is_some (same_good old mid c.other same.geometry (same_block old mid image same c.other 0 low (omega (arith, blocks))));
        }

    pub same_before : (b : Image) → IsPlacedSet old (chosen_of c) → IsMadeSame c mid b → IsMadeSame c old b
    same_before b here made = record {
      only = only_before (λ (s : Shape). InSet s c.other 0 (used_blocks s c.head.layout)) b made.only;
      sets = subst (λ (s : Shape). HasEqualSets s c.head b) same.geometry made.sets;
      tables = subst (λ (s : Shape). tables_of b (equal_set s c.head) ≡ tables_of mid (chosen_of c)) same.geometry made.tables
          ∙ tables (chosen_of c) here;
    }

    some : 0 < old.geometry.zone_blocks
    some = let blocks = shape.size.least in omega (arith, blocks)

    pub calls_before : equal_calls c (used_blocks mid.geometry c.head.layout) mid ≡ equal_calls c (used_blocks old.geometry c.head.layout) old
    calls_before =
        ap (λ (s : Shape). equal_calls c (used_blocks s c.head.layout) mid) same.geometry
        ∙ equal_calls_same old.geometry c placed some old mid refl image same

    changed_before : (b : Image) → changed_blocks c mid b ≡ changed_blocks c old b
    changed_before b =
        ap (λ (s : Shape). passing (λ k. differ (set_block mid c.zone k) (set_block b 0 k)) 1 (used_blocks s c.head.layout)) same.geometry
        ∙ passing_same (λ k. differ (set_block mid c.zone k) (set_block b 0 k)) (λ k. differ (set_block old c.zone k) (set_block b 0 k)) 1
        (used_blocks old.geometry c.head.layout)
        (λ k above below. ap (λ (block : List ℕ). differ block (set_block b 0 k))
        (set_still old.geometry c.zone (λ _ _. ⊥) old mid some refl (same_only (λ _ _. ⊥) old mid image same) k
        (here_inside old.geometry c [] placed some k below) (λ none. none)))

    pub counts_repair_before : (dropped : Repaired) (from to : ℕ) (b : Image) → CountsRepair c dropped from to mid b
        → CountsRepair c dropped from to old b
    counts_repair_before dropped from to b counts =
        let calls = calls_before in
        let changed = changed_before b in
        record {
          nothing = λ none. (let here = counts.nothing none in omega (arith, here, calls));
          something = λ more. (let here = counts.something more in omega (arith, here, calls, changed));
        }
