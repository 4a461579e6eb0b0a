-- Pointers and a job's copies after a write that was done.
use Rattle.std.proofs.Common.{◌≡◌, ◌≢◌, ℕ, ◌+◌, ◌*◌, ◌<◌, ◌≤◌, Bool, cond, List, [], ◌∷◌, ◌++◌, length, Option}
use Rattle.std.proofs.Common.{Some, None, inl, inr, refl, sym, ap, ◌∙◌, arith}
use Rattle.std.proofs.lemmas.Bool.{cases_eq, le-ltb}
use Rattle.std.proofs.lemmas.Grind.{get_or-set_at}
use Rattle.std.proofs.lemmas.List.{get_or-set_other}
use Rattle.std.specs.Prelude.{set, slice_index}
use Rattle.zd_base.specs.Geometry.{Shape, zone_count}
use Rattle.zd_base.specs.Layout.{rounded_up}
use Rattle.zd_alloc.specs.Zones.{use_at}
use Rattle.zd_alloc.specs.declared.uses.ZoneUse.{ZoneUse}
use Rattle.zd_alloc.specs.declared.uses.ZoneUse.TheVariants.{Held, Meta}
use Rattle.zd_model.specs.History.{HistoryEntry}
use Rattle.zd_model.specs.Image.{Image}
use Rattle.zd_model.specs.Plain.Answer.{Done}
use Rattle.zd_model.specs.Safe.{last_at}
use Rattle.zd_model.specs.Tables.{entry_of}
use Rattle.zd_model.proofs.LastLaws.{covers_cases}
use Rattle.zd_disk.specs.Steps.{Wrote, count_of}
use Rattle.zd_volume.specs.Discards.{NoJobOn, chunk_touched, range_end, range_first}
use Rattle.zd_volume.specs.Jobs.{AreCopied, HasCopies, IsJob, IsJobOrNone, IsTarget, sector_of_chunk, source_of}
use Rattle.zd_volume.specs.Sets.{AreSets, Sets, device_sectors, new_tables}
use Rattle.zd_volume.specs.Volumes.{HasPointers, IsWhole}
use Rattle.zd_volume.specs.declared.work.Place.{Place}
use Rattle.zd_volume.specs.declared.work.Place.TheVariants.{Buffer, Main, NewBuffer, NewMain}
use Rattle.zd_volume.specs.declared.work.Work.{Work}
use Rattle.zd_volume.proofs.DropCopies.{chunk_of_sector}
use Rattle.zd_volume.proofs.DropUses.{source_named}
use Rattle.zd_routes.specs.Routes.{WritesBlocks, pointers_with, uses_with}
use Rattle.zd_routes.proofs.FixedWrites.{pointer_elsewhere}
use Rattle.zd_routes.proofs.WriteCovers.{touched_within}
use Rattle.zd_routes.proofs.WriteLasts.{last_beside}
use Rattle.zd_routes.proofs.WritePlaces.{others_as_were}
use Rattle.zd_routes.proofs.WriteReads.{IsGoalZone, WritesIn}

-- A WRITE OF WHOLE BLOCKS, in a sequential zone from its pointer on
module _ (g : Shape) (zone first end : ℕ) (bytes : List ℕ) (r j : Image) (wrote : Wrote zone (8 * first) bytes r j)
    (count : 8 * first + count_of bytes ≡ 8 * end) (pointer : g.conv ≤ zone → 8 * first ≡ r.held zone) where
  held_written : g.conv ≤ zone → j.held zone ≡ 8 * end
  held_written high =
      let held = wrote.zone.held in
      let at = pointer high in
      omega (arith, held, count, at)

  -- the pointer stands behind the blocks
  pub pointers_written : (pointers : List ℕ) → length pointers ≡ zone_count g → HasPointers g pointers r
      → HasPointers g (pointers_with g pointers zone end) j
  pointers_written pointers size has = record {
    at = λ z seq low. elim (cases_eq z zone) [
      | inr off ↦
          pointer_elsewhere g pointers zone end z off
          ∙ has.at z seq low
          ∙ ap (λ (n : ℕ). rounded_up n 8) (sym (wrote.others z off).held)
      | inl here ↦
          let high : g.conv ≤ zone = omega (arith, seq, here) in
          let held : j.held z ≡ 8 * end = ap j.held here ∙ held_written high in
          let rounded : rounded_up (8 * end) 8 ≡ end = omega arith in
          ap (λ (b : Bool). slice_index (cond b pointers (set pointers zone end)) z) (le-ltb zone g.conv high)
          ∙ get_or-set_at pointers zone z end 0 here (omega (arith, size, low, here))
          ∙ sym (ap (λ (n : ℕ). rounded_up n 8) held ∙ rounded)
    ];
  }

  use_other : (place : Place) (uses : List ZoneUse) (z : ℕ) → z ≢ zone
      → use_at (uses_with place zone uses) z ≡ use_at uses z
  use_other Main uses z off = refl
  use_other NewMain uses z off = get_or-set_other uses zone z Held Meta off
  use_other Buffer uses z off = refl
  use_other NewBuffer uses z off = get_or-set_other uses zone z Held Meta off

  -- and pointers of zones that are held stand at blocks' ends
  pub whole_written : (place : Place) (uses : List ZoneUse) → IsWhole g uses r
      → IsWhole g (uses_with place zone uses) j
  whole_written place uses whole = record {
    at = λ z seq held. elim (cases_eq z zone) [
      | inl here ↦
          let stands = held_written (omega (arith, seq, here)) in
          let same : j.held z ≡ j.held zone = ap j.held here in
          omega (arith, stands, same)
      | inr off ↦
          let was = whole.at z seq (sym (use_other place uses z off) ∙ held) in
          let same = (wrote.others z off).held in
          omega (arith, was, same)
    ];
  }

-- A JOB ON ANOTHER CHUNK
module _ (s : Sets) (are : AreSets s) (base : List (List ℕ)) (size : length base ≡ device_sectors s)
    (h : List HistoryEntry) (e : HistoryEntry) (is : WritesBlocks s e.what) (done : e.reply ≡ Done) (place : Place)
    (zone : ℕ) (goal : IsGoalZone s (chunk_touched s.geometry.zone_blocks e.what) place zone) (fresh : List ℕ)
    (range : WritesIn s e place zone fresh) (start : ℕ) (bytes : List ℕ) (r j : Image)
    (wrote : Wrote zone start bytes r j) where
  abbrev c : ℕ
  c = chunk_touched s.geometry.zone_blocks e.what

  -- the sectors of another chunk are as they were
  other_last : (chunk x i : ℕ) → chunk ≢ c → x < s.geometry.zone_blocks → i < 8
      → last_at base (h ++ e ∷ []) (sector_of_chunk s.geometry chunk x i)
      ≡ last_at base h (sector_of_chunk s.geometry chunk x i)
  other_last chunk x i off within few = elim (covers_cases e.what (sector_of_chunk s.geometry chunk x i)) [
    | inl covers ↦ absurd (off (sym (chunk_of_sector s.geometry chunk x i within few)
        ∙ (touched_within s e.what is (sector_of_chunk s.geometry chunk x i) covers).0))
    | inr out ↦ last_beside s base size h e is done (sector_of_chunk s.geometry chunk x i) out
  ]

  are_written : (w : Work) (pointers buffer : List ℕ) → w.job.chunk ≢ c → IsJob s pointers w
      → (w.target ≡ Some zone → ⊥) → AreCopied s buffer w base h r
      → AreCopied (record s { new = fresh }) buffer w base (h ++ e ∷ []) j
  are_written w pointers buffer off job no_target copies = record {
    copied = λ y z x i source to low valid few.
        let inside = job.inside in
        let from : source_of w.job.kind (entry_of (new_tables s) w.job.chunk) ≡ Some y =
        sym (ap (source_of w.job.kind) (range.others w.job.chunk off)) ∙ source in
        let was = copies.copied y z x i from to low
        (sym (others_as_were s are c (range_first s.geometry.zone_blocks e.what)
        (range_end s.geometry.zone_blocks e.what) place zone fresh goal.data_zone.1 goal.alone range
        w.job.chunk y x off (source_named w.job.kind (entry_of (new_tables s) w.job.chunk) y from)) ∙ valid) few in
        let same = wrote.others z (λ at. no_target (to ∙ ap (λ (n : ℕ). Some n) at)) in (
          omega (arith, was.0, same.held),
          same.sectors (8 * x + i) (omega (arith, was.0, few)) ∙ was.1
              ∙ sym (other_last w.job.chunk x i off (omega (arith, low, inside)) few),
        );
    read = λ x i from high few.
        let inside = job.inside in
        copies.read x i from high few
        ∙ sym (other_last w.job.chunk x i off (omega (arith, high, inside)) few);
  }

  pub copies_written : (job : Option Work) (pointers buffer : List ℕ) → NoJobOn job c → IsJobOrNone s pointers job
      → (IsTarget job zone → ⊥) → HasCopies s buffer job base h r
      → HasCopies (record s { new = fresh }) buffer job base (h ++ e ∷ []) j
  copies_written None pointers buffer off jobs no_target copies = tt
  copies_written (Some w) pointers buffer off jobs no_target copies =
      are_written w pointers buffer off jobs no_target copies
