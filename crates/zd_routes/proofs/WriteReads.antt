-- What the disk reads as after a write that was done: the new tables serve what is there last.
use Rattle.std.proofs.Common.{◌≡◌, ◌⊎◌, ℕ, ◌+◌, ◌-◌, ◌*◌, ◌/◌, ◌%◌, ◌<◌, ◌≤◌, List, [], ◌∷◌, ◌++◌, length}
use Rattle.std.proofs.Common.{inl, inr, sym, ap, ◌∙◌, subst, arith}
use Rattle.std.proofs.lemmas.Bool.{cases_eq}
use Rattle.zd_base.specs.Geometry.{zone_count}
use Rattle.zd_base.specs.Layout.{first_data_zone}
use Rattle.zd_model.specs.History.{HistoryEntry}
use Rattle.zd_model.specs.Image.{Image}
use Rattle.zd_model.specs.Plain.Answer.{Done}
use Rattle.zd_model.specs.Requests.{block_count, first_block}
use Rattle.zd_model.specs.Safe.{last_at}
use Rattle.zd_model.specs.Tables.{NamesZone, Tables, entry_of}
use Rattle.zd_model.proofs.LastLaws.{covers_cases}
use Rattle.zd_model.proofs.ServedLaws.{placed}
use Rattle.zd_disk.specs.OfGeometry.{IsImageOf}
use Rattle.zd_disk.specs.Steps.{Wrote, count_of}
use Rattle.zd_sets.specs.Stages.{IsWritten}
use Rattle.zd_sets.proofs.StageLaws.{written_stays}
use Rattle.zd_tables.specs.Rules.{AreBelow}
use Rattle.zd_tables.specs.Tables.{tables_in}
use Rattle.zd_volume.specs.Discards.{chunk_touched, range_end, range_first}
use Rattle.zd_volume.specs.LeftImages.{ReadsAs}
use Rattle.zd_volume.specs.Sets.{AreSets, BothStay, Sets, device_sectors, new_tables, second, sector_by, used}
use Rattle.zd_volume.specs.declared.phase.Phase.TheVariants.{Idle}
use Rattle.zd_volume.specs.declared.work.Place.{Place}
use Rattle.zd_volume.proofs.Choices.{sets_apart, some_blocks}
use Rattle.zd_volume.proofs.DropPlaces.{IsWithin, sector_same}
use Rattle.zd_volume.proofs.DropTables.{in_or_out}
use Rattle.zd_volume.proofs.PlaceLaws.{IsPutHere, below_wrote, content_wrote, named_place}
use Rattle.zd_routes.specs.Edges.{IsMerged}
use Rattle.zd_routes.specs.Routes.{WritesBlocks, WritesRange, entry_with, other_zone}
use Rattle.zd_routes.proofs.WriteCovers.{below_end, block_within, from_first, sector_here, spot_here, touched_within}
use Rattle.zd_routes.proofs.WriteLasts.{count_merged, last_beside, last_merged}
use Rattle.zd_routes.proofs.WritePlaces.{SuitsPlace, others_there, valid_from, written_there}

-- a sector is in these blocks of the chunk, or isn't
pub within_or : (b chunk first end n : ℕ) → IsWithin b chunk first end n ⊎ (IsWithin b chunk first end n → ⊥)
within_or b chunk first end n = elim (cases_eq (n / 8 / b) chunk) [
  | inr other ↦ inr (λ h. other h.0)
  | inl here ↦ elim (in_or_out (n / 8 % b) first end) [
    | inl at ↦ inl (here, at.0, at.1)
    | inr (inl before) ↦ inr (λ h. omega (arith, before, h.1))
    | inr (inr behind) ↦ inr (λ h. omega (arith, behind, h.2))
  ]
]

-- What is known of the zone that a write goes to
pub record IsGoalZone (s : Sets) (chunk : ℕ) (place : Place) (zone : ℕ) : Type 0 where
  pub data_zone : (first_data_zone s.geometry s.head.layout ≤ zone) × (zone < zone_count s.geometry)
  pub alone : (c : ℕ) → NamesZone (entry_of (new_tables s) c) zone → c ≡ chunk
  pub fits : SuitsPlace (entry_of (new_tables s) chunk) place zone

-- THE TABLES of a write of this request
abbrev pub WritesIn : Sets → HistoryEntry → Place → ℕ → List ℕ → Type 0
WritesIn s e place zone fresh =
    WritesRange s (chunk_touched s.geometry.zone_blocks e.what)
    (range_first s.geometry.zone_blocks e.what) (range_end s.geometry.zone_blocks e.what)
    (entry_with (entry_of (new_tables s) (chunk_touched s.geometry.zone_blocks e.what)) place zone) zone
    (other_zone (entry_of (new_tables s) (chunk_touched s.geometry.zone_blocks e.what)) place) fresh

module _ (s : Sets) (are : AreSets s) (base : List (List ℕ)) (size : length base ≡ device_sectors s)
    (h : List HistoryEntry) (e : HistoryEntry) (is : WritesBlocks s e.what) (done : e.reply ≡ Done) (place : Place)
    (zone : ℕ) (goal : IsGoalZone s (chunk_touched s.geometry.zone_blocks e.what) place zone) (fresh : List ℕ)
    (range : WritesIn s e place zone fresh) (bytes : List ℕ) (r j : Image) (of : IsImageOf s.geometry r)
    (reads : ReadsAs Idle s base h r) (merged : IsMerged e.what (sector_by s (new_tables s) r) bytes)
    (wrote : Wrote zone (8 * range_first s.geometry.zone_blocks e.what) bytes r j) where
  abbrev b : ℕ
  b = s.geometry.zone_blocks

  abbrev c : ℕ
  c = chunk_touched s.geometry.zone_blocks e.what

  abbrev first : ℕ
  first = range_first s.geometry.zone_blocks e.what

  abbrev end : ℕ
  end = range_end s.geometry.zone_blocks e.what

  abbrev t : Tables
  t = new_tables s

  abbrev u : Tables
  u = tables_in s.geometry s.head.layout fresh

  count_is : count_of bytes ≡ 8 * block_count e.what
  count_is = count_merged s base size h e is (sector_by s t r) bytes merged

  -- VALID BLOCKS are below pointers
  below_written : AreBelow s.geometry j.held (tables_in s.geometry s.head.layout fresh)
  below_written z x seq low inside valid =
      elim (valid_from s are c first end place zone fresh goal.data_zone.1 goal.alone range z x valid) [
        | inl was ↦
            below_wrote s.geometry s.head.layout (some_blocks s are) t are.new_rules.map r j of reads.below zone
            (8 * first) bytes wrote z x seq low inside was
        | inr new ↦
            let held = wrote.zone.held in
            let count = count_is in
            let above : 8 * x + 8 ≤ j.held zone = omega (arith, held, count, new.2) in
            subst (λ (y : ℕ). 8 * x + 8 ≤ j.held y) (sym new.0) above
      ]

  -- A SECTOR of the blocks that are written
  within_served : (n : ℕ) → IsWithin b c first end n
      → sector_by s (tables_in s.geometry s.head.layout fresh) j n ≡ last_at base (h ++ e ∷ []) n
  within_served n at =
      let few = below_end b e.what n at.0 at.2 in
      let from = from_first b e.what n at.0 at.1 in
      let count = count_is in
      placed b u j.sector n zone
      (written_there s are c first end place zone fresh goal.data_zone.1 goal.alone range (some_blocks s are) goal.fits
      n at)
      ∙ ap (λ (k : ℕ). j.sector zone k) (spot_here b e.what n at.0 at.1)
      ∙ wrote.zone.put (n - 8 * first_block e.what) (omega (arith, few, from, count))
      ∙ last_merged s base size h e is (sector_by s t r) bytes merged reads.served done n at.1 at.2 at.0

  -- no other one is put
  put_within : (n : ℕ)
      → IsPutHere s.geometry s.head.layout (some_blocks s are) (new_tables s) are.new_rules.map r j of reads.below zone
      (8 * range_first s.geometry.zone_blocks e.what) bytes n
      → IsWithin b c first end n
  put_within n put =
      let named = named_place s.geometry s.head.layout (some_blocks s are) t are.new_rules.map n zone put.0 in
      let here = goal.alone (n / 8 / b) named.0 in
      let at = sector_here b e.what n here put.1.0 put.1.2 in
      let few = put.1.1 in
      let count = count_is in
      block_within s e.what is n (omega (arith, at)) (omega (arith, at, few, count))

  beside_served : (n : ℕ) → n < device_sectors s → (IsWithin b c first end n → ⊥)
      → sector_by s (tables_in s.geometry s.head.layout fresh) j n ≡ last_at base (h ++ e ∷ []) n
  beside_served n low off =
      sector_same b t u j.sector n
      (others_there s are c first end place zone fresh goal.data_zone.1 goal.alone range (some_blocks s are) goal.fits
      n off)
      ∙ elim (content_wrote s.geometry s.head.layout (some_blocks s are) t are.new_rules.map r j of reads.below zone
      (8 * first) bytes wrote n) [
        | inr put ↦ absurd (off (put_within n put))
        | inl same ↦ same ∙ reads.served n low ∙ elim (covers_cases e.what n) [
          | inl covers ↦ absurd (off (touched_within s e.what is n covers))
          | inr out ↦ sym (last_beside s base size h e is done n out)
        ]
      ]

  stays : BothStay s r j
  stays = sets_apart s are r j of zone goal.data_zone.0 wrote.geometry wrote.others

  first_set : IsWritten s.geometry 0 (used s) s.head s.old s.new 0 j
  first_set = written_stays s.geometry 0 (used s) r j stays.first s.head s.old s.new 0 reads.first

  second_set : IsWritten s.geometry (second s) (used s) s.head s.old s.new 0 j
  second_set = written_stays s.geometry (second s) (used s) r j stays.second s.head s.old s.new 0 reads.second

  -- WHAT THE DISK READS AS
  pub reads_written : ReadsAs Idle (record s { new = fresh }) base (h ++ e ∷ []) j
  reads_written = record {
    first = record {
      super = first_set.super;
      below = λ k i _ _ none. absurd (let f : ⊥ = omega (arith, none) in f);
      from = first_set.from;
    };
    second = record {
      super = second_set.super;
      below = λ k i _ _ none. absurd (let f : ⊥ = omega (arith, none) in f);
      from = second_set.from;
    };
    below = below_written;
    served = λ n low. elim (within_or b c first end n) [
      | inl at ↦ within_served n at
      | inr off ↦ beside_served n low off
    ];
  }
