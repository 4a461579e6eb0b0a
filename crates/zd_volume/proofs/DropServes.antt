-- What a disk reads as, and what a stop may leave, where a discard has cleared bits: the history has one entry more.
use Rattle.std.proofs.Common.{◌≡◌, ◌≢◌, ℕ, false, List, [], ◌∷◌, ◌++◌, length, slice_index_or, inl, inr, refl, sym, ap}
use Rattle.std.proofs.Common.{◌∙◌, arith}
use Rattle.zd_model.specs.Bytes.{zero_sector}
use Rattle.zd_model.specs.History.{HistoryEntry, entry_after, last_array}
use Rattle.zd_model.specs.Image.{Image}
use Rattle.zd_model.specs.Plain.{Answer, array_after, ends_past}
use Rattle.zd_model.specs.Plain.Answer.{Done}
use Rattle.zd_model.specs.Requests.{operation_of}
use Rattle.zd_model.specs.Requests.Operation.{Discarding}
use Rattle.zd_model.specs.Safe.{last_at}
use Rattle.zd_model.specs.Stops.{Covers, MayHold, is_done_flush}
use Rattle.zd_model.specs.Tables.{NamesZone, Tables, entry_of}
use Rattle.zd_model.specs.declared.requests.What.{What}
use Rattle.zd_model.specs.declared.requests.What.TheVariants.{Read, Write, Discard, Flush, ReadSectors, WriteSectors}
use Rattle.zd_model.proofs.ArrayLaws.{length-last_array}
use Rattle.zd_model.proofs.HeldLaws.{no_flush}
use Rattle.zd_model.proofs.HistoryLaws.{last_array-push}
use Rattle.zd_model.proofs.LastLaws.{IsOutside, covers_cases, put_in, put_off}
use Rattle.zd_model.proofs.ServedLaws.{unplaced}
use Rattle.zd_tables.specs.Tables.{tables_in}
use Rattle.zd_volume.specs.Discards.{ClearsRange, DiscardsBlocks, chunk_touched, range_end, range_first}
use Rattle.zd_volume.specs.LeftImages.{MayBeLeft, ReadsAs}
use Rattle.zd_volume.specs.Sets.{AreSets, Sets, device_sectors, new_tables}
use Rattle.zd_volume.specs.declared.phase.Phase.TheVariants.{Idle}
use Rattle.zd_volume.proofs.DropPlaces.{covers_within, in_range, inside_nowhere, outside_there, outside_within}
use Rattle.zd_volume.proofs.DropPlaces.{puts_zeros, sector_same}
use Rattle.zd_volume.proofs.DropTables.{below_dropped}
use Rattle.zd_volume.proofs.Images.{left_idle}

-- a discard is no flush
pub discard_plain : (what : What) (reply : Answer) → operation_of what ≡ Discarding → is_done_flush what reply ≡ false
discard_plain (Read block count) reply is = absurd (let f : ⊥ = cc in f)
discard_plain (Write block count seed) reply is = absurd (let f : ⊥ = cc in f)
discard_plain (Discard block count) reply is = refl
discard_plain Flush reply is = absurd (let f : ⊥ = cc in f)
discard_plain (ReadSectors sector count) reply is = absurd (let f : ⊥ = cc in f)
discard_plain (WriteSectors sector count seed) reply is = absurd (let f : ⊥ = cc in f)

-- so it only adds to what may be held
pub discard_holds : (base : List (List ℕ)) (h : List HistoryEntry) (e : HistoryEntry) (k n : ℕ) (v : List ℕ)
    → operation_of e.what ≡ Discarding → MayHold base h k n v → MayHold base (h ++ e ∷ []) k n v
discard_holds base h e k n v is may = no_flush base h e k n v (discard_plain e.what e.reply is) may

-- THE LAST ARRAY has zeros where the discard was, and elsewhere what it had
module _ (s : Sets) (base : List (List ℕ)) (size : length base ≡ device_sectors s) (h : List HistoryEntry)
    (e : HistoryEntry) (is : DiscardsBlocks s e.what) (done : e.reply ≡ Done) where
  fits : ends_past (length (last_array base h)) e.what ≡ false
  fits = ap (λ (k : ℕ). ends_past k e.what) (length-last_array base h ∙ size) ∙ in_range s e.what is

  pushed : last_array base (h ++ e ∷ []) ≡ array_after (last_array base h) e.what
  pushed = last_array-push base h e ∙ ap (entry_after (last_array base h) e.what) done

  pub last_inside : (n : ℕ) → Covers e.what n → last_at base (h ++ e ∷ []) n ≡ zero_sector
  last_inside n covers =
      ap (λ (a : List (List ℕ)). slice_index_or a n zero_sector) pushed
      ∙ put_in (last_array base h) e.what fits (λ i. zero_sector) n (puts_zeros e.what is.discards) covers

  pub last_outside : (n : ℕ) → IsOutside e.what n → last_at base (h ++ e ∷ []) n ≡ last_at base h n
  last_outside n off =
      ap (λ (a : List (List ℕ)). slice_index_or a n zero_sector) pushed
      ∙ put_off (last_array base h) e.what fits n off

  -- WHAT THE DISK READS AS
  module _ (are : AreSets s) (bytes : List ℕ)
      (did : ClearsRange s (chunk_touched s.geometry.zone_blocks e.what) (range_first s.geometry.zone_blocks e.what)
      (range_end s.geometry.zone_blocks e.what) bytes) where
    abbrev b : ℕ
    b = s.geometry.zone_blocks

    abbrev c : ℕ
    c = chunk_touched s.geometry.zone_blocks e.what

    abbrev t : Tables
    t = new_tables s

    abbrev u : Tables
    u = tables_in s.geometry s.head.layout bytes

    apart : (d z : ℕ) → d ≢ chunk_touched s.geometry.zone_blocks e.what → NamesZone (entry_of (new_tables s) d) z
        → NamesZone (entry_of (new_tables s) (chunk_touched s.geometry.zone_blocks e.what)) z → ⊥
    apart d z off n m = off (are.new_rules.map.named_once d c z n m)

    pub reads_dropped : (i : Image) → ReadsAs Idle s base h i
        → ReadsAs Idle (record s { new = bytes }) base (h ++ e ∷ []) i
    reads_dropped i r = record {
      first = record {
        super = r.first.super;
        below = λ k j _ _ none. absurd (let f : ⊥ = omega (arith, none) in f);
        from = r.first.from;
      };
      second = record {
        super = r.second.super;
        below = λ k j _ _ none. absurd (let f : ⊥ = omega (arith, none) in f);
        from = r.second.from;
      };
      below = below_dropped s.geometry i.held (entry_of t c) (range_first b e.what) (range_end b e.what) t u did.bits r.below;
      served = λ n low. elim (covers_cases e.what n) [
        | inl covers ↦
            unplaced b u i.sector n
            (inside_nowhere b c (range_first b e.what) (range_end b e.what) t u did.bits apart n
            (covers_within s e.what is n covers))
            ∙ sym (last_inside n covers)
        | inr off ↦
            sector_same b t u i.sector n
            (outside_there b c (range_first b e.what) (range_end b e.what) t u did.bits apart n
            (outside_within s e.what is n off))
            ∙ r.served n low
            ∙ sym (last_outside n off)
      ];
    }

-- WHAT A STOP MAY LEAVE in Idle is as before
pub left_dropped : (s : Sets) (bytes : List ℕ) (base : List (List ℕ)) (h : List HistoryEntry) (e : HistoryEntry) (k : ℕ)
    (i : Image) → operation_of e.what ≡ Discarding → MayBeLeft Idle s base h k i
    → MayBeLeft Idle (record s { new = bytes }) base (h ++ e ∷ []) k i
left_dropped s bytes base h e k i is may =
    left_idle s bytes base h (h ++ e ∷ []) k i (λ n v m. discard_holds base h e k n v is m) may
