-- What is there last after a write, done or failed; and what each of its sectors may be for a stop.
use Rattle.std.proofs.Common.{◌≡◌, ◌⊎◌, ℕ, ◌+◌, ◌-◌, ◌*◌, ◌/◌, ◌%◌, ◌<◌, ◌≤◌, false, List, [], ◌∷◌, ◌++◌, length}
use Rattle.std.proofs.Common.{slice_index_or, Some, IsSomeAnd, inl, inr, sym, ap, ◌∙◌, subst, arith}
use Rattle.zd_model.specs.Bytes.{zero_sector}
use Rattle.zd_model.specs.History.{HistoryEntry, entry_after, last_array}
use Rattle.zd_model.specs.Places.{spot}
use Rattle.zd_model.specs.Plain.{array_after, ends_past, put_by}
use Rattle.zd_model.specs.Plain.Answer.{Done, Fault}
use Rattle.zd_model.specs.Requests.{Operation, block_count, first_block}
use Rattle.zd_model.specs.Safe.{last_at}
use Rattle.zd_model.specs.Stops.{Covers, MayCount}
use Rattle.zd_model.specs.declared.requests.What.{What}
use Rattle.zd_model.proofs.ArrayLaws.{length-last_array}
use Rattle.zd_model.proofs.HistoryLaws.{Adds, last_array-push}
use Rattle.zd_model.proofs.LastLaws.{IsOutside, covers_cases, put_in, put_off}
use Rattle.zd_disk.specs.Steps.{count_of, piece}
use Rattle.zd_disk.proofs.ToldLaws.{IsSomeAnd-get}
use Rattle.zd_volume.specs.Discards.{chunk_touched, range_end, range_first}
use Rattle.zd_volume.specs.Sets.{Sets, device_sectors}
use Rattle.zd_routes.specs.Edges.{IsMerged}
use Rattle.zd_routes.specs.Routes.{WritesBlocks}
use Rattle.zd_routes.proofs.WriteCovers.{below_end, from_first, sector_here, within_device, write_in_range}

-- a sector that is outside isn't one of those that it touches
pub outside_off : (what : What) (n : ℕ) → IsOutside what n → Covers what n → ⊥
outside_off what n off covers = elim off [
  | inl before ↦ omega (arith, before, covers.0)
  | inr behind ↦ omega (arith, behind, covers.1)
]

-- AFTER A WRITE THAT FAILED all is as it was
pub last_failed : (base : List (List ℕ)) (h : List HistoryEntry) (e : HistoryEntry) → e.reply ≡ Fault → (n : ℕ)
    → last_at base (h ++ e ∷ []) n ≡ last_at base h n
last_failed base h e failed n =
    ap (λ (a : List (List ℕ)). slice_index_or a n zero_sector)
    (last_array-push base h e ∙ ap (entry_after (last_array base h) e.what) failed)

module _ (s : Sets) (base : List (List ℕ)) (size : length base ≡ device_sectors s) (h : List HistoryEntry)
    (e : HistoryEntry) (is : WritesBlocks s e.what) where
  abbrev b : ℕ
  b = s.geometry.zone_blocks

  -- AFTER ONE THAT WAS DONE its sectors have what it puts there, and all others what they had
  module _ (done : e.reply ≡ Done) where
    fits : ends_past (length (last_array base h)) e.what ≡ false
    fits = ap (λ (k : ℕ). ends_past k e.what) (length-last_array base h ∙ size) ∙ write_in_range s e.what is

    pushed : last_array base (h ++ e ∷ []) ≡ array_after (last_array base h) e.what
    pushed = last_array-push base h e ∙ ap (entry_after (last_array base h) e.what) done

    last_covered : (n : ℕ) (put : ℕ → List ℕ) → put_by e.what ≡ Some put → Covers e.what n
        → last_at base (h ++ e ∷ []) n ≡ put n
    last_covered n put puts covers =
        ap (λ (a : List (List ℕ)). slice_index_or a n zero_sector) pushed
        ∙ put_in (last_array base h) e.what fits put n puts covers

    pub last_beside : (n : ℕ) → IsOutside e.what n → last_at base (h ++ e ∷ []) n ≡ last_at base h n
    last_beside n off =
        ap (λ (a : List (List ℕ)). slice_index_or a n zero_sector) pushed
        ∙ put_off (last_array base h) e.what fits n off

  -- The bytes of the write, over what the sectors were
  module _ (was : ℕ → List ℕ) (bytes : List ℕ) (merged : IsMerged e.what was bytes) where
    pub count_merged : count_of bytes ≡ 8 * block_count e.what
    count_merged = (let all = merged.size in omega (arith, all))

    -- a sector that it doesn't touch is as it was
    kept_beside : (n j : ℕ) → n ≡ 8 * first_block e.what + j → j < 8 * block_count e.what → IsOutside e.what n
        → piece bytes j ≡ was n
    kept_beside n j at few off =
        merged.keeps j few (λ covers. outside_off e.what n off (subst (Covers e.what) (sym at) covers))
        ∙ ap was (sym at)

    module _ (served : (n : ℕ) → n < device_sectors s → was n ≡ last_at base h n) where
      -- so what is there last are these bytes, in all blocks that it touches
      pub last_merged : e.reply ≡ Done → (n : ℕ)
          → range_first s.geometry.zone_blocks e.what ≤ n / 8 % s.geometry.zone_blocks
          → n / 8 % s.geometry.zone_blocks < range_end s.geometry.zone_blocks e.what
          → n / 8 / s.geometry.zone_blocks ≡ chunk_touched s.geometry.zone_blocks e.what
          → piece bytes (n - 8 * first_block e.what) ≡ last_at base (h ++ e ∷ []) n
      last_merged done n from below here = elim (covers_cases e.what n) [
        | inl covers ↦
            let put = IsSomeAnd-get (put_by e.what) (λ f. piece bytes (n - 8 * first_block e.what) ≡ f n)
            (merged.puts n covers) in
            put.2 ∙ sym (last_covered done n put.0 put.1 covers)
        | inr off ↦
            let low = below_end b e.what n here below in
            let high = from_first b e.what n here from in
            kept_beside n (n - 8 * first_block e.what) (omega (arith, high)) (omega (arith, low, high)) off
            ∙ served n (within_device s e.what is n low)
            ∙ sym (last_beside done n off)
      ]

      -- FOR A STOP each of them is what the write puts there, or what was there last
      pub adds_or_last : (e.reply ≡ Done) ⊎ (e.reply ≡ Fault) → (k n j : ℕ) → e.at ≤ k + 1
          → n / 8 / s.geometry.zone_blocks ≡ chunk_touched s.geometry.zone_blocks e.what → j < count_of bytes
          → spot s.geometry.zone_blocks n ≡ 8 * range_first s.geometry.zone_blocks e.what + j
          → Adds (length base) k n (piece bytes j) e ⊎ (piece bytes j ≡ last_at base h n)
      adds_or_last reply k n j at here few is_spot =
          let place : n ≡ 8 * first_block e.what + j = sector_here b e.what n here j is_spot in
          let behind : n - 8 * first_block e.what ≡ j = omega (arith, place) in
          let all = count_merged in
          elim (covers_cases e.what n) [
            | inl covers ↦ inl (
              ap (λ (m : ℕ). ends_past m e.what) size ∙ write_in_range s e.what is,
              (
                subst (λ (o : Operation). MayCount o k e) (sym is.writes) (at, reply),
                covers,
                subst (λ (m : ℕ). IsSomeAnd (put_by e.what) (λ put. piece bytes m ≡ put n)) behind
                    (merged.puts n covers),
              ),
            )
            | inr off ↦ inr (kept_beside n j place (omega (arith, all, few)) off
                ∙ served n (within_device s e.what is n (omega (arith, place, all, few))))
          ]
