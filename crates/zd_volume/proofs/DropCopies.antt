-- What a job on another chunk has copied is right beside a discard.
use Rattle.std.proofs.Common.{◌≡◌, ◌≢◌, ℕ, ◌+◌, ◌*◌, ◌/◌, ◌<◌, List, [], ◌∷◌, ◌++◌, length, Option, Some, None, inl}
use Rattle.std.proofs.Common.{inr, sym, ap, ◌∙◌, arith}
use Rattle.std.proofs.lemmas.Nat.{div-mul-add}
use Rattle.zd_base.specs.Geometry.{Shape}
use Rattle.zd_model.specs.History.{HistoryEntry}
use Rattle.zd_model.specs.Image.{Image}
use Rattle.zd_model.specs.Plain.Answer.{Done}
use Rattle.zd_model.specs.Safe.{last_at}
use Rattle.zd_model.specs.Tables.{entry_of}
use Rattle.zd_model.proofs.LastLaws.{covers_cases}
use Rattle.zd_tables.specs.Tables.{tables_in}
use Rattle.zd_volume.specs.Discards.{ClearsRange, DiscardsBlocks, NoJobOn, chunk_touched, range_end, range_first}
use Rattle.zd_volume.specs.Jobs.{AreCopied, HasCopies, IsJob, IsJobOrNone, sector_of_chunk, source_of}
use Rattle.zd_volume.specs.Sets.{AreSets, Sets, device_sectors, new_tables}
use Rattle.zd_volume.specs.declared.work.Work.{Work}
use Rattle.zd_volume.proofs.DropPlaces.{covers_within}
use Rattle.zd_volume.proofs.DropServes.{last_outside}
use Rattle.zd_volume.proofs.DropTables.{still_valid}

-- the chunk of a sector that is numbered by its chunk
pub chunk_of_sector : (g : Shape) (chunk x j : ℕ) → x < g.zone_blocks → j < 8
    → sector_of_chunk g chunk x j / 8 / g.zone_blocks ≡ chunk
chunk_of_sector g chunk x j within few =
    let block : sector_of_chunk g chunk x j / 8 ≡ chunk * g.zone_blocks + x = omega (arith, few) in
    ap (λ (k : ℕ). k / g.zone_blocks) block ∙ div-mul-add chunk g.zone_blocks x within

module _ (s : Sets) (are : AreSets s) (base : List (List ℕ)) (size : length base ≡ device_sectors s)
    (h : List HistoryEntry) (e : HistoryEntry) (is : DiscardsBlocks s e.what) (done : e.reply ≡ Done) (bytes : List ℕ)
    (did : ClearsRange s (chunk_touched s.geometry.zone_blocks e.what) (range_first s.geometry.zone_blocks e.what)
    (range_end s.geometry.zone_blocks e.what) bytes) where
  -- the sectors of another chunk are as they were
  other_last : (chunk x j : ℕ) → chunk ≢ chunk_touched s.geometry.zone_blocks e.what → x < s.geometry.zone_blocks
      → j < 8
      → last_at base (h ++ e ∷ []) (sector_of_chunk s.geometry chunk x j)
      ≡ last_at base h (sector_of_chunk s.geometry chunk x j)
  other_last chunk x j off within few = elim (covers_cases e.what (sector_of_chunk s.geometry chunk x j)) [
    | inl covers ↦ absurd (off (sym (chunk_of_sector s.geometry chunk x j within few)
        ∙ (covers_within s e.what is (sector_of_chunk s.geometry chunk x j) covers).0))
    | inr out ↦ last_outside s base size h e is done (sector_of_chunk s.geometry chunk x j) out
  ]

  are_dropped : (w : Work) (pointers buffer : List ℕ) (i : Image)
      → w.job.chunk ≢ chunk_touched s.geometry.zone_blocks e.what
      → IsJob s pointers w → AreCopied s buffer w base h i
      → AreCopied (record s { new = bytes }) buffer w base (h ++ e ∷ []) i
  are_dropped w pointers buffer i off job copies = record {
    copied = λ y z x j source to low valid few.
        let inside = job.inside in
        let was = copies.copied y z x j
        (sym (ap (λ m. source_of w.job.kind m) (did.bits.entries w.job.chunk)) ∙ source) to low
        (still_valid (entry_of (new_tables s) (chunk_touched s.geometry.zone_blocks e.what))
        (range_first s.geometry.zone_blocks e.what) (range_end s.geometry.zone_blocks e.what) (new_tables s)
        (tables_in s.geometry s.head.layout bytes) did.bits y x valid) few in
        (was.0, was.1 ∙ sym (other_last w.job.chunk x j off (omega (arith, low, inside)) few));
    read = λ x j from high few.
        let inside = job.inside in
        copies.read x j from high few
        ∙ sym (other_last w.job.chunk x j off (omega (arith, high, inside)) few);
  }

  pub copies_dropped : (job : Option Work) (pointers buffer : List ℕ) (i : Image)
      → NoJobOn job (chunk_touched s.geometry.zone_blocks e.what) → IsJobOrNone s pointers job
      → HasCopies s buffer job base h i
      → HasCopies (record s { new = bytes }) buffer job base (h ++ e ∷ []) i
  copies_dropped None pointers buffer i off jobs copies = tt
  copies_dropped (Some w) pointers buffer i off jobs copies = are_dropped w pointers buffer i off jobs copies
