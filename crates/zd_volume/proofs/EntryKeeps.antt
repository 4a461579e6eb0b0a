-- A piece that is entered without a writing call keeps a volume: a read with its bytes or with Fault, and a piece
-- that ends past the device.
use Rattle.std.proofs.Common.{◌≡◌, ◌≢◌, ℕ, ◌+◌, ◌*◌, ◌/◌, ◌≤◌, Bool, true, false, cond, List, [], ◌∷◌, ◌++◌, length, slice_index_or, Option, Some, None, refl, sym, ap, ◌∙◌, arith}
use Rattle.std.proofs.Math.Nat.{mul-le-mul_right}
use Rattle.std.proofs.lemmas.Nat.{div-add-mod'}
use Rattle.zd_model.specs.History.{HistoryEntry, IsLegal, entry_after, last_array}
use Rattle.zd_model.specs.Image.{Image}
use Rattle.zd_model.specs.Plain.{Answer, ends_past, reply_within}
use Rattle.zd_model.specs.Plain.Answer.{Done, Fault, Got, Range}
use Rattle.zd_model.specs.Requests.{first_sector, operation_of}
use Rattle.zd_model.specs.Requests.Operation.{Reading, Writing}
use Rattle.zd_model.specs.Bytes.{zero_sector}
use Rattle.zd_model.specs.Safe.{base_at, last_at}
use Rattle.zd_model.specs.Stops.{MayHold, is_done_flush}
use Rattle.zd_model.specs.declared.requests.Piece.{Piece}
use Rattle.zd_model.specs.declared.requests.What.{What}
use Rattle.zd_model.specs.declared.requests.What.TheVariants.{Read, Write, Discard, Flush, ReadSectors, WriteSectors}
use Rattle.zd_model.proofs.ArrayLaws.{ends_inside, length-last_array}
use Rattle.zd_model.proofs.HeldLaws.{AreBy-push, no_flush}
use Rattle.zd_model.proofs.HistoryLaws.{last_array-push}
use Rattle.zd_disk.specs.Told.{WhereTold}
use Rattle.zd_disk.specs.View.{HasFailed, OnlyReads, View}
use Rattle.zd_volume.specs.FaultCounts.{TellsFaults, IsCalm}
use Rattle.zd_volume.specs.Flights.{IsPieceIn, answered, serves, with_entry}
use Rattle.zd_volume.specs.Jobs.{HasCopies, sector_of_chunk}
use Rattle.zd_volume.specs.Sets.{Sets, device_sectors}
use Rattle.zd_volume.specs.declared.work.Work.{Work}
use Rattle.zd_volume.specs.Volumes.{IsKeptVolume, PlainVolume, sets_of}
use Rattle.zd_volume.proofs.FaultEntries.{calm_more, faults_none, faults_read}
use Rattle.zd_volume.proofs.FixedLaws.{fixed_beside}
use Rattle.zd_volume.proofs.Images.{left_history}
use Rattle.zd_volume.proofs.LegalEntries.{legal_plain, legal_read_fault}
use Rattle.zd_volume.proofs.ServesLaws.{serves_last}
use Rattle.zd_volume.proofs.Still.{faulted_later, kept_still}

-- an answer that isn't Done changes no sector, and acknowledges no flush
after_quiet : (array : List (List ℕ)) (what : What) (reply : Answer) → reply ≢ Done
    → entry_after array what reply ≡ array
after_quiet array what (Got bytes) quiet = refl
after_quiet array what Done quiet = absurd (quiet refl)
after_quiet array what Range quiet = refl
after_quiet array what Fault quiet = refl

flush_quiet : (what : What) (reply : Answer) → reply ≢ Done → is_done_flush what reply ≡ false
flush_quiet Flush (Got bytes) quiet = refl
flush_quiet Flush Done quiet = absurd (quiet refl)
flush_quiet Flush Range quiet = refl
flush_quiet Flush Fault quiet = refl
flush_quiet (Read block count) reply quiet = refl
flush_quiet (Write block count seed) reply quiet = refl
flush_quiet (Discard block count) reply quiet = refl
flush_quiet (ReadSectors sector count) reply quiet = refl
flush_quiet (WriteSectors sector count seed) reply quiet = refl

-- what a job has copied and read stays, where the last values do
pub copies_grow : (s : Sets) (buffer : List ℕ) (job : Option Work) (base : List (List ℕ)) (h g : List HistoryEntry)
    (i : Image) → ((n : ℕ) → last_at base g n ≡ last_at base h n) → HasCopies s buffer job base h i
    → HasCopies s buffer job base g i
copies_grow s buffer None base h g i same copies = tt
copies_grow s buffer (Some w) base h g i same copies = record {
  copied = λ y z x j source target low valid sector.
      let was = copies.copied y z x j source target low valid sector in
      (was.0, was.1 ∙ sym (same (sector_of_chunk s.geometry w.job.chunk x j)));
  read = λ x j low high sector.
      copies.read x j low high sector ∙ sym (same (sector_of_chunk s.geometry w.job.chunk x j));
}

module _ (v : PlainVolume) (opening u x : View) (runs : v.stopped ≡ None) (io : OnlyReads u x)
    (was : IsKeptVolume v opening u) (p : Piece) where
  -- AN ENTRY THAT ISN'T DONE, now
  module _ (reply : Answer) (quiet : reply ≢ Done) where
    last_same : (n : ℕ) → last_at (base_at opening.zones) (with_entry v p reply).history n
        ≡ last_at (base_at opening.zones) v.history n
    last_same n =
        ap (λ (xs : List (List ℕ)). slice_index_or xs n zero_sector)
        (last_array-push (base_at opening.zones) v.history (answered p reply v.since)
        ∙ after_quiet (last_array (base_at opening.zones) v.history) p.what reply quiet)

    pub kept_entered : IsCalm (answered p reply v.since)
        → TellsFaults (with_entry v p reply).history v.stopped opening.faults x.faults
        → ((r : Image) → u.zones ≡ Some r → IsLegal (base_at opening.zones) v.history
        → IsLegal (base_at opening.zones) (with_entry v p reply).history)
        → IsKeptVolume (with_entry v p reply) opening x
    kept_entered calm faulted legal =
        let e : HistoryEntry = answered p reply v.since in
        let base : List (List ℕ) = base_at opening.zones in
        let more = λ (k n : ℕ) (y : List ℕ) (m : MayHold (base_at opening.zones) v.history k n y).
        no_flush base v.history e k n y (flush_quiet p.what reply quiet) m in
        kept_still v (with_entry v p reply) opening u x
        (record { geometry = refl; head = refl; since = refl; opening = refl; runs = λ r. r }) io was
        (record {
          fixed = fixed_beside v was.fixed v.phase (v.history ++ e ∷ []) v.since v.stopped was.fixed.under_way;
          by_now = AreBy-push v.since v.since v.history e (omega arith) was.counted.by_now (omega arith);
          faulted = faulted;
          calm = λ r. calm_more v.history (e ∷ []) (was.calm r) (calm, tt);
          legal = legal;
          more = more;
          reads = λ _ r t now. record {
            read = record {
              first = now.read.first;
              second = now.read.second;
              below = now.read.below;
              served = λ n l. now.read.served n l ∙ sym (last_same n);
            };
            pointers = now.pointers;
            whole = now.whole;
            copies = copies_grow (sets_of v) v.buffer v.job base v.history
                (with_entry v p reply).history r last_same now.copies;
          };
          stops = λ _ r c t may.
              left_history v.phase (sets_of v) base v.history (with_entry v p reply).history v.since c
              (λ n y m. more v.since n y m) last_same may;
        })

  -- where it tells no fault either
  kept_plain : (reply : Answer) → reply ≢ Done → reply ≢ Fault
      → ((r : Image) → u.zones ≡ Some r → IsLegal (base_at opening.zones) v.history
      → IsLegal (base_at opening.zones) (with_entry v p reply).history)
      → IsKeptVolume (with_entry v p reply) opening x
  kept_plain reply quiet none legal =
      kept_entered reply quiet (λ fault. absurd (none fault))
      (faults_none v.history (answered p reply v.since ∷ []) (record { reply = none }, tt) v.stopped opening.faults
      x.faults (faulted_later v opening u x io was))
      legal

  in_range : (r : Image) → u.zones ≡ Some r → IsPieceIn v p → ends_past (length (base_at opening.zones)) p.what ≡ false
  in_range r there is =
      let size = was.based r there in
      let low = is.device in
      let high = is.chunk in
      let z : ℕ = v.geometry.zone_blocks in
      let whole = div-add-mod' (first_sector p.what) (8 * v.geometry.zone_blocks) in
      let up : (first_sector p.what / (8 * v.geometry.zone_blocks) + 1) * (8 * v.geometry.zone_blocks)
      ≤ v.head.layout.chunks * (8 * v.geometry.zone_blocks) =
      mul-le-mul_right (8 * v.geometry.zone_blocks) (omega (arith, low)) in
      let total : v.head.layout.chunks * (8 * v.geometry.zone_blocks)
      ≡ v.head.layout.chunks * v.geometry.zone_blocks * 8 = omega arith in
      let split : (first_sector p.what / (8 * v.geometry.zone_blocks) + 1) * (8 * v.geometry.zone_blocks)
      ≡ first_sector p.what / (8 * v.geometry.zone_blocks) * (8 * v.geometry.zone_blocks) + 8 * v.geometry.zone_blocks =
      omega arith in
      ends_inside (length (base_at opening.zones)) p.what (omega (arith, size, whole, up, total, split, high))

  -- A READ WITH ITS BYTES
  pub kept_got : operation_of p.what ≡ Reading → IsPieceIn v p → (bytes : List ℕ)
      → WhereTold u.zones (λ i. Got bytes ≡ reply_within (serves v i) p.what)
      → IsKeptVolume (with_entry v p (Got bytes)) opening x
  kept_got reads is bytes reply =
      kept_plain (Got bytes) (λ e. cc) (λ e. cc)
      (λ r there legal.
      legal_plain (base_at opening.zones) v.since v.history (answered p (Got bytes) v.since) legal was.counted.by_now
      (was.calm runs)
      (reply r there
      ∙ ap (λ (xs : List (List ℕ)). reply_within xs p.what) (serves_last v opening u was runs r there)
      ∙ sym (ap (λ (b : Bool). cond b Range (reply_within (last_array (base_at opening.zones) v.history) p.what))
      (ap (λ (n : ℕ). ends_past n p.what) (length-last_array (base_at opening.zones) v.history)
      ∙ in_range r there is)))
      (omega arith, λ writes. absurd (let no : Reading ≡ Writing = sym reads ∙ writes in let f : ⊥ = cc in f)))

  -- A READ THAT FAILED
  pub kept_fault : operation_of p.what ≡ Reading → IsPieceIn v p → HasFailed u x
      → IsKeptVolume (with_entry v p Fault) opening x
  kept_fault reads is rose =
      kept_entered Fault (λ e. cc) (λ _. reads)
      (faults_read v.history (answered p Fault v.since) v.stopped opening.faults u.faults x.faults was.faulted
      io.stays.later rose refl reads)
      (λ r there legal.
      legal_read_fault (base_at opening.zones) v.since v.history (answered p Fault v.since) legal was.counted.by_now
      (was.calm runs) reads (in_range r there is) refl (omega arith))

  -- A PIECE THAT ENDS PAST THE DEVICE
  pub kept_range : ends_past (device_sectors (sets_of v)) p.what ≡ true → IsKeptVolume (with_entry v p Range) opening x
  kept_range past =
      kept_plain Range (λ e. cc) (λ e. cc)
      (λ r there legal.
      let behind : ends_past (length (base_at opening.zones)) p.what ≡ true =
      ap (λ (n : ℕ). ends_past n p.what) (was.based r there) ∙ past in
      legal_plain (base_at opening.zones) v.since v.history (answered p Range v.since) legal was.counted.by_now
      (was.calm runs)
      (sym (ap (λ (b : Bool). cond b Range (reply_within (last_array (base_at opening.zones) v.history) p.what))
      (ap (λ (n : ℕ). ends_past n p.what) (length-last_array (base_at opening.zones) v.history) ∙ behind)))
      (omega arith, λ writes inside. absurd (let no : true ≡ false = sym behind ∙ inside in let f : ⊥ = cc in f)))
