-- A write's call keeps a volume, done or failed: for a stop each sector that it may put is what the write puts there,
-- or what was there last.
use Rattle.std.proofs.Common.{◌≡◌, ◌⊎◌, ℕ, ◌+◌, ◌-◌, ◌*◌, ◌/◌, ◌^◌, ◌<◌, ◌≤◌, Bool, false, cond, List, [], ◌∷◌, ◌++◌}
use Rattle.std.proofs.Common.{length, Some, None, inl, inr, refl, sym, ap, ap₂, ◌∙◌, arith}
use Rattle.std.specs.List.{concat}
use Rattle.std.specs.Prelude.{slice_range}
use Rattle.zd_alloc.specs.Candidates.{Standings}
use Rattle.zd_alloc.specs.Zones.{Division}
use Rattle.zd_model.specs.History.{HistoryEntry, IsLegal, last_array}
use Rattle.zd_model.specs.Image.{Image}
use Rattle.zd_model.specs.Places.{spot, zone_at}
use Rattle.zd_model.specs.Plain.{Answer, answer_in_range, ends_past, reply_to}
use Rattle.zd_model.specs.Plain.Answer.{Done, Fault}
use Rattle.zd_model.specs.Requests.{Operation, first_sector, operation_of, sector_count}
use Rattle.zd_model.specs.Requests.Operation.{Writing}
use Rattle.zd_model.specs.Safe.{base_at, last_at}
use Rattle.zd_model.specs.Stops.{AreBy, is_done_flush}
use Rattle.zd_model.specs.declared.requests.Piece.{Piece}
use Rattle.zd_model.specs.declared.requests.What.{What}
use Rattle.zd_model.specs.declared.requests.What.TheVariants.{Discard, Flush, Read, ReadSectors, Write, WriteSectors}
use Rattle.zd_model.proofs.ArrayLaws.{length-last_array}
use Rattle.zd_model.proofs.HistoryLaws.{Adds}
use Rattle.zd_disk.specs.Steps.{WriteLeaves, WriteStep, count_of, piece}
use Rattle.zd_disk.specs.Told.{WhereTold, next_count}
use Rattle.zd_disk.specs.View.{Calls, Turns, View}
use Rattle.zd_volume.specs.Commits.{stopped_by}
use Rattle.zd_volume.specs.Discards.{range_first}
use Rattle.zd_volume.specs.FaultCounts.{AreCalm, TellsFaults}
use Rattle.zd_volume.specs.Flights.{answered, tables_now}
use Rattle.zd_volume.specs.Sets.{device_sectors, old_tables, sector_by}
use Rattle.zd_volume.specs.Volumes.{IsFixed, IsKeptVolume, PlainVolume, sets_of}
use Rattle.zd_volume.specs.declared.phase.Phase.TheVariants.{Idle}
use Rattle.zd_volume.specs.declared.work.Place.{Place}
use Rattle.zd_volume.proofs.Choices.{some_blocks}
use Rattle.zd_volume.proofs.DataSteps.{NowAfter}
use Rattle.zd_volume.proofs.DataWrites.{after_write, kept_write}
use Rattle.zd_volume.proofs.LegalEntries.{legal_plain, legal_write_fault}
use Rattle.zd_volume.proofs.PlaceLaws.{named_place}
use Rattle.zd_routes.specs.Edges.{IsMerged}
use Rattle.zd_routes.specs.Routes.{IsRoute, WritesBlocks}
use Rattle.zd_routes.proofs.GoalLaws.{goal_alone_old, goal_data}
use Rattle.zd_routes.proofs.WriteCovers.{write_in_range}
use Rattle.zd_routes.proofs.WriteGoals.{starts_at_pointer}
use Rattle.zd_routes.proofs.WriteLasts.{adds_or_last}

-- a write is no flush
write_plain : (what : What) (reply : Answer) → operation_of what ≡ Writing → is_done_flush what reply ≡ false
write_plain (Read block count) reply is = absurd (let f : ⊥ = cc in f)
write_plain (Write block count seed) reply is = refl
write_plain (Discard block count) reply is = absurd (let f : ⊥ = cc in f)
write_plain Flush reply is = absurd (let f : ⊥ = cc in f)
write_plain (ReadSectors sector count) reply is = absurd (let f : ⊥ = cc in f)
write_plain (WriteSectors sector count seed) reply is = refl

-- THE HISTORY stays legal, with a write that was done or failed
legal_written : (base : List (List ℕ)) (now : ℕ) (h : List HistoryEntry) (e : HistoryEntry) → IsLegal base h
    → AreBy now h → AreCalm h → operation_of e.what ≡ Writing → ends_past (length base) e.what ≡ false
    → (e.reply ≡ Done) ⊎ (e.reply ≡ Fault) → now < e.at → IsLegal base (h ++ e ∷ [])
legal_written base now h e was by calm writes fits (inr failed) later =
    legal_write_fault base now h e was by calm writes fits failed later
legal_written base now h e was by calm writes fits (inl done) later =
    legal_plain base now h e was by calm (done ∙ sym reply) (omega (arith, later), λ _ _. later)
  where
    reply : reply_to (last_array base h) e.what ≡ Done
    reply =
        ap₂ (λ (past : Bool) (o : Operation).
        cond past Answer.Range (answer_in_range o
        (concat (slice_range (last_array base h) (first_sector e.what) (first_sector e.what + sector_count e.what)))))
        (ap (λ (n : ℕ). ends_past n e.what) (length-last_array base h) ∙ fits) writes

module _ (v : PlainVolume) (p : Piece) (place : Place) (zone : ℕ) (bytes : List ℕ) (opening u x : View)
    (runs : v.stopped ≡ None) (was : IsKeptVolume v opening u) (idle : v.phase ≡ Idle)
    (is : WritesBlocks (sets_of v) p.what) (route : IsRoute v p.what place zone)
    (merged : WhereTold u.zones (λ r. IsMerged p.what (sector_by (sets_of v) (tables_now v) r) bytes))
    (call : Calls (λ r. WriteStep r zone (8 * range_first v.geometry.zone_blocks p.what) bytes)
    (λ r j. WriteLeaves r j zone (8 * range_first v.geometry.zone_blocks p.what) bytes) u x)
    (reply : Answer) (said : (reply ≡ Done) ⊎ (reply ≡ Fault)) where
  abbrev start : ℕ
  start = 8 * range_first v.geometry.zone_blocks p.what

  abbrev base : List (List ℕ)
  base = base_at opening.zones

  abbrev e : HistoryEntry
  e = answered p reply (next_count v.since)

  legal_after : x.calls < 2 ^ 64 - 1 → (r : Image) → u.zones ≡ Some r → IsLegal (base_at opening.zones) v.history
      → IsLegal (base_at opening.zones) (v.history ++ answered p reply (next_count v.since) ∷ [])
  legal_after small r there legal =
      let more = call.calls in
      let counted = was.counted.count (omega (arith, small, more)) in
      legal_written base v.since v.history e legal was.counted.by_now (was.calm runs) is.writes
      (ap (λ (n : ℕ). ends_past n p.what) (was.based r there) ∙ write_in_range (sets_of v) p.what is) said
      (omega (arith, counted, more, small))

  -- what a stop may find where a committed sector stands
  own : (r : Image) → u.zones ≡ Some r → (k n j : ℕ) → next_count v.since ≤ k + 1 → n < device_sectors (sets_of v)
      → zone_at v.geometry.zone_blocks (old_tables (sets_of v)) n ≡ Some zone → j < count_of bytes
      → spot v.geometry.zone_blocks n ≡ 8 * range_first v.geometry.zone_blocks p.what + j
      → Adds (length (base_at opening.zones)) k n (piece bytes j) (answered p reply (next_count v.since))
      ⊎ (piece bytes j ≡ last_at (base_at opening.zones) v.history n)
  own r there k n j at low stands inside is_spot =
      let named = named_place v.geometry v.head.layout (some_blocks (sets_of v) was.fixed.sets) (old_tables (sets_of v))
      was.fixed.sets.old_rules.map n zone stands in
      adds_or_last (sets_of v) base (was.based r there) v.history e is
      (sector_by (sets_of v) (tables_now v) r) bytes (merged r there) (was.reads runs r there).read.served said k n j at
      (goal_alone_old v was.fixed p.what place zone route (n / 8 / v.geometry.zone_blocks) named.0) inside is_spot

  module _ (fresh : List ℕ) (dirty : List Bool) (division : Division) (pointers : List ℕ) (standings : Standings)
      (done : Bool)
      (fixed : IsFixed (after_write v fresh dirty division pointers standings (answered p reply (next_count v.since))
      (stopped_by done)))
      (now : NowAfter v (after_write v fresh dirty division pointers standings
      (answered p reply (next_count v.since)) (stopped_by done)) (base_at opening.zones) done u x)
      (R : Image → Image → Type 0) (turns : Turns R u x)
      (faulted : TellsFaults (v.history ++ answered p reply (next_count v.since) ∷ []) (stopped_by done) opening.faults
      x.faults)
      (calm : stopped_by done ≡ None → AreCalm (v.history ++ answered p reply (next_count v.since) ∷ [])) where
    -- THE VOLUME IS KEPT
    pub kept_by_write : IsKeptVolume (after_write v fresh dirty division pointers standings
        (answered p reply (next_count v.since)) (stopped_by done)) opening x
    kept_by_write =
        kept_write v opening u x runs was fresh dirty division pointers standings e done fixed now R turns zone start
        bytes idle (goal_data v was.fixed p.what place zone route).0 refl (write_plain p.what reply is.writes) faulted
        (λ ok. calm (ap stopped_by ok)) own
        (λ i _ reads. starts_at_pointer v was.fixed p.what place zone route base i reads)
        legal_after call
