-- A WRITE KEEPS A VOLUME: in Idle, beside a job on another chunk, done or failed.
use Rattle.std.proofs.Common.{◌≡◌, ℕ, ◌+◌, ◌*◌, true, false, List, [], ◌∷◌, ◌++◌, Option, Some}
use Rattle.std.proofs.Common.{None, inl, inr, refl, sym, ap, ap₂, ◌∙◌, subst, arith}
use Rattle.std.specs.List.{AllByRecursion}
use Rattle.zd_base.specs.declared.numbers.Why.{Why}
use Rattle.zd_alloc.specs.declared.uses.ZoneUse.{ZoneUse}
use Rattle.zd_model.specs.History.{HistoryEntry}
use Rattle.zd_model.specs.Plain.Answer.{Done, Fault}
use Rattle.zd_model.specs.Safe.{base_at}
use Rattle.zd_model.specs.declared.requests.Piece.{Piece}
use Rattle.zd_disk.specs.Steps.{WriteLeaves, WriteStep, Wrote, count_of}
use Rattle.zd_disk.specs.Told.{WhereTold, next_count}
use Rattle.zd_disk.specs.View.{Calls, HasFailed, Turns, View}
use Rattle.zd_volume.specs.Discards.{NoJobOn, chunk_touched, range_end, range_first}
use Rattle.zd_volume.specs.Flights.{answered, tables_now}
use Rattle.zd_volume.specs.LeftImages.{ReadsAs}
use Rattle.zd_volume.specs.Sets.{sector_by}
use Rattle.zd_volume.specs.Volumes.{IsFixed, IsKeptVolume, IsWhole, PlainVolume, sets_of}
use Rattle.zd_volume.specs.declared.phase.Phase.{Phase}
use Rattle.zd_volume.specs.declared.phase.Phase.TheVariants.{Idle}
use Rattle.zd_volume.specs.declared.work.Place.{Place}
use Rattle.zd_volume.proofs.DataSteps.{NowAfter, faults_by}
use Rattle.zd_volume.proofs.DataWrites.{after_write}
use Rattle.zd_volume.proofs.FaultEntries.{TellsNone, calm_more, faults_none, none_calm}
use Rattle.zd_volume.proofs.FixedLaws.{fixed_beside}
use Rattle.zd_volume.proofs.InPhases.{both_at}
use Rattle.zd_routes.specs.Edges.{IsMerged}
use Rattle.zd_routes.specs.Routes.{IsRoute, WritesBlocks, pointers_with}
use Rattle.zd_routes.specs.Writes.{WritesPiece, with_failed_write}
use Rattle.zd_routes.proofs.FaultWrites.{faults_write}
use Rattle.zd_routes.proofs.FixedWrites.{fixed_written}
use Rattle.zd_routes.proofs.GoalLaws.{goal_no_target}
use Rattle.zd_routes.proofs.StoppedWrites.{kept_by_write}
use Rattle.zd_routes.proofs.WriteGoals.{goal_zone, starts_at_pointer}
use Rattle.zd_routes.proofs.WriteLasts.{count_merged}
use Rattle.zd_routes.proofs.WritePointers.{copies_written, pointers_written, whole_written}
use Rattle.zd_routes.proofs.WriteReads.{reads_written}

-- ONE THAT WAS DONE
module _ (from to : PlainVolume) (p : Piece) (place : Place) (zone : ℕ) (bytes : List ℕ) (opening u x : View)
    (runs : from.stopped ≡ None) (was : IsKeptVolume from opening u) (idle : from.phase ≡ Idle)
    (is : WritesBlocks (sets_of from) p.what)
    (off : NoJobOn from.job (chunk_touched from.geometry.zone_blocks p.what))
    (merged : WhereTold u.zones (λ r. IsMerged p.what (sector_by (sets_of from) (tables_now from) r) bytes))
    (wrote : WritesPiece from to p place zone)
    (turns : Turns (Wrote zone (8 * range_first from.geometry.zone_blocks p.what) bytes) u x) where
  abbrev base : List (List ℕ)
  base = base_at opening.zones

  abbrev e : HistoryEntry
  e = answered p Done (next_count from.since)

  abbrev first : ℕ
  first = range_first from.geometry.zone_blocks p.what

  abbrev end : ℕ
  end = range_end from.geometry.zone_blocks p.what

  abbrev after : PlainVolume
  after = after_write from to.fresh to.dirty to.division
      (pointers_with from.geometry from.pointers zone (range_end from.geometry.zone_blocks p.what)) to.standings
      (answered p Done (next_count from.since)) None

  tells_none : AllByRecursion TellsNone (answered p Done (next_count from.since) ∷ [])
  tells_none = (record { reply = λ no. cc }, tt)

  -- it is the volume that the write makes
  is_after : after ≡ to
  is_after =
      ap₂ (λ (phase : Phase) (stopped : Option Why). record from {
        phase = phase;
        fresh = to.fresh;
        dirty = to.dirty;
        division = to.division;
        pointers = pointers_with from.geometry from.pointers zone (range_end from.geometry.zone_blocks p.what);
        standings = to.standings;
        history = from.history ++ e ∷ [];
        since = next_count from.since;
        stopped = stopped;
      }) (sym idle) (sym runs)
      ∙ sym wrote.rest

  -- what the disk reads as then
  now_written : NowAfter from after (base_at opening.zones) true u x
  now_written _ r j there then of_r of_j now =
      let did : Wrote zone (8 * first) bytes r j =
      both_at (Wrote zone (8 * first) bytes) u.zones x.zones turns.reads r j there then in
      let reads : ReadsAs Idle (sets_of from) base from.history r =
      subst (λ (q : Phase). ReadsAs q (sets_of from) base from.history r) idle now.read in
      let goal = goal_zone from was.fixed p.what place zone wrote.route in
      let size = was.based r there in
      let count = count_merged (sets_of from) base size from.history e is
      (sector_by (sets_of from) (tables_now from) r) bytes (merged r there) in
      let whole : 8 * first + count_of bytes ≡ 8 * end = omega (arith, count) in
      let pointer = starts_at_pointer from was.fixed p.what place zone wrote.route base r now in
      record {
        read = reads_written (sets_of from) was.fixed.sets base size from.history e is refl place zone goal to.fresh
            wrote.range bytes r j of_r reads (merged r there) did;
        pointers = pointers_written from.geometry zone first end bytes r j did whole pointer from.pointers
            was.fixed.pointers now.pointers;
        whole = subst (λ (uses : List ZoneUse). IsWhole from.geometry uses j) (sym wrote.zones)
            (whole_written from.geometry zone first end bytes r j did whole pointer place from.division.zones
            now.whole);
        copies = copies_written (sets_of from) was.fixed.sets base size from.history e is refl place zone goal to.fresh
            wrote.range (8 * first) bytes r j did from.job from.pointers from.buffer off was.fixed.job
            (goal_no_target from was.fixed p.what place zone wrote.route off) now.copies;
      }

  fixed_after : IsFixed after
  fixed_after =
      subst (λ (w : PlainVolume). IsFixed w) (sym is_after)
      (fixed_written from to p place zone was.fixed is wrote idle off)

  pub kept_written : Calls (λ r. WriteStep r zone (8 * range_first from.geometry.zone_blocks p.what) bytes)
      (λ r j. WriteLeaves r j zone (8 * range_first from.geometry.zone_blocks p.what) bytes) u x
      → IsKeptVolume to opening x
  kept_written call =
      subst (λ (w : PlainVolume). IsKeptVolume w opening x) is_after
      (kept_by_write from p place zone bytes opening u x runs was idle is wrote.route merged call Done (inl refl)
      to.fresh to.dirty to.division (pointers_with from.geometry from.pointers zone end) to.standings true fixed_after
      now_written (Wrote zone (8 * first) bytes) turns
      (faults_none from.history (e ∷ []) tells_none None opening.faults x.faults
      (faults_by from opening u x true runs was call.stays.later (λ no. absurd (let f : ⊥ = cc in f))))
      (λ _. calm_more from.history (e ∷ []) (was.calm runs) (none_calm (e ∷ []) tells_none)))

-- ONE THAT FAILED
module _ (from : PlainVolume) (p : Piece) (place : Place) (zone : ℕ) (bytes : List ℕ) (opening u x : View) where
  abbrev f : HistoryEntry
  f = answered p Fault (next_count from.since)

  abbrev stopped : PlainVolume
  stopped = after_write from from.fresh from.dirty from.division from.pointers from.standings
      (answered p Fault (next_count from.since)) (Some Why.Device)

  is_stopped : from.phase ≡ Idle → stopped ≡ with_failed_write from p
  is_stopped idle =
      ap (λ (phase : Phase). record from {
        phase = phase;
        history = from.history ++ f ∷ [];
        since = next_count from.since;
        stopped = Some Why.Device;
      }) (sym idle)

  pub kept_failed_write : from.stopped ≡ None → IsKeptVolume from opening u → from.phase ≡ Idle
      → WritesBlocks (sets_of from) p.what
      → WhereTold u.zones (λ r. IsMerged p.what (sector_by (sets_of from) (tables_now from) r) bytes)
      → IsRoute from p.what place zone → HasFailed u x
      → Turns (λ i. WriteStep i zone (8 * range_first from.geometry.zone_blocks p.what) bytes i) u x
      → Calls (λ r. WriteStep r zone (8 * range_first from.geometry.zone_blocks p.what) bytes)
      (λ r j. WriteLeaves r j zone (8 * range_first from.geometry.zone_blocks p.what) bytes) u x
      → IsKeptVolume (with_failed_write from p) opening x
  kept_failed_write runs was idle is merged route failed turns call =
      subst (λ (w : PlainVolume). IsKeptVolume w opening x) (is_stopped idle)
      (kept_by_write from p place zone bytes opening u x runs was idle is route merged call Fault (inr refl)
      from.fresh from.dirty from.division from.pointers from.standings false (fixed_beside from was.fixed Idle (from.history ++ f ∷ []) (next_count from.since) (Some Why.Device) tt)
      (λ no. absurd (let g : ⊥ = cc in g))
      (λ i. WriteStep i zone (8 * range_first from.geometry.zone_blocks p.what) bytes i) turns
      (faults_write from.history f refl is.writes from.stopped opening.faults u.faults x.faults was.faulted
      call.stays.later failed)
      (λ no. absurd (let g : ⊥ = cc in g)))
