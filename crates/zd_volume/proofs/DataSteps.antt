-- Calls into data zones: what the count of faults is after them; copies and resets, in any phase, done or failed.
use Rattle.std.proofs.Common.{◌≡◌, ◌≢◌, ℕ, ◌+◌, ◌<◌, ◌≤◌, Bool, true, false, List, Option, Some, None, refl, subst}
use Rattle.std.proofs.Common.{arith}
use Rattle.std.specs.Prelude.{IsTrue}
use Rattle.zd_base.specs.Geometry.{Shape}
use Rattle.zd_base.specs.Layout.{first_data_zone}
use Rattle.zd_base.specs.declared.numbers.Why.{Why}
use Rattle.zd_alloc.specs.Candidates.{Standings}
use Rattle.zd_alloc.specs.Zones.{Division}
use Rattle.zd_model.specs.Image.{Image}
use Rattle.zd_model.specs.Places.{spot, zone_at}
use Rattle.zd_model.specs.Safe.{base_at, last_at}
use Rattle.zd_model.specs.Tables.{is_valid}
use Rattle.zd_disk.specs.OfGeometry.{IsImageOf}
use Rattle.zd_disk.specs.Steps.{ResetLeaves, ResetStep, WriteLeaves, WriteStep, count_of, piece}
use Rattle.zd_disk.specs.Told.{next_count}
use Rattle.zd_disk.specs.View.{Calls, HasFailed, Turns, View}
use Rattle.zd_disk.proofs.StepGrowth.{grows_by_reset, grows_by_write}
use Rattle.zd_volume.specs.Commits.{stopped_by}
use Rattle.zd_volume.specs.FaultCounts.{TellsFaults}
use Rattle.zd_volume.specs.LeftImages.{MayBeLeft}
use Rattle.zd_volume.specs.Phases.{TakesNew, TakesOld}
use Rattle.zd_volume.specs.Sets.{device_sectors, new_tables, old_tables}
use Rattle.zd_volume.specs.Volumes.{IsFixed, IsKeptVolume, IsNow, Known, MayBe, PlainVolume, sets_of}
use Rattle.zd_volume.specs.declared.work.Work.{Work}
use Rattle.zd_volume.proofs.Choices.{sets_apart}
use Rattle.zd_volume.proofs.FaultEntries.{faults_failed, faults_later}
use Rattle.zd_volume.proofs.Images.{left_copy, left_reset}
use Rattle.zd_volume.proofs.InPhases.{by_next, safe_now}
use Rattle.zd_volume.proofs.Kept.{kept_call, told_after, told_before}

-- only what was done goes on
pub done_runs : (done : Bool) → stopped_by done ≡ None → done ≡ true
done_runs true is = refl
done_runs false is = absurd (let f : ⊥ = cc in f)

-- the count of faults after a call that was done, or failed, and that enters nothing
pub faults_by : (v : PlainVolume) (opening d e : View) (done : Bool) → v.stopped ≡ None → IsKeptVolume v opening d
    → d.faults ≤ e.faults → (done ≡ false → HasFailed d e)
    → TellsFaults v.history (stopped_by done) opening.faults e.faults
faults_by v opening d e true runs was more failed =
    subst (λ (o : Option Why). TellsFaults v.history o opening.faults e.faults) runs
    (faults_later v.history v.stopped opening.faults d.faults e.faults was.faulted more)
faults_by v opening d e false runs was more failed =
    faults_failed v.history v.stopped opening.faults d.faults e.faults was.faulted more (failed refl)

-- tables, history and phase stay; a copy may give its chunk another class
abbrev pub after_data : PlainVolume → Division → List ℕ → Standings → Option Work → List ℕ → Option Why → PlainVolume
after_data v division pointers standings job buffer stopped = record v {
  division = division;
  pointers = pointers;
  standings = standings;
  job = job;
  buffer = buffer;
  since = next_count v.since;
  stopped = stopped;
}

-- where a table that a stop may choose has a sector in this range, these bytes have what was there last
pub record PutsLast (v : PlainVolume) (base : List (List ℕ)) (z start : ℕ) (bytes : List ℕ) : Type 0 where
  pub old : TakesOld v.phase → (n j : ℕ) → n < device_sectors (sets_of v)
      → zone_at v.geometry.zone_blocks (old_tables (sets_of v)) n ≡ Some z → j < count_of bytes
      → spot v.geometry.zone_blocks n ≡ start + j → piece bytes j ≡ last_at base v.history n
  pub new : TakesNew v.phase → (n j : ℕ) → n < device_sectors (sets_of v)
      → zone_at v.geometry.zone_blocks (new_tables (sets_of v)) n ≡ Some z → j < count_of bytes
      → spot v.geometry.zone_blocks n ≡ start + j → piece bytes j ≡ last_at base v.history n

-- no table that a stop may choose has a sector or a valid block in this zone
pub record IsBareZone (v : PlainVolume) (z : ℕ) : Type 0 where
  pub far : first_data_zone v.geometry v.head.layout ≤ z
  pub old : TakesOld v.phase
      → ((n : ℕ) → zone_at v.geometry.zone_blocks (old_tables (sets_of v)) n ≢ Some z)
      × ((x : ℕ) → x < v.geometry.zone_blocks → IsTrue (is_valid (old_tables (sets_of v)) z x) → ⊥)
  pub new : TakesNew v.phase
      → ((n : ℕ) → zone_at v.geometry.zone_blocks (new_tables (sets_of v)) n ≢ Some z)
      × ((x : ℕ) → x < v.geometry.zone_blocks → IsTrue (is_valid (new_tables (sets_of v)) z x) → ⊥)

-- what the disk reads as after the call, where it was done, is what the volume says it reads as
abbrev pub NowAfter : PlainVolume → PlainVolume → List (List ℕ) → Bool → View → View → Type 0
NowAfter v w base done d e = done ≡ true → (r j : Image) → d.zones ≡ Some r → e.zones ≡ Some j
    → IsImageOf v.geometry r → IsImageOf v.geometry j → IsNow v base r → IsNow w base j

module _ (v : PlainVolume) (opening d e : View) (runs : v.stopped ≡ None) (was : IsKeptVolume v opening d)
    (division : Division) (pointers : List ℕ) (standings : Standings) (job : Option Work) (buffer : List ℕ) (done : Bool)
    (fixed : IsFixed (after_data v division pointers standings job buffer (stopped_by done)))
    (now : NowAfter v (after_data v division pointers standings job buffer (stopped_by done)) (base_at opening.zones) done d e)
    (failed : done ≡ false → HasFailed d e)
    (R : Image → Image → Type 0) (turns : Turns R d e) where
  -- A COPY, done or cut short
  pub kept_copy : (z start : ℕ) (bytes : List ℕ) → first_data_zone v.geometry v.head.layout ≤ z
      → ((r : Image) → d.zones ≡ Some r → IsNow v (base_at opening.zones) r → MayBe v (base_at opening.zones) r
      → PutsLast v (base_at opening.zones) z start bytes)
      → ((r : Image) → d.zones ≡ Some r → IsNow v (base_at opening.zones) r → v.geometry.conv ≤ z → start ≡ r.held z)
      → Calls (λ r. WriteStep r z start bytes) (λ r j. WriteLeaves r j z start bytes) d e
      → IsKeptVolume (after_data v division pointers standings job buffer (stopped_by done)) opening e
  kept_copy z start bytes far last pointer call =
      kept_call v (after_data v division pointers standings job buffer (stopped_by done)) opening d e
      (λ r. WriteStep r z start bytes) runs was
      (record {
        geometry = refl;
        layout = refl;
        opening = refl;
        since = refl;
        stays = call.stays;
        calls = call.calls;
        grows = grows_by_write z start bytes call;
        from = told_before d e R turns;
        shows = told_after d e R turns;
      })
      (record {
        fixed = fixed;
        by_now = by_next v opening d was;
        generation = λ one g. omega (arith, one, g);
        faulted = faults_by v opening d e done runs was call.stays.later failed;
        calm = λ _. was.calm runs;
        legal = λ _ r t l. l;
        past = λ k n x l m. m;
        reads = λ still r j t u of_r of_j was_now. now (done_runs done still) r j t u of_r of_j was_now;
        before = λ r i c one known s t.
            safe_now v opening d was v.phase v.since r c t (omega arith) known.new_of
            (moved v.since r i c (omega arith) t known s);
        after = λ r i c one known s t _ _.
            safe_now v opening d was v.phase (next_count v.since) r c t (omega arith) known.new_of
            (moved (next_count v.since) r i c (omega arith) t known s);
        stops = λ _ r i c one known s t _ _. moved (next_count v.since) r i c (omega arith) t known s;
      })
    where
      moved : (k : ℕ) (r i c : Image) → v.since ≤ k → d.zones ≡ Some r → Known v (base_at opening.zones) r i c
          → WriteStep r z start bytes i c
          → MayBeLeft v.phase (sets_of v) (base_at opening.zones) v.history k c
      moved k r i c le t known s =
          let puts = last r t known.reads known.reads_left in
          left_copy (sets_of v) was.fixed.sets v.phase v.since k z start bytes (base_at opening.zones) v.history r i c
          known.reads_of known.left_of le was.counted.by_now puts.old puts.new s
          (λ seq. pointer r t known.reads (subst (λ (g : Shape). g.conv ≤ z) known.left_of.geometry seq))
          (sets_apart (sets_of v) was.fixed.sets i c known.left_of z far s.geometry s.others)
          known.reads_left known.left_is

  -- A RESET, done or not
  pub kept_reset : (z : ℕ) → IsBareZone v z → Calls (λ _. ResetStep z) (λ _ j. ResetLeaves j z) d e
      → IsKeptVolume (after_data v division pointers standings job buffer (stopped_by done)) opening e
  kept_reset z bare call =
      kept_call v (after_data v division pointers standings job buffer (stopped_by done)) opening d e
      (λ r. ResetStep z) runs was
      (record {
        geometry = refl;
        layout = refl;
        opening = refl;
        since = refl;
        stays = call.stays;
        calls = call.calls;
        grows = grows_by_reset z call;
        from = told_before d e R turns;
        shows = told_after d e R turns;
      })
      (record {
        fixed = fixed;
        by_now = by_next v opening d was;
        generation = λ one g. omega (arith, one, g);
        faulted = faults_by v opening d e done runs was call.stays.later failed;
        calm = λ _. was.calm runs;
        legal = λ _ r t l. l;
        past = λ k n x l m. m;
        reads = λ still r j t u of_r of_j was_now. now (done_runs done still) r j t u of_r of_j was_now;
        before = λ r i c one known s t.
            safe_now v opening d was v.phase v.since r c t (omega arith) known.new_of
            (moved v.since r i c (omega arith) known s);
        after = λ r i c one known s t _ _.
            safe_now v opening d was v.phase (next_count v.since) r c t (omega arith) known.new_of
            (moved (next_count v.since) r i c (omega arith) known s);
        stops = λ _ r i c one known s _ _ _. moved (next_count v.since) r i c (omega arith) known s;
      })
    where
      moved : (k : ℕ) (r i c : Image) → v.since ≤ k → Known v (base_at opening.zones) r i c → ResetStep z i c
          → MayBeLeft v.phase (sets_of v) (base_at opening.zones) v.history k c
      moved k r i c le known s =
          left_reset (sets_of v) was.fixed.sets v.phase v.since k z (base_at opening.zones) v.history i c
          known.left_of le was.counted.by_now bare.old bare.new s.others
          (sets_apart (sets_of v) was.fixed.sets i c known.left_of z bare.far s.geometry s.others) known.left_is
