-- BLOCKS THAT WERE COPIED KEEP A VOLUME, in any phase; so does a copy that failed.
use Rattle.std.proofs.Common.{◌≡◌, ℕ, ◌+◌, ◌-◌, ◌*◌, ◌<◌, ◌≤◌, true, false, List, Option, Some, None, inl, inr}
use Rattle.std.proofs.Common.{sym, ap, ◌∙◌, subst, arith}
use Rattle.std.proofs.lemmas.Bool.{cases_lt}
use Rattle.std.specs.Prelude.{IsTrue}
use Rattle.zd_base.specs.declared.numbers.Why.{Why}
use Rattle.zd_model.specs.Image.{Image}
use Rattle.zd_model.specs.Safe.{base_at, last_at}
use Rattle.zd_model.specs.Tables.{entry_of, is_valid}
use Rattle.zd_model.proofs.FaultLaws.{some_is}
use Rattle.zd_disk.specs.OfGeometry.{IsImageOf}
use Rattle.zd_disk.specs.Steps.{WriteLeaves, WriteStep, Wrote, count_of}
use Rattle.zd_disk.specs.Told.{next_count}
use Rattle.zd_disk.specs.View.{Calls, HasFailed, Turns, View}
use Rattle.zd_volume.specs.Flights.{tables_now}
use Rattle.zd_volume.specs.Jobs.{AreCopied, sector_of_chunk, source_of}
use Rattle.zd_volume.specs.Volumes.{IsFixed, IsKeptVolume, IsNow, PlainVolume, sets_of}
use Rattle.zd_volume.specs.declared.work.Place.TheVariants.{Main}
use Rattle.zd_volume.specs.declared.work.Work.{Work}
use Rattle.zd_volume.proofs.Choices.{some_blocks}
use Rattle.zd_volume.proofs.DataSteps.{after_data, kept_copy}
use Rattle.zd_volume.proofs.FixedLaws.{fixed_buffer}
use Rattle.zd_volume.proofs.InPhases.{both_at}
use Rattle.zd_volume.proofs.PlaceLaws.{below_wrote, content_wrote}
use Rattle.zd_routes.specs.Routes.{pointers_with}
use Rattle.zd_routes.proofs.WritePointers.{pointers_written, whole_written}
use Rattle.zd_jobs.specs.JobSteps.{FailsCopyWrite, WritesBlocksOn, WritesCopy}
use Rattle.zd_jobs.proofs.CopyBytes.{copy_blocks, copy_inside, copy_last, sectors_of_blocks}
use Rattle.zd_jobs.proofs.CopyPlaces.{none_new, copy_puts_last}
use Rattle.zd_jobs.proofs.DataReads.{reads_data}
use Rattle.zd_jobs.proofs.FixedCopies.{fixed_copied}
use Rattle.zd_jobs.proofs.WorkLaws.{copies_of, copied_at_pointer, target_far, told_image}

-- ONE IMAGE, after the blocks were written
module _ (v : PlainVolume) (w : Work) (fixed : IsFixed v) (is : v.job ≡ Some w) (zone : ℕ)
    (target : w.target ≡ Some zone) (count : ℕ) (bytes : List ℕ) (copy : WritesCopy v w count bytes)
    (base : List (List ℕ)) (r j : Image) (of : IsImageOf v.geometry r) (now : IsNow v base r)
    (wrote : Wrote zone (8 * w.copied) bytes r j) where
  sectors : count_of bytes ≡ 8 * count
  sectors = sectors_of_blocks count bytes (copy_blocks v w fixed is count bytes copy)

  -- what is copied at the target
  abbrev HasBlock : ℕ → ℕ → ℕ → Type 0
  HasBlock z x k = (8 * x + 8 ≤ j.held z)
      × (j.sector z (8 * x + k) ≡ last_at base v.history (sector_of_chunk v.geometry w.job.chunk x k))

  copied_here : (y x k : ℕ) → source_of w.job.kind (entry_of (tables_now v) w.job.chunk) ≡ Some y
      → x < w.copied + count → IsTrue (is_valid (tables_now v) y x) → k < 8 → HasBlock zone x k
  copied_here y x k source low valid few = elim (cases_lt x w.copied) [
    | inl before ↦
        let was = (copies_of v w fixed is base r now).copied y zone x k source target before valid few in
        let under = was.0 in
        let held = wrote.zone.held in (
          omega (arith, under, held),
          wrote.zone.before (8 * x + k) (omega (arith, before, few)) (omega (arith, under, few)) ∙ was.1,
        )
    | inr from ↦
        let held = wrote.zone.held in
        let whole = sectors in
        let place : 8 * x + k ≡ 8 * w.copied + (8 * (x - w.copied) + k) = omega (arith, from) in (
          omega (arith, held, whole, low),
          ap (j.sector zone) place
              ∙ wrote.zone.put (8 * (x - w.copied) + k) (omega (arith, whole, low, from, few))
              ∙ copy_last v w fixed is count bytes copy base r now y x k source from low valid few,
        )
  ]

  copies_after : (buffer : List ℕ)
      → AreCopied (sets_of v) buffer (record w { copied = w.copied + count; read = 0 }) base v.history j
  copies_after buffer = record {
    copied = λ y z x k source to low valid few.
        subst (λ (y : ℕ). HasBlock y x k) (some_is zone z (sym target ∙ to)) (copied_here y x k source low valid few);
    read = λ x k low high few. absurd (let f : ⊥ = omega (arith, low, high) in f);
  }

  now_copied : (to : PlainVolume) → IsNow (after_data v v.division
      (pointers_with v.geometry v.pointers zone (w.copied + count))
      (record v.standings { classes = to.standings.classes })
      (Some (record w { copied = w.copied + count; read = 0 })) to.buffer None) base j
  now_copied to =
      let some = some_blocks (sets_of v) fixed.sets in
      let rules = fixed.sets.new_rules.map in
      let sectors = sectors in
      let whole : 8 * w.copied + count_of bytes ≡ 8 * (w.copied + count) = omega (arith, sectors) in
      let pointer = copied_at_pointer v w fixed is base r now zone target in
      record {
        read = reads_data (sets_of v) fixed.sets v.phase base v.history r j of zone
            (target_far v w fixed is zone target)
            wrote.geometry wrote.others
            (below_wrote v.geometry v.head.layout some (tables_now v) rules r j of now.read.below zone (8 * w.copied)
            bytes wrote)
            (λ n low. elim (content_wrote v.geometry v.head.layout some (tables_now v) rules r j of now.read.below zone
            (8 * w.copied) bytes wrote n) [
              | inl same ↦ same ∙ now.read.served n low
              | inr put ↦ absurd (none_new v w fixed is zone target count bytes copy base r of now n put.1.0 put.0
                  put.1.1 put.1.2)
            ])
            now.read;
        pointers = pointers_written v.geometry zone w.copied (w.copied + count) bytes r j wrote whole pointer v.pointers
            fixed.pointers now.pointers;
        whole = whole_written v.geometry zone w.copied (w.copied + count) bytes r j wrote whole pointer Main
            v.division.zones now.whole;
        copies = copies_after to.buffer;
      }

-- A COPY THAT WAS DONE
is_copied : (from to : PlainVolume) (w : Work) (zone count : ℕ) → from.stopped ≡ None
    → WritesBlocksOn from to w zone count
    → after_data from from.division (pointers_with from.geometry from.pointers zone (w.copied + count))
    (record from.standings { classes = to.standings.classes })
    (Some (record w { copied = w.copied + count; read = 0 })) to.buffer None ≡ to
is_copied from to w zone count runs did =
    ap (λ (stopped : Option Why). record from {
      job = Some (record w { copied = w.copied + count; read = 0 });
      pointers = pointers_with from.geometry from.pointers zone (w.copied + count);
      standings = record from.standings { classes = to.standings.classes };
      buffer = to.buffer;
      since = next_count from.since;
      stopped = stopped;
    }) (sym runs)
    ∙ sym did.rest

pub kept_copy_write : (from to : PlainVolume) (w : Work) (zone count : ℕ) (bytes : List ℕ) (opening u x : View)
    → from.stopped ≡ None → IsKeptVolume from opening u → from.job ≡ Some w → WritesCopy from w count bytes
    → WritesBlocksOn from to w zone count → Turns (Wrote zone (8 * w.copied) bytes) u x
    → Calls (λ r. WriteStep r zone (8 * w.copied) bytes) (λ r j. WriteLeaves r j zone (8 * w.copied) bytes) u x
    → IsKeptVolume to opening x
kept_copy_write from to w zone count bytes opening u x runs was is copy did turns call =
    subst (λ (v : PlainVolume). IsKeptVolume v opening x) (is_copied from to w zone count runs did)
    (kept_copy from opening u x runs was from.division
    (pointers_with from.geometry from.pointers zone (w.copied + count))
    (record from.standings { classes = to.standings.classes })
    (Some (record w { copied = w.copied + count; read = 0 })) to.buffer true
    (subst IsFixed (sym (is_copied from to w zone count runs did))
    (fixed_copied from to w zone count was.fixed is did (copy_inside from w was.fixed is count bytes copy)))
    (λ _ r j there then of_r of_j now.
    now_copied from w was.fixed is zone did.target count bytes copy (base_at opening.zones) r j of_r now
    (both_at (Wrote zone (8 * w.copied) bytes) u.zones x.zones turns.reads r j there then) to)
    (λ no. absurd (let f : ⊥ = cc in f)) (Wrote zone (8 * w.copied) bytes) turns zone (8 * w.copied) bytes
    (target_far from w was.fixed is zone did.target)
    (λ r there now may.
    copy_puts_last from w was.fixed is zone did.target count bytes copy (base_at opening.zones) r
    (told_image from opening u was r there) now may)
    (λ r there now high. copied_at_pointer from w was.fixed is (base_at opening.zones) r now zone did.target high) call)

-- ONE THAT FAILED: the job is where it was, and the volume is stopped; what is in the copy buffer doesn't matter then
pub kept_copy_write_failed : (from to : PlainVolume) (w : Work) (zone count : ℕ) (bytes : List ℕ)
    (opening u x : View) → from.stopped ≡ None → IsKeptVolume from opening u → from.job ≡ Some w
    → w.target ≡ Some zone → WritesCopy from w count bytes → FailsCopyWrite from to → HasFailed u x
    → Turns (λ i. WriteStep i zone (8 * w.copied) bytes i) u x
    → Calls (λ r. WriteStep r zone (8 * w.copied) bytes) (λ r j. WriteLeaves r j zone (8 * w.copied) bytes) u x
    → IsKeptVolume to opening x
kept_copy_write_failed from to w zone count bytes opening u x runs was is target copy did failed turns call =
    subst (λ (v : PlainVolume). IsKeptVolume v opening x) (sym did.rest)
    (kept_copy from opening u x runs was from.division from.pointers from.standings from.job to.buffer false
    (fixed_buffer from was.fixed to.buffer (next_count from.since) (Some Why.Device) did.size)
    (λ no. absurd (let f : ⊥ = cc in f)) (λ _. failed) (λ i. WriteStep i zone (8 * w.copied) bytes i) turns zone
    (8 * w.copied) bytes (target_far from w was.fixed is zone target)
    (λ r there now may.
    copy_puts_last from w was.fixed is zone target count bytes copy (base_at opening.zones) r
    (told_image from opening u was r there) now may)
    (λ r there now high. copied_at_pointer from w was.fixed is (base_at opening.zones) r now zone target high) call)
