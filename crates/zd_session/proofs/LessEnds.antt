-- THE LAST STEP OF A JOB is the end of a job as the measure sees it: fewer may ever end.
use Rattle.std.proofs.Common.{◌≡◌, inl, inr, ℕ, ◌-◌, ◌<◌, false, List, length, get_or, set, Option, Some, None}
use Rattle.std.proofs.Common.{refl, sym}
use Rattle.std.proofs.Common.{ap, ◌∙◌, subst, arith}
use Rattle.std.proofs.lemmas.Bool.{cases_eq}
use Rattle.std.proofs.lemmas.List.{get_or-set_other, get_or-set_same, get_or_default, length-set, same_lists}
use Rattle.zd_model.specs.Tables.{entry_of}
use Rattle.zd_model.specs.declared.metadata.MapEntry.{MapEntry}
use Rattle.zd_model.proofs.FaultLaws.{some_is}
use Rattle.zd_progress.specs.Measures.{EndsJob, jobs_ever}
use Rattle.zd_progress.specs.Stocks.{IsJobEnd}
use Rattle.zd_progress.specs.Stocks.IsJobEnd.{appends, empties, merges, moves}
use Rattle.zd_progress.proofs.JobEnds.{fewer_jobs}
use Rattle.zd_tables.proofs.TableLaws.{length-entries}
use Rattle.zd_volume.specs.Flights.{tables_now}
use Rattle.zd_volume.specs.Jobs.{FitsEntry, HasTarget, IsJob}
use Rattle.zd_volume.specs.Sets.{old_tables}
use Rattle.zd_volume.specs.Volumes.{IsFixed, PlainVolume, sets_of}
use Rattle.zd_volume.specs.declared.work.JobKind.{JobKind}
use Rattle.zd_volume.specs.declared.work.JobKind.TheVariants.{Append, Empty, Merge, Move}
use Rattle.zd_volume.specs.declared.work.Work.{Work}
use Rattle.zd_jobs.specs.Remaps.{RemapsChunk, leaving}
use Rattle.zd_jobs.proofs.EndZones.{leaving_named, leaving_there, there_is}
use Rattle.zd_jobs.proofs.FixedRemaps.{given_inside, zones_given}
use Rattle.zd_jobs.proofs.WorkLaws.{job_of}
use Rattle.zd_session.specs.LoneStates.{job_ahead, stock_of, zone_or_zero}

module _ (v w : PlainVolume) (k : Work) (fixed : IsFixed v) (is : v.job ≡ Some k) (did : RemapsChunk v w k) where
  abbrev entries : List MapEntry
  entries = (tables_now v).entries

  abbrev e : MapEntry
  e = entry_of (tables_now v) k.job.chunk

  abbrev result : MapEntry
  result = record { zone = k.target; buffer = None }

  abbrev nothing : MapEntry
  nothing = record { zone = None; buffer = None }

  job : IsJob (sets_of v) v.pointers k
  job = job_of v k fixed is

  inside : k.job.chunk < length (tables_now v).entries
  inside =
      let low = job.chunk in
      let count = length-entries v.geometry v.head.layout v.fresh in
      omega (arith, low, count)

  -- THE ENTRIES: that of its chunk is another one
  entry_then : (c : ℕ) → entry_of (tables_now w) c ≡ entry_of (tables_now (record v { fresh = w.fresh })) c
  entry_then c = ap (λ (x : PlainVolume). entry_of (tables_now x) c) did.rest

  entry_set : (c : ℕ) → entry_of (tables_now w) c
      ≡ get_or (set (tables_now v).entries k.job.chunk (record { zone = k.target; buffer = None })) c
      (record { zone = None; buffer = None })
  entry_set c = elim (cases_eq c k.job.chunk) [
    | inl here ↦
        entry_then c ∙ ap (entry_of (tables_now (record v { fresh = w.fresh }))) here ∙ did.here
        ∙ sym (get_or-set_same entries k.job.chunk result nothing inside)
        ∙ ap (λ (n : ℕ). get_or (set entries k.job.chunk result) n nothing) (sym here)
    | inr off ↦
        entry_then c ∙ did.others c off ∙ sym (get_or-set_other entries k.job.chunk c result nothing off)
  ]

  sizes : length (tables_now w).entries
      ≡ length (set (tables_now v).entries k.job.chunk (record { zone = k.target; buffer = None }))
  sizes =
      ap (λ (x : PlainVolume). length (tables_now x).entries) did.rest
      ∙ length-entries v.geometry v.head.layout w.fresh
      ∙ sym (length-entries v.geometry v.head.layout v.fresh)
      ∙ sym (length-set entries k.job.chunk result)

  entries_set : (tables_now w).entries
      ≡ set (tables_now v).entries k.job.chunk (record { zone = k.target; buffer = None })
  entries_set =
      same_lists (tables_now w).entries (set entries k.job.chunk result) sizes (λ c d low.
      get_or_default (tables_now w).entries c d nothing low
      ∙ entry_set c
      ∙ sym (get_or_default (set entries k.job.chunk result) c d nothing (omega (arith, low, sizes))))

  -- WHAT ENDS, by its kind
  module _ (y : ℕ) (gives : leaving k.job.kind (entry_of (tables_now v) k.job.chunk) ≡ Some y) where
    ends_by : IsJobEnd v.division.conv y (entry_of (tables_now v) k.job.chunk)
        (record { zone = k.target; buffer = None })
    ends_by = by k.job.kind job.entry job.target gives
      where
        conv : v.division.conv ≡ v.geometry.conv
        conv = fixed.uses.conv

        by : (kind : JobKind) → FitsEntry v.geometry kind (entry_of (tables_now v) k.job.chunk)
            → HasTarget v.geometry (old_tables (sets_of v)) (tables_now v) kind (entry_of (tables_now v) k.job.chunk)
            k.target → leaving kind (entry_of (tables_now v) k.job.chunk) ≡ Some y
            → IsJobEnd v.division.conv y (entry_of (tables_now v) k.job.chunk)
            (record { zone = k.target; buffer = None })
        by Empty fits has gives =
            empties gives (ap (λ (o : Option ℕ). record { zone = o; buffer = None }) has)
        by Move fits has gives =
            let low = fits.0.2 in
            let same : y ≡ fits.0.0 = some_is y fits.0.0 (sym gives ∙ fits.0.1) in
            moves (let c = conv in omega (arith, low, same, c)) gives refl
        by Append fits has gives =
            let low = (fixed.sets.new_rules.map.buffers k.job.chunk y gives).0 in
            appends (let c = conv in omega (arith, low, c)) gives
            (ap (λ (o : Option ℕ). record { zone = o; buffer = None }) has)
        by Merge fits has gives =
            let b = there_is (entry_of (tables_now v) k.job.chunk).buffer fits.1 in
            merges b.0 gives b.1 (ap (λ (o : Option ℕ). record { zone = o; buffer = None }) (has ∙ b.1))

    ends_with : EndsJob (record {
      chunk = k.job.chunk;
      source = y;
      result = record { zone = k.target; buffer = None };
      calls = v.geometry.zone_blocks - k.copied;
    }) (stock_of v) (stock_of w)
    ends_with = record {
      inside = inside;
      zone_inside = given_inside v w k fixed is did y gives;
      kinds = (let conv = fixed.uses.conv in let count = fixed.uses.count in omega (arith, conv, count));
      held = fixed.uses.named y (k.job.chunk, leaving_named k.job.kind e y gives);
      entry = ends_by;
      by_commit = get_or v.named y false;
      entries = entries_set;
      conv = did.conv;
      zones = zones_given v w k fixed is did y gives;
    }

    ends_at : EndsJob (job_ahead v k) (stock_of v) (stock_of w)
    ends_at =
        subst (λ (n : ℕ). EndsJob (record {
          chunk = k.job.chunk;
          source = n;
          result = record { zone = k.target; buffer = None };
          calls = v.geometry.zone_blocks - k.copied;
        }) (stock_of v) (stock_of w)) (sym (ap zone_or_zero gives)) ends_with

  -- A JOB ENDS
  pub remap_ends : EndsJob (job_ahead v k) (stock_of v) (stock_of w)
  remap_ends = (let left = leaving_there (sets_of v) fixed.sets v.pointers k job in ends_at left.0 left.1)

  pub remap_jobs : jobs_ever (stock_of w) < jobs_ever (stock_of v)
  remap_jobs = fewer_jobs (job_ahead v k) (stock_of v) (stock_of w) remap_ends
