-- What a step of a job does: it copies, ends the job, or the disk failed.
use Rattle.std.proofs.Common.{◌≡◌, ◌≢◌, inl, inr, ℕ, ◌+◌, ◌-◌, ◌≤◌, Bool, true, false, cond, nat_lt, List, set, Option, Some, None, Result, Ok, Err, refl, sym, ap, ◌∙◌, subst, arith}
use Rattle.std.specs.Prelude.{slice_index}
use Rattle.std.proofs.lemmas.List.{get_or-set_other}
use Rattle.std.proofs.lemmas.Option.{none-some}
use Rattle.zd_base.specs.Geometry.{Shape}
use Rattle.zd_base.specs.declared.numbers.Why.{Why}
use Rattle.zd_base.specs.declared.numbers.Why.TheVariants.{Device}
use Rattle.zd_base.specs.declared.steps.StepKind.{StepKind}
use Rattle.zd_base.specs.declared.steps.StepKind.TheVariants as kinds
use Rattle.zd_disk.specs.Told.{next_count}
use Rattle.zd_disk.specs.View.{View}
use Rattle.zd_model.specs.Tables.{NamesZone, entry_of}
use Rattle.zd_model.specs.declared.metadata.MapEntry.{MapEntry}
use Rattle.zd_routes.specs.Routes.{pointers_with}
use Rattle.zd_volume.specs.Flights.{tables_now}
use Rattle.zd_volume.specs.Jobs.{FitsEntry, HasTarget, IsJob, IsJobOrNone}
use Rattle.zd_volume.specs.Sets.{new_tables, old_tables}
use Rattle.zd_volume.specs.Volumes.{IsFixed, PlainVolume, sets_of}
use Rattle.zd_volume.specs.declared.work.JobKind.{JobKind}
use Rattle.zd_volume.specs.declared.work.JobKind.TheVariants.{Append, Empty, Merge, Move}
use Rattle.zd_volume.specs.declared.work.Work.{Work}
use Rattle.zd_jobs.specs.JobSteps.{ReadsBlocks, WritesBlocksOn, WritesCopy}
use Rattle.zd_jobs.specs.Remaps.{RemapsChunk}
use Rattle.zd_reclaim.specs.Works.{WorksOn}
use Rattle.zd_session.proofs.PaceSteps.{count_least, count_most}

-- so many blocks of the target aren't written
abbrev pub blocks_to_copy : PlainVolume → Work → ℕ
blocks_to_copy v w = v.geometry.zone_blocks - w.copied

-- A COPY was read or written: no table has changed, and no pointer that a write without a buffer looks at
pub record CopiedOne (v w : PlainVolume) (work next : Work) : Type 0 where
  pub job : next.job ≡ work.job
  pub target : next.target ≡ work.target
  pub alone : (c z : ℕ) → (entry_of (tables_now v) c).zone ≡ Some z → (entry_of (tables_now v) c).buffer ≡ None
      → slice_index w.pointers z ≡ slice_index v.pointers z
  pub later : v.since ≤ w.since
  pub calls : w.since + blocks_to_copy v next ≤ v.since + blocks_to_copy v work
  pub rest : w ≡ record v {
    job = Some next;
    pointers = w.pointers;
    standings = w.standings;
    buffer = w.buffer;
    since = w.since;
  }

-- WHAT A STEP OF A JOB DOES
pub data WorkDid (v w : PlainVolume) (work : Work) : Type 0 where
  copied : (next : Work) → CopiedOne v w work next → WorkDid v w work
  ended : RemapsChunk v w work → WorkDid v w work
  failed : w.stopped ≡ Some Device → w.history ≡ v.history → WorkDid v w work

module _ (v w : PlainVolume) (fixed : IsFixed v) (work : Work) (under_way : v.job ≡ Some work) where
  pub is_job : IsJob (sets_of v) v.pointers work
  is_job = subst (λ (o : Option Work). IsJobOrNone (sets_of v) v.pointers o) under_way fixed.job

  abbrev own : MapEntry
  own = entry_of (tables_now v) work.job.chunk

  -- the zone of a chunk without a buffer isn't the target
  target_apart : (c z : ℕ) → (entry_of (tables_now v) c).zone ≡ Some z → (entry_of (tables_now v) c).buffer ≡ None
      → work.target ≡ Some z → ⊥
  target_apart c z zone none target = by work.job.kind is_job.entry is_job.target
    where
      same_chunk : NamesZone own z → c ≡ work.job.chunk
      same_chunk names = fixed.sets.new_rules.map.named_once c work.job.chunk z (inl zone) names

      own_none : c ≡ work.job.chunk → own.buffer ≡ None
      own_none same = ap (λ (i : ℕ). (entry_of (tables_now v) i).buffer) (sym same) ∙ none

      by : (kind : JobKind) → FitsEntry v.geometry kind own
          → HasTarget v.geometry (old_tables (sets_of v)) (new_tables (sets_of v)) kind own work.target → ⊥
      by Empty fits has = none-some z (sym has ∙ target)
      by Move fits has =
          has.5 (c, inl (zone ∙ sym target ∙ has.1))
      by Append fits has = fits.1 (own_none (same_chunk (inl (sym has ∙ target))))
      by Merge fits has = fits.1 (own_none (same_chunk (inr (sym has ∙ target))))

  -- so the pointer of such a zone stays
  beside_target : (g : Shape) (pointers : List ℕ) (zone z end : ℕ) → z ≢ zone
      → slice_index (pointers_with g pointers zone end) z ≡ slice_index pointers z
  beside_target g pointers zone z end off = by (nat_lt zone g.conv)
    where
      by : (b : Bool) → slice_index (cond b pointers (set pointers zone end)) z ≡ slice_index pointers z
      by true = refl
      by false = get_or-set_other pointers zone z end 0 off

  -- A READ of the next run
  read_one : (at count : ℕ) → (told : Option _) → ReadsBlocks v w work at count told
      → CopiedOne v w work (record work { copied = at; read = count })
  read_one at count told did =
      let pointers = ap (λ (x : PlainVolume). x.pointers) did.rest in
      let standings = ap (λ (x : PlainVolume). x.standings) did.rest in
      let since : w.since ≡ v.since = ap (λ (x : PlainVolume). x.since) did.rest in
      let later = did.run.later in
      record {
        job = refl;
        target = refl;
        alone = λ c z zone none. ap (λ (ps : List ℕ). slice_index ps z) pointers;
        later = omega (arith, since);
        calls = omega (arith, since, later);
        rest = did.rest
            ∙ ap (λ (x : PlainVolume). record v {
              job = Some (record work { copied = at; read = count });
              pointers = x.pointers;
              standings = x.standings;
              buffer = w.buffer;
              since = x.since;
            }) (sym did.rest);
      }

  -- some blocks are written, and there is room for one at least
  some_written : (count : ℕ) (bytes : List ℕ) → WritesCopy v work count bytes
      → (1 ≤ count) × (work.copied + 1 ≤ v.geometry.zone_blocks)
  some_written count bytes (inl (some, is, bytes_are)) =
      let inside = is_job.inside in (omega (arith, some, is), omega (arith, some, inside))
  some_written count bytes (inr (none, (at, run, next, gap, is, bytes_are))) =
      let low = gap.3 in
      let inside = next.inside in
      (omega (arith, is, low), omega (arith, inside, low))

  -- A WRITE of blocks into the target
  write_one : (zone count : ℕ) (bytes : List ℕ) → WritesCopy v work count bytes → WritesBlocksOn v w work zone count
      → CopiedOne v w work (record work { copied = work.copied + count; read = 0 })
  write_one zone count bytes copy did =
      let some = some_written count bytes copy in
      let first = some.0 in
      let room = some.1 in
      let since : w.since ≡ next_count v.since = ap (λ (x : PlainVolume). x.since) did.rest in
      record {
        job = refl;
        target = refl;
        alone = λ c z alone none.
            ap (λ (x : PlainVolume). slice_index x.pointers z) did.rest
            ∙ beside_target v.geometry v.pointers zone z (work.copied + count) (λ same.
            target_apart c z alone none (did.target ∙ ap (λ (y : ℕ). Some y) (sym same)));
        later = omega (arith, since, count_least v.since);
        calls = omega (arith, since, count_most v.since, first, room);
        rest = did.rest
            ∙ ap (λ (x : PlainVolume). record v {
              job = Some (record work { copied = work.copied + count; read = 0 });
              pointers = x.pointers;
              standings = x.standings;
              buffer = w.buffer;
              since = x.since;
            }) (sym did.rest);
      }

  pub work_did : (kind : StepKind) (result : Result StepKind Why) (u x : View) → WorksOn kind v w work result u x
      → WorkDid v w work
  work_did kinds.CopyRead (Ok k) u x did =
      copied (record work { copied = did.ok.0; read = did.ok.1 }) (read_one did.ok.0 did.ok.1 u.zones did.ok.2)
  work_did kinds.CopyRead (Err why) u x did =
      failed (ap (λ (y : PlainVolume). y.stopped) did.err.rest) (ap (λ (y : PlainVolume). y.history) did.err.rest)
  work_did kinds.CopyWrite (Ok k) u x did =
      copied (record work { copied = work.copied + did.count; read = 0 })
      (write_one did.zone did.count did.bytes did.copy did.ok)
  work_did kinds.CopyWrite (Err why) u x did =
      failed (ap (λ (y : PlainVolume). y.stopped) did.err.rest) (ap (λ (y : PlainVolume). y.history) did.err.rest)
  work_did kinds.Remap result u x did = ended did.1
  work_did kind result u x did = absurd did
