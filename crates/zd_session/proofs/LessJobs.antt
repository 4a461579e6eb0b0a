-- A job that begins, and each copy of it, lessens what is left of it; no job ends by that, and no commit gets longer.
use Rattle.std.proofs.Common.{◌≡◌, ◌≢◌, ◌⊎◌, inl, inr, ℕ, zero, suc, ◌+◌, ◌<◌, ◌≤◌, Bool, true, false, cond}
use Rattle.std.proofs.Common.{List, [], ◌∷◌, take, set, count_by, nat_eq, Option, Some, None, Result, Ok, Err}
use Rattle.std.proofs.Common.{refl, sym, ap, ap₂, ◌∙◌, subst}
use Rattle.std.proofs.Common.{arith}
use Rattle.std.proofs.lemmas.Bool.{eq-eqb, ne_eqb, or_cases, or_left, or_right}
use Rattle.std.proofs.lemmas.List.{take-set-le}
use Rattle.std.proofs.lemmas.Option.{none-some}
use Rattle.std.specs.List.{list_any}
use Rattle.zd_alloc.specs.Zones.{Division, TakesLeast, is_limbo, uses_of}
use Rattle.zd_alloc.specs.declared.uses.ZoneUse.{ZoneUse}
use Rattle.zd_alloc.specs.declared.uses.ZoneUse.TheVariants.{Held}
use Rattle.zd_base.specs.declared.geometry.Kind.TheVariants.{Conventional, Sequential}
use Rattle.zd_base.specs.declared.numbers.Why.{Why}
use Rattle.zd_base.specs.declared.steps.StepKind.{StepKind}
use Rattle.zd_base.specs.declared.steps.StepKind.TheVariants as kinds
use Rattle.zd_disk.specs.View.{View}
use Rattle.zd_model.specs.Tables.{entry_of}
use Rattle.zd_model.specs.declared.metadata.MapEntry.{MapEntry}
use Rattle.zd_progress.specs.Measures.{is_held_use, jobs_ever}
use Rattle.zd_volume.specs.Flights.{tables_now}
use Rattle.zd_volume.specs.Volumes.{IsFixed, PlainVolume}
use Rattle.zd_volume.specs.declared.work.Job.{Job}
use Rattle.zd_volume.specs.declared.work.JobKind.{JobKind}
use Rattle.zd_volume.specs.declared.work.JobKind.TheVariants.{Append, Empty, Merge, Move}
use Rattle.zd_volume.specs.declared.work.Work.{Work}
use Rattle.zd_jobs.specs.JobSteps.{BeginsBy, BeginsJob, BeginsWithReset, ReadsBlocks, WritesBlocksOn}
use Rattle.zd_jobs.specs.JobSteps.{WritesCopy}
use Rattle.zd_jobs.specs.NextSteps.{IsNextOf}
use Rattle.zd_jobs.proofs.WorkLaws.{job_of}
use Rattle.zd_reclaim.specs.Works.{WorksOn}
use Rattle.zd_session.specs.LoneStates.{commit_rest, copy_rest, stock_of, work_rest}
use Rattle.zd_session.proofs.LessCommits.{commit_no_more, jobs_same}

-- a step of a job that isn't its last
pub record IsWorked (v w : PlainVolume) : Type 0 where
  pub history : w.history ≡ v.history
  pub jobs : jobs_ever (stock_of w) ≡ jobs_ever (stock_of v)
  pub commit : commit_rest w ≤ commit_rest v
  pub copies : copy_rest w.geometry.zone_blocks w.job < copy_rest v.geometry.zone_blocks v.job

-- of the values of a volume these stay
record KeepsTables (v w : PlainVolume) : Type 0 where
  history : w.history ≡ v.history
  geometry : w.geometry ≡ v.geometry
  entries : (tables_now w).entries ≡ (tables_now v).entries
  dirty : w.dirty ≡ v.dirty
  phase : w.phase ≡ v.phase

-- THE ZONES: none is taken, or a free sequential one
abbrev Takes : Division → Division → Type 0
Takes d e = (e ≡ d) ⊎ ((z : ℕ) × TakesLeast Sequential d e z)

taken : (v : PlainVolume) (kind : JobKind) (e : MapEntry) (target : Option ℕ) (copied : ℕ) (d : Division)
    → BeginsBy v kind e target copied d → Takes v.division d
taken v Empty e target copied d begins = inl begins.2
taken v Move e target copied d begins = inr (begins.0, begins.3)
taken v Append e target copied d begins = inl begins.4
taken v Merge e target copied d begins = inl begins.2

taken_held : (d e : Division) → Takes d e → uses_of Conventional e ≡ uses_of Conventional d
taken_held d e (inl same) = ap (uses_of Conventional) same
taken_held d e (inr takes) =
    ap₂ (λ (n : ℕ) (zones : List ZoneUse). take n zones) takes.1.conv takes.1.zones
    ∙ take-set-le d.conv d.zones takes.0 Held takes.1.least.of_kind

limbo_before : (zones : List ZoneUse) (z : ℕ) → list_any is_limbo (set zones z Held) ≡ true
    → list_any is_limbo zones ≡ true
limbo_before [] z is = is
limbo_before (u ∷ zones) zero is = or_right (is_limbo u) (list_any is_limbo zones) is
limbo_before (u ∷ zones) (suc z) is = elim (or_cases (is_limbo u) (list_any is_limbo (set zones z Held)) is) [
  | inl here ↦ or_left (is_limbo u) (list_any is_limbo zones) here
  | inr later ↦ or_right (is_limbo u) (list_any is_limbo zones) (limbo_before zones z later)
]

taken_limbo : (d e : Division) → Takes d e → list_any is_limbo e.zones ≡ true → list_any is_limbo d.zones ≡ true
taken_limbo d e (inl same) is = subst (λ (x : Division). list_any is_limbo x.zones ≡ true) same is
taken_limbo d e (inr takes) is =
    limbo_before d.zones takes.0
    (subst (λ (zones : List ZoneUse). list_any is_limbo zones ≡ true) takes.1.zones is)

-- the reading step, where it isn't made yet
abbrev reading : ℕ → ℕ
reading read = cond (nat_eq read 0) 1 0

reading_left : (read : ℕ) → read ≡ 0 → reading read ≡ 1
reading_left read none = ap (λ (b : Bool). cond b 1 0) (eq-eqb read 0 none)

reading_made : (read : ℕ) → 0 < read → reading read ≡ 0
reading_made read some = ap (λ (b : Bool). cond b 1 0) (ne_eqb read 0 (λ none. omega (arith, none, some)))

reading_most : (read : ℕ) → reading read ≤ 1
reading_most read = by (nat_eq read 0)
  where
    by : (b : Bool) → cond b 1 0 ≤ 1
    by true = omega arith
    by false = omega arith

module _ (v w : PlainVolume) where
  worked : KeepsTables v w → Takes v.division w.division
      → copy_rest w.geometry.zone_blocks w.job < copy_rest v.geometry.zone_blocks v.job → IsWorked v w
  worked keeps takes less = record {
    history = keeps.history;
    jobs = jobs_same v w keeps.entries (ap (count_by is_held_use) (taken_held v.division w.division takes));
    commit = commit_no_more v w keeps.dirty keeps.phase (taken_limbo v.division w.division takes);
    copies = less;
  }

  -- A JOB BEGINS: no more than all copies are left of it
  fewer : (k : Work) → w.geometry ≡ v.geometry → v.job ≡ None → w.job ≡ Some k
      → copy_rest w.geometry.zone_blocks w.job < copy_rest v.geometry.zone_blocks v.job
  fewer k geometry none some =
      let zone : w.geometry.zone_blocks ≡ v.geometry.zone_blocks = ap (λ (g : _). g.zone_blocks) geometry in
      let now = ap (λ (job : Option Work). copy_rest w.geometry.zone_blocks job) some in
      let was = ap (λ (job : Option Work). copy_rest v.geometry.zone_blocks job) none in
      let most = reading_most k.read in
      omega (arith, zone, now, was, most)

  pub begins_worked : (job : Job) (k : Work) → v.job ≡ None → BeginsJob v w job k → IsWorked v w
  begins_worked job k none did =
      worked
      (record {
        history = ap (λ (x : PlainVolume). x.history) did.rest;
        geometry = ap (λ (x : PlainVolume). x.geometry) did.rest;
        entries = ap (λ (x : PlainVolume). (tables_now x).entries) did.rest;
        dirty = ap (λ (x : PlainVolume). x.dirty) did.rest;
        phase = ap (λ (x : PlainVolume). x.phase) did.rest;
      })
      (taken v job.kind (entry_of (tables_now v) job.chunk) k.target k.copied w.division did.begins)
      (fewer k (ap (λ (x : PlainVolume). x.geometry) did.rest) none (ap (λ (x : PlainVolume). x.job) did.rest))

  pub resets_worked : (job : Job) (k : Work) (zone : ℕ) → v.job ≡ None → BeginsWithReset v w job k zone → IsWorked v w
  resets_worked job k zone none did =
      worked
      (record {
        history = ap (λ (x : PlainVolume). x.history) did.rest;
        geometry = ap (λ (x : PlainVolume). x.geometry) did.rest;
        entries = ap (λ (x : PlainVolume). (tables_now x).entries) did.rest;
        dirty = ap (λ (x : PlainVolume). x.dirty) did.rest;
        phase = ap (λ (x : PlainVolume). x.phase) did.rest;
      })
      (inr (zone, did.takes))
      (fewer k (ap (λ (x : PlainVolume). x.geometry) did.rest) none (ap (λ (x : PlainVolume). x.job) did.rest))

  -- A COPY
  module _ (k : Work) (is : v.job ≡ Some k) where
    copied : (next : Work) → w.geometry ≡ v.geometry → w.job ≡ Some next
        → work_rest v.geometry.zone_blocks next < work_rest v.geometry.zone_blocks k
        → copy_rest w.geometry.zone_blocks w.job < copy_rest v.geometry.zone_blocks v.job
    copied next geometry some less =
        let zone = ap (λ (g : _). copy_rest g.zone_blocks w.job) geometry in
        let now = ap (λ (job : Option Work). copy_rest v.geometry.zone_blocks job) some in
        let was = ap (λ (job : Option Work). copy_rest v.geometry.zone_blocks job) is in
        omega (arith, zone, now, was, less)

    -- a run is read: then it is only to be written
    read_fewer : (at count : ℕ) → k.read ≡ 0 → k.copied ≤ at → 0 < count
        → work_rest v.geometry.zone_blocks (record k { copied = at; read = count }) < work_rest v.geometry.zone_blocks k
    read_fewer at count none later some =
        let now = reading_made count some in
        let was = reading_left k.read none in
        omega (arith, now, was, later)

    reads_worked : (at count : ℕ) (told : _) → IsNextOf v k kinds.CopyRead → ReadsBlocks v w k at count told
        → IsWorked v w
    reads_worked at count told next did =
        worked
        (record {
          history = ap (λ (x : PlainVolume). x.history) did.rest;
          geometry = ap (λ (x : PlainVolume). x.geometry) did.rest;
          entries = ap (λ (x : PlainVolume). (tables_now x).entries) did.rest;
          dirty = ap (λ (x : PlainVolume). x.dirty) did.rest;
          phase = ap (λ (x : PlainVolume). x.phase) did.rest;
        })
        (inl (ap (λ (x : PlainVolume). x.division) did.rest))
        (copied (record k { copied = at; read = count }) (ap (λ (x : PlainVolume). x.geometry) did.rest)
        (ap (λ (x : PlainVolume). x.job) did.rest) (read_fewer at count (unread next) did.run.later did.run.some))
      where
        unread : IsNextOf v k kinds.CopyRead → k.read ≡ 0
        unread (inl writes) = absurd (let same = writes.1 in cc)
        unread (inr (inl ends)) = ends.0
        unread (inr (inr reads)) = reads.0

    -- blocks are written
    write_fewer : IsFixed v → (count : ℕ) (bytes : List ℕ) → WritesCopy v k count bytes
        → work_rest v.geometry.zone_blocks (record k { copied = k.copied + count; read = 0 })
        < work_rest v.geometry.zone_blocks k
    write_fewer fixed count bytes (inl read) =
        let some = read.0 in
        let all = read.1 in
        let inside = (job_of v k fixed is).inside in
        let was = reading_made k.read some in
        omega (arith, some, all, inside, was)
    write_fewer fixed count bytes (inr gap) =
        let at : ℕ = gap.1.0 in
        let few = gap.1.2.inside in
        let some = gap.1.2.some in
        let later = gap.1.3.3 in
        let all = gap.1.4 in
        let was = reading_left k.read gap.0 in
        omega (arith, few, some, later, all, was)

    writes_worked : IsFixed v → (zone count : ℕ) (bytes : List ℕ) → WritesCopy v k count bytes
        → WritesBlocksOn v w k zone count → IsWorked v w
    writes_worked fixed zone count bytes copy did =
        worked
        (record {
          history = ap (λ (x : PlainVolume). x.history) did.rest;
          geometry = ap (λ (x : PlainVolume). x.geometry) did.rest;
          entries = ap (λ (x : PlainVolume). (tables_now x).entries) did.rest;
          dirty = ap (λ (x : PlainVolume). x.dirty) did.rest;
          phase = ap (λ (x : PlainVolume). x.phase) did.rest;
        })
        (inl (ap (λ (x : PlainVolume). x.division) did.rest))
        (copied (record k { copied = k.copied + count; read = 0 }) (ap (λ (x : PlainVolume). x.geometry) did.rest)
        (ap (λ (x : PlainVolume). x.job) did.rest) (write_fewer fixed count bytes copy))

    -- A STEP OF A JOB that isn't its last, and doesn't stop the volume
    pub copy_worked : (kind : StepKind) (result : Result StepKind Why) (u x : View) → IsFixed v → w.stopped ≡ None
        → kind ≢ kinds.Remap → IsNextOf v k kind → WorksOn kind v w k result u x → IsWorked v w
    copy_worked kinds.CopyRead (Ok did) u x fixed goes other next step =
        reads_worked step.ok.0 step.ok.1 u.zones next step.ok.2
    copy_worked kinds.CopyRead (Err why) u x fixed goes other next step =
        absurd (none-some Why.Device (sym goes ∙ ap (λ (y : PlainVolume). y.stopped) step.err.rest))
    copy_worked kinds.CopyWrite (Ok did) u x fixed goes other next step =
        writes_worked fixed step.zone step.count step.bytes step.copy step.ok
    copy_worked kinds.CopyWrite (Err why) u x fixed goes other next step =
        absurd (none-some Why.Device (sym goes ∙ ap (λ (y : PlainVolume). y.stopped) step.err.rest))
    copy_worked kinds.Remap result u x fixed goes other next step = absurd (other refl)
    copy_worked kind result u x fixed goes other next step = absurd step
