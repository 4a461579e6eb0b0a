-- A JOB THAT BEGINS KEEPS A VOLUME, where its target needs no reset. It makes no call.
use Rattle.std.proofs.Common.{◌≡◌, ℕ, ◌%◌, ◌<◌, ◌≤◌, List, set, Some, None, inl, inr}
use Rattle.std.proofs.Common.{get_or-set_other, refl, sym, ap, ◌∙◌, subst, arith}
use Rattle.std.proofs.lemmas.Bool.{cases_eq, false≢true}
use Rattle.std.specs.Prelude.{IsTrue}
use Rattle.zd_base.specs.Geometry.{Shape}
use Rattle.zd_alloc.specs.Zones.{Division}
use Rattle.zd_alloc.specs.declared.uses.ZoneUse.{ZoneUse}
use Rattle.zd_alloc.specs.declared.uses.ZoneUse.TheVariants.{Held, Meta}
use Rattle.zd_model.specs.History.{HistoryEntry}
use Rattle.zd_model.specs.Image.{Image}
use Rattle.zd_model.specs.Safe.{base_at}
use Rattle.zd_model.specs.Tables.{entry_of, is_valid}
use Rattle.zd_model.proofs.FaultLaws.{none_some}
use Rattle.zd_disk.specs.View.{View}
use Rattle.zd_volume.specs.Flights.{tables_now}
use Rattle.zd_volume.specs.Jobs.{AreCopied, source_of}
use Rattle.zd_volume.specs.Volumes.{IsFixed, IsKeptVolume, IsNow, IsWhole, PlainVolume, sets_of}
use Rattle.zd_volume.specs.declared.work.Job.{Job}
use Rattle.zd_volume.specs.declared.work.JobKind.{JobKind}
use Rattle.zd_volume.specs.declared.work.JobKind.TheVariants.{Empty, Move, Append, Merge}
use Rattle.zd_volume.specs.declared.work.Work.{Work}
use Rattle.zd_volume.proofs.Still.{kept_still, only_nothing}
use Rattle.zd_jobs.specs.JobSteps.{BeginsBy, BeginsJob, NeedsReset}
use Rattle.zd_jobs.specs.Possible.{IsPossible}
use Rattle.zd_jobs.proofs.FixedBegins.{begun_inside, fixed_begins, pointer_begun}
use Rattle.zd_jobs.proofs.PossibleJobs.{append_bare}

-- a zone is taken whose pointer stands at a block's end
pub whole_taken : (g : Shape) (uses : List ZoneUse) (zone : ℕ) (i : Image) → i.held zone % 8 ≡ 0 → IsWhole g uses i
    → IsWhole g (set uses zone Held) i
whole_taken g uses zone i ends whole = record {
  at = λ z seq held. elim (cases_eq z zone) [
    | inl here ↦ ap (λ (y : ℕ). i.held y % 8) here ∙ ends
    | inr off ↦ whole.at z seq (sym (get_or-set_other uses zone z Held Meta off) ∙ held)
  ];
}

-- NOTHING IS COPIED YET: an Append's buffer has no valid block below where it begins
pub copies_begun : (v : PlainVolume) (w : Work) (d : Division) → IsFixed v → IsPossible v w.job.chunk w.job.kind
    → w.read ≡ 0
    → BeginsBy v w.job.kind (entry_of (tables_now v) w.job.chunk) w.target w.copied d
    → (base : List (List ℕ)) (history : List HistoryEntry) (i : Image)
    → AreCopied (sets_of v) v.buffer w base history i
copies_begun v w d fixed possible read begins base history i = record {
  copied = λ y z x j from to low valid few. absurd (by w.job.kind refl begins y x from low valid);
  read = λ x j low high few. absurd (let f : ⊥ = omega (arith, low, high, read) in f);
}
  where
    by : (kind : JobKind) → w.job.kind ≡ kind
        → BeginsBy v kind (entry_of (tables_now v) w.job.chunk) w.target w.copied d → (y x : ℕ)
        → source_of kind (entry_of (tables_now v) w.job.chunk) ≡ Some y → x < w.copied
        → IsTrue (is_valid (tables_now v) y x) → ⊥
    by Empty is b y x from low valid = none_some y from
    by Move is b y x from low valid = (let none = b.2 in omega (arith, low, none))
    by Append is b y x from low valid =
        let start = b.3 in
        let inside = begun_inside v w d fixed possible begins in
        false≢true (sym (append_bare v w.job.chunk w.job.kind possible b.0 y x is b.1 from
        (omega (arith, low, inside)) (omega (arith, low, start))) ∙ valid)
    by Merge is b y x from low valid = (let none = b.1 in omega (arith, low, none))

module _ (v : PlainVolume) (w : Work) (d : Division) (fixed : IsFixed v) (free : v.job ≡ None)
    (possible : IsPossible v w.job.chunk w.job.kind) (read : w.read ≡ 0)
    (begins : BeginsBy v w.job.kind (entry_of (tables_now v) w.job.chunk) w.target w.copied d)
    (bare : NeedsReset v w.job.kind w.target → ⊥) (base : List (List ℕ)) (r : Image) (now : IsNow v base r) where
  -- a zone that a Move takes holds no sector
  whole_begun : IsWhole v.geometry d.zones r
  whole_begun = by w.job.kind refl begins
    where
      by : (kind : JobKind) → w.job.kind ≡ kind
          → BeginsBy v kind (entry_of (tables_now v) w.job.chunk) w.target w.copied d
          → IsWhole v.geometry d.zones r
      by Empty is b = subst (λ (e : Division). IsWhole v.geometry e.zones r) (sym b.2) now.whole
      by Move is b =
          let count = fixed.uses.count in
          let conv = fixed.uses.conv in
          let least = b.3.least.inside in
          let high : v.division.conv ≤ b.0 = b.3.least.of_kind in
          let seq : v.geometry.conv ≤ b.0 = omega (arith, high, conv) in
          let start = pointer_begun v w d fixed free possible read begins bare b.0 b.1 seq in
          let stands = now.pointers.at b.0 seq (omega (arith, least, count)) in
          let none = b.2 in
          subst (λ (uses : List ZoneUse). IsWhole v.geometry uses r) (sym b.3.zones)
          (whole_taken v.geometry v.division.zones b.0 r (omega (arith, start, stands, none)) now.whole)
      by Append is b = subst (λ (e : Division). IsWhole v.geometry e.zones r) (sym b.4) now.whole
      by Merge is b = subst (λ (e : Division). IsWhole v.geometry e.zones r) (sym b.2) now.whole

-- THE VOLUME IS KEPT, where the job is that of its work
kept_begun : (from to : PlainVolume) (w : Work) (opening now : View) → IsKeptVolume from opening now
    → from.job ≡ None → IsPossible from w.job.chunk w.job.kind → BeginsJob from to w.job w
    → IsKeptVolume to opening now
kept_begun from to w opening now was free possible did =
    subst (λ (v : PlainVolume). IsKeptVolume v opening now) (sym did.rest)
    (kept_still from (record from { division = to.division; job = Some w }) opening now now
    (record { geometry = refl; head = refl; since = refl; opening = refl; runs = λ r. r }) (only_nothing now) was
    (record {
      fixed = subst IsFixed did.rest (fixed_begins from to w was.fixed free possible did);
      by_now = was.counted.by_now;
      faulted = was.faulted;
      calm = was.calm;
      legal = λ r t l. l;
      more = λ k n y m. m;
      reads = λ _ r t is_now. record {
        read = is_now.read;
        pointers = is_now.pointers;
        whole = whole_begun from w to.division was.fixed free possible did.read did.begins did.bare
            (base_at opening.zones) r is_now;
        copies = copies_begun from w to.division was.fixed possible did.read did.begins (base_at opening.zones)
            from.history r;
      };
      stops = λ _ r c t may. may;
    }))

pub kept_begins : (from to : PlainVolume) (job : Job) (w : Work) (opening now : View) → IsKeptVolume from opening now
    → from.job ≡ None → IsPossible from job.chunk job.kind → BeginsJob from to job w → IsKeptVolume to opening now
kept_begins from to job w opening now was free possible did =
    kept_begun from to w opening now was free
    (subst (λ (j : Job). IsPossible from j.chunk j.kind) (sym did.job_is) possible)
    (subst (λ (j : Job). BeginsJob from to j w) (sym did.job_is) did)
