-- A call of a commit: no more is to come than before.
use Rattle.std.proofs.Common.{◌≡◌, ◌⊎◌, inl, inr, ℕ, ◌+◌, ◌<◌, ◌≤◌, Bool, true, false, cond, ◌&&◌, nat_lt, nat_eq}
use Rattle.std.proofs.Common.{List, Option, None, refl, ap, ap₂, ◌∙◌, arith}
use Rattle.std.proofs.lemmas.Bool.{cases_eq, cases_lt, lt-ltb, le-ltb, eq-eqb, ne_eqb}
use Rattle.zd_base.specs.declared.geometry.Kind.TheVariants.{Conventional, Sequential}
use Rattle.zd_model.specs.declared.metadata.MapEntry.{MapEntry}
use Rattle.zd_progress.specs.LoneRuns.{JobAhead, LoneRun, IsAlone, calls_ahead, calls_to_come, calls_of_commit}
use Rattle.zd_progress.specs.LoneRuns.{commits_ahead}
use Rattle.zd_progress.specs.LoneRuns.{commits_now, commits_to_come, jobs_ahead, jobs_needed, jobs_to_come}
use Rattle.zd_progress.specs.LoneSteps.{CommitsOn, IsCommitNeeded, SpendsNoMore}
use Rattle.zd_progress.specs.LoneSteps.IsCommitNeeded.{flush, zone}
use Rattle.zd_progress.specs.Stocks.{Stock, free_of, in_limbo, limbo_of, on_count}
use Rattle.zd_progress.proofs.Bounds.{times_more}
use Rattle.zd_progress.proofs.Counts.{ended, free_when_ended, limbo_when_ended}

-- what is still needed depends on these numbers alone
abbrev needed_by : ℕ → ℕ → ℕ → ℕ
needed_by low on high = cond (nat_lt 0 low) 0 (cond (nat_lt 0 on && nat_lt 0 high) 1 2)

same_needed : (s t : Stock) → t.division.conv ≡ s.division.conv → t.entries ≡ s.entries
    → free_of Conventional t + limbo_of Conventional t ≡ free_of Conventional s + limbo_of Conventional s
    → free_of Sequential t + limbo_of Sequential t ≡ free_of Sequential s + limbo_of Sequential s
    → jobs_needed t ≡ jobs_needed s
same_needed s t conv entries low high =
    ap₂ (λ (a b : ℕ). needed_by a (on_count t.division.conv t.entries) b) low high
    ∙ ap₂ (λ (n : ℕ) (es : List MapEntry).
    needed_by (free_of Conventional s + limbo_of Conventional s) (on_count n es)
    (free_of Sequential s + limbo_of Sequential s)) conv entries

-- the end of limbo
abbrev after : Stock → Stock
after s = record s { division = ended s.division }

needed_after : (s : Stock) → jobs_needed (after s) ≡ jobs_needed s
needed_after s = same_needed s (after s) refl refl
    (omega (arith, free_when_ended Conventional s.division, limbo_when_ended Conventional s.division))
    (omega (arith, free_when_ended Sequential s.division, limbo_when_ended Sequential s.division))

limbo_after : (s : Stock) → in_limbo (after s) ≡ 0
limbo_after s =
    omega (arith, limbo_when_ended Conventional s.division, limbo_when_ended Sequential s.division)

-- whether a commit comes at once
pub now_none : (k : ℕ) (s : Stock) → in_limbo s ≡ 0 → commits_now k s ≡ 0
now_none k s none = elim (cases_eq k 0) [
  | inl e ↦ rw (eq-eqb k 0 e, le-ltb 0 (in_limbo s) (omega (arith, none))) refl
  | inr ne ↦ rw (ne_eqb k 0 ne) refl
]

now_later : (k : ℕ) (s : Stock) → 0 < k → commits_now k s ≡ 0
now_later k s some = rw (ne_eqb k 0 (λ e. omega (arith, some, e))) refl

pub now_one : (k : ℕ) (s : Stock) → k ≡ 0 → 0 < in_limbo s → commits_now k s ≡ 1
now_one k s e some = rw (eq-eqb k 0 e, lt-ltb 0 (in_limbo s) some) refl

abbrev begun : ℕ → ℕ
begun k = cond (nat_eq k 0) 1 0

-- from k calls that are to come, over s, to l, over t
module _ (j c d k l : ℕ) (s t : Stock) (few : calls_of_commit d ≤ c)
    (left : l + 1 ≡ cond (nat_eq k 0) (calls_of_commit d) k) (under : 0 < l → t ≡ s)
    (at_end : l ≡ 0 → t ≡ after s) where
  record IsSpent (ready waits : Bool) : Type 0 where
    jobs : jobs_ahead ready waits None t ≤ jobs_ahead false waits None s
    commits : begun k + commits_ahead ready waits None l t ≤ commits_ahead false waits None k s
    calls : 1 + calls_ahead j c ready waits None l t ≤ calls_ahead j c false waits None k s

  first_call : k ≡ 0 → (l + 1 ≤ c) × (begun k ≡ 1)
  first_call e = (
    (let n : l + 1 ≡ calls_of_commit d = left ∙ rw (eq-eqb k 0 e) refl in omega (arith, n, few)),
    rw (eq-eqb k 0 e) refl,
  )

  later_call : (k ≡ 0 → ⊥) → (l + 1 ≡ k) × (begun k ≡ 0)
  later_call ne = (left ∙ rw (ne_eqb k 0 ne) refl, rw (ne_eqb k 0 ne) refl)

  same : jobs_needed t ≡ jobs_needed s
  same = elim (cases_lt 0 l) [
    | inl going ↦ ap jobs_needed (under going)
    | inr done ↦ ap jobs_needed (at_end (omega (arith, done))) ∙ needed_after s
  ]

  none_now : commits_now l t ≡ 0
  none_now = elim (cases_lt 0 l) [
    | inl going ↦ now_later l t going
    | inr done ↦ now_none l t (ap in_limbo (at_end (omega (arith, done))) ∙ limbo_after s)
  ]

  spent : (ready waits : Bool) → (k ≡ 0 → (waits ≡ true) ⊎ (0 < in_limbo s)) → (waits ≡ true → 0 < l)
      → IsSpent ready waits
  spent true true due goes_on = elim (cases_eq k 0) [
    | inl e ↦
        let f = first_call e in
        record { jobs = omega arith; commits = omega arith; calls = rw f.1 (omega (arith, f.0)) }
    | inr ne ↦
        let f = later_call ne in
        record { jobs = omega arith; commits = omega arith; calls = rw f.1 (omega (arith, f.0)) }
  ]
  spent true false due goes_on = elim (cases_eq k 0) [
    | inl e ↦
        let f = first_call e in
        let limbo : 0 < in_limbo s = elim (due e) [ inl bad ↦ absurd (let g : ⊥ = cc in g) | inr n ↦ n ] in
        let one = now_one k s e limbo in
        record {
          jobs = omega arith;
          commits = omega (arith, f.1, one);
          calls = rw one (omega (arith, f.0, times_more c (jobs_needed s)));
        }
    | inr ne ↦
        let f = later_call ne in
        record { jobs = omega arith; commits = omega (arith, f.1); calls = omega (arith, f.0) }
  ]
  spent false true due goes_on =
      let later : begun l ≡ 0 = rw (ne_eqb l 0 (λ e. omega (arith, goes_on refl, e))) refl in
      elim (cases_eq k 0) [
        | inl e ↦
            let f = first_call e in
            record {
              jobs = omega arith;
              commits = omega (arith, later);
              calls = rw (later, f.1) (omega (arith, f.0));
            }
        | inr ne ↦
            let f = later_call ne in
            record {
              jobs = omega arith;
              commits = omega (arith, later);
              calls = rw (later, f.1) (omega (arith, f.0));
            }
      ]
  spent false false due goes_on = elim (cases_eq k 0) [
    | inl e ↦
        let f = first_call e in
        let limbo : 0 < in_limbo s = elim (due e) [ inl bad ↦ absurd (let g : ⊥ = cc in g) | inr n ↦ n ] in
        let one = now_one k s e limbo in
        record {
          jobs = omega (arith, same);
          commits = omega (arith, same, none_now, one, f.1);
          calls = rw (same, none_now, one) (omega (arith, f.0, times_more c (jobs_needed s), e));
        }
    | inr ne ↦
        let f = later_call ne in
        record {
          jobs = omega (arith, same);
          commits = omega (arith, same, none_now, f.1);
          calls = rw (same, none_now, now_later k s (omega (arith, f.0))) (omega (arith, f.0));
        }
  ]

-- what a run has before it, by what is ready, what waits and what is under way
pub record IsNow (j c : ℕ) (r : LoneRun) (ready waits : Bool) (job : Option JobAhead) : Type 0 where
  pub jobs : jobs_to_come r ≡ jobs_ahead ready waits job r.stock
  pub commits : commits_to_come r ≡ commits_ahead ready waits job r.commit r.stock
  pub calls : calls_to_come j c r ≡ calls_ahead j c ready waits job r.commit r.stock

pub is_now : (j c : ℕ) (r : LoneRun) (ready waits : Bool) (job : Option JobAhead) → r.is_ready ≡ ready
    → r.flush_waits ≡ waits → r.job ≡ job → IsNow j c r ready waits job
is_now j c r ready waits job e f g = record {
  jobs = rw (e, f, g) refl;
  commits = rw (e, f, g) refl;
  calls = rw (e, f, g) refl;
}

waits_or_limbo : (r : LoneRun) → IsCommitNeeded r → (r.flush_waits ≡ true) ⊎ (0 < in_limbo r.stock)
waits_or_limbo r (flush waits) = inl waits
waits_or_limbo r (zone wanted some) = inr some

pub commit_spends : (first j c : ℕ) (a b : LoneRun) → IsAlone first j c a → CommitsOn a b → SpendsNoMore j c a b
commit_spends first j c a b is step =
    let all = spent j c a.dirty a.commit b.commit a.stock b.stock is.dirty step.left step.under_way step.ended
    b.is_ready a.flush_waits (λ idle. waits_or_limbo a (step.due idle)) step.goes_on in
    let before = is_now j c a false a.flush_waits None step.not_ready refl step.no_job in
    let now = is_now j c b b.is_ready a.flush_waits None refl step.flush step.no_job_yet in
    record {
      jobs = omega (arith, all.jobs, before.jobs, now.jobs, step.jobs);
      commits = omega (arith, all.commits, before.commits, now.commits, step.begun);
      calls = omega (arith, all.calls, before.calls, now.calls, step.calls);
    }
