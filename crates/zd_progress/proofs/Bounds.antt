-- No more than two jobs and three commits may begin before a piece is entered.
use Rattle.std.proofs.Common.{◌≡◌, inl, inr, ℕ, ◌+◌, ◌*◌, ◌≤◌, Bool, true, false, cond, Option, Some, None, refl, arith}
use Rattle.std.proofs.Math.Nat.{mul-le-mul_left}
use Rattle.std.proofs.lemmas.Bool.{cases_eq, cases_lt, eq-eqb, ne_eqb}
use Rattle.zd_progress.specs.LoneRuns.{JobAhead, LoneRun, IsAlone, calls_ahead, calls_to_come, calls_of_commit}
use Rattle.zd_progress.specs.LoneRuns.{commits_ahead}
use Rattle.zd_progress.specs.LoneRuns.{commits_now, commits_to_come, job_calls, jobs_behind, jobs_ahead, jobs_needed}
use Rattle.zd_progress.specs.LoneRuns.{jobs_to_come, most_calls}
use Rattle.zd_progress.specs.Stocks.{Stock}

pub times_more : (c n : ℕ) → c * (n + 1) ≡ c * n + c
times_more c n = grind arith

-- the calls of a commit under way, of n jobs and of n + m commits
idle_calls : (j c k n m : ℕ) → n ≤ 2 → m ≤ 1 → k ≤ c → (m ≡ 1 → k ≡ 0)
    → k + 0 + j * n + c * (n + m) + 1 ≤ 2 * j + 3 * c + 1
idle_calls j c k n m few one small at =
    let jobs : j * n ≤ j * 2 = mul-le-mul_left j few in
    elim (cases_lt m 1) [
      | inl none ↦
          let commits : c * (n + m) ≤ c * 2 = mul-le-mul_left c (omega (arith, few, none)) in
          omega (arith, jobs, commits, small)
      | inr some ↦
          let commits : c * (n + m) ≤ c * 3 = mul-le-mul_left c (omega (arith, few, one)) in
          omega (arith, jobs, commits, at (omega (arith, one, some)))
    ]

-- of a job under way with w calls, and of n jobs and n + 1 commits behind it
beside_calls : (j c w n : ℕ) → n ≤ 1 → w ≤ j → 0 + w + j * n + c * (n + 1) + 1 ≤ 2 * j + 3 * c + 1
beside_calls j c w n few small =
    let jobs : j * n ≤ j * 1 = mul-le-mul_left j few in
    let commits : c * (n + 1) ≤ c * 2 = mul-le-mul_left c (omega (arith, few)) in
    omega (arith, jobs, commits, small)

few_if : (b : Bool) (m n k : ℕ) → m ≤ k → n ≤ k → cond b m n ≤ k
few_if true m n k a b = a
few_if false m n k a b = b

pub few_jobs : (s : Stock) → jobs_needed s ≤ 2
few_jobs s = few_if _ 0 _ 2 (omega arith) (few_if _ 1 2 2 (omega arith) (omega arith))

pub few_behind : (conv : ℕ) (w : JobAhead) → jobs_behind conv w ≤ 1
few_behind conv w = few_if _ 0 1 1 (omega arith) (omega arith)

pub few_now : (k : ℕ) (s : Stock) → commits_now k s ≤ 1
few_now k s = few_if _ 1 0 1 (omega arith) (omega arith)

-- a commit comes at once only where none is under way
now_idle : (k : ℕ) (s : Stock) → commits_now k s ≡ 1 → k ≡ 0
now_idle k s now = elim (cases_eq k 0) [
  | inl e ↦ e
  | inr ne ↦ absurd (let none : commits_now k s ≡ 0 = rw (ne_eqb k 0 ne) refl in omega (arith, now, none))
]

pub record AreFew (j c : ℕ) (r : LoneRun) : Type 0 where
  pub jobs : jobs_to_come r ≤ 2
  pub commits : commits_to_come r ≤ 3
  pub calls : calls_to_come j c r ≤ most_calls j c

module _ (j c : ℕ) (s : Stock) (some : 1 ≤ c) where
  record AreBounded (ready flush : Bool) (job : Option JobAhead) (k : ℕ) : Type 0 where
    jobs : jobs_ahead ready flush job s ≤ 2
    commits : commits_ahead ready flush job k s ≤ 3
    calls : calls_ahead j c ready flush job k s ≤ 2 * j + 3 * c + 1

  bounded : (ready flush : Bool) (job : Option JobAhead) (k : ℕ) → k ≤ c → job_calls job ≤ j
      → ((w : JobAhead) → job ≡ Some w → (flush ≡ false) × (k ≡ 0)) → AreBounded ready flush job k
  bounded true flush job k small few beside = record {
    jobs = omega arith;
    commits = omega arith;
    calls = omega (arith, some);
  }
  bounded false true None k small few beside = record {
    jobs = omega arith;
    commits = few_if _ 1 0 3 (omega arith) (omega arith);
    calls = elim (cases_eq k 0) [
      | inl e ↦ rw (eq-eqb k 0 e) (omega (arith, e))
      | inr ne ↦ rw (ne_eqb k 0 ne) (omega (arith, small))
    ];
  }
  bounded false true (Some w) k small few beside = absurd (let f = (beside w refl).0 in let g : ⊥ = cc in g)
  bounded false false None k small few beside = record {
    jobs = few_jobs s;
    commits = omega (arith, few_jobs s, few_now k s);
    calls = idle_calls j c k (jobs_needed s) (commits_now k s) (few_jobs s) (few_now k s) small (now_idle k s);
  }
  bounded false false (Some w) k small few beside =
      let e = (beside w refl).1 in
      record {
        jobs = omega (arith, few_behind s.division.conv w);
        commits = omega (arith, few_behind s.division.conv w);
        calls =
            rw e (beside_calls j c w.calls (jobs_behind s.division.conv w) (few_behind s.division.conv w) few);
      }

pub are_few : (first j c : ℕ) (r : LoneRun) → 1 ≤ c → IsAlone first j c r → AreFew j c r
are_few first j c r some is =
    let all = bounded j c r.stock some r.is_ready r.flush_waits r.job r.commit is.commit is.few_calls
    (λ w e. let b = is.beside w e in (b.no_flush, b.no_commit)) in
    record { jobs = all.jobs; commits = all.commits; calls = all.calls }

-- a commit makes no more calls than T3.3 counts: d dirty blocks are among the used ones behind the super block
pub commit_few : (d used : ℕ) → d + 1 ≤ used → calls_of_commit d ≤ 2 * used + 4
commit_few d used few = elim (cases_eq d 0) [
  | inl e ↦ rw (eq-eqb d 0 e) (omega arith)
  | inr ne ↦ rw (ne_eqb d 0 ne) (omega (arith, few))
]
