-- Each step lessens the measure.
use Rattle.std.proofs.Common.{◌≡◌, ℕ, ◌+◌, ◌*◌, ◌<◌, ◌≤◌, ap, arith}
use Rattle.std.proofs.Math.Nat.{mul-le-mul_right}
use Rattle.zd_progress.specs.Measures.{IsRestWithin, Lessens, Rest, a_job, a_piece, measure}
use Rattle.zd_progress.specs.Measures.Lessens.{ends, enters, goes_on}

-- one more of a weight
more_one : (m n w : ℕ) → m < n → m * w + w ≤ n * w
more_one m n w less =
    let l : m + 1 ≤ n = omega (arith, less) in
    let e : (m + 1) * w ≤ n * w = mul-le-mul_right w l in
    let f : (m + 1) * w ≡ m * w + w = grind arith in
    omega (arith, e, f)

pub lessens : (most a b : Rest) → IsRestWithin most b → Lessens a b → measure most b < measure most a
lessens most a b is (enters less) =
    let pieces = more_one b.pieces a.pieces (a_piece most) less in
    let jobs : b.jobs * a_job most ≤ most.jobs * a_job most = mul-le-mul_right (a_job most) is.jobs in
    omega (arith, pieces, jobs, is.flight, is.commit, is.copies)
lessens most a b is (ends pieces flight less) =
    let same : b.pieces * a_piece most ≡ a.pieces * a_piece most = ap (λ (n : ℕ). n * a_piece most) pieces in
    let jobs = more_one b.jobs a.jobs (a_job most) less in
    omega (arith, same, jobs, flight, is.commit, is.copies)
lessens most a b is (goes_on pieces jobs less) =
    let same : b.pieces * a_piece most ≡ a.pieces * a_piece most = ap (λ (n : ℕ). n * a_piece most) pieces in
    let same_jobs : b.jobs * a_job most ≡ a.jobs * a_job most = ap (λ (n : ℕ). n * a_job most) jobs in
    omega (arith, same, same_jobs, less)
