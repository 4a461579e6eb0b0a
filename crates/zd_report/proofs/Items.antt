-- The rows of the sectors that are left.
use Rattle.std.proofs.Common.{◌≡◌, ℕ, suc, ◌+◌, ◌-◌, ◌*◌, ◌/◌, ◌<◌, List, length, map, ap, ◌∙◌, arith, slice_range}
use Rattle.std.specs.List.{range_with_len, enumerate_from}
use Rattle.zd_model.specs.Report.{Row, row_of, with_first, rows_of, items_text}
use Rattle.zd_report.specs.Rows.{rows_text}

-- those of k sectors from sector i on
abbrev pub rest_rows : ℕ → List ℕ → ℕ → ℕ → List Row
rest_rows b bytes i k = rows_of (enumerate_from (b + i) (map (λ j. slice_range bytes (512 * j) (512 * j + 512)) (range_with_len i k)))

items_are : (b : ℕ) (bytes : List ℕ) → items_text b bytes ≡ rows_text (rest_rows b bytes 0 (length bytes / 512))
items_are b bytes = let same : b ≡ b + 0 = omega arith in ap (λ (n : ℕ). rows_text (rows_of (enumerate_from n (map (λ j. slice_range bytes (512 * j) (512 * j + 512)) (range_with_len 0 (length bytes / 512)))))) same

pub one_less : (b : ℕ) (bytes : List ℕ) (i n : ℕ) → i < n → rest_rows b bytes i (n - i) ≡ with_first (row_of (b + i, slice_range bytes (512 * i) (512 * i + 512))) (rest_rows b bytes (i + 1) (n - (i + 1)))
one_less b bytes i n h =
    let one : n - i ≡ suc (n - (i + 1)) = omega arith in
    let next : b + i + 1 ≡ b + (i + 1) = omega arith in
    ap (λ (k : ℕ). rest_rows b bytes i k) one
    ∙ ap (λ (m : ℕ). with_first (row_of (b + i, slice_range bytes (512 * i) (512 * i + 512))) (rows_of (enumerate_from m (map (λ j. slice_range bytes (512 * j) (512 * j + 512)) (range_with_len (i + 1) (n - (i + 1))))))) next

-- all rows, by the first sector's and those of the others
pub first_rows : (b : ℕ) (bytes : List ℕ) → 0 < length bytes / 512 → items_text b bytes ≡ rows_text (with_first (row_of (b + 0, slice_range bytes 0 512)) (rest_rows b bytes 1 (length bytes / 512 - 1)))
first_rows b bytes h =
    let all : length bytes / 512 ≡ length bytes / 512 - 0 = omega arith in
    items_are b bytes ∙ ap rows_text (ap (λ (k : ℕ). rest_rows b bytes 0 k) all ∙ one_less b bytes 0 (length bytes / 512) h)
