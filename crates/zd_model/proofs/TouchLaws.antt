-- The blocks that a request touches.
use Rattle.std.proofs.Common.{◌≡◌, ◌↔◌, ℕ, ◌+◌, ◌*◌, ◌/◌, ◌%◌, ◌<◌, ◌≤◌, max, arith}
use Rattle.zd_base.specs.Layout.{rounded_up}
use Rattle.zd_model.specs.Requests.{block_count, first_block, first_sector, sector_count}
use Rattle.zd_model.specs.Stops.{Covers}
use Rattle.zd_model.specs.declared.requests.What.{What}

-- a form in blocks touches its own
pub first_is_own : (block : ℕ) → 8 * block / 8 ≡ block
first_is_own block = omega arith

pub count_is_own : (block count : ℕ) → rounded_up (8 * block % 8 + 8 * count) 8 ≡ count
count_is_own block count = omega arith

abbrev IsTouched : What → ℕ → Type 0
IsTouched what x = (first_block what ≤ x) × (x < first_block what + block_count what)

abbrev HasSector : What → ℕ → Type 0
HasSector what x = (i : ℕ) × Covers what i × (i / 8 ≡ x)

some_sector : (what : What) (x : ℕ) → 1 ≤ sector_count what → IsTouched what x → HasSector what x
some_sector what x some touched =
    let low = touched.0 in
    let high = touched.1 in
    (max (first_sector what) (8 * x), (omega arith, omega arith), omega arith)

is_touched : (what : What) (x : ℕ) → HasSector what x → IsTouched what x
is_touched what x (i, covered, place) =
    let low = covered.0 in
    let high = covered.1 in
    (omega arith, omega arith)

pub touched : (what : What) (x : ℕ) → 1 ≤ sector_count what → IsTouched what x ↔ HasSector what x
touched what x some = (some_sector what x some, is_touched what x)
