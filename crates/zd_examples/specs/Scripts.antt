-- Plans of the examples of scripts.
use Rattle.std.specs.Prelude.{ℕ, ◌≤◌, sum_by, List, [], ◌∷◌}
use Rattle.zd_model.specs.Script.{discarded_blocks, moved_blocks}
use Rattle.zd_model.specs.declared.requests.Request.{Request}
use Rattle.zd_model.specs.declared.requests.What.TheVariants.{Read, Write, Discard, Flush}
use Rattle.zd_model.specs.declared.requests.What.TheVariants.{ReadSectors, WriteSectors}
use Rattle.zd_examples.specs.Requests.{request, request_by}

-- one of each kind, and the greatest caller
abbrev pub all_kinds : List Request
all_kinds =
    request (Read 5 2)
    ∷ request_by 1 (Write 10 1 99)
    ∷ request_by 63 (Discard 0 100)
    ∷ request_by 2 Flush
    ∷ []

-- the greatest block, seed and count
abbrev pub greatest : List Request
greatest =
    request (Write 18446744073709551615 1 4294967295) ∷ request (Read 0 32767) ∷ []

-- as many blocks discarded as may be, and one more; reads and writes count apart
abbrev pub most_discarded : List Request
most_discarded =
    request (Discard 0 4194303) ∷ request (Read 0 32768) ∷ request (Discard 9 1) ∷ []

abbrev pub too_much_discarded : List Request
too_much_discarded = request (Discard 0 4194303) ∷ request (Discard 9 2) ∷ []

-- one block more than may be read and written
abbrev pub too_much_moved : List Request
too_much_moved = request (Read 0 32768) ∷ request (Write 9 1 1) ∷ []

-- a write and a read of sectors
abbrev pub sectors_plan : List Request
sectors_plan = request (WriteSectors 3 2 5) ∷ request_by 9 (ReadSectors 0 8) ∷ []

-- so many sectors from the last one of a block on
abbrev pub most_in_sectors : ℕ → List Request
most_in_sectors count = request (ReadSectors 7 count) ∷ []

-- its blocks are within the limits
pub record HasFewBlocks (plan : List Request) : Type 0 where
  pub moved : sum_by (λ r. moved_blocks r.what) plan ≤ 32_768
  pub discarded : sum_by (λ r. discarded_blocks r.what) plan ≤ 4_194_304
