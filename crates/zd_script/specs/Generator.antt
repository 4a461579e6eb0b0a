-- The generator of scripts: a sequence of numbers, and the plan that they make.
use Rattle.std.specs.Prelude.{◌≡◌, ℕ, zero, suc, ◌+◌, ◌-◌, ◌*◌, ◌%◌, min, nat_lt, if◌then◌else◌, false}
use Rattle.std.specs.Prelude.{List, map, flat_map}
use Rattle.std.specs.List.{AllByRecursion, range_with_len}
use Rattle.zd_model.specs.Plain.{ends_past}
use Rattle.zd_model.specs.Requests.{Operation}
use Rattle.zd_model.specs.Requests.Operation.{Reading, Writing, Discarding, Flushing}
use Rattle.zd_model.specs.Script.{IsScript, line_text}
use Rattle.zd_model.specs.declared.requests.Request.{Request}
use Rattle.zd_model.specs.declared.requests.What.{What}
use Rattle.zd_model.specs.declared.requests.What.TheVariants.{Read, Write, Discard, Flush}

-- the number after this one
unfoldable pub next_number : ℕ → ℕ
next_number x = (75 * x + 74) % 65537

-- THE SEQUENCE: number 0 is the seed's, and drawn are those from number 1 on
abbrev pub number_of : ℕ → ℕ → ℕ
number_of seed zero = seed % 65536
number_of seed (suc k) = next_number (number_of seed k)

-- the five numbers of a request
pub record Draws : Type 0 where
  pub kind : ℕ
  pub caller : ℕ
  pub high : ℕ
  pub low : ℕ
  pub count : ℕ

-- those of request q, which counts from 1: the first request has the first five
abbrev pub draws_of : ℕ → ℕ → Draws
draws_of seed q = record {
  kind = number_of seed (5 * q - 4);
  caller = number_of seed (5 * q - 3);
  high = number_of seed (5 * q - 2);
  low = number_of seed (5 * q - 1);
  count = number_of seed (5 * q);
}

-- eight of sixteen kinds are writes, five are reads, two discards, and one is a flush
abbrev pub operation_of_kind : ℕ → Operation
operation_of_kind kind =
    if nat_lt kind 8 then Writing else
    (if nat_lt kind 13 then Reading else (if nat_lt kind 15 then Discarding else Flushing))

-- an operation on so many blocks from one on
abbrev pub what_made : Operation → ℕ → ℕ → ℕ → What
what_made Writing block count seed = Write block count seed
what_made Reading block count seed = Read block count
what_made Discarding block count seed = Discard block count
what_made Flushing block count seed = Flush

-- the first block, on a device of so many
abbrev pub block_made : ℕ → Draws → ℕ
block_made blocks draws = (65537 * draws.high + draws.low) % blocks

-- how many blocks: 8 at most, and none past the device
abbrev pub count_made : ℕ → Draws → ℕ
count_made blocks draws = min (1 + draws.count % 8) (blocks - block_made blocks draws)

-- the request that these make; its number is the seed of what it writes
abbrev pub request_of : ℕ → ℕ → Draws → Request
request_of blocks number draws = record {
  caller = draws.caller % 4;
  what = what_made (operation_of_kind (draws.kind % 16)) (block_made blocks draws)
      (count_made blocks draws) number;
}

-- THE PLAN of a seed: so many requests for a device of so many blocks
abbrev pub made : ℕ → ℕ → ℕ → List Request
made seed n blocks = map (λ q. request_of blocks q (draws_of seed q)) (range_with_len 1 n)

-- the five numbers after this one
abbrev pub draws_after : ℕ → Draws
draws_after x =
    let kind = next_number x in
    let caller = next_number kind in
    let high = next_number caller in
    let low = next_number high in
    record { kind = kind; caller = caller; high = high; low = low; count = next_number low }

-- the lines of the plan are a script
abbrev pub IsWritten : List Request → Type 0
IsWritten plan = IsScript (flat_map line_text plan) plan

-- no request ends past a device of so many blocks
abbrev pub AreInDevice : ℕ → List Request → Type 0
AreInDevice blocks plan = AllByRecursion (λ r. ends_past (8 * blocks) r.what ≡ false) plan
