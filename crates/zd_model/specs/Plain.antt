-- What requests mean: a plain list of sectors that is read and written.
use Rattle.std.specs.Prelude.{ℕ, ◌+◌, ◌*◌, ◌%◌, ◌^◌, Bool, nat_le, not, if◌then◌else◌, List, length}
use Rattle.std.specs.Prelude.{map, slice_range, flat_map, Option, Some, None}
use Rattle.std.specs.Int.{w64, to_le_bytes}
use Rattle.std.specs.List.{range_with_len, concat}
use Rattle.std.specs.Option.{option_map_or}
use Rattle.zd_model.specs.Bytes.{overwrite, zero_sector}
use Rattle.zd_model.specs.Requests.{first_sector, sector_count, operation_of, Operation}
use Rattle.zd_model.specs.Requests.Operation.{Reading}
use Rattle.zd_model.specs.declared.requests.What.{What}
use Rattle.zd_model.specs.declared.requests.What.TheVariants.{Write, Discard, WriteSectors}

-- what a piece is answered: the bytes of a read, that it was done, that it ends past the device,
-- that it failed
pub data Answer : Type 0 where
  Got : List ℕ → Answer
  Done : Answer
  Range : Answer
  Fault : Answer

-- word j of a sector under a seed
abbrev pub word : ℕ → ℕ → ℕ → ℕ
word seed sector j = seed * 2 ^ 32 + (64 * sector + j) % 2 ^ 32

-- what a write puts into a sector: its 64 words under the seed
unfoldable pub pattern : ℕ → ℕ → List ℕ
pattern seed sector =
    flat_map (λ j. to_le_bytes w64 (word seed sector j)) (range_with_len 0 64)

-- what is put into a sector of the device: by a write its pattern, by a discard zeros
abbrev pub put_by : What → Option (ℕ → List ℕ)
put_by (Write block count seed) = Some (pattern seed)
put_by (WriteSectors sector count seed) = Some (pattern seed)
put_by (Discard block count) = Some (λ i. zero_sector)
put_by what = None

-- it ends past this many sectors; a flush never does
abbrev pub ends_past : ℕ → What → Bool
ends_past sectors what = not (nat_le (first_sector what + sector_count what) sectors)

-- a read is answered its bytes, all else that it was done
abbrev pub answer_in_range : Operation → List ℕ → Answer
answer_in_range Reading bytes = Answer.Got bytes
answer_in_range operation bytes = Answer.Done

-- the reply, where it doesn't end past the sectors
abbrev pub reply_within : List (List ℕ) → What → Answer
reply_within array what =
    let first = first_sector what in
    answer_in_range (operation_of what)
    (concat (slice_range array first (first + sector_count what)))

-- the sectors after it, where it doesn't end past them
abbrev pub within_after : List (List ℕ) → What → List (List ℕ)
within_after array what =
    let first = first_sector what in
    option_map_or
    (λ put. overwrite array first (map put (range_with_len first (sector_count what))))
    (put_by what) array

-- the reply of the plain array
abbrev pub reply_to : List (List ℕ) → What → Answer
reply_to array what =
    if ends_past (length array) what then Answer.Range else reply_within array what

-- the plain array after it
abbrev pub array_after : List (List ℕ) → What → List (List ℕ)
array_after array what = if ends_past (length array) what then array else within_after array what

-- the plain array: its reply to a request, and what it is after it
abbrev pub plain : List (List ℕ) → What → Answer × List (List ℕ)
plain array what = (reply_to array what, array_after array what)
