-- Questions about ranges of blocks in bitmap blocks, and what a change of a range leaves.
use Rattle.std.specs.Prelude.{◌≡◌, ◌≢◌, ℕ, ◌+◌, ◌-◌, ◌<◌, ◌≤◌, Bool, true, false, not, List, count_by}
use Rattle.std.specs.List.{range_with_len}
use Rattle.zd_model.specs.Tables.{is_set}

-- each block from `from` below `end` has this bit
abbrev pub AllAre : Bool → List ℕ → ℕ → ℕ → Type 0
AllAre bit bits from end = (n : ℕ) → from ≤ n → n < end → is_set bits n ≡ bit

-- some block from `from` below `end` has this bit
abbrev pub SomeIs : Bool → List ℕ → ℕ → ℕ → Type 0
SomeIs bit bits from end = (n : ℕ) × (from ≤ n) × (n < end) × (is_set bits n ≡ bit)

-- the blocks from `from` below `end` have this bit now, all others theirs of before
pub record GivesOnly (bit : Bool) (from end : ℕ) (old new : List ℕ) : Type 0 where
  pub inside : AllAre bit new from end
  pub below : (n : ℕ) → n < from → is_set new n ≡ is_set old n
  pub behind : (n : ℕ) → end ≤ n → is_set new n ≡ is_set old n

-- the answer says whether to give the blocks of a range this bit changes one of them
pub record Tells (answer bit : Bool) (bits : List ℕ) (from end : ℕ) : Type 0 where
  pub changes : answer ≡ true → SomeIs (not bit) bits from end
  pub keeps : answer ≡ false → AllAre bit bits from end

-- block n is the first from `from` on, below `end`, that has this bit; `end` where none has it
pub record IsFirst (bits : List ℕ) (from end : ℕ) (bit : Bool) (n : ℕ) : Type 0 where
  pub low : from ≤ n
  pub high : n ≤ end
  pub before : AllAre (not bit) bits from n
  pub there : n < end → is_set bits n ≡ bit

-- block n is the first from `from` below `end` that is valid
pub record IsFirstValid (bits : List ℕ) (from end n : ℕ) : Type 0 where
  pub low : from ≤ n
  pub high : n < end
  pub valid : is_set bits n ≡ true
  pub before : AllAre false bits from n

-- from `from` on stand exactly so many blocks with this bit, before `end` or a block that differs
pub record IsBitRun (bits : List ℕ) (from end : ℕ) (bit : Bool) (count : ℕ) : Type 0 where
  pub some : 0 < count
  pub inside : from + count ≤ end
  pub same : AllAre bit bits from (from + count)
  pub longest : from + count < end → is_set bits (from + count) ≢ bit

-- how many blocks below `end` are valid
unfoldable pub weight_of : List ℕ → ℕ → ℕ
weight_of bits end = count_by (is_set bits) (range_with_len 0 end)

-- how many blocks from `from` on, below `end`, are valid
unfoldable pub weight_between : List ℕ → ℕ → ℕ → ℕ
weight_between bits from end = count_by (is_set bits) (range_with_len from (end - from))
