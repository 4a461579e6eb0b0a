-- Candidates for jobs: the class of each chunk, the number of its last write, and which chunk of a
-- class comes first in the use order.
use Rattle.std.specs.Prelude.{◌≡◌, ◌≢◌, ℕ, ◌<◌, ◌≤◌, ◌^◌, Bool, true, false, ◌||◌, cond, List, length, get_or, slice_index, Option, Some, None, All, AllPairs, find, count_by, nat_le}
use Rattle.zd_alloc.specs.Links.{times}
use Rattle.zd_alloc.specs.Order.{PutsLast}
use Rattle.zd_alloc.specs.declared.job_class.JobClass.{JobClass}
use Rattle.zd_alloc.specs.declared.job_class.JobClass.TheVariants.{Append, Move, Merge, Empty}
use Rattle.zd_alloc.specs.declared.least_tree.TheConstants.{NEVER}

-- the class of each chunk, and the number of its last write: the later, the greater. No number is
-- as great as the next one
pub record Standings : Type 0 where
  pub classes : List (Option JobClass)
  pub numbers : List ℕ
  pub next : ℕ

abbrev pub standings : List (Option JobClass) → List ℕ → ℕ → Standings
standings classes numbers next = record {
  classes = classes;
  numbers = numbers;
  next = next;
}

-- the class of a chunk; None for a chunk that isn't there
abbrev pub class_of : List (Option JobClass) → ℕ → Option JobClass
class_of classes chunk = get_or classes chunk None

abbrev pub is_class : JobClass → Option JobClass → Bool
is_class Append (Some Append) = true
is_class Move (Some Move) = true
is_class Merge (Some Merge) = true
is_class Empty (Some Empty) = true
is_class _ _ = false

-- whether a chunk has this class
abbrev pub has_class : List (Option JobClass) → JobClass → ℕ → Bool
has_class classes class chunk = is_class class (class_of classes chunk)

-- whether a chunk has one of two classes
abbrev pub has_either : List (Option JobClass) → JobClass → JobClass → ℕ → Bool
has_either classes first second chunk = has_class classes first chunk || has_class classes second chunk

-- this chunk has this class now, or none; all others have theirs
pub record GivesClass (chunk : ℕ) (class : Option JobClass) (old new : List (Option JobClass)) : Type 0 where
  pub there : class_of new chunk ≡ class
  pub others : (other : ℕ) → other ≢ chunk → class_of new other ≡ class_of old other
  pub count : length new ≡ length old

-- the order has each chunk once and nothing else, and along it the numbers rise
pub record IsInOrder (order numbers : List ℕ) : Type 0 where
  pub once : (chunk : ℕ) → chunk < length numbers → times chunk order ≡ 1
  pub inside : All (λ chunk. chunk < length numbers) order
  pub rises : AllPairs (λ first second. slice_index numbers first < slice_index numbers second) order

-- the answer is the first chunk that passes the test, in the order in which the numbers rise
abbrev pub IsOldestSuch : (ℕ → Bool) → List ℕ → Option ℕ → Type 0
IsOldestSuch test numbers found = (order : List ℕ) → IsInOrder order numbers → found ≡ find test order

-- in whatever order the chunks were, with this one put last the numbers are in order again
abbrev pub Follows : ℕ → List ℕ → List ℕ → Type 0
Follows chunk old new = (order next : List ℕ)
    → IsInOrder order old → PutsLast chunk order next → IsInOrder next new

-- a chunk with a lesser number than another still has a lesser one
pub record KeepsRising (old new : List ℕ) : Type 0 where
  pub count : length new ≡ length old
  pub rises : (first second : ℕ) → first < length old → second < length old
      → slice_index old first < slice_index old second
      → slice_index new first < slice_index new second

-- of the chunks that pass the test, this one has the least number
pub record IsFirstSuch (test : ℕ → Bool) (numbers : List ℕ) (chunk : ℕ) : Type 0 where
  pub inside : chunk < length numbers
  pub passes : test chunk ≡ true
  pub least : (other : ℕ) → other < length numbers → test other ≡ true
      → slice_index numbers chunk ≤ slice_index numbers other

-- no chunk passes the test
abbrev pub HasNoSuch : (ℕ → Bool) → List ℕ → Type 0
HasNoSuch test numbers = (chunk : ℕ) → chunk < length numbers → test chunk ≡ false

-- whether a chunk's number is not below this one, and how many such numbers there are
abbrev pub is_from : ℕ → List ℕ → ℕ → Bool
is_from bound numbers chunk = nat_le bound (slice_index numbers chunk)

abbrev pub count_from : ℕ → List ℕ → ℕ
count_from bound numbers = count_by (nat_le bound) numbers

-- a list for each class
pub record ClassLists : Type 0 where
  pub appends : List ℕ
  pub moves : List ℕ
  pub merges : List ℕ
  pub empties : List ℕ

abbrev pub list_of : ClassLists → JobClass → List ℕ
list_of lists Append = lists.appends
list_of lists Move = lists.moves
list_of lists Merge = lists.merges
list_of lists Empty = lists.empties

-- each class has the numbers of its chunks, and the greatest number at the others
pub record AreListed (s : Standings) (lists : ClassLists) : Type 0 where
  pub few : length s.classes < 2 ^ 32
  pub same : length s.numbers ≡ length s.classes
  pub below : (chunk : ℕ) → chunk < length s.classes → slice_index s.numbers chunk < s.next
  pub last : s.next ≤ NEVER
  pub sizes : (class : JobClass) → length (list_of lists class) ≡ length s.classes
  pub tells : (class : JobClass) (chunk : ℕ) → chunk < length s.classes
      → slice_index (list_of lists class) chunk
      ≡ cond (has_class s.classes class chunk) (slice_index s.numbers chunk) NEVER
