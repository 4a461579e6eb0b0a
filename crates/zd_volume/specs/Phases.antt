-- The nine phases of a commit: where the two sets are in each, and what a stop may choose.
use Rattle.std.specs.Prelude.{◌≡◌, ℕ, ◌+◌, ◌<◌, ◌≤◌, List, length, get_or, Option, Some, None, Bool, true, false, ⊤}
use Rattle.zd_model.specs.declared.metadata.Super.{Super}
use Rattle.zd_sets.specs.Stages.{Stage, next_head}
use Rattle.zd_sets.specs.Stages.Stage.{Before, Mixed, Whole, Either, After}
use Rattle.zd_volume.specs.declared.phase.Phase.{Phase}
use Rattle.zd_volume.specs.declared.phase.Phase.TheVariants.{Idle, Log, LogFlush, LogSuper, LogSuperFlush, InPlace, InPlaceFlush, InPlaceSuper, InPlaceSuperFlush}

-- how far set 0 is
abbrev pub first_stage : Phase → Stage
first_stage Idle = Before
first_stage (Log k) = Before
first_stage LogFlush = Before
first_stage LogSuper = Before
first_stage LogSuperFlush = Before
first_stage (InPlace k) = Mixed
first_stage InPlaceFlush = Mixed
first_stage InPlaceSuper = Whole
first_stage InPlaceSuperFlush = Either

-- how far set 1 is
abbrev pub second_stage : Phase → Stage
second_stage Idle = Before
second_stage (Log k) = Mixed
second_stage LogFlush = Mixed
second_stage LogSuper = Whole
second_stage LogSuperFlush = Either
second_stage (InPlace k) = After
second_stage InPlaceFlush = After
second_stage InPlaceSuper = After
second_stage InPlaceSuperFlush = After

-- what the disk reads as: the head of each set, and up to which block it has the new ones
abbrev pub first_head : Phase → Super → Super
first_head Idle head = head
first_head (Log k) head = head
first_head LogFlush head = head
first_head LogSuper head = head
first_head LogSuperFlush head = head
first_head (InPlace k) head = head
first_head InPlaceFlush head = head
first_head InPlaceSuper head = head
first_head InPlaceSuperFlush head = next_head head

abbrev pub second_head : Phase → Super → Super
second_head Idle head = head
second_head (Log k) head = head
second_head LogFlush head = head
second_head LogSuper head = head
second_head LogSuperFlush head = next_head head
second_head (InPlace k) head = next_head head
second_head InPlaceFlush head = next_head head
second_head InPlaceSuper head = next_head head
second_head InPlaceSuperFlush head = next_head head

abbrev pub first_count : Phase → ℕ → ℕ
first_count Idle all = 0
first_count (Log k) all = 0
first_count LogFlush all = 0
first_count LogSuper all = 0
first_count LogSuperFlush all = 0
first_count (InPlace k) all = k
first_count InPlaceFlush all = all
first_count InPlaceSuper all = all
first_count InPlaceSuperFlush all = all

abbrev pub second_count : Phase → ℕ → ℕ
second_count Idle all = 0
second_count (Log k) all = k
second_count LogFlush all = all
second_count LogSuper all = all
second_count LogSuperFlush all = all
second_count (InPlace k) all = all
second_count InPlaceFlush all = all
second_count InPlaceSuper all = all
second_count InPlaceSuperFlush all = all

-- whether a stop may leave the committed tables as the chosen ones, or the new ones
abbrev pub TakesOld : Phase → Type 0
TakesOld Idle = ⊤
TakesOld (Log k) = ⊤
TakesOld LogFlush = ⊤
TakesOld LogSuper = ⊤
TakesOld LogSuperFlush = ⊤
TakesOld (InPlace k) = ⊥
TakesOld InPlaceFlush = ⊥
TakesOld InPlaceSuper = ⊥
TakesOld InPlaceSuperFlush = ⊥

abbrev pub TakesNew : Phase → Type 0
TakesNew Idle = ⊥
TakesNew (Log k) = ⊥
TakesNew LogFlush = ⊥
TakesNew LogSuper = ⊤
TakesNew LogSuperFlush = ⊤
TakesNew (InPlace k) = ⊤
TakesNew InPlaceFlush = ⊤
TakesNew InPlaceSuper = ⊤
TakesNew InPlaceSuperFlush = ⊤

-- the phases by the set that they write: set 1 in the log, set 0 in place (`in_place`). Set 0 begins
-- in zone 0
abbrev pub first_zone : Bool → ℕ → ℕ
first_zone false n = n
first_zone true n = 0

abbrev pub block_phase : Bool → ℕ → Phase
block_phase false k = Log k
block_phase true k = InPlace k

abbrev pub after_block : Bool → Option ℕ → Phase
after_block false None = LogFlush
after_block false (Some k) = Log k
after_block true None = InPlaceFlush
after_block true (Some k) = InPlace k

abbrev pub super_phase : Bool → Phase
super_phase false = LogSuper
super_phase true = InPlaceSuper

abbrev pub after_super : Bool → Phase
after_super false = LogSuperFlush
after_super true = InPlaceSuperFlush

-- the first dirty block from one on
abbrev pub IsNextDirty : List Bool → ℕ → Option ℕ → Type 0
IsNextDirty dirty from None = (j : ℕ) → j < length dirty → from ≤ j → get_or dirty j true ≡ false
IsNextDirty dirty from (Some k) =
    (k < length dirty) × (from ≤ k)
    × ((j : ℕ) → from ≤ j → j < k → get_or dirty j true ≡ false)
    × (get_or dirty k false ≡ true)

-- the flushes inside a commit
abbrev pub IsInnerFlush : Phase → Type 0
IsInnerFlush Idle = ⊥
IsInnerFlush (Log k) = ⊥
IsInnerFlush LogFlush = ⊤
IsInnerFlush LogSuper = ⊥
IsInnerFlush LogSuperFlush = ⊤
IsInnerFlush (InPlace k) = ⊥
IsInnerFlush InPlaceFlush = ⊤
IsInnerFlush InPlaceSuper = ⊥
IsInnerFlush InPlaceSuperFlush = ⊥

abbrev pub after_flush : Phase → Option ℕ → Phase
after_flush Idle next = Idle
after_flush (Log k) next = Log k
after_flush LogFlush next = LogSuper
after_flush LogSuper next = LogSuper
after_flush LogSuperFlush next = after_block true next
after_flush (InPlace k) next = InPlace k
after_flush InPlaceFlush next = InPlaceSuper
after_flush InPlaceSuper next = InPlaceSuper
after_flush InPlaceSuperFlush next = InPlaceSuperFlush

-- the phase before the flush that ends a commit. That flush is the whole commit where it is alone
abbrev pub end_phase : Bool → Phase
end_phase false = InPlaceSuperFlush
end_phase true = Idle

abbrev pub end_generation : Bool → ℕ → ℕ
end_generation false generation = generation + 1
end_generation true generation = generation

-- the head with this generation
abbrev pub with_generation : ℕ → Super → Super
with_generation generation head = record {
  version = head.version;
  generation = generation;
  own = head.own;
  layout = head.layout;
  label = head.label;
  volume = head.volume;
  device = head.device;
}
