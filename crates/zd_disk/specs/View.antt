-- What a disk tells at one moment of its life, and what calls make of that.
use Rattle.std.specs.Prelude.{◌≡◌, ℕ, ◌+◌, ◌-◌, ◌<◌, ◌≤◌, ◌^◌, Option, Some, IsSome, Result, OnErr}
use Rattle.zd_base.specs.Faults.{Rose}
use Rattle.zd_base.specs.Geometry.{Shape}
use Rattle.zd_model.specs.Image.{Image, IsImage, Same}
use Rattle.zd_disk.specs.Growth.{Grows, KeepsLeft}
use Rattle.zd_disk.specs.Told.{Both, WhereTold, next_count}

pub record View : Type 1 where
  -- the geometry, once it is told
  pub told : Option Shape
  -- what the disk reads as, where it tells that
  pub zones : Option Image
  -- how many writing calls have returned; it stays at 2^64 - 1 once it is there
  pub calls : ℕ
  -- how many reading calls have returned, `read` and `report`; it stays at 2^64 - 1 too
  pub read_calls : ℕ
  -- the images that a stop may leave once so many writing calls have returned and the next may be
  -- under way
  pub left : ℕ → Image → Type 0
  -- how often the disk has failed
  pub faults : ℕ
  -- where the disk tells its zones, it tells their geometry, and they are an image
  pub agrees : (i : Image) → zones ≡ Some i → told ≡ Some i.geometry
  pub shaped : (i : Image) → zones ≡ Some i → IsImage i
  -- what a stop may leave is an image of the told geometry, and is told only where the zones are
  pub leaves : (k : ℕ) (i : Image) → k ≤ calls → left k i →
      IsImage i × (told ≡ Some i.geometry) × IsSome zones
  -- a stop may leave what the disk reads as
  pub reads : (i : Image) → calls < 2 ^ 64 - 1 → zones ≡ Some i → left calls i

-- the geometry stays, once it is told, and the counts of faults and of reading calls never fall
pub record Stays (u v : View) : Type 0 where
  pub told : (g : Shape) → u.told ≡ Some g → v.told ≡ Some g
  pub later : u.faults ≤ v.faults
  pub read_calls : u.read_calls ≤ v.read_calls

-- nothing was written
pub record OnlyReads (u v : View) : Type 0 where
  pub stays : Stays u v
  pub zones : v.zones ≡ u.zones
  pub calls : v.calls ≡ u.calls
  pub left : KeepsLeft u.left v.left

-- one reading call, and none
abbrev pub ReadsOnce : View → View → Type 0
ReadsOnce u v = v.read_calls ≡ next_count u.read_calls

abbrev pub ReadsNone : View → View → Type 0
ReadsNone u v = v.read_calls ≡ u.read_calls

-- so many reading calls, while their count is below its end
pub record MadeReads (number : ℕ) (u v : View) : Type 0 where
  pub number_is : v.read_calls < 2 ^ 64 - 1 → v.read_calls ≡ u.read_calls + number

-- what the disk reads as changed in this way, where it tells that
pub record Turns (R : Image → Image → Type 0) (u v : View) : Type 0 where
  pub reads : Both u.zones v.zones R

-- one writing call: while it is under way, and when it has returned, a stop leaves what could be
-- left before it, changed in these ways, which may depend on what the disk read as before and reads
-- as now
pub record Calls (begun : Image → Image → Image → Type 0)
    (ended : Image → Image → Image → Image → Type 0) (u v : View) : Type 0 where
  pub stays : Stays u v
  pub calls : v.calls ≡ next_count u.calls
  pub read_calls : v.read_calls ≡ u.read_calls
  pub left : v.calls < 2 ^ 64 - 1 → Both u.zones v.zones (λ i j.
      Grows u.calls u.left v.left (begun i) (ended i j))

-- what a stop may leave from moment `from` on: what became in this way of an image that it could
-- leave then
pub record LeavesBy (R : Image → Image → Type 0) (from : ℕ) (past : ℕ → Image → Type 0)
    (until : ℕ) (now : ℕ → Image → Type 0) : Type 0 where
  pub earlier : (k : ℕ) (i : Image) → k < from → now k i → past k i
  pub each : (k : ℕ) (i : Image) → from ≤ k → k ≤ until → now k i →
      (d : Image) × past from d × R d i

-- any number of calls: what the disk reads as changed in this way, and so did each image that a
-- stop may leave, at any moment in between, of one that it could leave at first. The way may depend
-- on what the disk first read as, which comes before the two.
pub record ReachesBy (R : Image → Image → Image → Type 0) (u v : View) : Type 0 where
  pub stays : Stays u v
  pub order : u.calls ≤ v.calls
  pub reads : Turns (λ i. R i i) u v
  pub left : v.calls < 2 ^ 64 - 1 → WhereTold u.zones (λ i.
      LeavesBy (R i) u.calls u.left v.calls v.left)

-- where it does not
abbrev pub Reaches : (Image → Image → Type 0) → View → View → Type 0
Reaches R = ReachesBy (λ _. R)

-- a stop may leave what the disk reads as alone
pub record IsDurable (v : View) : Type 0 where
  pub left : v.calls < 2 ^ 64 - 1 → WhereTold v.zones (λ i.
      (other : Image) → v.left v.calls other → Same i other)

-- this holds of what the disk reads as, and of each image that a stop may now leave
pub record Holds (P : Image → Type 0) (v : View) : Type 0 where
  pub now : WhereTold v.zones P
  pub left : v.calls < 2 ^ 64 - 1 → (i : Image) → v.left v.calls i → P i

-- what the disk reads as changed in this way; and where a stop would have left what it read as
-- alone, so did each image that a stop may leave at any moment in between
pub record Keeps (P : Image → Image → Type 0) (u v : View) : Type 0 where
  pub reads : Turns P u v
  pub left : v.calls < 2 ^ 64 - 1 → IsDurable u → WhereTold u.zones (λ old.
      (k : ℕ) (i : Image) → u.calls ≤ k → k ≤ v.calls → v.left k i → P old i)

-- so many writing calls were made, while their count is below its end
pub record Made (number : ℕ) (u v : View) : Type 0 where
  pub number_is : v.calls < 2 ^ 64 - 1 → v.calls ≡ u.calls + number

-- the same of a number that depends on what the disk first reads as, where it tells that
pub record MadeOf (number : Image → ℕ) (u v : View) : Type 0 where
  pub number_is : v.calls < 2 ^ 64 - 1 → WhereTold u.zones (λ i. v.calls ≡ u.calls + number i)

-- the disk failed at least once
abbrev pub HasFailed : View → View → Type 0
HasFailed u v = Rose u.faults v.faults

-- the call fails only where the disk did
abbrev pub Fails : {T E : Type 0} → Result T E → View → View → Type 0
Fails result u v = OnErr result (HasFailed u v)
