-- The life of a disk: any calls, one after another, and what a stop then leaves.
use Rattle.std.specs.Prelude.{◌≡◌, ◌⊎◌, ℕ, suc, ◌+◌, ◌-◌, ◌*◌, ◌^◌, ◌<◌, ◌≤◌, Bool, true, false}
use Rattle.std.specs.Prelude.{if◌then◌else◌, List, [], ◌∷◌, ◌++◌, length, Some, IsSomeAnd}
use Rattle.zd_model.specs.Image.{Image, Same}
use Rattle.zd_model.specs.Left.{Call, Event, IsPut, replay}
use Rattle.zd_model.specs.Left.Event.{Clear}
use Rattle.zd_model.specs.Left.Call.{Does, Flushes}
use Rattle.zd_disk.specs.Growth.{puts}
use Rattle.zd_disk.specs.Steps.{ResetLeaves, ResetStep, WasReset, WriteLeaves, WriteStep, Wrote}
use Rattle.zd_disk.specs.Steps.{count_of, piece}
use Rattle.zd_disk.specs.Told.{IsInside, IsSequentialZone, WhereTold}
use Rattle.zd_disk.specs.View.{Calls, IsDurable, OnlyReads, Turns, View}
use Rattle.zd_disk.specs.Within.{IsDoneBy, IsWithin}

-- a call of the trait, with what it did: a write these events, a reset all or nothing, a flush
-- answered Ok or failed; all other calls only read
pub data DiskCall : Type 0 where
  Writes : (zone start : ℕ) (bytes : List ℕ) (done : List Event) → DiskCall
  Resets : (zone : ℕ) (done : Bool) → DiskCall
  Saves : (ok : Bool) → DiskCall
  Looks : DiskCall

-- the writing call that it is
abbrev pub writing_call : DiskCall → List Call
writing_call (Writes zone start bytes done) = Does (puts zone start bytes 0 (count_of bytes)) done ∷ []
writing_call (Resets zone done) = Does (Clear zone ∷ []) (if done then Clear zone ∷ [] else []) ∷ []
writing_call (Saves ok) = Flushes ok ∷ []
writing_call Looks = []

abbrev pub writing_calls : List DiskCall → List Call
writing_calls [] = []
writing_calls (c ∷ calls) = writing_call c ++ writing_calls calls

-- these events lead from the one image to the other, and so they do from each that holds the same
abbrev pub LeadsBy : List Event → Image → Image → Type 0
LeadsBy done old new = (i : Image) → Same i old → Same (replay i done) new

-- the bytes of a write are whole sectors inside a zone, in a sequential one at its pointer
pub record IsWrite (zone start : ℕ) (bytes : List ℕ) (u : View) : Type 0 where
  pub whole : length bytes ≡ 512 * count_of bytes
  pub inside : IsSomeAnd u.told (IsInside zone start (count_of bytes))
  pub pointer : WhereTold u.zones (λ i. i.geometry.conv ≤ zone → start ≡ i.held zone)

-- what the disk tells of a write, whether it failed
abbrev pub CallsWrite : ℕ → ℕ → List ℕ → View → View → Type 0
CallsWrite zone start bytes =
    Calls (λ i. WriteStep i zone start bytes) (λ i j. WriteLeaves i j zone start bytes)

-- a write that did this
pub record WriteDid (zone start : ℕ) (bytes : List ℕ) (done : List Event) (u v : View)
    : Type 0 where
  pub is : IsWrite zone start bytes u
  pub by : WhereTold u.zones (λ i. IsDoneBy i.geometry.conv zone start bytes done)
  pub did : Turns (LeadsBy done) u v
  pub call : CallsWrite zone start bytes u v

-- it put nothing but its own sectors, each at its place
abbrev pub PutsOwn : ℕ → ℕ → List ℕ → List Event → Type 0
PutsOwn zone start bytes done = (y i : ℕ) (v : List ℕ) → IsPut done y i v →
    (j : ℕ) × (j < count_of bytes) × (y ≡ zone) × (i ≡ start + j) × (v ≡ piece bytes j)

-- what the disk tells of a reset, whether it failed
abbrev pub CallsReset : ℕ → View → View → Type 0
CallsReset zone = Calls (λ _. ResetStep zone) (λ _ j. ResetLeaves j zone)

-- the zone is empty, or nothing changed
abbrev pub IsResetBy : ℕ → Bool → Image → Image → Type 0
IsResetBy zone true old new = WasReset zone old new
IsResetBy zone false old new = Same old new

-- a reset that did it, or nothing
pub record ResetDid (zone : ℕ) (done : Bool) (u v : View) : Type 0 where
  pub inside : IsSomeAnd u.told (IsSequentialZone zone)
  pub did : Turns (IsResetBy zone done) u v
  pub call : CallsReset zone u v

-- a flush with this answer
pub record FlushDid (ok : Bool) (u v : View) : Type 0 where
  pub same : Turns Same u v
  pub call : Calls (λ _. Same) (λ _ _. Same) u v
  pub durable : ok ≡ true → IsDurable v

-- the call leads from one view to the next
abbrev pub IsCall : DiskCall → View → View → Type 0
IsCall (Writes zone start bytes done) u v = WriteDid zone start bytes done u v
IsCall (Resets zone done) u v = ResetDid zone done u v
IsCall (Saves ok) u v = FlushDid ok u v
IsCall Looks u v = OnlyReads u v

-- the calls lead through these views, one after another
abbrev pub AreCalls : List DiskCall → (ℕ → View) → Type 0
AreCalls [] views = Unit {0}
AreCalls (c ∷ calls) views = IsCall c (views 0) (views 1) × AreCalls calls (λ k. views (suc k))

-- a disk that reads as this image, had no writing calls, and would be left by a stop as it reads
pub record IsBeginning (first : Image) (v : View) : Type 0 where
  pub reads : v.zones ≡ Some first
  pub calls : v.calls ≡ 0
  pub left : (i : Image) → v.left 0 i → Same first i

-- The laws are over any kind of disk, by what its values tell.
module _ {D : Type 0} (view : D → View) where
  -- any calls, from a disk at its beginning on, while the count of writing calls is below its end
  abbrev pub AnyCallsStayWithin : Type 0
  AnyCallsStayWithin = (first : Image) (calls : List DiskCall) (disks : ℕ → D)
      → IsBeginning first (view (disks 0)) → AreCalls calls (λ k. view (disks k))
      → (view (disks (length calls))).calls < 2 ^ 64 - 1
      → ((view (disks (length calls))).calls ≡ length (writing_calls calls))
      × IsSomeAnd (view (disks (length calls))).zones (λ now.
      IsWithin first (writing_calls calls) now (view (disks (length calls))).left)

  -- by its clauses a write did some of what was asked, whether it answered Ok or failed
  abbrev pub AWriteDoesSome : Type 0
  AWriteDoesSome = (old new : D) (zone start : ℕ) (bytes : List ℕ)
      → IsWrite zone start bytes (view old) → CallsWrite zone start bytes (view old) (view new)
      → Turns (Wrote zone start bytes) (view old) (view new)
      ⊎ Turns (λ i. WriteStep i zone start bytes i) (view old) (view new)
      → (done : List Event) × PutsOwn zone start bytes done
      × WriteDid zone start bytes done (view old) (view new)

  -- and a reset did it, or nothing
  abbrev pub AResetDoesAllOrNothing : Type 0
  AResetDoesAllOrNothing = (old new : D) (zone : ℕ)
      → IsSomeAnd (view old).told (IsSequentialZone zone) → CallsReset zone (view old) (view new)
      → Turns (WasReset zone) (view old) (view new) ⊎ Turns (ResetStep zone) (view old) (view new)
      → (done : Bool) × ResetDid zone done (view old) (view new)
