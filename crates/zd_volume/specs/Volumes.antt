-- A volume's own values, and what is always true of them and of its disk.
use Rattle.std.specs.Prelude.{◌≡◌, ℕ, ◌+◌, ◌-◌, ◌*◌, ◌%◌, ◌^◌, ◌<◌, ◌≤◌, List, length, slice_index, Bool}
use Rattle.std.specs.Prelude.{Option, Some, None}
use Rattle.zd_base.specs.Geometry.{Shape, zone_count}
use Rattle.zd_base.specs.Layout.{rounded_up}
use Rattle.zd_base.specs.declared.numbers.Why.{Why}
use Rattle.zd_alloc.specs.Candidates.{Standings}
use Rattle.zd_alloc.specs.Zones.{Division, use_at}
use Rattle.zd_alloc.specs.declared.uses.ZoneUse.{ZoneUse}
use Rattle.zd_alloc.specs.declared.uses.ZoneUse.TheVariants.{Held}
use Rattle.zd_model.specs.History.{HistoryEntry, IsLegal}
use Rattle.zd_model.specs.Image.{Image}
use Rattle.zd_model.specs.Safe.{IsSafe, base_at}
use Rattle.zd_model.specs.Stops.{AreBy, MayHold}
use Rattle.zd_model.specs.declared.metadata.Super.{Super}
use Rattle.zd_disk.specs.Growth.{Grows}
use Rattle.zd_disk.specs.Moments.{AtEach}
use Rattle.zd_disk.specs.OfGeometry.{IsImageOf}
use Rattle.zd_disk.specs.Told.{WhereTold, next_count}
use Rattle.zd_disk.specs.View.{Stays, View}
use Rattle.zd_volume.specs.FaultCounts.{AreCalm, TellsFaults}
use Rattle.zd_volume.specs.Jobs.{HasCopies, IsJobOrNone}
use Rattle.zd_volume.specs.LeftImages.{MayBeLeft, ReadsAs}
use Rattle.zd_volume.specs.Sets.{AreSets, Sets, device_sectors, old_tables}
use Rattle.zd_volume.specs.Uses.{AreCandidates, AreFlags, AreUsed, FlagNamed, IsPhase}
use Rattle.zd_volume.specs.declared.phase.Phase.{Phase}
use Rattle.zd_volume.specs.declared.work.Work.{Work}

-- the values of a volume, without its disk
pub record PlainVolume : Type 0 where
  pub geometry : Shape
  -- the fields of its super blocks, with the generation of the last commit that ended
  pub head : Super
  pub phase : Phase
  -- the used blocks of a set, as they were committed and as they are now
  pub committed : List ℕ
  pub fresh : List ℕ
  -- a flag for each used block
  pub dirty : List Bool
  pub division : Division
  -- for each zone whether the committed map names it
  pub named : List Bool
  -- for each zone its pointer in blocks, rounded up; of a conventional one any number
  pub pointers : List ℕ
  pub standings : Standings
  pub job : Option Work
  -- the copy buffer
  pub buffer : List ℕ
  pub history : List HistoryEntry
  -- the writing calls since opening ended
  pub since : ℕ
  pub opening_generation : ℕ
  pub stopped : Option Why

abbrev pub sets_of : PlainVolume → Sets
sets_of v = record { geometry = v.geometry; head = v.head; old = v.committed; new = v.fresh }

-- pointers in blocks stand in their zones: no sequential zone's is behind the zone's end
pub record StandInZones (g : Shape) (pointers : List ℕ) : Type 0 where
  pub at : (z : ℕ) → g.conv ≤ z → z < zone_count g → slice_index pointers z ≤ g.zone_blocks

-- what is true of these values alone
pub record IsFixed (v : PlainVolume) : Type 0 where
  pub sets : AreSets (sets_of v)
  pub flags : AreFlags (sets_of v) v.dirty
  pub under_way : IsPhase v.phase v.dirty v.head.generation
  pub uses : AreUsed (sets_of v) v.job v.division
  pub named : FlagNamed v.geometry (old_tables (sets_of v)) v.named
  pub pointers : length v.pointers ≡ zone_count v.geometry
  pub in_zones : StandInZones v.geometry v.pointers
  pub candidates : AreCandidates (sets_of v) v.pointers v.division.order v.standings
  pub job : IsJobOrNone (sets_of v) v.pointers v.job
  pub room : length v.buffer ≡ 4096 * 32

-- The writing calls since opening. While the disk's count is below its end, that of the volume is
-- exact, and the generation has risen no more often.
pub record CountsSince (v : PlainVolume) (opening calls : ℕ) : Type 0 where
  pub few : v.since < 2 ^ 64
  pub later : opening ≤ calls
  pub count : calls < 2 ^ 64 - 1 → opening + v.since ≡ calls
  pub generation : calls < 2 ^ 64 - 1 → v.head.generation ≤ v.opening_generation + v.since
  pub by_now : AreBy v.since v.history

-- the pointers of sequential zones are those of the image, rounded up to blocks
pub record HasPointers (g : Shape) (pointers : List ℕ) (i : Image) : Type 0 where
  pub at : (z : ℕ) → g.conv ≤ z → z < zone_count g →
      slice_index pointers z ≡ rounded_up (i.held z) 8

-- the pointers of the sequential zones that are held stand at blocks' ends
pub record IsWhole (g : Shape) (uses : List ZoneUse) (i : Image) : Type 0 where
  pub at : (z : ℕ) → g.conv ≤ z → use_at uses z ≡ Held → i.held z % 8 ≡ 0

-- what the disk reads as now
pub record IsNow (v : PlainVolume) (base : List (List ℕ)) (i : Image) : Type 0 where
  pub read : ReadsAs v.phase (sets_of v) base v.history i
  pub pointers : HasPointers v.geometry v.pointers i
  pub whole : IsWhole v.geometry v.division.zones i
  pub copies : HasCopies (sets_of v) v.buffer v.job base v.history i

-- what a stop may leave now
abbrev pub MayBe : PlainVolume → List (List ℕ) → Image → Type 0
MayBe v base i = MayBeLeft v.phase (sets_of v) base v.history v.since i

-- WHAT IS ALWAYS TRUE of a volume that began over a disk that told this (`opening`), and whose disk
-- tells that now
pub record IsKeptVolume (v : PlainVolume) (opening now : View) : Type 0 where
  pub tells : now.told ≡ Some v.geometry
  -- the disk tells what it reads as where it did when opening ended
  pub shows : WhereTold opening.zones (λ _. (i : Image) × (now.zones ≡ Some i))
  pub fixed : IsFixed v
  pub counted : CountsSince v opening.calls now.calls
  pub faulted : TellsFaults v.history v.stopped opening.faults now.faults
  pub calm : v.stopped ≡ None → AreCalm v.history
  pub based : WhereTold now.zones (λ _. length (base_at opening.zones) ≡ device_sectors (sets_of v))
  pub legal : now.calls < 2 ^ 64 - 1 → WhereTold now.zones (λ _.
      IsLegal (base_at opening.zones) v.history)
  pub reads : v.stopped ≡ None → WhereTold now.zones (IsNow v (base_at opening.zones))
  pub stops : v.stopped ≡ None → now.calls < 2 ^ 64 - 1 → WhereTold now.zones (λ _.
      (i : Image) → now.left now.calls i → MayBe v (base_at opening.zones) i)
  pub safe : now.calls < 2 ^ 64 - 1 → WhereTold now.zones (λ _.
      AtEach (IsSafe (base_at opening.zones) v.history) opening.calls now.calls now.left)
  -- of moments before opening's end no more is left than then
  pub earlier : now.calls < 2 ^ 64 - 1 → WhereTold now.zones (λ _.
      (k : ℕ) (i : Image) → k < opening.calls → now.left k i → opening.left k i)

-- a writing call of the disk, and what stays of the volume: `step` leads from what the disk read as,
-- and an image that a stop might leave, to one that it may leave then
pub record MakesCall (v w : PlainVolume) (u x : View) (step : Image → Image → Image → Type 0)
    : Type 0 where
  pub geometry : w.geometry ≡ v.geometry
  pub layout : w.head.layout ≡ v.head.layout
  pub opening : w.opening_generation ≡ v.opening_generation
  pub since : w.since ≡ next_count v.since
  pub stays : Stays u x
  pub calls : x.calls ≡ next_count u.calls
  pub grows : x.calls < 2 ^ 64 - 1 → WhereTold u.zones (λ r.
      Grows u.calls u.left x.left (step r) (step r))
  pub from : (j : Image) → x.zones ≡ Some j → (r : Image) × (u.zones ≡ Some r)
  pub shows : WhereTold u.zones (λ _. (j : Image) × (x.zones ≡ Some j))

-- what is known before a call, of the image that the disk reads as and of one that a stop might
-- leave; and that the image after it is one of the same geometry
pub record Known (v : PlainVolume) (base : List (List ℕ)) (r i c : Image) : Type 0 where
  pub reads : IsNow v base r
  pub reads_left : MayBe v base r
  pub reads_of : IsImageOf v.geometry r
  pub left_is : MayBe v base i
  pub left_of : IsImageOf v.geometry i
  pub new_of : IsImageOf v.geometry c

-- what a step with a writing call has to show, each time of one image
pub record Leads (v w : PlainVolume) (base : List (List ℕ)) (opening u x : View)
    (step : Image → Image → Image → Type 0) : Type 0 where
  pub fixed : IsFixed w
  pub by_now : AreBy w.since w.history
  pub generation : w.since ≡ v.since + 1 → v.head.generation ≤ v.opening_generation + v.since →
      w.head.generation ≤ w.opening_generation + w.since
  pub faulted : TellsFaults w.history w.stopped opening.faults x.faults
  pub calm : w.stopped ≡ None → AreCalm w.history
  pub legal : x.calls < 2 ^ 64 - 1 → (r : Image) → u.zones ≡ Some r →
      IsLegal base v.history → IsLegal base w.history
  pub past : (k n : ℕ) (y : List ℕ) → k < v.since →
      MayHold base v.history k n y → MayHold base w.history k n y
  pub reads : w.stopped ≡ None → (r j : Image) → u.zones ≡ Some r → x.zones ≡ Some j →
      IsImageOf v.geometry r → IsImageOf v.geometry j → IsNow v base r → IsNow w base j
  -- while the call is under way
  pub before : (r i c : Image) → w.since ≡ v.since + 1 → Known v base r i c → step r i c →
      u.zones ≡ Some r → IsSafe base w.history v.since c
  -- when it has returned
  pub after : (r i c : Image) → w.since ≡ v.since + 1 → Known v base r i c → step r i c →
      u.zones ≡ Some r → x.calls < 2 ^ 64 - 1 → x.left x.calls c → IsSafe base w.history w.since c
  pub stops : w.stopped ≡ None → (r i c : Image) → w.since ≡ v.since + 1 → Known v base r i c →
      step r i c → u.zones ≡ Some r → x.calls < 2 ^ 64 - 1 → x.left x.calls c → MayBe w base c
