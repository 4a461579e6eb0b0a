-- What zones are used for, which zones the committed map names, which blocks are dirty, and which
-- chunks are candidates.
use Rattle.std.specs.Prelude.{◌≡◌, ◌⊎◌, ◌↔◌, ℕ, ◌-◌, ◌^◌, ◌<◌, ◌≤◌, Bool, true, false}
use Rattle.std.specs.Prelude.{List, length, get_or, count_by, Option, Some, None, ⊤}
use Rattle.std.specs.List.{range_with_len}
use Rattle.zd_base.specs.Geometry.{Shape, zone_count}
use Rattle.zd_base.specs.Layout.{first_data_zone}
use Rattle.zd_alloc.specs.Candidates.{IsInOrder, Standings, class_of}
use Rattle.zd_alloc.specs.Zones.{Division, use_at}
use Rattle.zd_alloc.specs.declared.uses.ZoneUse.TheVariants.{Free, Held, Limbo, Meta}
use Rattle.zd_model.specs.Tables.{Tables}
use Rattle.zd_sets.specs.Blocks.{blocks_of}
use Rattle.zd_volume.specs.declared.phase.Phase.{Phase}
use Rattle.zd_volume.specs.declared.phase.Phase.TheVariants.{Idle, Log, LogFlush, LogSuper}
use Rattle.zd_volume.specs.declared.phase.Phase.TheVariants.{LogSuperFlush, InPlace, InPlaceFlush}
use Rattle.zd_volume.specs.declared.phase.Phase.TheVariants.{InPlaceSuper, InPlaceSuperFlush}
use Rattle.zd_volume.specs.declared.work.JobKind.TheVariants.{Move}
use Rattle.zd_volume.specs.declared.work.Work.{Work}
use Rattle.zd_volume.specs.Jobs.{IsNamed, IsTarget, class_in}
use Rattle.zd_volume.specs.Sets.{Sets, new_tables, old_tables, used}

-- a flag for each used block: one that isn't dirty is as it was committed. The super block never is
pub record AreFlags (s : Sets) (dirty : List Bool) : Type 0 where
  pub size : length dirty ≡ used s
  pub front : get_or dirty 0 true ≡ false
  pub clean : (k : ℕ) → k < used s → get_or dirty k true ≡ false →
      blocks_of s.old k 1 ≡ blocks_of s.new k 1

-- how many blocks are dirty from this one on
abbrev pub dirty_from : List Bool → ℕ → ℕ
dirty_from dirty from =
    count_by (λ k. get_or dirty k false) (range_with_len from (length dirty - from))

-- the block that is written next is a dirty one, and there is a next generation
abbrev pub IsDirtyBlock : List Bool → ℕ → ℕ → Type 0
IsDirtyBlock dirty k generation =
    (1 ≤ k) × (k < length dirty) × (get_or dirty k false ≡ true) × (generation < 2 ^ 64 - 1)

-- what a phase says of its block and of the generation
abbrev pub IsPhase : Phase → List Bool → ℕ → Type 0
IsPhase Idle dirty generation = ⊤
IsPhase (Log k) dirty generation = IsDirtyBlock dirty k generation
IsPhase LogFlush dirty generation = generation < 2 ^ 64 - 1
IsPhase LogSuper dirty generation = generation < 2 ^ 64 - 1
IsPhase LogSuperFlush dirty generation = generation < 2 ^ 64 - 1
IsPhase (InPlace k) dirty generation = IsDirtyBlock dirty k generation
IsPhase InPlaceFlush dirty generation = generation < 2 ^ 64 - 1
IsPhase InPlaceSuper dirty generation = generation < 2 ^ 64 - 1
IsPhase InPlaceSuperFlush dirty generation = generation < 2 ^ 64 - 1

-- a flag for each zone: whether these tables name it
pub record FlagNamed (g : Shape) (t : Tables) (named : List Bool) : Type 0 where
  pub size : length named ≡ zone_count g
  pub each : (z : ℕ) → z < zone_count g → (get_or named z false ≡ true) ↔ IsNamed t z

-- What the zones are used for. The zones of both sets are metadata, and no other is. A free zone is
-- named by no tables, and no job copies to it; one in limbo is named by the committed tables alone;
-- one that is held is named by the new tables or is a job's target, and both are held.
pub record AreUsed (s : Sets) (job : Option Work) (d : Division) : Type 0 where
  pub count : length d.zones ≡ zone_count s.geometry
  pub conv : d.conv ≡ s.geometry.conv
  pub order : length d.order ≡ s.head.layout.chunks
  pub meta : (z : ℕ) → z < zone_count s.geometry →
      (use_at d.zones z ≡ Meta) ↔ (z < first_data_zone s.geometry s.head.layout)
  pub free : (z : ℕ) → use_at d.zones z ≡ Free →
      (IsNamed (old_tables s) z → ⊥) × (IsNamed (new_tables s) z → ⊥) × (IsTarget job z → ⊥)
  pub limbo : (z : ℕ) → use_at d.zones z ≡ Limbo →
      IsNamed (old_tables s) z × (IsNamed (new_tables s) z → ⊥) × (IsTarget job z → ⊥)
  pub held : (z : ℕ) → use_at d.zones z ≡ Held → IsNamed (new_tables s) z ⊎ IsTarget job z
  pub named : (z : ℕ) → IsNamed (new_tables s) z → use_at d.zones z ≡ Held
  pub target : (z : ℕ) → IsTarget job z → use_at d.zones z ≡ Held

-- each chunk has its class, and the numbers rise along the use order
pub record AreCandidates (s : Sets) (pointers order : List ℕ) (standings : Standings) : Type 0 where
  pub count : length standings.classes ≡ s.head.layout.chunks
  pub in_order : IsInOrder order standings.numbers
  pub each : (c : ℕ) → c < s.head.layout.chunks →
      class_of standings.classes c ≡ class_in s.geometry pointers (new_tables s) c

-- a Move under way has taken this zone
abbrev pub IsMoved : Option Work → ℕ → Type 0
IsMoved None z = ⊥
IsMoved (Some w) z = (w.job.kind ≡ Move) × (w.target ≡ Some z)

-- a flag for each zone, made of the uses: whether it is held and no Move has taken it
pub record IsNamedFlags (d : Division) (job : Option Work) (flags : List Bool) : Type 0 where
  pub size : length flags ≡ length d.zones
  pub each : (z : ℕ) → z < length d.zones →
      (get_or flags z false ≡ true) ↔ ((use_at d.zones z ≡ Held) × (IsMoved job z → ⊥))
