-- What a volume starts as, put together.
use Rattle.std.proofs.Common.{◌≡◌, ℕ, ◌*◌, Bool, false, List, [], length, replicate, None, Some, sym, ap, ◌∙◌, subst}
use Rattle.zd_base.specs.Geometry.{Shape, zone_count, IsShape}
use Rattle.zd_base.specs.Layout.{Fits, used_blocks}
use Rattle.zd_alloc.specs.Candidates.{Standings}
use Rattle.zd_alloc.specs.Zones.{Division, IsStart}
use Rattle.zd_disk.specs.View.{View}
use Rattle.zd_model.specs.History.{HistoryEntry}
use Rattle.zd_model.specs.Super.{HasBlock}
use Rattle.zd_model.specs.declared.metadata.Super.{Super}
use Rattle.zd_state.specs.Started.{ClassesBelow, FlagNamedBelow, IsStarted}
use Rattle.zd_state.proofs.NamedFlags.{flags_all}
use Rattle.zd_state.proofs.StartClasses.{candidates_all}
use Rattle.zd_tables.specs.Held.{HeldTables, tables_held}
use Rattle.zd_tables.specs.Rules.{FollowRules}
use Rattle.zd_volume.specs.Starts.{OpensAs}
use Rattle.zd_volume.specs.Uses.{AreCandidates}
use Rattle.zd_volume.specs.Volumes.{IsKeptVolume, PlainVolume, StandInZones, sets_of}
use Rattle.zd_volume.specs.declared.phase.Phase.TheVariants.{Idle}
use Rattle.zd_volume.proofs.FixedStart.{fixed_start, same_sets}
use Rattle.zd_volume.proofs.Starting.{kept_start}

module _ (g : Shape) (head : Super) (bytes pointers : List ℕ) (h : HeldTables) (committed : List ℕ)
    (dirty named : List Bool) (division : Division) (standings : Standings) (buffer : List ℕ) (history : List HistoryEntry) where
  abbrev place : HeldTables
  place = record { geometry = g; layout = head.layout; bytes = bytes }

  abbrev values : HeldTables → List ℕ → List Bool → List HistoryEntry → PlainVolume
  values t old flags entries = record {
    geometry = t.geometry;
    head = head;
    phase = Idle;
    committed = old;
    fresh = t.bytes;
    dirty = flags;
    division = division;
    named = named;
    pointers = pointers;
    standings = standings;
    job = None;
    buffer = buffer;
    history = entries;
    since = 0;
    opening_generation = head.generation;
    stopped = None;
  }

  abbrev clean : List Bool
  clean = replicate (used_blocks g head.layout) false

  module _ (tables : h ≡ place) (same : committed ≡ h.bytes) (dirty_is : dirty ≡ clean) (none : history ≡ []) where
    is_values : values h committed dirty history ≡ values place bytes clean []
    is_values =
        ap (λ (t : HeldTables). values t committed dirty history) tables
        ∙ ap (λ (old : List ℕ). values place old dirty history) (same ∙ ap (λ (t : HeldTables). t.bytes) tables)
        ∙ ap (λ (flags : List Bool). values place bytes flags history) dirty_is
        ∙ ap (λ (entries : List HistoryEntry). values place bytes clean entries) none

    pub started_of : FlagNamedBelow h.geometry (tables_held h) h.layout.chunks named
        → IsStart g head.layout named division → ClassesBelow h pointers h.layout.chunks standings
        → length buffer ≡ 4096 * 32 → IsStarted g head bytes pointers (values h committed dirty history)
    started_of flags start classes room = record {
      plain = is_values;
      division = start;
      named = flags_all g head.layout bytes named
          (subst (λ (t : HeldTables). FlagNamedBelow t.geometry (tables_held t) t.layout.chunks named) tables flags);
      candidates = subst (λ (v : PlainVolume). AreCandidates (sets_of v) pointers division.order standings)
          (sym is_values)
          (candidates_all g head bytes pointers division.order standings start.order
          (subst (λ (t : HeldTables). ClassesBelow t pointers t.layout.chunks standings) tables classes));
      buffer = room;
    }

-- over a disk that was opened it is a volume
pub kept_started : (g : Shape) (head : Super) (bytes pointers : List ℕ) (v : PlainVolume) (d : View)
    → IsStarted g head bytes pointers v → d.told ≡ Some g → IsShape g → Fits g head.layout
    → HasBlock head → length bytes ≡ 4096 * used_blocks g head.layout → FollowRules g head.layout bytes
    → length pointers ≡ zone_count g → StandInZones g pointers → OpensAs (same_sets g head bytes) pointers d → IsKeptVolume v d d
kept_started g head bytes pointers v d is tells shape fits sizes size rules count in_zones opens =
    subst (λ (w : PlainVolume). IsKeptVolume w d d) (sym is.plain)
    (kept_start g head bytes (replicate (used_blocks g head.layout) false) v.division v.named pointers v.standings
    v.buffer d tells
    (fixed_start g head bytes v.division v.named pointers v.standings v.buffer shape fits sizes rules size is.division
    is.named count in_zones
    (subst (λ (w : PlainVolume). AreCandidates (sets_of w) pointers v.division.order v.standings) is.plain
    is.candidates)
    is.buffer)
    opens)
