-- What the rules of steps look at of a volume.
use Rattle.std.specs.Prelude.{ℕ, ◌+◌, ◌-◌, ◌/◌, ◌%◌, Bool, true, false, not, ◌&&◌, ◌||◌, ◌==◌, nat_lt, nat_le}
use Rattle.std.specs.Prelude.{if◌then◌else◌, List, [], ◌∷◌, count_by, find, slice_index, Option, Some, None}
use Rattle.std.specs.Prelude.{is_some, option_and_then}
use Rattle.std.specs.List.{list_any, range_with_len}
use Rattle.zd_base.specs.Geometry.{Shape}
use Rattle.zd_base.specs.Layout.{first_data_zone}
use Rattle.zd_base.specs.declared.geometry.Kind.TheVariants.{Conventional, Sequential}
use Rattle.zd_base.specs.declared.steps.StepKind.{StepKind}
use Rattle.zd_base.specs.declared.steps.StepKind.TheVariants.{CopyRead, CopyWrite, Remap}
use Rattle.zd_alloc.specs.Zones.{Division, is_free, is_limbo, uses_of}
use Rattle.zd_model.specs.Requests.{block_count, first_block}
use Rattle.zd_model.specs.Tables.{is_valid}
use Rattle.zd_model.specs.declared.requests.Piece.{Piece}
use Rattle.zd_model.specs.declared.requests.What.{What}
use Rattle.zd_volume.specs.Discards.{range_first}
use Rattle.zd_volume.specs.Flights.{place_now, tables_now}
use Rattle.zd_volume.specs.Volumes.{PlainVolume}
use Rattle.zd_volume.specs.declared.phase.Phase.{Phase}
use Rattle.zd_volume.specs.declared.phase.Phase.TheVariants.{Idle}
use Rattle.zd_volume.specs.declared.work.JobKind.{JobKind}
use Rattle.zd_volume.specs.declared.work.JobKind.TheVariants.{Move}
use Rattle.zd_volume.specs.declared.work.Work.{Work}
use Rattle.zd_routes.specs.Edges.{bytes_at, edge_block, is_in_part}
use Rattle.zd_routes.specs.Routes.{entry_touched}
use Rattle.zd_routes.specs.declared.edges.Edge.{Edge}
use Rattle.zd_routes.specs.declared.edges.Edge.TheVariants.{First, Last}
use Rattle.zd_routes.specs.declared.edges.Edges.{Edges}
use Rattle.zd_jobs.specs.NextSteps.{source}
use Rattle.zd_jobs.specs.Possible.{kind_on}
use Rattle.zd_steps.specs.Runs.{Standing}

-- a commit is under way
abbrev pub is_under_way : Phase → Bool
is_under_way Idle = false
is_under_way phase = true

-- A WRITE THAT BEGINS IN THIS BLOCK OF ITS CHUNK TAKES A ZONE, by the chunk's zone and buffer: where the chunk has
-- none; or where its zone is sequential and isn't written just up to the block, and it has no buffer
abbrev pub takes_zone : Shape → List ℕ → ℕ → Option ℕ → Option ℕ → Bool
takes_zone g pointers first None buffer = true
takes_zone g pointers first (Some z) (Some b) = false
takes_zone g pointers first (Some z) None = nat_le g.conv z && not (slice_index pointers z == first)

abbrev pub needs_zone : PlainVolume → Piece → Bool
needs_zone v p = takes_zone v.geometry v.pointers (range_first v.geometry.zone_blocks p.what)
    (entry_touched v p.what).zone (entry_touched v p.what).buffer

-- THE NEXT STEP OF A JOB: the first valid block of its source that isn't copied; whether that stands behind the end of
-- a sequential target; and the step
abbrev pub next_block : PlainVolume → Work → Option ℕ
next_block v w = option_and_then
    (λ zone. find (is_valid (tables_now v) zone) (range_with_len w.copied (v.geometry.zone_blocks - w.copied)))
    (source v w)

abbrev pub leaves_gap : Shape → Work → Option ℕ → ℕ → Bool
leaves_gap g w None at = false
leaves_gap g w (Some zone) at = nat_le g.conv zone && nat_lt w.copied at

abbrev pub kind_at : Shape → Work → Option ℕ → StepKind
kind_at g w None = Remap
kind_at g w (Some at) = if leaves_gap g w w.target at then CopyWrite else CopyRead

abbrev pub kind_next : PlainVolume → Option Work → Option StepKind
kind_next v None = None
kind_next v (Some w) = Some (if nat_lt 0 w.read then CopyWrite else kind_at v.geometry w (next_block v w))

-- SOME JOB CAN BE PICKED: one is possible on some chunk
abbrev pub is_possible : Division → Option JobKind → Bool
is_possible d None = false
is_possible d (Some Move) = nat_lt 0 (count_by is_free (uses_of Sequential d))
is_possible d (Some kind) = true

abbrev pub has_job : PlainVolume → Bool
has_job v = list_any (λ chunk. is_possible v.division (kind_on v chunk)) (range_with_len 0 v.head.layout.chunks)

-- AN EDGE OF A WRITE IS STILL TO BE READ: its block is touched in part, it is valid, and it isn't read
abbrev pub has_edge : What → Edge → Bool
has_edge what First = is_in_part what (first_block what)
has_edge what Last = nat_le 2 (block_count what) && is_in_part what (first_block what + block_count what - 1)

abbrev pub is_unread : List ℕ → Bool
is_unread [] = true
is_unread (byte ∷ bytes) = false

abbrev pub is_edge_due : PlainVolume → Edges → What → Edge → Bool
is_edge_due v e what edge =
    is_unread (bytes_at e edge) && has_edge what edge
    && is_some (place_now v (edge_block what edge / v.geometry.zone_blocks)
    (edge_block what edge % v.geometry.zone_blocks))

abbrev pub lacks_edge : PlainVolume → Edges → Piece → Bool
lacks_edge v e p = is_edge_due v e p.what First || is_edge_due v e p.what Last

-- WHAT THE RULES SEE of a volume, for an actor that has read these edges
abbrev pub standing_of : PlainVolume → Edges → Standing
standing_of v e = record {
  stopped = is_some v.stopped;
  commits = is_under_way v.phase;
  job = kind_next v v.job;
  picks = has_job v;
  free = count_by is_free (uses_of Conventional v.division);
  limbo = count_by is_limbo (uses_of Conventional v.division);
  data_zones = v.geometry.conv - first_data_zone v.geometry v.head.layout;
  has_limbo = list_any is_limbo v.division.zones;
  needs_zone = needs_zone v;
  merges = lacks_edge v e;
}
