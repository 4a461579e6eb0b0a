-- A session as numbers: what the laws of `zd_progress` on why a run ends look at.
use Rattle.std.specs.Prelude.{◌≡◌, ℕ, ◌+◌, ◌-◌, ◌*◌, ◌&&◌, ◌||◌, ◌==◌, not, if◌then◌else◌, length, map}
use Rattle.std.specs.Prelude.{slice_get, Option, Some, None, is_some, option_map}
use Rattle.std.specs.List.{list_any}
use Rattle.std.specs.Option.{option_map_or}
use Rattle.zd_alloc.specs.Zones.{is_limbo}
use Rattle.zd_base.specs.Layout.{first_data_zone, used_blocks}
use Rattle.zd_commit.specs.Closed.{calls_to_finish}
use Rattle.zd_disk.specs.View.{View}
use Rattle.zd_jobs.specs.Remaps.{leaving}
use Rattle.zd_model.specs.History.{mark_of_entry}
use Rattle.zd_model.specs.Requests.{Operation, block_count, operation_of}
use Rattle.zd_model.specs.Requests.Operation.{Reading}
use Rattle.zd_model.specs.Tables.{entry_of}
use Rattle.zd_model.specs.declared.requests.Piece.{Piece}
use Rattle.zd_progress.specs.Alone.{others_in}
use Rattle.zd_progress.specs.LoneRuns.{JobAhead, LoneRun}
use Rattle.zd_progress.specs.Measures.{Rest, jobs_ever}
use Rattle.zd_progress.specs.Paces.{LoopState}
use Rattle.zd_progress.specs.Stocks.{Stock}
use Rattle.zd_routes.specs.Edges.{bytes_at}
use Rattle.zd_routes.specs.declared.edges.Edge.{Edge}
use Rattle.zd_routes.specs.declared.edges.Edge.TheVariants.{First, Last}
use Rattle.zd_steps.specs.NextStep.{piece_step}
use Rattle.zd_steps.specs.Queues.{HasEntered, IsQueue, QueueState, run_of}
use Rattle.zd_steps.specs.Runs.{flight_of, has_flush, is_over, is_wanted}
use Rattle.zd_steps.specs.declared.step.Step.{Step}
use Rattle.zd_steps.specs.declared.step.Step.TheVariants.{Begin, Commit}
use Rattle.zd_volume.specs.Commits.{calls_left}
use Rattle.zd_volume.specs.Flights.{tables_now}
use Rattle.zd_volume.specs.Uses.{dirty_from}
use Rattle.zd_volume.specs.Volumes.{IsFixed, PlainVolume}
use Rattle.zd_volume.specs.declared.work.Work.{Work}
use Rattle.zd_session.specs.LoneSessions.{ats_of}
use Rattle.zd_session.specs.Sessions.{AreActors, CanServe, SessionView, ended_of, entries_to_come, pieces_on, run_seen}
use Rattle.zd_session.specs.Sessions.{standing_seen}
use Rattle.zd_session.specs.Standings.{is_unread}
use Rattle.zd_session.specs.declared.actor.Actor.{Actor}

-- how many jobs and commits have begun
pub record Begun : Type 0 where
  pub jobs : ℕ
  pub commits : ℕ

-- the calls of the commit under way; none where there is none
abbrev pub commit_ahead : PlainVolume → ℕ
commit_ahead v = calls_to_finish v.dirty v.phase

-- how many there are after this step
abbrev pub begun_after : PlainVolume → Option Step → Begun → Begun
begun_after v (Some Commit) n = record n { commits = n.commits + (if commit_ahead v == 0 then 1 else 0) }
begun_after v (Some Begin) n = record n { jobs = n.jobs + 1 }
begun_after v step n = n

-- zones and entries
abbrev pub stock_of : PlainVolume → Stock
stock_of v = record { division = v.division; entries = (tables_now v).entries }

abbrev pub zone_or_zero : Option ℕ → ℕ
zone_or_zero None = 0
zone_or_zero (Some zone) = zone

-- THE JOB UNDER WAY: the zone that it gives back, the entry that it leaves, and a writing call for each block of its
-- target that isn't written yet
abbrev pub job_ahead : PlainVolume → Work → JobAhead
job_ahead v w = record {
  chunk = w.job.chunk;
  source = zone_or_zero (leaving w.job.kind (entry_of (tables_now v) w.job.chunk));
  result = record { zone = w.target; buffer = None };
  calls = v.geometry.zone_blocks - w.copied;
}

-- THE NUMBERS OF A RUN by the first actor
abbrev pub lone_run : {D : Type 0} → SessionView D → Begun → LoneRun
lone_run s n = record {
  stock = stock_of s.volume.plain;
  job = option_map (job_ahead s.volume.plain) s.volume.plain.job;
  commit = commit_ahead s.volume.plain;
  dirty = dirty_from s.volume.plain.dirty 1;
  is_ready = is_over (run_seen s)
      || is_some (piece_step (run_seen s) (standing_seen s 0) (flight_of (run_seen s) 0));
  flush_waits = has_flush (run_seen s);
  is_wanted = is_wanted (run_seen s) (standing_seen s 0);
  calls = s.volume.plain.since;
  jobs = n.jobs;
  commits = n.commits;
}

-- the blocks of a read that aren't read, and the edges of a write that aren't
abbrev pub blocks_left : Piece → Actor → ℕ
blocks_left p a = block_count p.what - option_map_or (λ f. f.done) a.read 0

abbrev pub unread_edge : Actor → Edge → ℕ
unread_edge a edge = if is_unread (bytes_at a.edges edge) then 1 else 0

abbrev pub left_by : Piece → Actor → Operation → ℕ
left_by p a Reading = blocks_left p a
left_by p a operation = unread_edge a First + unread_edge a Last

-- WHAT IS LEFT of the piece that an actor has in flight; more than that of any where it has none
abbrev pub flight_left : ℕ → Option Piece → Actor → ℕ
flight_left zone_blocks None a = zone_blocks + 2
flight_left zone_blocks (Some p) a = left_by p a (operation_of p.what)

abbrev pub flight_rest : {D : Type 0} → SessionView D → ℕ
flight_rest s = option_map_or (flight_left s.volume.plain.geometry.zone_blocks (flight_of (run_seen s) 0))
    (slice_get s.actors 0) 0

-- the calls of a commit under way, or of one that would begin: none where nothing is dirty and no zone is in limbo
abbrev pub commit_rest : PlainVolume → ℕ
commit_rest v =
    if (commit_ahead v == 0) && (dirty_from v.dirty 1 == 0) && not (list_any is_limbo v.division.zones)
    then 0 else calls_left v.dirty v.phase

-- the steps of a job under way: a read and a write for each block of its target that isn't written, but for the read
-- that was made, and the last step; or of one that would begin
abbrev pub work_rest : ℕ → Work → ℕ
work_rest zone_blocks w = 2 * (zone_blocks - w.copied) + (if w.read == 0 then 1 else 0)

abbrev pub copy_rest : ℕ → Option Work → ℕ
copy_rest zone_blocks None = 2 * zone_blocks + 2
copy_rest zone_blocks (Some w) = work_rest zone_blocks w

abbrev pub rest_of : {D : Type 0} → SessionView D → Rest
rest_of s = record {
  pieces = entries_to_come (run_seen s);
  flight = flight_rest s;
  jobs = jobs_ever (stock_of s.volume.plain);
  commit = commit_rest s.volume.plain;
  copies = copy_rest s.volume.plain.geometry.zone_blocks s.volume.plain.job;
}

-- how much of each there is at most
abbrev pub most_of : {D : Type 0} → SessionView D → Rest
most_of s = record {
  pieces = 0;
  flight = s.volume.plain.geometry.zone_blocks + 2;
  jobs = s.volume.plain.geometry.conv + 2 * s.volume.plain.head.layout.chunks;
  commit = 2 * used_blocks s.volume.plain.geometry s.volume.plain.head.layout + 4;
  copies = 2 * s.volume.plain.geometry.zone_blocks + 2;
}

-- ALL THAT THE LOOP SEES, with so many jobs and commits begun
abbrev pub loop_of : {D : Type 0} → SessionView D → Begun → LoopState
loop_of s n = record {
  pace = record {
    run = lone_run s n;
    ats = ats_of s.volume.plain.history;
    left = entries_to_come (run_seen s);
    generation = s.volume.plain.head.generation;
  };
  rest = rest_of s;
  most = most_of s;
  first = first_data_zone s.volume.plain.geometry s.volume.plain.head.layout;
  job_calls = s.volume.plain.geometry.zone_blocks + 1;
  commit_calls = 2 * used_blocks s.volume.plain.geometry s.volume.plain.head.layout + 4;
  opening = s.volume.plain.opening_generation;
  pieces = length (pieces_on s.volume.plain s.plan);
  others = others_in s.flights;
  stopped = s.volume.plain.stopped;
  has_ended = ended_of s;
}

-- WHAT A SESSION TELLS OF ITSELF between steps: its values are sound, its entries are of its callers' first pieces, each
-- piece can be served, and each actor holds what it has in flight
pub record StandsSession {D : Type 0} (look : D → View) (s : SessionView D) : Type 0 where
  pub fixed : IsFixed s.volume.plain
  pub queue : QueueState
  pub is_queue : IsQueue queue.chunk_blocks queue.callers queue.flights
  pub run : run_of queue (map mark_of_entry s.volume.plain.history) ≡ run_seen s
  pub entered : HasEntered queue.callers (map mark_of_entry s.volume.plain.history)
  pub can : (i : ℕ) (p : Piece) → slice_get (pieces_on s.volume.plain s.plan) i ≡ Some p → CanServe s.volume.plain p
  pub actors : AreActors s.volume.plain (look s.volume.opening).zones s.flights s.actors
