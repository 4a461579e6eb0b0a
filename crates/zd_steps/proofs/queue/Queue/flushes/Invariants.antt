use Rattle.std.proofs.Common.{ℕ, ◌+◌, ◌-◌, ◌≤◌, List, length, vec_len, vec_capacity}
use Rattle.zd_model.specs.History.{Mark}
use Rattle.zd_steps.specs.Queues.{HasEntered, IsLeast, queue_of}
use Rattle.zd_steps.specs.Runs.{flushes}
use Rattle.zd_steps.proofs.FlushLaws.{IsGathered, heads_from}
use Rattle.zd_steps.proofs.queue.Queue.flushes.Given as goal

abbrev pub invariant-loop-piece : goal.invariant-loop-piece
invariant-loop-piece l = record {
  room : 64 ≤ vec_capacity l.list;
  from : ℕ;
  up : from ≤ l.place;
  least : IsLeast l.self-inside.heads flushes from l.place;
  few : vec_len l.list + heads_from from l.self-inside.heads.heads ≤ 64;
  so_far : (entered : List Mark) → HasEntered l.self-inside.heads entered → IsGathered (queue_of l.self-inside.flights.chunk_blocks l.self-inside.heads l.self-inside.flights.pieces.items) entered l.list.items from;
}

abbrev pub decreases-loop-piece : goal.decreases-loop-piece
decreases-loop-piece l = length l.self-inside.heads.pieces - l.place
