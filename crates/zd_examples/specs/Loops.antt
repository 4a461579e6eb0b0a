-- A session of one actor over five zones of 8 blocks: two of metadata, a conventional data zone and two sequential
-- ones. Seven blocks of metadata are used, so that a job makes 9 calls at most and a commit 18.
use Rattle.std.specs.Prelude.{ℕ, true, false, List, [], ◌∷◌, Some, None}
use Rattle.zd_alloc.specs.declared.uses.ZoneUse.{ZoneUse}
use Rattle.zd_alloc.specs.declared.uses.ZoneUse.TheVariants.{Meta, Free, Held}
use Rattle.zd_model.specs.declared.metadata.MapEntry.{MapEntry}
use Rattle.zd_progress.specs.LoneRuns.{JobAhead, LoneRun}
use Rattle.zd_progress.specs.Measures.{Rest}
use Rattle.zd_progress.specs.Paces.{LoopState}
use Rattle.zd_progress.specs.Stocks.{Stock}

abbrev pub without_zone : MapEntry
without_zone = record { zone = None; buffer = None }

abbrev pub mapped_to : ℕ → MapEntry
mapped_to zone = record { zone = Some zone; buffer = None }

-- the data zones are used so, and the chunks have these entries
abbrev pub stock_of : ZoneUse → ZoneUse → ZoneUse → List MapEntry → Stock
stock_of third fourth fifth entries = record {
  division = record {
    conv = 3;
    zones = Meta ∷ Meta ∷ third ∷ fourth ∷ fifth ∷ [];
    order = 0 ∷ 1 ∷ [];
  };
  entries = entries;
}

-- one piece is left, nothing is done yet, and this is left to do
abbrev pub begun_with : LoneRun → Rest → LoopState
begun_with run rest = record {
  pace = record { run = run; ats = []; left = 1; generation = 1 };
  rest = rest;
  most = record { pieces = 0; flight = 9; jobs = 5; commit = 18; copies = 19 };
  first = 2;
  job_calls = 9;
  commit_calls = 18;
  opening = 1;
  pieces = 1;
  others = 0;
  stopped = None;
  has_ended = false;
}

-- the piece was entered after so many calls
abbrev pub entered_at : ℕ → LoopState → LoneRun → LoopState
entered_at at s run = record s {
  pace = record s.pace { run = run; ats = at ∷ []; left = 0 };
  rest = record s.rest { pieces = 0 };
  has_ended = true;
}

-- A FLUSH WAITS, and nothing is dirty
abbrev pub flush_run : LoneRun
flush_run = record {
  stock = stock_of Free Free Free (without_zone ∷ without_zone ∷ []);
  job = None;
  commit = 0;
  dirty = 0;
  is_ready = false;
  flush_waits = true;
  is_wanted = false;
  calls = 0;
  jobs = 0;
  commits = 0;
}

abbrev pub flush_begun : LoopState
flush_begun = begun_with flush_run (record { pieces = 1; flight = 9; jobs = 0; commit = 0; copies = 19 })

abbrev pub flush_over : LoopState
flush_over = entered_at 1 flush_begun
    (record flush_run { is_ready = true; flush_waits = false; calls = 1; commits = 1 })

-- A WRITE LACKS A ZONE: the one conventional zone has chunk 0. It moves to the first sequential zone: one block is
-- read and written
abbrev pub lacking_run : LoneRun
lacking_run = record flush_run {
  stock = stock_of Held Free Free (mapped_to 2 ∷ without_zone ∷ []);
  flush_waits = false;
  is_wanted = true;
}

-- a move that may still make so many calls
abbrev pub move_ahead : ℕ → JobAhead
move_ahead calls = record { chunk = 0; source = 2; result = mapped_to 3; calls = calls }

abbrev pub moving_run : ℕ → ℕ → LoneRun
moving_run left calls = record lacking_run {
  stock = stock_of Held Held Free (mapped_to 2 ∷ without_zone ∷ []);
  job = Some (move_ahead left);
  jobs = 1;
  calls = calls;
}

abbrev pub moved_run : LoneRun
moved_run = record lacking_run {
  stock = stock_of Free Held Free (mapped_to 3 ∷ without_zone ∷ []);
  dirty = 1;
  is_ready = true;
  is_wanted = false;
  jobs = 1;
  calls = 1;
}

abbrev pub move_begun : LoopState
move_begun = begun_with lacking_run (record { pieces = 1; flight = 9; jobs = 2; commit = 0; copies = 19 })

-- by the steps that are left of the job
abbrev pub move_going : ℕ → LoneRun → LoopState
move_going copies run = record move_begun {
  pace = record move_begun.pace { run = run };
  rest = record move_begun.rest { copies = copies };
}

abbrev pub move_done : LoopState
move_done = record move_begun {
  pace = record move_begun.pace { run = moved_run };
  rest = record move_begun.rest { jobs = 1; commit = 8 };
}

abbrev pub move_over : LoopState
move_over = entered_at 2 move_done (record moved_run {
  stock = stock_of Held Held Free (mapped_to 3 ∷ mapped_to 2 ∷ []);
  calls = 2;
})
