-- How much the run of a session has left to do, as one number that each step lessens: of any session, alone or not.
use Rattle.std.specs.Prelude.{◌≡◌, ℕ, ◌+◌, ◌*◌, ◌<◌, ◌≤◌, Bool, true, false, length, set, count_by, is_some}
use Rattle.zd_base.specs.declared.geometry.Kind.TheVariants.{Conventional}
use Rattle.zd_alloc.specs.Zones.{use_after_release, use_at, uses_of}
use Rattle.zd_alloc.specs.declared.uses.ZoneUse.{ZoneUse}
use Rattle.zd_alloc.specs.declared.uses.ZoneUse.TheVariants.{Held}
use Rattle.zd_model.specs.Tables.{entry_in_map}
use Rattle.zd_model.specs.declared.metadata.MapEntry.{MapEntry}
use Rattle.zd_progress.specs.LoneRuns.{JobAhead}
use Rattle.zd_progress.specs.Stocks.{IsJobEnd, Stock}

abbrev pub is_held_use : ZoneUse → Bool
is_held_use Held = true
is_held_use _ = false

-- the conventional zones that are held, and the zones and buffers that entries name: each job that ends lessens the
-- sum, and no other step that enters nothing touches it
abbrev pub jobs_ever : Stock → ℕ
jobs_ever s =
    count_by is_held_use (uses_of Conventional s.division)
    + count_by (λ (e : MapEntry). is_some e.zone) s.entries
    + count_by (λ (e : MapEntry). is_some e.buffer) s.entries

-- the end of a job, in any session
pub record EndsJob (w : JobAhead) (a b : Stock) : Type 0 where
  pub inside : w.chunk < length a.entries
  pub zone_inside : w.source < length a.division.zones
  pub kinds : a.division.conv ≤ length a.division.zones
  pub held : use_at a.division.zones w.source ≡ Held
  pub entry : IsJobEnd a.division.conv w.source (entry_in_map a.entries w.chunk) w.result
  pub by_commit : Bool
  pub entries : b.entries ≡ set a.entries w.chunk w.result
  pub conv : b.division.conv ≡ a.division.conv
  pub zones : b.division.zones ≡ set a.division.zones w.source (use_after_release by_commit)

-- WHAT IS LEFT
pub record Rest : Type 0 where
  -- the pieces that aren't entered
  pub pieces : ℕ
  -- of the actor's piece in flight: the blocks of a read that aren't read, the edges of a write that are due; and one
  -- more than a zone's blocks where it has none
  pub flight : ℕ
  -- the jobs that may ever end before a piece is entered (`jobs_ever`)
  pub jobs : ℕ
  -- the calls of the commit under way, or else of one that would begin; none where nothing is dirty or in limbo
  pub commit : ℕ
  -- the steps of the job under way, or else of one that would begin
  pub copies : ℕ

-- no number but that of pieces is greater
pub record IsRestWithin (most r : Rest) : Type 0 where
  pub flight : r.flight ≤ most.flight
  pub jobs : r.jobs ≤ most.jobs
  pub commit : r.commit ≤ most.commit
  pub copies : r.copies ≤ most.copies

abbrev pub a_job : Rest → ℕ
a_job most = most.commit + most.copies + 1

abbrev pub a_piece : Rest → ℕ
a_piece most = most.jobs * a_job most + most.commit + most.copies + most.flight + 1

abbrev pub measure : Rest → Rest → ℕ
measure most r = r.pieces * a_piece most + r.jobs * a_job most + r.commit + r.copies + r.flight

-- A STEP LESSENS one number, and raises none but those behind it
pub data Lessens (a b : Rest) : Type 0 where
  enters : b.pieces < a.pieces → Lessens a b
  ends : b.pieces ≡ a.pieces → b.flight ≡ a.flight → b.jobs < a.jobs → Lessens a b
  goes_on : b.pieces ≡ a.pieces → b.jobs ≡ a.jobs
      → b.flight + b.commit + b.copies < a.flight + a.commit + a.copies → Lessens a b
