-- A session that one actor steps, who prefers pieces, until there is no step more.
use Rattle.std.specs.Prelude.{◌≡◌, ℕ, ◌+◌, ◌-◌, ◌*◌, ◌^◌, ◌<◌, ◌≤◌, List, [], length, map, replicate, Some, None, true}
use Rattle.zd_base.specs.Layout.{used_blocks}
use Rattle.zd_base.specs.declared.numbers.Why.{Why}
use Rattle.zd_base.specs.declared.steps.Prefer.{Prefer}
use Rattle.zd_disk.specs.View.{View}
use Rattle.zd_model.specs.History.{HistoryEntry}
use Rattle.zd_model.specs.declared.requests.Request.{Request}
use Rattle.zd_progress.specs.Alone.{FliesAlone}
use Rattle.zd_progress.specs.LoneRuns.{most_calls}
use Rattle.zd_progress.specs.Paces.{AreClose}
use Rattle.zd_state.specs.Seen.{Seen}
use Rattle.zd_volume.specs.Volumes.{PlainVolume}
use Rattle.zd_volume.specs.declared.phase.Phase.{Phase}
use Rattle.zd_volume.specs.declared.phase.Phase.TheVariants.{Idle}
use Rattle.zd_session.specs.SessionSteps.{MakesTurns}
use Rattle.zd_session.specs.Sessions.{SessionView, ended_of, next_seen, pieces_on}

-- A VOLUME THAT WAS JUST OPENED: it goes on, has answered nothing and made no call, and no commit and no job is under way
pub record IsFreshVolume {D : Type 0} (v : Seen D) : Type 0 where
  pub running : v.plain.stopped ≡ None
  pub new : v.plain.history ≡ []
  pub idle : v.plain.phase ≡ Idle
  pub free : v.plain.job ≡ None
  pub uncounted : v.plain.since ≡ 0
  pub generation : v.plain.head.generation ≡ v.plain.opening_generation
  pub here : v.opening ≡ v.disk

-- A SESSION THAT HAS JUST BEGUN over such a volume: no actor but the first has a piece in flight
pub record IsNewSession {D : Type 0} (s : SessionView D) : Type 0 where
  pub fresh : IsFreshVolume s.volume
  pub alone : FliesAlone s.flights 0

-- the numbers of the writing calls after which entries were made
abbrev pub ats_of : List HistoryEntry → List ℕ
ats_of history = map (λ (e : HistoryEntry). e.at) history

-- AT MOST SO MANY WRITING CALLS lie between neighbouring entries, and before the first one: two jobs, each with a reset
-- and a write for each block of a zone; three commits, each with two writes for each used block of a set but the first,
-- two super blocks and four flushes; and the entry's own call
abbrev pub most_between : (zone_blocks used : ℕ) → ℕ
most_between zone_blocks used = most_calls (zone_blocks + 1) (2 * used + 4)

abbrev pub most_between_on : PlainVolume → ℕ
most_between_on v = most_between v.geometry.zone_blocks (used_blocks v.geometry v.head.layout)

-- a commit that is under way will raise the generation by one
abbrev pub rise_of : Phase → ℕ
rise_of Idle = 0
rise_of phase = 1

-- how many generations its pieces need at most: three commits for each
abbrev pub most_generation : PlainVolume → List Request → ℕ
most_generation v plan = v.opening_generation + 3 * length (pieces_on v plan)

-- IT ENDS IN TIME: neighbouring entries are close. No commit lacks a generation where three for each piece, and closing,
-- have room; and closing has room for its own then
pub record EndsInTime {D : Type 0} (to : SessionView D) : Type 0 where
  pub close : AreClose (most_between_on to.volume.plain) (ats_of to.volume.plain.history)
  pub room : to.volume.plain.stopped ≡ Some Why.Generation →
      2 ^ 64 - 1 < most_generation to.volume.plain to.plan + 2
  pub closing : to.volume.plain.stopped ≡ None →
      to.volume.plain.head.generation + rise_of to.volume.plain.phase ≤ most_generation to.volume.plain to.plan

-- THE FIRST ACTOR MADE ITS STEPS, preferring pieces, until it had none. The session has ended then, where no other actor
-- had a piece in flight; and in time, where it had just begun
pub record RunsLone {D : Type 0} (look : D → View) (from to : SessionView D) : Type 0 where
  pub turns : (n : ℕ) × MakesTurns look from to (replicate n (0, Prefer.Pieces))
  pub last : next_seen to 0 Prefer.Pieces ≡ None
  pub ended : FliesAlone from.flights 0 → ended_of to ≡ true
  pub timely : IsNewSession from → EndsInTime to
