-- What the step of a piece does, told by the volume: the piece goes on, is entered, or the disk failed.
use Rattle.std.proofs.Common.{◌≡◌, ◌≢◌, inl, inr, ℕ, ◌+◌, ◌<◌, ◌≤◌, Bool, true, false, [], ◌∷◌, ◌++◌, length, get_or, set, slice_get, Option, Some, None, refl, sym, ap, ◌∙◌, subst, arith}
use Rattle.std.specs.Prelude.{option_and_then}
use Rattle.std.proofs.lemmas.Option.{none-some, same_Some, slice_get-get_or}
use Rattle.zd_base.specs.declared.numbers.Why.{Why}
use Rattle.zd_commit.specs.Closed.{calls_to_finish}
use Rattle.zd_disk.specs.Told.{next_count}
use Rattle.zd_disk.specs.View.{View}
use Rattle.zd_model.specs.History.{HistoryEntry, mark_of_entry, mark_of_piece}
use Rattle.zd_model.specs.Plain.{Answer}
use Rattle.zd_model.specs.Plain.Answer.{Done, Fault, Got, Range}
use Rattle.zd_model.specs.Requests.{Operation, operation_of}
use Rattle.zd_model.specs.Requests.Operation.{Discarding, Flushing, Reading, Writing}
use Rattle.zd_model.specs.declared.requests.Piece.{Piece}
use Rattle.zd_progress.specs.Paces.{with_entries}
use Rattle.zd_volume.specs.Discards.{NoJobOn, chunk_touched}
use Rattle.zd_volume.specs.Flights.{ReadStep, answered, with_entry}
use Rattle.zd_volume.specs.Volumes.{PlainVolume}
use Rattle.zd_volume.specs.declared.flight.Flight.{Flight}
use Rattle.zd_volume.specs.declared.flight.Ran.{Ran}
use Rattle.zd_volume.specs.declared.phase.Phase.TheVariants.{Idle}
use Rattle.zd_volume.specs.declared.work.Work.{Work}
use Rattle.zd_write.proofs.GivenJobs.{given_rest}
use Rattle.zd_write.proofs.SettledRest.{settled_rest}
use Rattle.zd_write.specs.Tries.{DiscardsPiece, EntersWrite, FailsWrite, GivesUpOn, Settles, TriesWrite}
use Rattle.zd_write.specs.declared.steps.Tried.{Tried}
use Rattle.zd_session.specs.LoneSessions.{ats_of}
use Rattle.zd_session.specs.LoneStates.{StandsSession, commit_ahead}
use Rattle.zd_session.specs.Serving.{AfterRun, EntersTried, IsReadOf, Serves, ServesBy, ServesEdge, ServesIn, ServesRead, ServesWrite, read_of}
use Rattle.zd_session.specs.Sessions.{HoldsBy, SessionView, standing_seen}
use Rattle.zd_session.specs.declared.actor.Actor.{Actor}
use Rattle.zd_session.proofs.PaceEntries.{ats_one}
use Rattle.zd_session.proofs.PaceSteps.{IsServed, count_most}
use Rattle.zd_session.proofs.StepLaws.{ready_idle}

-- A PIECE WAS ENTERED, by one writing call at most: no commit and no job has begun, and the volume goes on
pub record EntersOne (v w : PlainVolume) (p : Piece) : Type 0 where
  pub entry : HistoryEntry
  pub mark : mark_of_entry entry ≡ mark_of_piece p
  pub history : w.history ≡ v.history ++ entry ∷ []
  pub at : entry.at ≡ w.since
  pub calls : w.since ≤ v.since + 1
  pub generation : w.head.generation ≡ v.head.generation
  pub commit : commit_ahead w ≡ commit_ahead v
  pub job : v.job ≡ None → w.job ≡ None
  pub stopped : w.stopped ≡ v.stopped

pub with_one : (v w : PlainVolume) (p : Piece) (reply : Answer) → w ≡ with_entry v p reply → EntersOne v w p
with_one v w p reply is = subst (λ (x : PlainVolume). EntersOne v x p) (sym is) (record {
  entry = answered p reply v.since;
  mark = refl;
  history = refl;
  at = refl;
  calls = omega arith;
  generation = refl;
  commit = refl;
  job = λ none. none;
  stopped = refl;
})

-- a job that is given up isn't begun
given_none : (from to : PlainVolume) (chunk : ℕ) → GivesUpOn from to chunk → from.job ≡ None → to.job ≡ None
given_none from to chunk gives none =
    ap (λ (x : PlainVolume). x.job)
    (gives.off (subst (λ (j : Option Work). NoJobOn j chunk) (sym none) tt)) ∙ none

-- A WRITE, or a discard, whose chunk is settled then
module _ (v given mid w : PlainVolume) (p : Piece) (chunk : ℕ) (gives : GivesUpOn v given chunk)
    (settles : Settles mid w chunk) where
  first : given ≡ record v { job = given.job; division = given.division }
  first = given_rest v given chunk gives

  last : w ≡ record mid { fresh = w.fresh; dirty = w.dirty; division = w.division; standings = w.standings }
  last = settled_rest mid w chunk settles

  module _ (e : HistoryEntry) (mark : mark_of_entry e ≡ mark_of_piece p)
      (history : mid.history ≡ given.history ++ e ∷ []) (at : e.at ≡ mid.since) (calls : mid.since ≤ given.since + 1)
      (generation : mid.head.generation ≡ given.head.generation) (phase : mid.phase ≡ given.phase)
      (job : mid.job ≡ given.job) (stopped : mid.stopped ≡ given.stopped) (idle : v.phase ≡ Idle) where
    phase_then : w.phase ≡ Idle
    phase_then =
        ap (λ (x : PlainVolume). x.phase) last ∙ phase ∙ ap (λ (x : PlainVolume). x.phase) first ∙ idle

    settled_one : EntersOne v w p
    settled_one =
        let was : given.since ≡ v.since = ap (λ (x : PlainVolume). x.since) first in
        let is : w.since ≡ mid.since = ap (λ (x : PlainVolume). x.since) last in
        record {
          entry = e;
          mark = mark;
          history = ap (λ (x : PlainVolume). x.history) last ∙ history
              ∙ ap (λ (x : PlainVolume). x.history ++ e ∷ []) first;
          at = at ∙ sym is;
          calls = omega (arith, was, is, calls);
          generation = ap (λ (x : PlainVolume). x.head.generation) last ∙ generation
              ∙ ap (λ (x : PlainVolume). x.head.generation) first;
          commit = ap (calls_to_finish w.dirty) phase_then ∙ sym (ap (calls_to_finish v.dirty) idle);
          job = λ none. ap (λ (x : PlainVolume). x.job) last ∙ job ∙ given_none v given chunk gives none;
          stopped = ap (λ (x : PlainVolume). x.stopped) last ∙ stopped ∙ ap (λ (x : PlainVolume). x.stopped) first;
        }

pub write_one : (v w : PlainVolume) (p : Piece) → v.phase ≡ Idle → EntersWrite v w p → EntersOne v w p
write_one v w p idle did =
    let rest = did.writes.rest in
    settled_one v did.given did.written w p (chunk_touched v.geometry.zone_blocks p.what) did.gives did.settles
    (answered p Done (next_count did.given.since)) refl
    (ap (λ (x : PlainVolume). x.history) rest)
    (sym (ap (λ (x : PlainVolume). x.since) rest))
    (let now : did.written.since ≡ next_count did.given.since = ap (λ (x : PlainVolume). x.since) rest in
    omega (arith, now, count_most did.given.since))
    (ap (λ (x : PlainVolume). x.head.generation) rest)
    (ap (λ (x : PlainVolume). x.phase) rest)
    (ap (λ (x : PlainVolume). x.job) rest)
    (ap (λ (x : PlainVolume). x.stopped) rest)
    idle

pub discard_one : (v w : PlainVolume) (p : Piece) → v.phase ≡ Idle → DiscardsPiece v w p → EntersOne v w p
discard_one v w p idle did =
    let rest = did.drops.rest in
    settled_one v did.given did.dropped w p (chunk_touched v.geometry.zone_blocks p.what) did.gives did.settles
    (answered p Done did.given.since) refl
    (ap (λ (x : PlainVolume). x.history) rest)
    (sym (ap (λ (x : PlainVolume). x.since) rest))
    (let now : did.dropped.since ≡ did.given.since = ap (λ (x : PlainVolume). x.since) rest in omega (arith, now))
    (ap (λ (x : PlainVolume). x.head.generation) rest)
    (ap (λ (x : PlainVolume). x.phase) rest)
    (ap (λ (x : PlainVolume). x.job) rest)
    (ap (λ (x : PlainVolume). x.stopped) rest)
    idle

-- WHAT THE STEP OF A PIECE DOES
pub data ServeDid {D : Type 0} (s t : SessionView D) (p : Piece) : Type 0 where
  flew : t.volume.plain ≡ s.volume.plain → t.flights ≡ set s.flights 0 (Some p) → ServeDid s t p
  entered : EntersOne s.volume.plain t.volume.plain p → ServeDid s t p
  failed : t.volume.plain.stopped ≡ Some Why.Device → t.volume.plain.history ≡ s.volume.plain.history
      → ServeDid s t p
  failed_with : t.volume.plain.stopped ≡ Some Why.Device → (at : ℕ) → at ≤ s.volume.plain.since + 1
      → ats_of t.volume.plain.history ≡ with_entries at 1 (ats_of s.volume.plain.history) → ServeDid s t p

module _ {D : Type 0} (look : D → View) (s t : SessionView D) (p : Piece) (stands : StandsSession look s)
    (inside : 0 < length s.flights) (is : IsServed s p) where
  abbrev v : PlainVolume
  v = s.volume.plain

  abbrev w : PlainVolume
  w = t.volume.plain

  -- the read that the actor goes on with is of this piece
  read_held : (a : Actor) (f : Flight) → slice_get s.actors 0 ≡ Some a → a.read ≡ Some f → f.piece ≡ p
  read_held a f at read = by (get_or s.flights 0 None) (slice_get-get_or s.flights 0 None inside)
    where
      by_op : (q : Piece) (o : Operation) → HoldsBy v (look s.volume.opening).zones q a o → f.piece ≡ q
      by_op q Reading holds =
          let same : holds.0.0 ≡ f = same_Some holds.0.0 f (sym holds.0.1 ∙ read) in
          ap (λ (x : Flight). x.piece) (sym same) ∙ holds.0.2.piece
      by_op q Writing holds = absurd (none-some f (sym holds.0 ∙ read))
      by_op q Discarding holds = absurd holds
      by_op q Flushing holds = absurd holds

      by : (o : Option Piece) → slice_get s.flights 0 ≡ Some o → f.piece ≡ p
      by None flight = absurd (none-some f (sym (stands.actors.holds 0 None a flight at).read ∙ read))
      by (Some q) flight =
          by_op q (operation_of q.what) (stands.actors.holds 0 (Some q) a flight at) ∙ is.only q flight

  read_piece : (f : Flight) → IsReadOf (read_of s 0) p f → f.piece ≡ p
  read_piece f of = by (slice_get s.actors 0) refl of
    where
      by_read : (a : Actor) (o : Option Flight) → slice_get s.actors 0 ≡ Some a → a.read ≡ o → IsReadOf o p f
          → f.piece ≡ p
      by_read a None at read of = of.0
      by_read a (Some g) at read of = ap (λ (x : Flight). x.piece) of ∙ read_held a g at read

      by : (o : Option Actor) → slice_get s.actors 0 ≡ o → IsReadOf (option_and_then (λ (a : Actor). a.read) o) p f
          → f.piece ≡ p
      by None at of = of.0
      by (Some a) at of = by_read a a.read at refl of

  with_reply : (q : Piece) (reply : Answer) → q ≡ p → w ≡ with_entry v q reply → ServeDid s t p
  with_reply q reply same did =
      entered (with_one v w p reply (did ∙ ap (λ (x : Piece). with_entry v x reply) same))

  read_did : ServesRead look s t 0 p → ServeDid s t p
  read_did did = by did.ran did.step did.after
    where
      by : (r : Ran) → ReadStep v w (look s.volume.disk) (look t.volume.disk) did.flight did.next r
          → AfterRun 0 p did.next r s t → ServeDid s t p
      by Ran.More step after = flew step.volume after.2.flights
      by Ran.Entered (inl ends) after =
          with_reply did.flight.piece (Got ends.bytes) (read_piece did.flight did.is) ends.volume
      by Ran.Entered (inr fails) after =
          with_reply did.flight.piece Fault (read_piece did.flight did.is) fails.volume

  edge_did : ServesEdge look s t 0 p → ServeDid s t p
  edge_did did = elim did.did [
    | inl read ↦ flew read.volume read.gives.flights
    | inr fails ↦
        failed (ap (λ (x : PlainVolume). x.stopped) fails.volume) (ap (λ (x : PlainVolume). x.history) fails.volume)
  ]

  -- a write that failed is entered with the number of its call
  write_fails : FailsWrite v w p → ServeDid s t p
  write_fails did =
      let first = given_rest v did.given (chunk_touched v.geometry.zone_blocks p.what) did.gives in
      let was : did.given.since ≡ v.since = ap (λ (x : PlainVolume). x.since) first in
      failed_with (ap (λ (x : PlainVolume). x.stopped) did.fails) (next_count did.given.since)
      (omega (arith, was, count_most did.given.since))
      (ap (λ (x : PlainVolume). ats_of x.history) did.fails
      ∙ ats_one did.given.history (answered p Fault (next_count did.given.since))
      ∙ ap (λ (x : PlainVolume). with_entries (next_count did.given.since) 1 (ats_of x.history)) first)

  write_did : v.phase ≡ Idle → ServesWrite look s t 0 p → ServeDid s t p
  write_did idle did = by did.tried did.enters did.tries
    where
      by : (r : Tried) → EntersTried r → TriesWrite v w p r → ServeDid s t p
      by Tried.Entered enters tries = entered (write_one v w p idle tries)
      by Tried.NoZone enters tries = absurd enters
      by Tried.Stopped enters tries = write_fails tries

  -- what isn't a read is ready only where no commit is under way
  idle_for : {o : Operation} → operation_of p.what ≡ o → p.range ≡ false → o ≢ Reading → v.phase ≡ Idle
  idle_for op range other = ready_idle v p range (λ same. other (sym op ∙ same)) is.ready

  serve_in : (o : Operation) → operation_of p.what ≡ o → p.range ≡ false → (merges : Bool)
      → ServesIn look s t 0 p o merges → ServeDid s t p
  serve_in Reading op range merges did = read_did did
  serve_in Writing op range true did = edge_did did
  serve_in Writing op range false did = write_did (idle_for op range (λ same. cc)) did
  serve_in Discarding op range merges did =
      entered (discard_one v w p (idle_for op range (λ same. cc)) did.discards)
  serve_in Flushing op range merges did = absurd did

  serve_by : (b : Bool) → p.range ≡ b → ServesBy look s t 0 p b → ServeDid s t p
  serve_by true range did = entered (with_one v w p Range did.enters)
  serve_by false range did = serve_in (operation_of p.what) refl range ((standing_seen s 0).merges p) did

  -- THE STEP OF A PIECE
  pub serve_did : Serves look s t 0 p → ServeDid s t p
  serve_did did = serve_by p.range refl did
