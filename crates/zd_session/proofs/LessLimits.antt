-- What is left of a session, and that no number of it but that of pieces is beyond its limit.
use Rattle.std.proofs.Common.{◌≡◌, inl, inr, ℕ, ◌+◌, ◌-◌, ◌*◌, ◌<◌, ◌≤◌, Bool, true, false, cond, List, [], ◌∷◌}
use Rattle.std.proofs.Common.{length}
use Rattle.std.proofs.Common.{get_or, nat_eq, slice_get, Option, Some, None, is_some, refl, ap, ◌∙◌, arith}
use Rattle.std.proofs.lemmas.Bool.{cases_lt}
use Rattle.std.proofs.lemmas.List.{length-take}
use Rattle.std.proofs.lemmas.List.FromFn.{length-range_with_len}
use Rattle.std.proofs.lemmas.List.Sums.{count_by-le-length}
use Rattle.std.proofs.lemmas.Option.{get_or_from_slice_get, slice_get_past}
use Rattle.std.specs.List.{range_with_len}
use Rattle.std.specs.Option.{option_map_or}
use Rattle.zd_alloc.specs.Zones.{uses_of}
use Rattle.zd_base.specs.Layout.{used_blocks}
use Rattle.zd_base.specs.declared.geometry.Kind.TheVariants.{Conventional}
use Rattle.zd_disk.specs.View.{View}
use Rattle.zd_model.specs.Image.{Image}
use Rattle.zd_model.specs.Requests.{Operation, block_count, operation_of}
use Rattle.zd_model.specs.Requests.Operation.{Reading, Writing, Discarding, Flushing}
use Rattle.zd_model.specs.declared.metadata.MapEntry.{MapEntry}
use Rattle.zd_model.specs.declared.requests.Piece.{Piece}
use Rattle.zd_progress.specs.Measures.{IsRestWithin, is_held_use, jobs_ever}
use Rattle.zd_steps.specs.Runs.{flight_of}
use Rattle.zd_tables.proofs.TableLaws.{length-entries}
use Rattle.zd_volume.specs.Commits.{calls_left}
use Rattle.zd_volume.specs.Flights.{IsPieceIn, tables_now}
use Rattle.zd_volume.specs.Uses.{IsPhase, dirty_from}
use Rattle.zd_volume.specs.Volumes.{IsFixed, PlainVolume}
use Rattle.zd_volume.specs.declared.phase.Phase.{Phase}
use Rattle.zd_volume.specs.declared.phase.Phase.TheVariants.{Idle, InPlace, InPlaceFlush, InPlaceSuper}
use Rattle.zd_volume.specs.declared.phase.Phase.TheVariants.{InPlaceSuperFlush}
use Rattle.zd_volume.specs.declared.phase.Phase.TheVariants.{Log, LogFlush, LogSuper, LogSuperFlush}
use Rattle.zd_volume.specs.declared.work.Work.{Work}
use Rattle.zd_volume.proofs.FlightLaws.{ends_at}
use Rattle.zd_routes.specs.Edges.{bytes_at}
use Rattle.zd_routes.specs.declared.edges.Edge.{Edge}
use Rattle.zd_routes.specs.declared.edges.Edge.TheVariants.{First, Last}
use Rattle.zd_session.specs.LoneStates.{StandsSession, commit_rest, copy_rest, flight_left, flight_rest}
use Rattle.zd_session.specs.LoneStates.{left_by}
use Rattle.zd_session.specs.LoneStates.{most_of, rest_of, stock_of, unread_edge}
use Rattle.zd_session.specs.Sessions.{HasInHand, HoldsBy, SessionView, run_seen}
use Rattle.zd_session.specs.Standings.{is_unread}
use Rattle.zd_session.specs.declared.actor.Actor.{Actor}

-- one of two numbers, neither of which is greater
cond_most : (b : Bool) (m n most : ℕ) → m ≤ most → n ≤ most → cond b m n ≤ most
cond_most true m n most low high = low
cond_most false m n most low high = high

first_of : {X : Type 0} (xs : List X) → 0 < length xs → (x : X) × (slice_get xs 0 ≡ Some x)
first_of [] some = absurd (omega (arith, some))
first_of (x ∷ xs) some = (x, refl)

-- A PIECE IN ONE CHUNK touches no more blocks than a zone has
pub piece_blocks : (v : PlainVolume) (p : Piece) → IsPieceIn v p → block_count p.what ≤ v.geometry.zone_blocks
piece_blocks v p is =
    let ends = ends_at v.geometry.zone_blocks p.what in
    let chunk = is.chunk in
    omega (arith, ends, chunk)

-- what the first actor has in flight, and what it has read of that
pub record IsFirst {D : Type 0} (s : SessionView D) (flight : Option Piece) (a : Actor) : Type 0 where
  pub flies : slice_get s.flights 0 ≡ Some flight
  pub at : slice_get s.actors 0 ≡ Some a

pub first_rest : {D : Type 0} (s : SessionView D) (flight : Option Piece) (a : Actor) → IsFirst s flight a
    → flight_rest s ≡ flight_left s.volume.plain.geometry.zone_blocks flight a
first_rest s flight a is =
    ap (λ (o : Option Actor).
    option_map_or (flight_left s.volume.plain.geometry.zone_blocks (flight_of (run_seen s) 0)) o 0) is.at
    ∙ ap (λ (f : Option Piece). flight_left s.volume.plain.geometry.zone_blocks f a)
    (get_or_from_slice_get s.flights 0 flight None is.flies)

pub first_there : {D : Type 0} (look : D → View) (s : SessionView D) → StandsSession look s → 0 < length s.flights
    → (flight : Option Piece) × (a : Actor) × IsFirst s flight a
first_there look s stands some =
    let flight = first_of s.flights some in
    let count = stands.actors.count in
    let a = first_of s.actors (omega (arith, count, some)) in
    (flight.0, a.0, record { flies = flight.1; at = a.1 })

-- an edge of a write is one step at most
pub unread_most : (a : Actor) (edge : Edge) → unread_edge a edge ≤ 1
unread_most a edge = cond_most (is_unread (bytes_at a.edges edge)) 1 0 1 (omega arith) (omega arith)

module _ (v : PlainVolume) where
  -- WHAT IS LEFT OF A FLIGHT
  pub flight_within : (told : Option Image) (flight : Option Piece) (a : Actor) → HasInHand v told flight a
      → flight_left v.geometry.zone_blocks flight a ≤ v.geometry.zone_blocks + 2
  flight_within told None a holds = omega arith
  flight_within told (Some p) a holds = by (operation_of p.what) holds
    where
      by : (o : Operation) → HoldsBy v told p a o → left_by p a o ≤ v.geometry.zone_blocks + 2
      by Reading holds = (let blocks = piece_blocks v p holds.0.2.inside in omega (arith, blocks))
      by Writing holds =
          let first = unread_most a First in
          let last = unread_most a Last in
          omega (arith, first, last)
      by Discarding holds = absurd holds
      by Flushing holds = absurd holds

  -- OF A JOB
  pub copy_within : (job : Option Work) → copy_rest v.geometry.zone_blocks job ≤ 2 * v.geometry.zone_blocks + 2
  copy_within None = omega arith
  copy_within (Some w) =
      let read : cond (nat_eq w.read 0) 1 0 ≤ 1 = cond_most (nat_eq w.read 0) 1 0 1 (omega arith) (omega arith) in
      omega (arith, read)

  -- of a commit no more than its calls are
  pub commit_most : commit_rest v ≤ calls_left v.dirty v.phase
  commit_most = cond_most _ 0 (calls_left v.dirty v.phase) (calls_left v.dirty v.phase) (omega arith) (omega arith)

module _ (v : PlainVolume) (fixed : IsFixed v) where
  -- OF THE JOBS THAT MAY EVER END
  jobs_within : jobs_ever (stock_of v) ≤ v.geometry.conv + 2 * v.head.layout.chunks
  jobs_within =
      let held = count_by-le-length is_held_use (uses_of Conventional v.division) in
      let zones = length-take v.division.conv v.division.zones in
      let conv = fixed.uses.conv in
      let main = count_by-le-length (λ (e : MapEntry). is_some e.zone) (tables_now v).entries in
      let beside = count_by-le-length (λ (e : MapEntry). is_some e.buffer) (tables_now v).entries in
      let entries = length-entries v.geometry v.head.layout v.fresh in
      omega (arith, held, zones, conv, main, beside, entries)

  -- THE BLOCKS THAT ARE DIRTY are among those that are used, behind the super block
  pub few_dirty : (k : ℕ) → 1 ≤ k → dirty_from v.dirty k + 1 ≤ used_blocks v.geometry v.head.layout
  few_dirty k some =
      let size = fixed.flags.size in
      let most =
      count_by-le-length (λ (j : ℕ). get_or v.dirty j false) (range_with_len k (length v.dirty - k)) in
      let range = length-range_with_len k (length v.dirty - k) in
      omega (arith, some, size, most, range)

  calls_within : (p : Phase) → IsPhase p v.dirty v.head.generation
      → calls_left v.dirty p ≤ 2 * used_blocks v.geometry v.head.layout + 4
  calls_within Idle is =
      let all = few_dirty 1 (omega arith) in
      cond_most (nat_eq (dirty_from v.dirty 1) 0) 1 (2 * dirty_from v.dirty 1 + 6)
      (2 * used_blocks v.geometry v.head.layout + 4) (omega arith) (omega (arith, all))
  calls_within (Log k) is =
      let all = few_dirty 1 (omega arith) in
      let rest = few_dirty k is.0 in
      omega (arith, all, rest)
  calls_within LogFlush is = (let all = few_dirty 1 (omega arith) in omega (arith, all))
  calls_within LogSuper is = (let all = few_dirty 1 (omega arith) in omega (arith, all))
  calls_within LogSuperFlush is = (let all = few_dirty 1 (omega arith) in omega (arith, all))
  calls_within (InPlace k) is = (let rest = few_dirty k is.0 in omega (arith, rest))
  calls_within InPlaceFlush is = omega arith
  calls_within InPlaceSuper is = omega arith
  calls_within InPlaceSuperFlush is = omega arith

  pub commit_within : commit_rest v ≤ 2 * used_blocks v.geometry v.head.layout + 4
  commit_within =
      let calls = calls_within v.phase fixed.under_way in
      let most = commit_most v in
      omega (arith, calls, most)

-- NO NUMBER IS GREATER THAN ITS LIMIT
module _ {D : Type 0} (look : D → View) (s : SessionView D) (stands : StandsSession look s) where
  rest_of_flight : flight_rest s ≤ s.volume.plain.geometry.zone_blocks + 2
  rest_of_flight = elim (cases_lt 0 (length s.flights)) [
    | inl some ↦
        let first = first_there look s stands some in
        let most = flight_within s.volume.plain (look s.volume.opening).zones first.0 first.1
        (stands.actors.holds 0 first.0 first.1 first.2.flies first.2.at) in
        let same = first_rest s first.0 first.1 first.2 in
        omega (arith, most, same)
    | inr none ↦
        let count = stands.actors.count in
        let nobody : flight_rest s ≡ 0 =
        ap (λ (o : Option Actor).
        option_map_or (flight_left s.volume.plain.geometry.zone_blocks (flight_of (run_seen s) 0)) o 0)
        (slice_get_past s.actors 0 (omega (arith, count, none))) in
        omega (arith, nobody)
  ]

  pub rest_within : IsRestWithin (most_of s) (rest_of s)
  rest_within = record {
    flight = rest_of_flight;
    jobs = jobs_within s.volume.plain stands.fixed;
    commit = commit_within s.volume.plain stands.fixed;
    copies = copy_within s.volume.plain s.volume.plain.job;
  }
