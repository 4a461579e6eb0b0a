-- A run of a read that isn't its last, and an edge of a write, lessen what is left of the piece in flight.
use Rattle.std.proofs.Common.{◌≡◌, ℕ, ◌+◌, ◌-◌, ◌<◌, Bool, false, cond, List, [], ◌∷◌}
use Rattle.std.proofs.Common.{length, set, slice_get, slice_index_or, Option, Some, None, refl, ap, ap₂, ◌∙◌}
use Rattle.std.proofs.Common.{subst, arith}
use Rattle.std.specs.Option.{option_map_or}
use Rattle.std.specs.Prelude.{option_and_then}
use Rattle.zd_base.specs.Geometry.{Shape}
use Rattle.zd_disk.specs.View.{View}
use Rattle.zd_model.specs.Image.{Image}
use Rattle.zd_model.specs.Requests.{Operation, block_count, operation_of}
use Rattle.zd_model.specs.Requests.Operation.{Reading, Writing}
use Rattle.zd_model.specs.Room.{ListWithRoom}
use Rattle.zd_model.specs.declared.requests.Piece.{Piece}
use Rattle.zd_model.specs.declared.requests.What.{What}
use Rattle.zd_steps.specs.Queues.{MayServe}
use Rattle.zd_steps.specs.Runs.{Run}
use Rattle.zd_volume.specs.Flights.{GoesOn, IsPieceIn}
use Rattle.zd_volume.specs.Volumes.{PlainVolume}
use Rattle.zd_volume.specs.declared.flight.Flight.{Flight}
use Rattle.zd_routes.specs.Edges.{IsNextEdge, KeepsOther, ReadsEdge, bytes_at}
use Rattle.zd_routes.specs.declared.edges.Edge.{Edge}
use Rattle.zd_routes.specs.declared.edges.Edge.TheVariants.{First, Last}
use Rattle.zd_session.specs.LoneStates.{StandsSession, flight_left, flight_rest, left_by, unread_edge}
use Rattle.zd_session.specs.Serving.{GivesActor, IsReadOf, KeepsActors, read_of}
use Rattle.zd_session.specs.Sessions.{HasInHand, HoldsBy, IsFree, SessionView}
use Rattle.zd_session.specs.Standings.{is_unread}
use Rattle.zd_session.specs.declared.actor.Actor.{Actor}
use Rattle.zd_session.proofs.LessLimits.{IsFirst, first_rest, first_there, piece_blocks, unread_most}

-- what stands first, once it is set
set_first : {X : Type 0} (xs : List X) (x : X) → 0 < length xs → slice_get (set xs 0 x) 0 ≡ Some x
set_first [] x some = absurd (omega (arith, some))
set_first (y ∷ xs) x some = refl

-- AN EDGE IS READ: it was empty, and isn't now
read_now : (bytes : List ℕ) → length bytes ≡ 4096 → is_unread bytes ≡ false
read_now [] size = absurd (omega (arith, size))
read_now (byte ∷ bytes) size = refl

module _ (old new : Actor) where
  one_less : (edge : Edge) → bytes_at old.edges edge ≡ [] → length (bytes_at new.edges edge) ≡ 4096
      → unread_edge new edge < unread_edge old edge
  one_less edge empty size =
      let was : unread_edge old edge ≡ 1 = ap (λ (bytes : List ℕ). cond (is_unread bytes) 1 0) empty in
      let now : unread_edge new edge ≡ 0 =
      ap (λ (b : Bool). cond b 1 0) (read_now (bytes_at new.edges edge) size) in
      omega (arith, was, now)

  same_left : (other : Edge) → bytes_at new.edges other ≡ bytes_at old.edges other
      → unread_edge new other ≡ unread_edge old other
  same_left other same = ap (λ (bytes : List ℕ). cond (is_unread bytes) 1 0) same

  edges_less : (v : PlainVolume) (told : Option Image) (what : What) → ReadsEdge v told what old.edges new.edges
      → unread_edge new First + unread_edge new Last < unread_edge old First + unread_edge old Last
  edges_less v told what did = by did.edge did.next did.holds.size did.other
    where
      by : (edge : Edge) → IsNextEdge v what old.edges edge → length (bytes_at new.edges edge) ≡ 4096
          → KeepsOther edge old.edges new.edges
          → unread_edge new First + unread_edge new Last < unread_edge old First + unread_edge old Last
      by First next size other =
          let less = one_less First next.empty size in
          let same = same_left Last (ap (λ (xs : ListWithRoom ℕ). xs.items) other) in
          omega (arith, less, same)
      by Last next size other =
          let less = one_less Last next.0.empty size in
          let same = same_left First (ap (λ (xs : ListWithRoom ℕ). xs.items) other) in
          omega (arith, less, same)

module _ {D : Type 0} (look : D → View) (s : SessionView D) (stands : StandsSession look s) (t : SessionView D) where
  abbrev v : PlainVolume
  v = s.volume.plain

  abbrev told : Option Image
  told = (look s.volume.opening).zones

  -- NO FLIGHT IS TOUCHED
  pub flight_same : t.volume.plain.geometry ≡ s.volume.plain.geometry → KeepsActors s t
      → flight_rest t ≡ flight_rest s
  flight_same geometry keeps =
      ap (λ (g : Shape).
      option_map_or (flight_left g.zone_blocks (slice_index_or t.flights 0 None)) (slice_get t.actors 0) 0) geometry
      ∙ ap₂ (λ (flights : List (Option Piece)) (actors : List Actor).
      option_map_or (flight_left v.geometry.zone_blocks (slice_index_or flights 0 None)) (slice_get actors 0) 0)
      keeps.flights keeps.actors

  module _ (some : 0 < length s.flights) (p : Piece) (serve : MayServe stands.queue 0 p) where
    -- what the first actor has of the piece that is served
    abbrev first : (flight : Option Piece) × (a : Actor) × IsFirst s flight a
    first = first_there look s stands some

    own : (q : Piece) → slice_get s.flights 0 ≡ Some (Some q) → q ≡ p
    own q is = serve.only q (ap (λ (r : Run). slice_get r.flights 0) stands.run ∙ is)

    holds : (flight : Option Piece) (a : Actor) → IsFirst s flight a → HasInHand v told flight a
    holds flight a is = stands.actors.holds 0 flight a is.flies is.at

    holds_by : (q : Piece) (a : Actor) → IsFirst s (Some q) a → (o : Operation) → operation_of p.what ≡ o
        → HoldsBy v told p a o
    holds_by q a is o operation =
        subst (λ (x : Operation). HoldsBy v told p a x) operation
        (subst (λ (x : Piece). HasInHand v told (Some x) a) (own q is.flies) (holds (Some q) a is))

    left_then : (o : Operation) → operation_of p.what ≡ o → (a : Actor) → GivesActor 0 (Some p) a s t
        → flight_rest t ≡ left_by p a o
    left_then o operation a gives =
        let count = stands.actors.count in
        first_rest t (Some p) a (record {
          flies = ap (λ (fs : List (Option Piece)). slice_get fs 0) gives.flights ∙ set_first s.flights (Some p) some;
          at = ap (λ (xs : List Actor). slice_get xs 0) gives.actors ∙ set_first s.actors a (omega (arith, count, some));
        })
        ∙ ap (left_by p a) operation

    left_before : (o : Operation) → operation_of p.what ≡ o → (q : Piece) (a : Actor) → IsFirst s (Some q) a
        → flight_rest s ≡ left_by p a o
    left_before o operation q a is =
        first_rest s (Some q) a is
        ∙ ap (λ (x : Piece). left_by x a (operation_of x.what)) (own q is.flies)
        ∙ ap (left_by p a) operation

    -- A RUN OF A READ: of the one in flight, or of one of which nothing is read
    module _ (reads : operation_of p.what ≡ Reading) (old : Flight) (is : IsReadOf (read_of s 0) p old) where
      begun : (a : Actor) → IsFirst s None a → IsReadOf None p old
      begun a at =
          let free : IsFree a = holds None a at in
          subst (λ (o : Option Flight). IsReadOf o p old)
          (ap (option_and_then (λ (b : Actor). b.read)) at.at ∙ free.read) is

      going : (q : Piece) (a : Actor) (at : IsFirst s (Some q) a) → old ≡ (holds_by q a at Reading reads).0.0
      going q a at =
          subst (λ (o : Option Flight). IsReadOf o p old)
          (ap (option_and_then (λ (b : Actor). b.read)) at.at ∙ (holds_by q a at Reading reads).0.1) is

      piece_by : (flight : Option Piece) (a : Actor) → IsFirst s flight a → old.piece ≡ p
      piece_by None a at = (begun a at).0
      piece_by (Some q) a at =
          ap (λ (f : Flight). f.piece) (going q a at) ∙ (holds_by q a at Reading reads).0.2.piece

      pub read_piece : old.piece ≡ p
      read_piece = piece_by first.0 first.1 first.2

      module _ (new : Flight) (u x : View) (did : GoesOn s.volume.plain t.volume.plain u x old new) where
        inside : IsPieceIn v p
        inside = subst (λ (y : Piece). IsPieceIn v y) (did.run.piece ∙ read_piece) did.flight.piece

        read_by : (flight : Option Piece) (a : Actor) → IsFirst s flight a
            → block_count p.what - new.done < flight_rest s
        read_by None a at =
            let blocks = piece_blocks v p inside in
            let was = first_rest s None a at in
            omega (arith, blocks, was)
        read_by (Some q) a at =
            let held = holds_by q a at Reading reads in
            let same = ap (λ (g : Flight). g.done) (going q a at) in
            let left = held.0.2.more in
            let was = left_before Reading reads q a at in
            let known =
            ap (λ (o : Option Flight). block_count p.what - option_map_or (λ (g : Flight). g.done) o 0) held.0.1 in
            let done = did.run.done in
            let count = did.run.run.some in
            omega (arith, same, left, was, known, done, count)

        pub read_less : (a : Actor) → a.read ≡ Some new → GivesActor 0 (Some p) a s t → flight_rest t < flight_rest s
        read_less a has gives =
            let now = left_then Reading reads a gives in
            let known =
            ap (λ (o : Option Flight). block_count p.what - option_map_or (λ (g : Flight). g.done) o 0) has in
            let less = read_by first.0 first.1 first.2 in
            omega (arith, now, known, less)

    -- AN EDGE OF A WRITE
    module _ (writes : operation_of p.what ≡ Writing) (old new : Actor) (was : slice_get s.actors 0 ≡ Some old)
        (u : Option Image) (did : ReadsEdge s.volume.plain u p.what old.edges new.edges) where
      edge_by : (flight : Option Piece) (a : Actor) → IsFirst s flight a
          → unread_edge new First + unread_edge new Last < flight_rest s
      edge_by None a at =
          let fresh = first_rest s None a at in
          let one = unread_most new First in
          let two = unread_most new Last in
          let less = edges_less old new v u p.what did in
          let three = unread_most old First in
          let four = unread_most old Last in
          omega (arith, fresh, less, three, four)
      edge_by (Some q) a at =
          let same = left_before Writing writes q old (record { flies = at.flies; at = was }) in
          let less = edges_less old new v u p.what did in
          omega (arith, same, less)

      pub edge_less : GivesActor 0 (Some p) new s t → flight_rest t < flight_rest s
      edge_less gives =
          let now = left_then Writing writes new gives in
          let less = edge_by first.0 first.1 first.2 in
          omega (arith, now, less)
