-- The step of a piece lessens what is left: the piece is entered, or less of it is left.
use Rattle.std.proofs.Common.{◌≡◌, inl, inr, ◌<◌, Bool, true, false, [], ◌∷◌, ◌++◌, length, map, None}
use Rattle.std.proofs.Common.{refl, sym, ap, ◌∙◌, arith}
use Rattle.std.proofs.lemmas.Option.{none-some}
use Rattle.zd_base.specs.declared.numbers.Why.{Why}
use Rattle.zd_disk.specs.View.{View}
use Rattle.zd_model.specs.History.{mark_of_entry, mark_of_piece}
use Rattle.zd_model.specs.Plain.{Answer}
use Rattle.zd_model.specs.Plain.Answer.{Done, Fault, Got, Range}
use Rattle.zd_model.specs.Requests.{Operation, operation_of}
use Rattle.zd_model.specs.Requests.Operation.{Reading, Writing, Discarding, Flushing}
use Rattle.zd_model.specs.declared.requests.Piece.{Piece}
use Rattle.zd_progress.specs.Measures.{Lessens, jobs_ever}
use Rattle.zd_progress.specs.Measures.Lessens.{enters, goes_on}
use Rattle.zd_steps.specs.Queues.{MayServe}
use Rattle.zd_volume.specs.Flights.{ReadStep, with_entry}
use Rattle.zd_volume.specs.Volumes.{PlainVolume}
use Rattle.zd_volume.specs.declared.flight.Ran.{Ran}
use Rattle.zd_session.specs.LoneStates.{StandsSession, commit_rest, copy_rest, flight_rest, rest_of, stock_of}
use Rattle.zd_session.specs.Serving.{AfterRun, Serves, ServesBy, ServesEdge, ServesIn, ServesRead}
use Rattle.zd_session.specs.SessionSteps.{KeepsSession}
use Rattle.zd_session.specs.Sessions.{SessionView, standing_seen}
use Rattle.zd_session.proofs.LessEntries.{come_one, come_same}
use Rattle.zd_session.proofs.LessFlights.{edge_less, read_less, read_piece}
use Rattle.zd_session.proofs.ServeLaws.{discard_entry, marks_more}
use Rattle.zd_session.proofs.ServeWriteLaws.{tried_marks}

-- what a piece that is answered at once enters
entry_marks : (v w : PlainVolume) (p q : Piece) (reply : Answer) → q ≡ p → w ≡ with_entry v q reply
    → map mark_of_entry w.history ≡ map mark_of_entry v.history ++ mark_of_piece p ∷ []
entry_marks v w p q reply same is =
    ap (λ (x : PlainVolume). map mark_of_entry x.history) is
    ∙ marks_more v.history q reply v.since
    ∙ ap (λ (x : Piece). map mark_of_entry v.history ++ mark_of_piece x ∷ []) same

module _ {D : Type 0} (look : D → View) (s t : SessionView D) (stands : StandsSession look s) (keeps : KeepsSession s t)
    (some : 0 < length s.flights) (p : Piece) (serve : MayServe stands.queue 0 p) where
  -- THE PIECE IS ENTERED
  lands : map mark_of_entry t.volume.plain.history ≡ map mark_of_entry s.volume.plain.history ++ mark_of_piece p ∷ []
      → Lessens (rest_of s) (rest_of t)
  lands entered = enters (come_one look s stands t keeps p serve entered)

  -- LESS OF IT IS LEFT
  flies : t.volume.plain ≡ s.volume.plain → flight_rest t < flight_rest s → Lessens (rest_of s) (rest_of t)
  flies same less =
      let commit = ap commit_rest same in
      let copies = ap (λ (x : PlainVolume). copy_rest x.geometry.zone_blocks x.job) same in
      goes_on (come_same look s stands t keeps (ap (λ (x : PlainVolume). x.history) same))
      (ap (λ (x : PlainVolume). jobs_ever (stock_of x)) same) (omega (arith, less, commit, copies))

  reads_on : operation_of p.what ≡ Reading → ServesRead look s t 0 p → Lessens (rest_of s) (rest_of t)
  reads_on reads did = by did.ran did.step did.after
    where
      own : did.flight.piece ≡ p
      own = read_piece look s stands t some p serve reads did.flight did.is

      by : (ran : Ran)
          → ReadStep s.volume.plain t.volume.plain (look s.volume.disk) (look t.volume.disk) did.flight did.next ran
          → AfterRun 0 p did.next ran s t → Lessens (rest_of s) (rest_of t)
      by Ran.More step after =
          flies step.volume
          (read_less look s stands t some p serve reads did.flight did.is did.next (look s.volume.disk)
          (look t.volume.disk) step after.0 after.1 after.2)
      by Ran.Entered (inl ends) after =
          lands (entry_marks s.volume.plain t.volume.plain p did.flight.piece (Got ends.bytes) own ends.volume)
      by Ran.Entered (inr fails) after =
          lands (entry_marks s.volume.plain t.volume.plain p did.flight.piece Fault own fails.volume)

  merges_on : t.volume.plain.stopped ≡ None → operation_of p.what ≡ Writing → ServesEdge look s t 0 p
      → Lessens (rest_of s) (rest_of t)
  merges_on goes writes did = elim did.did [
    | inl edge ↦
        flies edge.volume
        (edge_less look s stands t some p serve writes edge.old edge.new edge.was (look s.volume.disk).zones edge.read
        edge.gives)
    | inr fails ↦ absurd (none-some Why.Device (sym goes ∙ ap (λ (x : PlainVolume). x.stopped) fails.volume))
  ]

  -- A PIECE IS SERVED
  serves_in : t.volume.plain.stopped ≡ None → (o : Operation) (merges : Bool) → operation_of p.what ≡ o
      → ServesIn look s t 0 p o merges → Lessens (rest_of s) (rest_of t)
  serves_in goes Reading merges is did = reads_on is did
  serves_in goes Writing true is did = merges_on goes is did
  serves_in goes Writing false is did =
      lands (tried_marks s.volume.plain t.volume.plain p did.tried did.enters did.tries)
  serves_in goes Discarding merges is did =
      lands (ap (map mark_of_entry) (discard_entry s.volume.plain t.volume.plain p did.discards)
      ∙ marks_more s.volume.plain.history p Done did.discards.given.since)
  serves_in goes Flushing merges is did = absurd did

  serves_by : t.volume.plain.stopped ≡ None → (range : Bool) → ServesBy look s t 0 p range
      → Lessens (rest_of s) (rest_of t)
  serves_by goes true did = lands (entry_marks s.volume.plain t.volume.plain p p Range refl did.enters)
  serves_by goes false did =
      serves_in goes (operation_of p.what) ((standing_seen s 0).merges p) refl did

  pub serves_lessens : t.volume.plain.stopped ≡ None → Serves look s t 0 p → Lessens (rest_of s) (rest_of t)
  serves_lessens goes did = serves_by goes p.range did
