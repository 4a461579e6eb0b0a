-- The steps of commits and of jobs, put together: no chunk is touched, and no actor's piece.
use Rattle.std.proofs.Common.{◌≡◌, ◌≢◌, ◌⊎◌, inl, inr, ℕ, suc, ◌<◌, ◌≤◌, true, List, [], ◌∷◌, ◌++◌, length, map, slice_get, Option, Some, None, refl, sym, ap, ◌∙◌, subst, arith}
use Rattle.std.proofs.lemmas.Bool.{false≢true}
use Rattle.std.proofs.lemmas.List.{map-append}
use Rattle.std.proofs.lemmas.Option.{none-some}
use Rattle.zd_base.specs.declared.numbers.Why.{Why}
use Rattle.zd_disk.specs.Told.{next_count}
use Rattle.zd_disk.specs.View.{Calls, View}
use Rattle.zd_model.specs.History.{HistoryEntry, Mark, mark_of_entry, mark_of_piece}
use Rattle.zd_model.specs.Image.{Image}
use Rattle.zd_model.specs.Plain.{Answer}
use Rattle.zd_model.specs.Plain.{Answer as answers}
use Rattle.zd_model.specs.declared.requests.Piece.{Piece}
use Rattle.zd_model.specs.declared.requests.What.{What}
use Rattle.zd_model.specs.declared.requests.What.TheVariants.{Discard, Flush, Read, ReadSectors, Write, WriteSectors}
use Rattle.zd_state.specs.Seen.{SameSession, Seen, entries_of_commit}
use Rattle.zd_volume.specs.CommitCalls.{MakesCommitCall, MakesPhaseCall}
use Rattle.zd_volume.specs.Commits.{AreFlushes, CommitStep, flush_entries}
use Rattle.zd_volume.specs.Volumes.{PlainVolume}
use Rattle.zd_volume.specs.declared.phase.Committed.{Committed}
use Rattle.zd_volume.specs.declared.phase.Phase.{Phase}
use Rattle.zd_volume.specs.declared.phase.Phase.TheVariants.{Idle, InPlace, InPlaceFlush, InPlaceSuper, InPlaceSuperFlush, Log, LogFlush, LogSuper, LogSuperFlush}
use Rattle.zd_steps.proofs.FlushLaws.{flush_all}
use Rattle.zd_steps.specs.Queues.{EntersFlushes, HasEntered, IsQueue, QueueState, run_of}
use Rattle.zd_steps.specs.Runs.{eligible_flushes, flushes, is_flushing}
use Rattle.zd_model.specs.Requests.{operation_of}
use Rattle.zd_session.specs.Moving.{HasMoved, IsGoing, StandsSo}
use Rattle.zd_session.specs.SessionSteps.{CallsAtMostOnce}
use Rattle.zd_session.specs.Sessions.{AreActors, AreReplies, IsProgress}
use Rattle.zd_session.specs.declared.progress.Progress.{Progress}
use Rattle.zd_session.proofs.ActorLaws.{actors_stay}
use Rattle.zd_session.proofs.GoingLaws.{flushes_fit, progress_flush, progress_same}
use Rattle.zd_session.proofs.MovedLaws.{calls_read}
use Rattle.zd_session.proofs.ReplyLaws.{replies_flush}
use Rattle.zd_session.proofs.SparedLaws.{Nowhere, Spares}
use Rattle.zd_session.proofs.SparedSteps.{commit_spares}
use Rattle.zd_volume.proofs.Choices.{some_blocks}
use Rattle.zd_volume.specs.Volumes.{sets_of}

-- one writing call
pub calls_of_call : {begun : Image → Image → Image → Type 0} {ended : Image → Image → Image → Image → Type 0} (u x : View)
    → Calls begun ended u x → CallsAtMostOnce u x
calls_of_call u x once = record { stays = once.stays; calls = inr (inl (once.calls, once.read_calls)) }

-- WHERE NO CHUNK IS TOUCHED
module _ {D : Type 0} (look : D → View) (v w : Seen D) (g : Progress) (going : IsGoing look v g)
    (running : v.plain.stopped ≡ None) (stands : StandsSo look v) (n : ℕ) (same : SameSession n v w) (calls : CallsAtMostOnce (look v.disk) (look w.disk))
    (spared : Spares (look v.opening).zones Nowhere v.plain w.plain) where
  abbrev told : Option Image
  told = (look v.opening).zones

  some : 0 < v.plain.geometry.zone_blocks
  some = some_blocks (sets_of v.plain) stands.fixed.sets

  actors_still : AreActors w.plain told g.queue.flights g.actors.items
  actors_still = actors_stay told v.plain w.plain g.queue.flights g.actors.items some going.holds spared

  moved_by : (h : Progress) → IsProgress w.plain w.spare v.room (look v.opening).zones h.queue h.actors.items h.replies.items
      → h.queue.callers.pieces ≡ g.queue.callers.pieces → length h.queue.flights ≡ length g.queue.flights
      → HasMoved look v w g h
  moved_by h progress pieces count = record {
    going = subst (λ (d : D). IsProgress w.plain w.spare w.room (look d).zones h.queue h.actors.items h.replies.items)
        (sym same.opening)
        (subst (λ (r : ℕ). IsProgress w.plain w.spare r (look v.opening).zones h.queue h.actors.items h.replies.items)
        (sym same.room) progress);
    calls = calls;
    opening = same.opening;
    room = same.room;
    pieces = pieces;
    count = count;
    geometry = spared.geometry;
    layout = spared.layout;
    generation = spared.generation;
  }

  -- NOTHING IS ENTERED
  pub moved_rest : n ≤ 0 ⊎ (w.plain.stopped ≢ None) → w.plain.history ≡ v.plain.history → HasMoved look v w g g
  moved_rest few history =
      moved_by g
      (progress_same told v.plain w.plain v.spare w.spare v.room g.queue g.queue g.actors.items g.actors.items
      g.replies.items g.replies.items going running some Nowhere spared refl refl refl (ap (map mark_of_entry) history)
      (λ goes_on. elim few [
        | inl none ↦ (let spare = same.spare in omega (arith, spare, none))
        | inr stops ↦ absurd (stops goes_on)
      ])
      actors_still going.space)
      refl refl

  -- THE FLUSHES OF A COMMIT ARE ENTERED
  pub moved_flush : (h : Progress) (list : List Piece)
      → list ≡ eligible_flushes (run_of g.queue (map mark_of_entry v.plain.history)) → EntersFlushes g.queue h.queue list
      → map mark_of_entry w.plain.history ≡ map mark_of_entry v.plain.history ++ map mark_of_piece list
      → n ≤ length list → h.actors ≡ g.actors → h.replies ≡ g.replies → HasMoved look v w g h
  moved_flush h list is enters marks few actors replies =
      let flights : h.queue.flights ≡ g.queue.flights = ap (λ (q : QueueState). q.flights) enters.rest in
      let blocks : h.queue.chunk_blocks ≡ g.queue.chunk_blocks = ap (λ (q : QueueState). q.chunk_blocks) enters.rest in
      moved_by h
      (progress_flush told v.plain w.plain v.spare w.spare v.room g.queue h.queue g.actors.items h.actors.items
      g.replies.items h.replies.items going running some Nowhere spared enters.pieces blocks list is enters marks
      (let spare = same.spare in omega (arith, spare, few))
      (subst (λ (fs : List (Option Piece)). AreActors w.plain told fs h.actors.items) (sym flights)
      (subst (λ (xs : _). AreActors w.plain told g.queue.flights xs.items) (sym actors) actors_still))
      (subst (λ (rs : _). AreReplies h.queue.callers h.queue.flights rs.items) (sym replies)
      (replies_flush g.queue h.queue list g.replies.items enters going.space)))
      enters.pieces (ap (λ (fs : List (Option Piece)). length fs) flights)

-- THE FLUSHES
flush_what : (what : What) → is_flushing (operation_of what) ≡ true → what ≡ Flush
flush_what Flush is = refl
flush_what (Read block count) is = absurd (false≢true is)
flush_what (Write block count seed) is = absurd (false≢true is)
flush_what (Discard block count) is = absurd (false≢true is)
flush_what (ReadSectors sector count) is = absurd (false≢true is)
flush_what (WriteSectors sector count seed) is = absurd (false≢true is)

all_flushes : (list : List Piece) → ((k : ℕ) (p : Piece) → slice_get list k ≡ Some p → flushes p ≡ true) → AreFlushes list
all_flushes [] each = tt
all_flushes (p ∷ list) each =
    (flush_what p.what (each 0 p refl), all_flushes list (λ k q at. each (suc k) q at))

flush_marks : (reply : Answer) (at : ℕ) (list : List Piece)
    → map mark_of_entry (flush_entries reply at list) ≡ map mark_of_piece list
flush_marks reply at [] = refl
flush_marks reply at (p ∷ list) = ap (λ (ms : List Mark). mark_of_piece p ∷ ms) (flush_marks reply at list)

pub marks_flushed : (h : List HistoryEntry) (reply : Answer) (at : ℕ) (list : List Piece)
    → map mark_of_entry (h ++ flush_entries reply at list) ≡ map mark_of_entry h ++ map mark_of_piece list
marks_flushed h reply at list =
    map-append mark_of_entry h (flush_entries reply at list)
    ∙ ap (λ (ms : List Mark). map mark_of_entry h ++ ms) (flush_marks reply at list)

-- the call of a commit
phase_calls : (phase : Phase) (v : PlainVolume) (u x : View) → MakesPhaseCall phase v u x → CallsAtMostOnce u x
phase_calls Idle v u x (inl clean) = calls_of_call u x clean.1
phase_calls Idle v u x (inr block) = calls_of_call u x block.2
phase_calls (Log k) v u x call = calls_of_call u x call
phase_calls LogFlush v u x call = calls_of_call u x call
phase_calls LogSuper v u x call = calls_of_call u x call
phase_calls LogSuperFlush v u x call = calls_of_call u x call
phase_calls (InPlace k) v u x call = calls_of_call u x call
phase_calls InPlaceFlush v u x call = calls_of_call u x call
phase_calls InPlaceSuper v u x call = calls_of_call u x call
phase_calls InPlaceSuperFlush v u x call = calls_of_call u x call

commit_calls : (result : Committed) (v : PlainVolume) (u x : View) → MakesCommitCall result v u x → CallsAtMostOnce u x
commit_calls Committed.More v u x call = phase_calls v.phase v u x call
commit_calls Committed.Ended v u x call = phase_calls v.phase v u x call
commit_calls (Committed.Stopped Why.Device) v u x call = phase_calls v.phase v u x call
commit_calls (Committed.Stopped Why.Memory) v u x call = phase_calls v.phase v u x call
commit_calls (Committed.Stopped Why.Generation) v u x call = calls_read u x call.0 (inl call.1)

module _ {D : Type 0} (look : D → View) (v : Seen D) (g : Progress) (going : IsGoing look v g)
    (running : v.plain.stopped ≡ None) (list : List Piece)
    (sound : IsQueue g.queue.chunk_blocks g.queue.callers g.queue.flights)
    (is : (entered : List Mark) → HasEntered g.queue.callers entered → list ≡ eligible_flushes (run_of g.queue entered))
  where
    abbrev marks : List Mark
    marks = map mark_of_entry v.plain.history

    now_is : list ≡ eligible_flushes (run_of g.queue marks)
    now_is = is marks going.entered

    -- WHAT A COMMIT IS HANDED are flushes, for which there is room
    pub handed_flushes : (other : List Piece) → other ≡ list → AreFlushes other
    handed_flushes other same =
        subst (λ (ps : List Piece). AreFlushes ps) (sym (same ∙ now_is))
        (all_flushes (eligible_flushes (run_of g.queue marks)) (flush_all g.queue sound marks going.entered))

    pub handed_fits : (other : List Piece) → other ≡ list → length other ≤ v.spare
    handed_fits other same =
        flushes_fit (look v.opening).zones v.plain v.spare v.room g.queue g.actors.items g.replies.items going running other
        (same ∙ now_is)

    pub handed_firsts : (other : List Piece) → other ≡ list
        → (entered : List Mark) × HasEntered g.queue.callers entered × (other ≡ eligible_flushes (run_of g.queue entered))
    handed_firsts other same = (marks, going.entered, same ∙ now_is)

    module _ (stands : StandsSo look v) (w : Seen D) (handed : List Piece) (same_list : handed ≡ list) (result : Committed)
        (did : CommitStep v.plain w.plain handed result)
        (call : MakesCommitCall result v.plain (look v.disk) (look w.disk))
        (same : SameSession (entries_of_commit result (length handed)) v w) where
      spared : Spares (look v.opening).zones Nowhere v.plain w.plain
      spared = commit_spares (look v.opening).zones v.plain w.plain handed result (handed_flushes handed same_list) did

      calls : CallsAtMostOnce (look v.disk) (look w.disk)
      calls = commit_calls result v.plain (look v.disk) (look w.disk) call

      enters_by : (reply : Answer) (h : Progress) (other : List Piece) → other ≡ list → EntersFlushes g.queue h.queue other
          → w.plain.history ≡ v.plain.history ++ flush_entries reply (next_count v.plain.since) handed
          → entries_of_commit result (length handed) ≤ length handed → h.actors ≡ g.actors → h.replies ≡ g.replies
          → HasMoved look v w g h
      enters_by reply h other also enters history few actors replies =
          moved_flush look v w g going running stands (entries_of_commit result (length handed)) same calls spared h handed
          (same_list ∙ now_is)
          (subst (λ (ps : List Piece). EntersFlushes g.queue h.queue ps) (also ∙ sym same_list) enters)
          (ap (map mark_of_entry) history
          ∙ marks_flushed v.plain.history reply (next_count v.plain.since) handed)
          few actors replies

      -- MORE OF A COMMIT IS LEFT
      pub commit_more : result ≡ Committed.More → HasMoved look v w g g
      commit_more more = by result did same calls spared more
        where
          by : (r : Committed) → CommitStep v.plain w.plain handed r → SameSession (entries_of_commit r (length handed)) v w
              → CallsAtMostOnce (look v.disk) (look w.disk) → Spares (look v.opening).zones Nowhere v.plain w.plain
              → r ≡ Committed.More → HasMoved look v w g g
          by Committed.More did same calls spared more =
              moved_rest look v w g going running stands 0 same calls spared (inl (omega arith))
              (ap (λ (x : PlainVolume). x.history) did.rest)
          by Committed.Ended did same calls spared more = absurd (let f : ⊥ = cc in f)
          by (Committed.Stopped why) did same calls spared more = absurd (let f : ⊥ = cc in f)

      -- IT HAS ENDED
      pub commit_ended : result ≡ Committed.Ended → (h : Progress) (other : List Piece) → other ≡ list
          → EntersFlushes g.queue h.queue other → h.actors ≡ g.actors → h.replies ≡ g.replies → HasMoved look v w g h
      commit_ended ended h other also enters actors replies =
          enters_by answers.Done h other also enters (by result did ended) (few result ended) actors replies
        where
          by : (r : Committed) → CommitStep v.plain w.plain handed r → r ≡ Committed.Ended
              → w.plain.history ≡ v.plain.history ++ flush_entries answers.Done (next_count v.plain.since) handed
          by Committed.Ended did ended = ap (λ (x : PlainVolume). x.history) did.rest
          by Committed.More did ended = absurd (let f : ⊥ = cc in f)
          by (Committed.Stopped why) did ended = absurd (let f : ⊥ = cc in f)

          few : (r : Committed) → r ≡ Committed.Ended → entries_of_commit r (length handed) ≤ length handed
          few Committed.Ended ended = omega arith
          few Committed.More ended = absurd (let f : ⊥ = cc in f)
          few (Committed.Stopped why) ended = omega arith

      -- THE DISK FAILED
      pub commit_failed : (why : Why) → result ≡ Committed.Stopped why → why ≡ Why.Device → (h : Progress)
          (other : List Piece) → other ≡ list → EntersFlushes g.queue h.queue other → h.actors ≡ g.actors
          → h.replies ≡ g.replies → HasMoved look v w g h
      commit_failed why stops device h other also enters actors replies =
          enters_by answers.Fault h other also enters (by why device (subst (CommitStep v.plain w.plain handed) stops did))
          (subst (λ (r : Committed). entries_of_commit r (length handed) ≤ length handed) (sym stops) (omega arith)) actors
          replies
        where
          by : (why : Why) → why ≡ Why.Device → CommitStep v.plain w.plain handed (Committed.Stopped why)
              → w.plain.history ≡ v.plain.history ++ flush_entries answers.Fault (next_count v.plain.since) handed
          by Why.Device device did = ap (λ (x : PlainVolume). x.history) did
          by Why.Memory device did = absurd did
          by Why.Generation device did = absurd (let f : ⊥ = cc in f)

      -- THERE IS NO NEXT GENERATION
      pub commit_refused : (why : Why) → result ≡ Committed.Stopped why → why ≢ Why.Device → HasMoved look v w g g
      commit_refused why stops other =
          by why other (subst (CommitStep v.plain w.plain handed) stops did)
        where
          by : (why : Why) → why ≢ Why.Device → CommitStep v.plain w.plain handed (Committed.Stopped why) → HasMoved look v w g g
          by Why.Device off did = absurd (off refl)
          by Why.Memory off did = absurd did
          by Why.Generation off did =
              moved_rest look v w g going running stands (entries_of_commit result (length handed)) same calls spared
              (inr (λ goes_on. none-some Why.Generation (sym goes_on ∙ ap (λ (x : PlainVolume). x.stopped) did.3)))
              (ap (λ (x : PlainVolume). x.history) did.3)
