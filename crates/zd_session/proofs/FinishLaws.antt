-- A session that is finished.
use Rattle.std.proofs.Common.{◌≡◌, ◌⊎◌, inl, inr, ℕ, ◌-◌, ◌^◌, ◌<◌, ◌≤◌, true, List, length, map, Option, Some, None}
use Rattle.std.proofs.Common.{refl, sym, ap, ◌∙◌, subst, arith}
use Rattle.std.proofs.lemmas.Bool.{cases_lt}
use Rattle.std.proofs.lemmas.List.{get_or_past, take_all}
use Rattle.std.specs.Option.{option_map_or}
use Rattle.zd_base.specs.Layout.{device_blocks}
use Rattle.zd_base.specs.declared.numbers.Why.{Why}
use Rattle.zd_disk.specs.Told.{WhereTold}
use Rattle.zd_disk.specs.View.{View}
use Rattle.zd_model.specs.History.{HistoryEntry, Mark, mark_of_entry, mark_of_piece, marks_of_caller}
use Rattle.zd_model.specs.Image.{Image}
use Rattle.zd_model.specs.Safe.{base_at}
use Rattle.zd_model.specs.declared.requests.Ending.{Ending}
use Rattle.zd_model.specs.declared.requests.Piece.{Piece}
use Rattle.zd_model.specs.declared.requests.Request.{Request}
use Rattle.zd_state.specs.ClosedImages.{IsClosedImage}
use Rattle.zd_state.specs.Seen.{Seen}
use Rattle.zd_steps.specs.Queues.{HasEntered, IsQueue, QueueState, head_of, run_of}
use Rattle.zd_steps.specs.Runs.{Run, is_over}
use Rattle.zd_steps.proofs.EnterLaws.{ordered}
use Rattle.zd_steps.proofs.ToldLaws.{over_decides}
use Rattle.zd_session.specs.Moving.{IsKeptSession, seen_by}
use Rattle.zd_session.specs.SessionEnds.{EndsVolume, EntersAll, FinishesSession, IsHistoryOf, KeepsOrder}
use Rattle.zd_session.specs.Sessions.{ended_of, run_with}
use Rattle.zd_session.specs.declared.progress.Progress.{Progress}
use Rattle.zd_session.proofs.ClosedLaws.{ended_for, went_on}
use Rattle.zd_session.proofs.StepLaws.{same_run}

-- all pieces of each caller are entered, where all are
module _ (q : QueueState) (is : IsQueue q.chunk_blocks q.callers q.flights) (marks : List Mark)
    (entered : HasEntered q.callers marks) (over : is_over (run_of q marks) ≡ true) where
  behind : (c : ℕ) → (c < 64) ⊎ (64 ≤ c) → length q.callers.pieces ≤ head_of q.callers c
  behind c (inl known) = (over_decides q is marks entered).0 over c known
  behind c (inr past) =
      let count = is.heads.count in
      let none = get_or_past q.callers.heads c (length q.callers.pieces) (omega (arith, count, past)) in
      omega (arith, none)

  all_entered : (c : ℕ) → marks_of_caller c marks ≡ marks_of_caller c (map mark_of_piece q.callers.pieces)
  all_entered c =
      entered c ∙ ap (λ (ps : List Piece). marks_of_caller c (map mark_of_piece ps))
      (take_all (head_of q.callers c) q.callers.pieces (behind c (cases_lt c 64)))

-- one that has ended and goes on is over
over_where : (stopped : Option Why) (r : Run) → stopped ≡ None
    → option_map_or (λ (why : Why). true) stopped (is_over r) ≡ true → is_over r ≡ true
over_where None r goes is = is
over_where (Some why) r goes is = absurd (let f : ⊥ = cc in f)

-- A SESSION OVER A VOLUME THAT ENDED SO
module _ {D : Type 0} (look : D → View) (v : Seen D) (plan : List Request) (g : Progress) (list : ℕ)
    (kept : IsKeptSession look v plan g list)
    (is : IsQueue g.queue.chunk_blocks g.queue.callers g.queue.flights) (over : ended_of (seen_by v plan g) ≡ true)
    (w : Seen D) (ending : Ending)
    (ends : EndsVolume v.plain w.plain (look v.disk) (look w.disk) ending v.plain.stopped)
    (opening : w.opening ≡ v.opening)
    (closed : ending ≡ Ending.Ok → (look w.disk).calls < 2 ^ 64 - 1 → WhereTold (look w.disk).zones (λ _.
    (i : Image) → (look w.disk).left (look w.disk).calls i →
    IsClosedImage (base_at (look w.opening).zones) w.plain.history i))
    (shown : IsHistoryOf w.plain w.plain.history (look w.opening) (look w.disk)) where
  same_history : w.plain.history ≡ v.plain.history
  same_history = (ended_for v.plain w.plain (look v.disk) (look w.disk) ending v.plain.stopped refl ends).history

  run_is : run_of g.queue (map mark_of_entry v.plain.history) ≡ run_with v.plain plan g.queue.flights
  run_is = same_run v.plain plan g.queue kept.session.progress.chunks kept.session.pieces

  enters_all : ending ≡ Ending.Ok → EntersAll v.plain plan v.plain.history
  enters_all ok caller =
      let goes = went_on v.plain w.plain (look v.disk) (look w.disk) v.plain.stopped
      (subst (λ (e : Ending). EndsVolume v.plain w.plain (look v.disk) (look w.disk) e v.plain.stopped) ok ends) in
      let all = over_where v.plain.stopped (run_with v.plain plan g.queue.flights) goes over in
      all_entered g.queue is (map mark_of_entry v.plain.history) kept.session.progress.entered
      (ap (λ (r : Run). is_over r) run_is ∙ all) caller
      ∙ ap (λ (ps : List Piece). marks_of_caller caller (map mark_of_piece ps)) kept.session.pieces

  -- with what it handed out
  pub finishes_at : FinishesSession look (seen_by v plan g) w.plain.history w.disk ending
  finishes_at = record {
    last = w.plain;
    same = same_history;
    last_history = refl;
    ends = ends;
    stopped = (ended_for v.plain w.plain (look v.disk) (look w.disk) ending v.plain.stopped refl ends).stopped_is;
    ordered = subst (KeepsOrder v.plain plan) (sym same_history)
        (ordered v.plain.geometry.zone_blocks (device_blocks v.plain.geometry v.plain.head.layout) plan g.queue.callers
        v.plain.history kept.session.pieces kept.session.progress.entered);
    all = λ ok. subst (EntersAll v.plain plan) (sym same_history) (enters_all ok);
    history_of = subst (λ (o : D). IsHistoryOf w.plain w.plain.history (look o) (look w.disk)) opening shown;
    closed = λ ok. subst (λ (o : D). (look w.disk).calls < 2 ^ 64 - 1 → WhereTold (look w.disk).zones (λ _.
        (i : Image) → (look w.disk).left (look w.disk).calls i →
        IsClosedImage (base_at (look o).zones) w.plain.history i)) opening (closed ok);
  }

  pub finishes : (history : List HistoryEntry) (disk : D) → history ≡ w.plain.history → disk ≡ w.disk
      → FinishesSession look (seen_by v plan g) history disk ending
  finishes history disk same_items same_disk =
      subst (λ (x : D). FinishesSession look (seen_by v plan g) history x ending) (sym same_disk)
      (subst (λ (h : List HistoryEntry). FinishesSession look (seen_by v plan g) h w.disk ending) (sym same_items)
      finishes_at)
