-- What a run of a session says of a run of its plan.
use Rattle.std.proofs.Common.{◌≡◌, ◌*◌, ◌+◌, ◌-◌, ◌^◌, ◌<◌, ◌≤◌, ◌++◌, ℕ, List, [], ◌∷◌, length, map, slice_get, Option, Some, None, refl, sym, suc, zero}
use Rattle.std.proofs.Common.{ap, ap₂, ◌∙◌, subst, arith, true}
use Rattle.std.specs.Prelude.{is_some}
use Rattle.zd_base.specs.Geometry.{IsShape, Shape}
use Rattle.zd_base.specs.Layout.{device_blocks, used_blocks}
use Rattle.zd_base.specs.declared.layout.Layout.{Layout}
use Rattle.zd_base.specs.declared.numbers.Why.{Why}
use Rattle.zd_disk.specs.Moments.{AtEach}
use Rattle.zd_disk.specs.Told.{WhereTold}
use Rattle.zd_disk.specs.View.{View}
use Rattle.zd_disk.proofs.ToldLaws.{Some-same}
use Rattle.zd_model.specs.History.{HistoryEntry, IsLegal, IsOrdered, mark_of_entry, mark_of_piece, marks_of_caller}
use Rattle.zd_model.specs.Image.{Image}
use Rattle.zd_model.specs.Pieces.{pieces_of}
use Rattle.zd_model.specs.Safe.{IsSafe, base_at}
use Rattle.zd_model.specs.declared.requests.Ending.{Ending}
use Rattle.zd_model.specs.declared.requests.Piece.{Piece}
use Rattle.zd_model.specs.declared.requests.Request.{Request}
use Rattle.zd_model.specs.declared.texts.Outcome.{Outcome}
use Rattle.zd_model.specs.declared.texts.Outcome.TheVariants as outcomes
use Rattle.zd_progress.specs.Paces.{AreClose}
use Rattle.zd_session.specs.Constants.{IsToldAlike}
use Rattle.zd_session.specs.LoneSessions.{EndsInTime, IsFreshVolume, IsNewSession, ats_of, most_between}
use Rattle.zd_session.specs.SessionEnds.{BeginsSession, ClosesWith, EndsVolume, FinishesSession, IsHistoryOf}
use Rattle.zd_session.specs.SessionEnds.{IsRoomier, stop_in}
use Rattle.zd_session.specs.Sessions.{SessionView, pieces_on}
use Rattle.zd_state.specs.ClosedImages.{IsClosedImage}
use Rattle.zd_state.specs.Seen.{Seen}
use Rattle.zd_volume.specs.FaultCounts.{AreCalm, TellsFaults}
use Rattle.zd_volume.specs.Volumes.{CountsSince, PlainVolume}
use Rattle.zd_replay.specs.Ends.{all_done, no_generation, no_memory, stop_of}
use Rattle.zd_replay.specs.Run.{RunsInTime, RunsPlan, RunsSession, SaysWhy, StandsSince, StopsFor}
use Rattle.zd_replay.proofs.ClosingLaws.{opening_closed, stops_closing}
use Rattle.zd_replay.proofs.TurnLaws.{going, says_why}

-- A SESSION OF ONE ACTOR BEGINS over a volume that was just opened
none_at : (i : ℕ) (p : Piece) → slice_get (None ∷ []) i ≡ Some (Some p) → ⊥
none_at zero p is = let f : ⊥ = cc in f
none_at (suc i) p is = let f : ⊥ = cc in f

pub new_begun : {D : Type 0} (plan : List Request) (volume : Seen D) (begun : SessionView D) → IsFreshVolume volume
    → BeginsSession volume plan 1 begun → IsNewSession begun
new_begun plan volume begun fresh begins = record {
  fresh = record {
    running = ap (λ (v : PlainVolume). v.stopped) same ∙ fresh.running;
    new = ap (λ (v : PlainVolume). v.history) same ∙ fresh.new;
    idle = ap (λ (v : PlainVolume). v.phase) same ∙ fresh.idle;
    free = ap (λ (v : PlainVolume). v.job) same ∙ fresh.free;
    uncounted = ap (λ (v : PlainVolume). v.since) same ∙ fresh.uncounted;
    generation =
        ap (λ (v : PlainVolume). v.head.generation) same
        ∙ fresh.generation
        ∙ sym (ap (λ (v : PlainVolume). v.opening_generation) same);
    here = begins.over.opening ∙ fresh.here ∙ sym begins.over.disk;
  };
  alone = λ other p at.
      absurd (none_at other p (subst (λ fs. slice_get fs other ≡ Some (Some p)) begins.flights at));
}
  where
    same : begun.volume.plain ≡ volume.plain
    same = begins.over.plain

-- A SESSION OF ANY ACTORS BEGINS over such a volume: nothing stopped it
pub caused_begun : {D : Type 0} (plan : List Request) (volume : Seen D) (actors : ℕ) (begun : SessionView D)
    → IsFreshVolume volume → BeginsSession volume plan actors begun → SaysWhy begun.volume.plain
caused_begun plan volume actors begun fresh begins =
    says_why begun.volume.plain
    (going begun.volume.plain (ap (λ (v : PlainVolume). v.stopped) begins.over.plain ∙ fresh.running))

-- what is true of a history since opening ended
stands_since : (last : PlainVolume) (history : List HistoryEntry) (opening now : View)
    → IsHistoryOf last history opening now → StandsSince last history opening now
stands_since last history opening now h =
    record { shows = h.shows; counted = h.counted; legal = h.legal; safe = h.safe }

some_is : (o : Option Image) → is_some o ≡ true → (i : Image) × (o ≡ Some i)
some_is (Some i) h = (i, refl)
some_is None h = absurd (let f : ⊥ = cc in f)

-- ANOTHER DISK THAT TOLD THE SAME when opening ended
module _ (u o x : View) (alike : IsToldAlike u o) (last : PlainVolume) (history : List HistoryEntry)
    (h : IsHistoryOf last history o x) where
  told_there : WhereTold u.zones (λ _. (i : Image) × (o.zones ≡ Some i))
  told_there image there =
      some_is o.zones (alike.told ∙ ap (λ (z : Option Image). is_some z) there)

  pub stands_alike : StandsSince last history u x
  stands_alike = record {
    shows = λ image there. (let i = told_there image there in h.shows i.0 i.1);
    counted = subst (λ (n : ℕ). CountsSince last n x.calls) alike.calls h.counted;
    legal = λ small. subst (λ (b : List (List ℕ)). WhereTold x.zones (λ _. IsLegal b history)) alike.base (h.legal small);
    safe = λ small.
        subst (λ (n : ℕ). WhereTold x.zones (λ _. AtEach (IsSafe (base_at u.zones) history) n x.calls x.left)) alike.calls
        (subst (λ (b : List (List ℕ)). WhereTold x.zones (λ _. AtEach (IsSafe b history) o.calls x.calls x.left))
        alike.base (h.safe small));
  }

  pub faulted_alike : TellsFaults history last.stopped u.faults x.faults
  faulted_alike = subst (λ (n : ℕ). TellsFaults history last.stopped n x.faults) alike.faults h.faulted

-- NO MEMORY WAS FOUND for the session: the volume is as it was, and nothing was entered
module _ {D : Type 0} (look : D → View) (plan : List Request) (volume left : Seen D)
    (over : IsRoomier volume left) (new : volume.plain.history ≡ []) where
  none_left : left.plain.history ≡ []
  none_left = ap (λ (v : PlainVolume). v.history) over.plain ∙ new

  -- over the same disk
  left_of : IsHistoryOf left.plain left.plain.history (look left.opening) (look left.disk)
      → IsHistoryOf left.plain left.plain.history (look volume.opening) (look left.disk)
  left_of shown =
      subst (λ (d : D). IsHistoryOf left.plain left.plain.history (look d) (look left.disk)) over.opening shown

  pub unbegun_runs : IsShape volume.plain.geometry → volume.opening ≡ volume.disk
      → IsHistoryOf left.plain left.plain.history (look left.opening) (look left.disk)
      → RunsPlan plan no_memory left.plain.history volume.plain (look volume.opening) (look left.disk)
  unbegun_runs shape here shown =
      let history_of = left_of shown in
      record {
        comes = tt;
        shape = shape;
        last = left.plain;
        last_history = refl;
        generations = ap (λ (v : PlainVolume). v.opening_generation) over.plain;
        stands = stands_since left.plain left.plain.history (look volume.opening) (look left.disk) history_of;
        faulted = record {
          later = history_of.faulted.later;
          told = history_of.faulted.told;
          cause = λ small is. absurd (let f : ⊥ = cc in f);
        };
        ordered = λ caller. (
          marks_of_caller caller (map mark_of_piece (pieces_on volume.plain plan)),
          ap (λ (h : List HistoryEntry). marks_of_caller caller (map mark_of_entry h)
              ++ marks_of_caller caller (map mark_of_piece (pieces_on volume.plain plan))) (sym none_left),
        );
        all = λ is. absurd (let f : ⊥ = cc in f);
        calm = λ is. absurd (let f : ⊥ = cc in f);
        closed = λ is. absurd (let f : ⊥ = cc in f);
        generation = λ is. absurd (let f : ⊥ = cc in f);
        unbegun = λ is. (none_left, ap (λ (d : D). (look d).calls) (over.disk ∙ sym here));
      }

  pub unbegun_timely : IsHistoryOf left.plain left.plain.history (look left.opening) (look left.disk)
      → RunsInTime plan no_memory left.plain.history volume.plain (look volume.opening) (look left.disk)
  unbegun_timely shown = record {
    earlier = (left_of shown).earlier;
    close =
        subst (λ (h : List HistoryEntry). AreClose (most_between volume.plain.geometry.zone_blocks
        (used_blocks volume.plain.geometry volume.plain.head.layout)) (ats_of h)) (sym none_left)
        (λ i less. absurd (omega (arith, less)));
    spare = λ is. absurd (let f : ⊥ = cc in f);
  }

-- endings and outcomes
stop_same : (ending : Ending) → stop_of (outcomes.Ended ending) ≡ stop_in ending
stop_same Ending.Ok = refl
stop_same (Ending.Stopped why) = refl

abbrev ending_in : Outcome → Ending
ending_in (outcomes.Ended ending) = ending
ending_in outcome = Ending.Ok

-- what became of a volume that was finished
record EndsSo (mid last : PlainVolume) (ending : Ending) : Type 0 where
  pub opening : last.opening_generation ≡ mid.opening_generation
  pub cause : (why : Why) → ending ≡ Ending.Stopped why → StopsFor why last
  pub calm : ending ≡ Ending.Ok → AreCalm mid.history

-- one that stopped so stopped for this
same_why : (ending : Ending) (why other : Why) → ending ≡ Ending.Stopped why → ending ≡ Ending.Stopped other
    → why ≡ other
same_why ending why other is also = Some-same why other (sym (ap stop_in is) ∙ ap stop_in also)

never_both : (ending : Ending) (why : Why) → ending ≡ Ending.Ok → ending ≡ Ending.Stopped why → ⊥
never_both ending why ok also =
    let e : None ≡ Some why = sym (ap stop_in ok) ∙ ap stop_in also in let f : ⊥ = cc in f

ending_by : (ending : Ending) (o : Outcome) → outcomes.Ended ending ≡ o → ending ≡ ending_in o
ending_by ending o is = ap ending_in is

-- A SESSION WAS RUN, AND FINISHED
module _ {D : Type 0} (look : D → View) (plan : List Request) (volume : Seen D) (begun run : SessionView D)
    (history : List HistoryEntry) (disk : D) (ending : Ending) (actors : ℕ)
    (begins : BeginsSession volume plan actors begun) (runs : RunsSession look begun run)
    (ends : FinishesSession look run history disk ending) where
  abbrev mid : PlainVolume
  mid = run.volume.plain

  same_geometry : mid.geometry ≡ volume.plain.geometry
  same_geometry = runs.same.geometry ∙ ap (λ (v : PlainVolume). v.geometry) begins.over.plain

  same_layout : mid.head.layout ≡ volume.plain.head.layout
  same_layout = runs.same.layout ∙ ap (λ (v : PlainVolume). v.head.layout) begins.over.plain

  same_generation : mid.opening_generation ≡ volume.plain.opening_generation
  same_generation = runs.same.generation ∙ ap (λ (v : PlainVolume). v.opening_generation) begins.over.plain

  same_opening : IsToldAlike (look volume.opening) (look run.volume.opening)
  same_opening = subst (λ (d : D). IsToldAlike (look d) (look run.volume.opening)) begins.over.opening runs.same.opening

  same_plan : run.plan ≡ plan
  same_plan = runs.same.plan ∙ begins.plan_is

  same_pieces : pieces_on mid run.plan ≡ pieces_on volume.plain plan
  same_pieces =
      ap (pieces_on mid) same_plan
      ∙ ap₂ (λ (g : Shape) (l : Layout). pieces_of g.zone_blocks (device_blocks g l) plan) same_geometry same_layout

  -- it had stopped before
  stopped_so : (why : Why) → mid.stopped ≡ Some why → ending ≡ Ending.Stopped why → ends.last ≡ mid
      → EndsSo mid ends.last ending
  stopped_so why is stop same = record {
    opening = ap (λ (v : PlainVolume). v.opening_generation) same;
    cause = λ other also.
        subst (λ (v : PlainVolume). StopsFor other v) (sym same)
        (subst (λ (w : Why). StopsFor w mid) (same_why ending why other stop also) (runs.caused.cause why is));
    calm = λ ok. absurd (never_both ending why ok stop);
  }

  -- it was closed, or closing stopped it
  closed_so : (e : Ending) → ending ≡ e → mid.stopped ≡ None
      → ClosesWith mid ends.last (look run.volume.disk) (look disk) e → EndsSo mid ends.last ending
  closed_so Ending.Ok is goes closed = record {
    opening = opening_closed mid ends.last closed;
    cause = λ why also. absurd (never_both ending why is also);
    calm = λ ok. runs.calm goes;
  }
  closed_so (Ending.Stopped why) is goes stops =
      let closing = stops_closing mid ends.last why stops.0 in
      record {
        opening = closing.1.opening;
        cause = λ other also. subst (λ (w : Why). StopsFor w ends.last) (same_why ending why other is also) closing.0;
        calm = λ ok. runs.calm goes;
      }

  ended_so : (o : Option Why) → mid.stopped ≡ o
      → EndsVolume mid ends.last (look run.volume.disk) (look disk) ending o → EndsSo mid ends.last ending
  ended_so (Some why) is e = stopped_so why is e.0 e.1
  ended_so None is e = closed_so ending refl is e

  so : EndsSo mid ends.last ending
  so = ended_so mid.stopped refl ends.ends

  pub finished_runs : IsShape volume.plain.geometry
      → RunsPlan plan (outcomes.Ended ending) history volume.plain (look volume.opening) (look disk)
  finished_runs shape = record {
    comes = tt;
    shape = shape;
    last = ends.last;
    last_history = ends.last_history;
    generations = so.opening ∙ same_generation;
    stands = stands_alike (look volume.opening) (look run.volume.opening) (look disk) same_opening ends.last history
        ends.history_of;
    faulted = subst (λ (o : Option Why). TellsFaults history o (look volume.opening).faults (look disk).faults)
        (ends.stopped ∙ sym (stop_same ending))
        (faulted_alike (look volume.opening) (look run.volume.opening) (look disk) same_opening ends.last history
        ends.history_of);
    ordered =
        subst (λ (p : List Request). IsOrdered volume.plain.geometry.zone_blocks
        (device_blocks volume.plain.geometry volume.plain.head.layout) p history) same_plan
        (subst (λ (g : Shape). IsOrdered g.zone_blocks (device_blocks g volume.plain.head.layout) run.plan history)
        same_geometry
        (subst (λ (l : Layout). IsOrdered mid.geometry.zone_blocks (device_blocks mid.geometry l) run.plan history)
        same_layout ends.ordered));
    all = λ done caller.
        ends.all (ending_by ending all_done done) caller
        ∙ ap (λ (ps : List Piece). marks_of_caller caller (map mark_of_piece ps)) same_pieces;
    calm = λ done.
        subst (λ (h : List HistoryEntry). AreCalm h) (sym ends.same) (so.calm (ending_by ending all_done done));
    closed = λ done small.
        subst (λ (b : List (List ℕ)). WhereTold (look disk).zones (λ _. (i : Image) → (look disk).left (look disk).calls i →
        IsClosedImage b history i)) same_opening.base
        (ends.closed (ending_by ending all_done done) small);
    generation = λ is. so.cause Why.Generation (ending_by ending no_generation is);
    unbegun = λ is. absurd (so.cause Why.Memory (ending_by ending no_memory is));
  }

  -- by one actor, in time
  module _ (timely : EndsInTime run) where
    abbrev most : ℕ
    most = mid.opening_generation + 3 * length (pieces_on mid run.plan) + 2

    spare_stopped : (why : Why) → mid.stopped ≡ Some why → ending ≡ Ending.Stopped why
        → ending ≡ Ending.Stopped Why.Generation → 2 ^ 64 - 1 < most
    spare_stopped why is stop also = timely.room (is ∙ ap Some (same_why ending why Why.Generation stop also))

    spare_closed : (e : Ending) → ending ≡ e → mid.stopped ≡ None
        → ClosesWith mid ends.last (look run.volume.disk) (look disk) e
        → ending ≡ Ending.Stopped Why.Generation → 2 ^ 64 - 1 < most
    spare_closed Ending.Ok is goes closed also = absurd (never_both ending Why.Generation is also)
    spare_closed (Ending.Stopped why) is goes stops also =
        let closing = stops_closing mid ends.last why stops.0 in
        let last : StopsFor Why.Generation ends.last =
        subst (λ (w : Why). StopsFor w ends.last) (same_why ending why Why.Generation is also) closing.0 in
        let rises = closing.1.now in
        let room = timely.closing goes in
        omega (arith, last, rises, room)

    spare_so : (o : Option Why) → mid.stopped ≡ o
        → EndsVolume mid ends.last (look run.volume.disk) (look disk) ending o
        → ending ≡ Ending.Stopped Why.Generation → 2 ^ 64 - 1 < most
    spare_so (Some why) is e = spare_stopped why is e.0
    spare_so None is e = spare_closed ending refl is e

    pub finished_timely : run.volume.opening ≡ begun.volume.opening
        → RunsInTime plan (outcomes.Ended ending) history volume.plain (look volume.opening) (look disk)
    finished_timely same = record {
      earlier =
          subst (λ (d : D). (look disk).calls < 2 ^ 64 - 1 → WhereTold (look disk).zones (λ _. (k : ℕ) (i : Image) →
          k < (look d).calls → (look disk).left k i → (look d).left k i)) (same ∙ begins.over.opening)
          ends.history_of.earlier;
      close =
          subst (λ (h : List HistoryEntry). AreClose (most_between volume.plain.geometry.zone_blocks
          (used_blocks volume.plain.geometry volume.plain.head.layout)) (ats_of h)) (sym ends.same)
          (subst (λ (n : ℕ). AreClose n (ats_of mid.history))
          (ap₂ (λ (g : Shape) (l : Layout). most_between g.zone_blocks (used_blocks g l)) same_geometry same_layout)
          timely.close);
      spare = λ is.
          let less = spare_so mid.stopped refl ends.ends (ending_by ending no_generation is) in
          let first = same_generation in
          let count = ap (λ (ps : List Piece). length ps) same_pieces in
          omega (arith, less, first, count);
    }
