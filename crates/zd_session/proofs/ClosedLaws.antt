-- What a volume that is closed leaves of its answers.
use Rattle.std.proofs.Common.{◌≡◌, inl, inr, Option, Some, None, refl, sym, ap, ◌∙◌}
use Rattle.zd_base.specs.declared.numbers.Why.{Why}
use Rattle.zd_commit.specs.Closed.{Finishes, IsClosed, IsCommitted, StopsClosing, StopsCommitting}
use Rattle.zd_disk.specs.View.{View}
use Rattle.zd_model.specs.declared.requests.Ending.{Ending}
use Rattle.zd_volume.specs.Abandons.{IsAbandoned}
use Rattle.zd_volume.specs.Volumes.{PlainVolume}
use Rattle.zd_volume.specs.declared.phase.Phase.{Phase}
use Rattle.zd_volume.specs.declared.phase.Phase.TheVariants.{Idle, Log, LogFlush, LogSuper, LogSuperFlush}
use Rattle.zd_volume.specs.declared.phase.Phase.TheVariants.{InPlace, InPlaceFlush, InPlaceSuper, InPlaceSuperFlush}
use Rattle.zd_session.specs.SessionEnds.{EndsVolume, stop_in}

-- the answers are as they were, and the volume has stopped for this, or goes on
pub record EndsFor (from to : PlainVolume) (stopped : Option Why) : Type 0 where
  pub history : to.history ≡ from.history
  pub stopped_is : to.stopped ≡ stopped

ends_then : (a b c : PlainVolume) (middle last : Option Why) → EndsFor a b middle → EndsFor b c last → EndsFor a c last
ends_then a b c middle last one two =
    record { history = two.history ∙ one.history; stopped_is = two.stopped_is }

ends_same : (a b : PlainVolume) → b ≡ a → EndsFor a b a.stopped
ends_same a b same =
    record { history = ap (λ (v : PlainVolume). v.history) same; stopped_is = ap (λ (v : PlainVolume). v.stopped) same }

given_up : (a b : PlainVolume) → IsAbandoned a b → EndsFor a b a.stopped
given_up a b gives = record {
  history = ap (λ (v : PlainVolume). v.history) gives.rest;
  stopped_is = ap (λ (v : PlainVolume). v.stopped) gives.rest;
}

committed : (a b : PlainVolume) → IsCommitted a b → EndsFor a b a.stopped
committed a b commits = record {
  history = ap (λ (v : PlainVolume). v.history) commits.rest;
  stopped_is = ap (λ (v : PlainVolume). v.stopped) commits.rest;
}

finished : (a b : PlainVolume) (p : Phase) → Finishes p a b → EndsFor a b a.stopped
finished a b Idle same = ends_same a b same
finished a b (Log k) commits = committed a b commits
finished a b LogFlush commits = committed a b commits
finished a b LogSuper commits = committed a b commits
finished a b LogSuperFlush commits = committed a b commits
finished a b (InPlace k) commits = committed a b commits
finished a b InPlaceFlush commits = committed a b commits
finished a b InPlaceSuper commits = committed a b commits
finished a b InPlaceSuperFlush commits = committed a b commits

stops_for : (a b : PlainVolume) (why : Why) → StopsCommitting a b why → EndsFor a b (Some why)
stops_for a b Why.Device stops = record {
  history = ap (λ (v : PlainVolume). v.history) stops;
  stopped_is = ap (λ (v : PlainVolume). v.stopped) stops;
}
stops_for a b Why.Generation stops = record {
  history = ap (λ (v : PlainVolume). v.history) stops.3;
  stopped_is = ap (λ (v : PlainVolume). v.stopped) stops.3;
}
stops_for a b Why.Memory stops = absurd stops

closed_for : (from to : PlainVolume) → IsClosed from to → EndsFor from to from.stopped
closed_for from to closed =
    let first = given_up from closed.left closed.given_up in
    let middle = finished closed.left closed.finished closed.left.phase closed.finishes in
    let last = committed closed.finished to closed.last in
    record {
      history = last.history ∙ middle.history ∙ first.history;
      stopped_is = last.stopped_is ∙ middle.stopped_is ∙ first.stopped_is;
    }

unclosed_for : (from to : PlainVolume) (why : Why) → StopsClosing from to why → EndsFor from to (Some why)
unclosed_for from to why stops = elim stops.stops [
  | inl first ↦ ends_then from stops.left to from.stopped (Some why) (given_up from stops.left stops.given_up)
      (stops_for stops.left to why first)
  | inr last ↦ ends_then from stops.left to from.stopped (Some why) (given_up from stops.left stops.given_up)
      (ends_then stops.left last.0 to stops.left.stopped (Some why) (finished stops.left last.0 stops.left.phase last.1)
      (stops_for last.0 to why last.2))
]

-- HOW A VOLUME ENDED says so, and leaves what was answered
pub ended_for : (from to : PlainVolume) (u x : View) (ending : Ending) (stopped : Option Why) → from.stopped ≡ stopped
    → EndsVolume from to u x ending stopped → EndsFor from to (stop_in ending)
ended_for from to u x ending (Some why) is ends = record {
  history = ap (λ (v : PlainVolume). v.history) ends.1;
  stopped_is = ap (λ (v : PlainVolume). v.stopped) ends.1 ∙ is ∙ sym (ap stop_in ends.0);
}
ended_for from to u x Ending.Ok None is ends =
    let closed = closed_for from to ends in
    record { history = closed.history; stopped_is = closed.stopped_is ∙ is }
ended_for from to u x (Ending.Stopped why) None is ends = unclosed_for from to why ends.0

-- a volume that is closed went on before
pub went_on : (from to : PlainVolume) (u x : View) (stopped : Option Why) → EndsVolume from to u x Ending.Ok stopped
    → stopped ≡ None
went_on from to u x None ends = refl
went_on from to u x (Some why) ends = absurd (let e = ends.0 in let f : ⊥ = cc in f)
