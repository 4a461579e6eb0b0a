-- What closing a volume leaves of its generation.
use Rattle.std.proofs.Common.{◌≡◌, ◌⊎◌, ◌+◌, ◌≤◌, ℕ, Bool, true, false, sym, ap, ◌∙◌, subst, inl, inr, arith}
use Rattle.zd_base.specs.declared.numbers.Why.{Why}
use Rattle.zd_commit.specs.Closed.{Finishes, IsClosed, IsCommitted, StopsClosing, StopsCommitting}
use Rattle.zd_volume.specs.Phases.{end_generation}
use Rattle.zd_volume.specs.Volumes.{PlainVolume}
use Rattle.zd_volume.specs.declared.phase.Phase.{Phase}
use Rattle.zd_volume.specs.declared.phase.Phase.TheVariants.{Idle, Log, LogFlush, LogSuper, LogSuperFlush}
use Rattle.zd_volume.specs.declared.phase.Phase.TheVariants.{InPlace, InPlaceFlush, InPlaceSuper, InPlaceSuperFlush}
use Rattle.zd_session.specs.LoneSessions.{rise_of}
use Rattle.zd_replay.specs.Run.{StopsFor}

-- the generation rose by no more than this, and that of opening stays
pub record RisesBy (most : ℕ) (from to : PlainVolume) : Type 0 where
  pub opening : to.opening_generation ≡ from.opening_generation
  pub now : to.head.generation ≤ from.head.generation + most

by_one : (alone : Bool) (g : ℕ) → end_generation alone g ≤ g + 1
by_one true g = omega arith
by_one false g = omega arith

-- a commit
rises_committed : (from to : PlainVolume) → IsCommitted from to → RisesBy 1 from to
rises_committed from to done = record {
  opening = ap (λ (v : PlainVolume). v.opening_generation) done.rest;
  now = subst (λ (g : ℕ). g ≤ from.head.generation + 1)
      (sym (ap (λ (v : PlainVolume). v.head.generation) done.rest)) (by_one done.alone from.head.generation);
}

-- one that was under way has ended, or none was
rises_finished : (a b : PlainVolume) (p : Phase) → Finishes p a b → RisesBy (rise_of p) a b
rises_finished a b Idle same = record {
  opening = ap (λ (v : PlainVolume). v.opening_generation) same;
  now = (let e = ap (λ (v : PlainVolume). v.head.generation) same in omega (arith, e));
}
rises_finished a b (Log k) done = rises_committed a b done
rises_finished a b LogFlush done = rises_committed a b done
rises_finished a b LogSuper done = rises_committed a b done
rises_finished a b LogSuperFlush done = rises_committed a b done
rises_finished a b (InPlace k) done = rises_committed a b done
rises_finished a b InPlaceFlush done = rises_committed a b done
rises_finished a b InPlaceSuper done = rises_committed a b done
rises_finished a b InPlaceSuperFlush done = rises_committed a b done

-- CLOSING
pub opening_closed : (from to : PlainVolume) → IsClosed from to → to.opening_generation ≡ from.opening_generation
opening_closed from to closed =
    (rises_committed closed.finished to closed.last).opening
    ∙ (rises_finished closed.left closed.finished closed.left.phase closed.finishes).opening
    ∙ ap (λ (v : PlainVolume). v.opening_generation) closed.given_up.rest

-- what stops a commit, and with which generation
stops_committing : (from to : PlainVolume) (why : Why) → StopsCommitting from to why
    → StopsFor why to × RisesBy 0 from to
stops_committing from to Why.Device stops = (
  tt,
  record {
    opening = ap (λ (v : PlainVolume). v.opening_generation) stops;
    now = (let e = ap (λ (v : PlainVolume). v.head.generation) stops in omega (arith, e));
  },
)
stops_committing from to Why.Generation stops =
    let e : to.head.generation ≡ from.head.generation = ap (λ (v : PlainVolume). v.head.generation) stops.3 in (
      e ∙ stops.2,
      record { opening = ap (λ (v : PlainVolume). v.opening_generation) stops.3; now = omega (arith, e) },
    )
stops_committing from to Why.Memory stops = absurd stops

-- CLOSING THAT STOPPED: it met the last generation before it had made its own commit
pub stops_closing : (from to : PlainVolume) (why : Why) → StopsClosing from to why
    → StopsFor why to × RisesBy (rise_of from.phase) from to
stops_closing from to why stops = by stops.stops
  where
    left : PlainVolume
    left = stops.left

    phase : left.phase ≡ from.phase
    phase = ap (λ (v : PlainVolume). v.phase) stops.given_up.rest

    first : left.opening_generation ≡ from.opening_generation
    first = ap (λ (v : PlainVolume). v.opening_generation) stops.given_up.rest

    same : left.head.generation ≡ from.head.generation
    same = ap (λ (v : PlainVolume). v.head.generation) stops.given_up.rest

    by : StopsCommitting left to why
        ⊎ ((finished : PlainVolume) × Finishes left.phase left finished × StopsCommitting finished to why)
        → StopsFor why to × RisesBy (rise_of from.phase) from to
    by (inl here) =
        let end = stops_committing left to why here in
        let most = end.1.now in (
          end.0,
          record { opening = end.1.opening ∙ first; now = omega (arith, most, same) },
        )
    by (inr later) =
        let end = stops_committing later.0 to why later.2 in
        let most = end.1.now in
        let rises = rises_finished left later.0 left.phase later.1 in
        let more = rises.now in
        let under_way = ap rise_of phase in (
          end.0,
          record { opening = end.1.opening ∙ rises.opening ∙ first; now = omega (arith, most, more, same, under_way) },
        )
