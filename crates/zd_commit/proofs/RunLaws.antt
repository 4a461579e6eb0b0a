-- A whole commit: its steps add up.
use Rattle.std.proofs.Common.{◌≡◌, ℕ, ◌+◌, Bool, true, false, List, [], length, replicate, Option, Some, None, inl, inr, refl, sym, ap, ap₂, ◌∙◌, subst, arith}
use Rattle.std.proofs.lemmas.List.{append-nil}
use Rattle.zd_base.specs.declared.numbers.Why.{Why}
use Rattle.zd_model.specs.History.{HistoryEntry}
use Rattle.zd_disk.specs.Told.{next_count}
use Rattle.zd_disk.specs.View.{Made, Stays, View}
use Rattle.zd_volume.specs.CommitCalls.{MakesCommitCall, MakesPhaseCall}
use Rattle.zd_volume.specs.Commits.{Advances, after_phase, after_end, after_failed, calls_left, EndsCommit, EndsLimbo, IsLastCall, IsPhaseAfter, StopsCommit}
use Rattle.zd_volume.specs.Volumes.{IsFixed, PlainVolume}
use Rattle.zd_volume.specs.declared.phase.Committed.{Committed}
use Rattle.zd_volume.specs.declared.phase.Phase.{Phase}
use Rattle.zd_volume.specs.declared.phase.Phase.TheVariants.{Idle, Log, LogFlush, LogSuper, LogSuperFlush, InPlace, InPlaceFlush, InPlaceSuper, InPlaceSuperFlush}
use Rattle.zd_volume.specs.Phases.{after_block}
use Rattle.zd_volume.proofs.CallsLeft.{dirty_more, dirty_next, last_call, one_less}
use Rattle.zd_commit.specs.Closed.{IsCommitted, IsInCommit, StopsCommitting}

-- each call of a commit is one writing call
pub record OneCall (d e : View) : Type 0 where
  pub stays : Stays d e
  pub calls : e.calls ≡ next_count d.calls

pub one_call : (p : Phase) (v : PlainVolume) (d e : View) → MakesPhaseCall p v d e → OneCall d e
one_call Idle v d e (inl call) = record { stays = call.1.stays; calls = call.1.calls }
one_call Idle v d e (inr call) = record { stays = call.2.stays; calls = call.2.calls }
one_call (Log k) v d e call = record { stays = call.stays; calls = call.calls }
one_call LogFlush v d e call = record { stays = call.stays; calls = call.calls }
one_call LogSuper v d e call = record { stays = call.stays; calls = call.calls }
one_call LogSuperFlush v d e call = record { stays = call.stays; calls = call.calls }
one_call (InPlace k) v d e call = record { stays = call.stays; calls = call.calls }
one_call InPlaceFlush v d e call = record { stays = call.stays; calls = call.calls }
one_call InPlaceSuper v d e call = record { stays = call.stays; calls = call.calls }
one_call InPlaceSuperFlush v d e call = record { stays = call.stays; calls = call.calls }

-- no call that isn't the last leads to Idle
after_block_runs : (in_place : Bool) (next : Option ℕ) → after_block in_place next ≡ Idle → ⊥
after_block_runs true None is = cc
after_block_runs true (Some k) is = cc
after_block_runs false None is = cc
after_block_runs false (Some k) is = cc

runs_on : (dirty : List Bool) (p q : Phase) → IsPhaseAfter dirty p q → q ≡ Idle → ⊥
runs_on dirty Idle q after idle = after_block_runs false after.1 (sym after.4 ∙ idle)
runs_on dirty (Log k) q after idle = after_block_runs false after.0 (sym after.2 ∙ idle)
runs_on dirty LogFlush q after idle = (let no : LogSuper ≡ Idle = sym after ∙ idle in let f : ⊥ = cc in f)
runs_on dirty LogSuper q after idle = (let no : LogSuperFlush ≡ Idle = sym after ∙ idle in let f : ⊥ = cc in f)
runs_on dirty LogSuperFlush q after idle = after_block_runs true after.0 (sym after.2 ∙ idle)
runs_on dirty (InPlace k) q after idle = after_block_runs true after.0 (sym after.2 ∙ idle)
runs_on dirty InPlaceFlush q after idle = (let no : InPlaceSuper ≡ Idle = sym after ∙ idle in let f : ⊥ = cc in f)
runs_on dirty InPlaceSuper q after idle = (let no : InPlaceSuperFlush ≡ Idle = sym after ∙ idle in let f : ⊥ = cc in f)
runs_on dirty InPlaceSuperFlush q after idle = after

-- the only call of a commit is the last
not_only : (dirty : List Bool) (p q : Phase) → IsLastCall true p dirty → IsPhaseAfter dirty p q → ⊥
not_only dirty p q last after =
    let begins = subst (λ (r : Phase). IsPhaseAfter dirty r q) last.0 after in
    let same = dirty_next dirty 1 begins.0 begins.2 in
    let more = dirty_more dirty begins.0 begins.2.0 begins.2.3 in
    let none = last.1 in
    omega (arith, same, more, none)

-- one call less is left
pub fewer_left : (mid to : PlainVolume) → IsFixed mid → Advances mid to
    → calls_left to.dirty to.phase + 1 ≡ calls_left mid.dirty mid.phase
fewer_left mid to fixed step =
    ap (λ (d : List Bool). calls_left d to.phase + 1) (ap (λ (m : PlainVolume). m.dirty) step.rest)
    ∙ one_less mid.dirty mid.phase to.phase mid.head.generation fixed.under_way step.phase

module _ (from : PlainVolume) (u : View) where
  pub under_way : IsInCommit from from u u
  under_way = record {
    rest = refl;
    begun = λ _. refl;
    only = λ _. refl;
    stays = record { told = λ g t. t; later = omega arith; read_calls = omega arith };
    left = λ small. refl;
  }

  module _ (mid to : PlainVolume) (v w : View) (was : IsInCommit from mid u v) where
    stays_on : OneCall v w → Stays u w
    stays_on call =
        let a = was.stays in
        let b = call.stays in
        record {
          told = λ g t. b.told g (a.told g t);
          later = (let x = a.later in let y = b.later in omega arith);
          read_calls = (let x = a.read_calls in let y = b.read_calls in omega arith);
        }

    -- where the only call is the last, it isn't made yet
    only_last : IsLastCall true from.phase from.dirty → IsLastCall true mid.phase mid.dirty
    only_last last = subst (λ (m : PlainVolume). IsLastCall true m.phase m.dirty) (sym (was.only last)) last

    -- A CALL MORE
    pub goes_on : IsFixed mid → Advances mid to → MakesPhaseCall mid.phase mid v w → IsInCommit from to u w
    goes_on fixed step call =
        let one = one_call mid.phase mid v w call in
        record {
          rest = step.rest
              ∙ ap (λ (m : PlainVolume). after_phase m to.phase (next_count mid.since) m.stopped) was.rest
              ∙ ap (λ (n : ℕ). after_phase from to.phase n from.stopped)
              (sym (ap (λ (m : PlainVolume). m.since) step.rest));
          begun = λ idle. absurd (runs_on mid.dirty mid.phase to.phase step.phase idle);
          only = λ last. absurd (not_only mid.dirty mid.phase to.phase (only_last last) step.phase);
          stays = stays_on one;
          left = λ small.
              let n = one.calls in
              let l = was.left (omega arith) in
              let less = fewer_left mid to fixed step in
              omega (arith, n, l, less);
        }

    -- THE LAST ONE
    pub committed : EndsCommit mid to [] → IsCommitted from to
    committed ends = record {
      alone = ends.alone;
      idle = λ is. alone_here ends.alone is ends.last;
      only = λ last. alone_then ends.alone ends.last (only_last last).0;
      limbo = subst (λ (m : PlainVolume). EndsLimbo m.division to.division) was.rest ends.limbo;
      rest = ends.rest
          ∙ ap (λ (m : PlainVolume). after_end m ends.alone [] (replicate (length m.dirty) false) to.named to.division
          (next_count mid.since)) was.rest
          ∙ ap (λ (h : List HistoryEntry). record (after_end from ends.alone [] (replicate (length from.dirty) false)
          to.named to.division (next_count mid.since)) { history = h }) (append-nil from.history)
          ∙ ap (λ (n : ℕ). record (after_end from ends.alone [] (replicate (length from.dirty) false) to.named to.division n)
          { history = from.history }) (sym (ap (λ (m : PlainVolume). m.since) ends.rest));
    }
      where
        alone_here : (alone : Bool) → alone ≡ true → IsLastCall alone mid.phase mid.dirty
            → IsLastCall true from.phase from.dirty
        alone_here true is last =
            let same = was.begun last.0 in
            subst (λ (m : PlainVolume). IsLastCall true m.phase m.dirty) same last
        alone_here false is last = absurd (let f : ⊥ = cc in f)

        alone_then : (alone : Bool) → IsLastCall alone mid.phase mid.dirty → mid.phase ≡ Idle → alone ≡ true
        alone_then true last idle = refl
        alone_then false last idle =
            absurd (let no : InPlaceSuperFlush ≡ Idle = sym last ∙ idle in let f : ⊥ = cc in f)

    pub all_made : EndsCommit mid to [] → MakesPhaseCall mid.phase mid v w
        → Made (calls_left from.dirty from.phase) u w
    all_made ends call = record {
      number_is = λ small.
          let n = (one_call mid.phase mid v w call).calls in
          let l = was.left (omega arith) in
          let one = last_call mid.dirty ends.alone mid.phase ends.last in
          omega (arith, n, l, one);
    }

    -- ONE THAT STOPS
    pub stopped_for : (why : Why) → StopsCommit mid to [] why → StopsCommitting from to why
    stopped_for Why.Device stops =
        stops
        ∙ ap (λ (m : PlainVolume). after_failed m []) was.rest
        ∙ ap (λ (h : List HistoryEntry). record from {
          phase = mid.phase;
          history = h;
          since = next_count mid.since;
          stopped = Some Why.Device;
        }) (append-nil from.history)
        ∙ ap₂ (λ (p : Phase) (n : ℕ). record from { phase = p; since = n; stopped = Some Why.Device })
        (sym (ap (λ (m : PlainVolume). m.phase) stops)) (sym (ap (λ (m : PlainVolume). m.since) stops))
    stopped_for Why.Generation stops =
        subst (λ (m : PlainVolume). StopsCommit m to [] Why.Generation) (was.begun stops.0) stops
    stopped_for Why.Memory stops = absurd stops

-- the disk stays in every step of a commit
pub call_stays : (result : Committed) (v : PlainVolume) (d e : View) → MakesCommitCall result v d e → Stays d e
call_stays Committed.More v d e call = (one_call v.phase v d e call).stays
call_stays Committed.Ended v d e call = (one_call v.phase v d e call).stays
call_stays (Committed.Stopped Why.Device) v d e call = (one_call v.phase v d e call).stays
call_stays (Committed.Stopped Why.Memory) v d e call = (one_call v.phase v d e call).stays
call_stays (Committed.Stopped Why.Generation) v d e call = call.0.stays
