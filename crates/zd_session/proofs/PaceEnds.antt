-- How a run by the first actor begins and ends: a session that has just begun gives a fresh loop, where there is no step
-- more it has ended, and what is promised of the loop's end is that it ends in time.
use Rattle.std.proofs.Common.{◌≡◌, inl, inr, ℕ, suc, ◌+◌, ◌-◌, ◌*◌, ◌^◌, ◌<◌, Bool, true, false, cond, eqb, List, [], ◌∷◌, length, map, count_by, slice_get, Option, Some, None, refl, sym, ap, ap₂, ◌∙◌, subst, arith}
use Rattle.std.specs.Prelude.{is_some, option_map}
use Rattle.std.proofs.lemmas.Bool.{cases_lt, false≢true, ne_eqb}
use Rattle.std.proofs.lemmas.List.{get_or_past}
use Rattle.std.proofs.lemmas.Option.{none-some}
use Rattle.zd_base.specs.Geometry.{Shape}
use Rattle.zd_base.specs.Layout.{first_data_zone, used_blocks}
use Rattle.zd_base.specs.declared.geometry.Kind.{Kind}
use Rattle.zd_base.specs.declared.geometry.Kind.TheVariants.{Conventional, Sequential}
use Rattle.zd_base.specs.declared.layout.Layout.{Layout}
use Rattle.zd_base.specs.declared.steps.Prefer.TheVariants.{Pieces}
use Rattle.zd_alloc.specs.Zones.{HasNoFree, IsOf, is_free, is_limbo, use_at, uses_of}
use Rattle.zd_alloc.specs.declared.uses.ZoneUse.{ZoneUse}
use Rattle.zd_alloc.specs.declared.uses.ZoneUse.TheVariants.{Limbo, Meta}
use Rattle.zd_commit.specs.Closed.{calls_to_finish}
use Rattle.zd_disk.specs.View.{View}
use Rattle.zd_model.specs.History.{HistoryEntry, mark_of_entry}
use Rattle.zd_model.specs.declared.requests.Piece.{Piece}
use Rattle.zd_progress.proofs.Counts.{none_counts}
use Rattle.zd_progress.specs.Alone.{FliesAlone, TellsNext, others_in}
use Rattle.zd_progress.specs.LoneRuns.{IsAlone, job_calls, most_calls}
use Rattle.zd_progress.specs.Paces.{AreClose, IsFreshLoop, IsPromised, commits_under_way}
use Rattle.zd_reclaim.proofs.NeverStuck.{some_job}
use Rattle.zd_steps.specs.Runs.{is_over}
use Rattle.zd_steps.specs.declared.step.Step.{Step}
use Rattle.zd_volume.specs.Volumes.{IsFixed, PlainVolume}
use Rattle.zd_volume.specs.declared.phase.Phase.{Phase}
use Rattle.zd_volume.specs.declared.phase.Phase.TheVariants.{Idle, InPlace, InPlaceFlush, InPlaceSuper, InPlaceSuperFlush, Log, LogFlush, LogSuper, LogSuperFlush}
use Rattle.zd_session.specs.LoneSessions.{EndsInTime, IsNewSession, most_between_on, most_generation, rise_of}
use Rattle.zd_session.specs.LoneStates.{Begun, StandsSession, job_ahead, lone_run, loop_of}
use Rattle.zd_session.specs.SessionSteps.{KeepsSession}
use Rattle.zd_session.specs.Sessions.{SessionView, next_seen, pieces_on, run_seen, standing_seen}
use Rattle.zd_session.proofs.PaceEntries.{all_to_come, count_no}
use Rattle.zd_session.proofs.PaceSeen.{next_tells, no_work_ahead, sound_run, waits}
use Rattle.zd_session.proofs.PaceSteps.{same_pieces}
use Rattle.zd_session.proofs.PickLaws.{possible_has}

-- WHERE NONE COUNTS there is none
module _ (v : PlainVolume) (fixed : IsFixed v) where
  abbrev count_in : (ZoneUse → Bool) → Kind → ℕ
  count_in such kind = count_by such (uses_of kind v.division)

  no_use : (such : ZoneUse → Bool) (kind : Kind) (z : ℕ) → IsOf kind v.division.conv z → z < length v.division.zones
      → count_in such kind ≡ 0 → such (use_at v.division.zones z) ≡ true → ⊥
  no_use such kind z of inside none is =
      let conv = fixed.uses.conv in
      let count = fixed.uses.count in
      false≢true (sym (none_counts such kind v.division z (omega (arith, conv, count)) inside of none) ∙ is)

  pub none_free : count_in is_free Conventional ≡ 0 → HasNoFree Conventional v.division
  none_free none z low is =
      let conv = fixed.uses.conv in
      let count = fixed.uses.count in
      no_use is_free Conventional z low (omega (arith, low, conv, count)) none (ap is_free is)

  there_limbo : (z : ℕ) → use_at v.division.zones z ≡ Limbo → z < length v.division.zones
  there_limbo z is = elim (cases_lt z (length v.division.zones)) [
    | inl low ↦ low
    | inr past ↦ absurd (false≢true (ap is_limbo (sym (get_or_past v.division.zones z Meta past) ∙ is)))
  ]

  pub none_in_limbo : count_in is_limbo Conventional + count_in is_limbo Sequential ≡ 0 → (z : ℕ)
      → use_at v.division.zones z ≡ Limbo → ⊥
  none_in_limbo none z is = elim (cases_lt z v.division.conv) [
    | inl low ↦ no_use is_limbo Conventional z low (there_limbo z is) (omega (arith, none)) (ap is_limbo is)
    | inr high ↦ no_use is_limbo Sequential z high (there_limbo z is) (omega (arith, none)) (ap is_limbo is)
  ]

-- WHERE THERE IS NO STEP, the session is over: else a job can be picked, since reclaim is never stuck
pub idle_flies : {D : Type 0} (look : D → View) (s : SessionView D) → StandsSession look s
    → s.volume.plain.stopped ≡ None → is_over (run_seen s) ≡ false → next_seen s 0 Pieces ≡ None
    → FliesAlone s.flights 0 → ⊥
idle_flies look s stands runs left none alone =
    let n : Begun = record { jobs = 0; commits = 0 } in
    let told : TellsNext (lone_run s n) (standing_seen s 0) None =
    subst (λ (o : Option Step). TellsNext (lone_run s n) (standing_seen s 0) o) none
    (next_tells look s n stands alone runs left) in
    let full = none_free s.volume.plain stands.fixed ((waits look s n stands alone).none_free told.0.wanted) in
    let job = some_job s.volume.plain stands.fixed (no_work_ahead s n told.1)
    (none_in_limbo s.volume.plain stands.fixed told.0.no_limbo) full in
    false≢true (sym told.2 ∙ possible_has s.volume.plain stands.fixed job.0.chunk job.0.kind job.1)

-- NO OTHER ACTOR has a piece in flight, so none is counted
pub others_none : (flights : List (Option Piece)) → FliesAlone flights 0 → others_in flights ≡ 0
others_none [] alone = refl
others_none (f ∷ fs) alone = count_no (λ (o : Option Piece). is_some o) fs (λ k o at some. by k o at some)
  where
    by : (k : ℕ) (o : Option Piece) → slice_get fs k ≡ Some o → is_some o ≡ true → ⊥
    by k None at some = false≢true some
    by k (Some p) at some = (let none = alone (suc k) p at in omega (arith, none))

-- A SESSION THAT HAS JUST BEGUN
module _ {D : Type 0} (look : D → View) (s : SessionView D) (new : IsNewSession s) (stands : StandsSession look s) where
  abbrev none : Begun
  none = record { jobs = 0; commits = 0 }

  abbrev v : PlainVolume
  v = s.volume.plain

  no_job : (lone_run s none).job ≡ None
  no_job = ap (option_map (job_ahead v)) new.fresh.free

  no_commit : (lone_run s none).commit ≡ 0
  no_commit = ap (calls_to_finish v.dirty) new.fresh.idle

  none_before : (loop_of s none).pace.ats ≡ []
  none_before = ap (map (λ (e : HistoryEntry). e.at)) new.fresh.new

  alone_run : IsAlone (first_data_zone v.geometry v.head.layout) (v.geometry.zone_blocks + 1)
      (2 * used_blocks v.geometry v.head.layout + 4) (lone_run s none)
  alone_run =
      let sound = sound_run look s none stands new.alone in
      record {
        waiting = sound.waiting;
        stocked = sound.stocked;
        beside = λ w is. absurd (none-some w (sym no_job ∙ is));
        few_calls = (let e : job_calls (lone_run s none).job ≡ 0 = ap job_calls no_job in omega (arith, e));
        commit = omega (arith, no_commit);
        dirty = sound.dirty;
      }

  pub fresh_loop : IsFreshLoop (loop_of s (record { jobs = 0; commits = 0 }))
  fresh_loop = record {
    is = record {
      alone = alone_run;
      none = none_before;
      no_calls = new.fresh.uncounted;
      no_jobs = refl;
      no_commits = refl;
    };
    some = omega arith;
    counted = record {
      all = (
          let size : length (loop_of s none).pace.ats ≡ 0 = ap length none_before in
          let left = all_to_come (run_seen s) (ap (map mark_of_entry) new.fresh.new) in
          omega (arith, size, left));
      generation = (
          let idle : commits_under_way (lone_run s none) ≡ 0 = ap {B = ℕ} (λ (k : ℕ). cond (eqb k 0) 0 1) no_commit in
          let same = new.fresh.generation in
          omega (arith, idle, same));
    };
    going = new.fresh.running;
    nobody = others_none s.flights new.alone;
  }

-- A COMMIT THAT IS UNDER WAY raises the generation by one
rise_seen : (dirty : List Bool) (p : Phase) → cond (eqb (calls_to_finish dirty p) 0) 0 1 ≡ rise_of p
rise_seen dirty Idle = refl
rise_seen dirty (Log k) = ap (λ (b : Bool). cond b 0 1) (ne_eqb (calls_to_finish dirty (Log k)) 0 (λ e. omega (arith, e)))
rise_seen dirty LogFlush = ap (λ (b : Bool). cond b 0 1) (ne_eqb (calls_to_finish dirty LogFlush) 0 (λ e. omega (arith, e)))
rise_seen dirty LogSuper = ap (λ (b : Bool). cond b 0 1) (ne_eqb (calls_to_finish dirty LogSuper) 0 (λ e. omega (arith, e)))
rise_seen dirty LogSuperFlush =
    ap (λ (b : Bool). cond b 0 1) (ne_eqb (calls_to_finish dirty LogSuperFlush) 0 (λ e. omega (arith, e)))
rise_seen dirty (InPlace k) =
    ap (λ (b : Bool). cond b 0 1) (ne_eqb (calls_to_finish dirty (InPlace k)) 0 (λ e. omega (arith, e)))
rise_seen dirty InPlaceFlush = refl
rise_seen dirty InPlaceSuper = refl
rise_seen dirty InPlaceSuperFlush = refl

-- WHAT IS PROMISED of the end t of a run that began as s
module _ {D : Type 0} (s t : SessionView D) (n m : Begun) (is : IsPromised (loop_of s n) (loop_of t m))
    (keeps : KeepsSession s t) where
  same_most : most_calls (s.volume.plain.geometry.zone_blocks + 1)
      (2 * used_blocks s.volume.plain.geometry s.volume.plain.head.layout + 4) ≡ most_between_on t.volume.plain
  same_most = ap₂ (λ (g : Shape) (l : Layout). most_calls (g.zone_blocks + 1) (2 * used_blocks g l + 4))
      (sym keeps.geometry) (sym keeps.layout)

  same_count : most_generation t.volume.plain t.plan
      ≡ s.volume.plain.opening_generation + 3 * length (pieces_on s.volume.plain s.plan)
  same_count =
      let size : length (pieces_on t.volume.plain t.plan) ≡ length (pieces_on s.volume.plain s.plan) =
      ap (λ (ps : List Piece). length ps) (same_pieces s t keeps) in
      let opening = keeps.generation in
      omega (arith, size, opening)

  pub promised : EndsInTime t
  promised = record {
    close = subst (λ (k : ℕ). AreClose k (loop_of t m).pace.ats) same_most is.close;
    room = λ stops. elim (cases_lt (2 ^ 64 - 1) (most_generation t.volume.plain t.plan + 2)) [
      | inl more ↦ more
      | inr enough ↦ absurd (is.room (omega (arith, enough, same_count)) stops)
    ];
    closing = λ runs. (
        let most = is.closing runs in
        let rise = rise_seen t.volume.plain.dirty t.volume.plain.phase in
        omega (arith, most, rise, same_count));
  }
