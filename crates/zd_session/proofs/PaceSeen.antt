-- The numbers of a session are those that the rules of steps see, and they are sound: all of `zd_progress` on a run of
-- one actor holds of them.
use Rattle.std.proofs.Common.{◌≡◌, inl, inr, ℕ, ◌+◌, ◌-◌, ◌*◌, ◌<◌, ◌≤◌, Bool, false, nat_lt, List, length, get_or, map, slice_get, Option, Some, None, refl, sym, ap, ◌∙◌, subst, arith}
use Rattle.std.specs.Prelude.{IsSomeAnd, is_some, option_map}
use Rattle.std.specs.List.{range_with_len}
use Rattle.std.proofs.lemmas.Bool.{cases_lt, lt-ltb}
use Rattle.std.proofs.lemmas.Option.{none-some}
use Rattle.std.proofs.lemmas.List.FromFn.{length-range_with_len}
use Rattle.std.proofs.lemmas.List.Sums.{count_by-le-length}
use Rattle.zd_base.specs.Layout.{first_data_zone, used_blocks}
use Rattle.zd_base.specs.declared.numbers.Why.{Why}
use Rattle.zd_base.specs.declared.steps.Prefer.TheVariants.{Pieces}
use Rattle.zd_alloc.specs.Zones.{use_at}
use Rattle.zd_alloc.specs.declared.uses.ZoneUse.TheVariants.{Held}
use Rattle.zd_commit.specs.Closed.{calls_to_finish}
use Rattle.zd_disk.specs.View.{View}
use Rattle.zd_model.proofs.FaultLaws.{none_some}
use Rattle.zd_model.specs.History.{Mark, mark_of_entry}
use Rattle.zd_model.specs.Tables.{NamesZone, entry_of}
use Rattle.zd_model.specs.declared.metadata.MapEntry.{MapEntry}
use Rattle.zd_progress.proofs.AloneLaws.{tells, waiting}
use Rattle.zd_progress.proofs.Bounds.{commit_few}
use Rattle.zd_progress.proofs.Counts.{limbo_in_all}
use Rattle.zd_progress.specs.Alone.{FliesAlone, IsSeenBy, TellsNext}
use Rattle.zd_progress.specs.LoneRuns.{IsSoundRun, IsWaitingRun, calls_of_commit}
use Rattle.zd_progress.specs.Stocks.{IsNamedIn, IsStocked}
use Rattle.zd_steps.specs.NextStep.{next_step}
use Rattle.zd_steps.specs.Queues.{run_of}
use Rattle.zd_steps.specs.Runs.{Run, is_over}
use Rattle.zd_tables.proofs.TableLaws.{entry_past, length-entries}
use Rattle.zd_volume.specs.Flights.{tables_now}
use Rattle.zd_volume.specs.Jobs.{IsTarget}
use Rattle.zd_volume.specs.Uses.{dirty_from}
use Rattle.zd_volume.specs.Volumes.{IsFixed, PlainVolume}
use Rattle.zd_volume.specs.declared.phase.Phase.{Phase}
use Rattle.zd_volume.specs.declared.phase.Phase.TheVariants.{Idle, InPlace, InPlaceFlush, InPlaceSuper, InPlaceSuperFlush, Log, LogFlush, LogSuper, LogSuperFlush}
use Rattle.zd_volume.specs.declared.work.Work.{Work}
use Rattle.zd_session.specs.LoneStates.{Begun, StandsSession, job_ahead, lone_run, stock_of}
use Rattle.zd_session.specs.Sessions.{SessionView, next_seen, run_seen, standing_seen}
use Rattle.zd_session.specs.Standings.{is_under_way, kind_next}

-- A COMMIT IS UNDER WAY exactly where calls of it are left
pub commits_seen : (dirty : List Bool) (p : Phase) → is_under_way p ≡ nat_lt 0 (calls_to_finish dirty p)
commits_seen dirty Idle = refl
commits_seen dirty (Log k) = sym (lt-ltb 0 (calls_to_finish dirty (Log k)) (omega arith))
commits_seen dirty LogFlush = sym (lt-ltb 0 (calls_to_finish dirty LogFlush) (omega arith))
commits_seen dirty LogSuper = sym (lt-ltb 0 (calls_to_finish dirty LogSuper) (omega arith))
commits_seen dirty LogSuperFlush = sym (lt-ltb 0 (calls_to_finish dirty LogSuperFlush) (omega arith))
commits_seen dirty (InPlace k) = sym (lt-ltb 0 (calls_to_finish dirty (InPlace k)) (omega arith))
commits_seen dirty InPlaceFlush = refl
commits_seen dirty InPlaceSuper = refl
commits_seen dirty InPlaceSuperFlush = refl

-- so in no other phase none are
pub idle_phase : (dirty : List Bool) (p : Phase) → calls_to_finish dirty p ≡ 0 → p ≡ Idle
idle_phase dirty Idle none = refl
idle_phase dirty (Log k) none = absurd (omega (arith, none))
idle_phase dirty LogFlush none = absurd (omega (arith, none))
idle_phase dirty LogSuper none = absurd (omega (arith, none))
idle_phase dirty LogSuperFlush none = absurd (omega (arith, none))
idle_phase dirty (InPlace k) none = absurd (omega (arith, none))
idle_phase dirty InPlaceFlush none = absurd (omega (arith, none))
idle_phase dirty InPlaceSuper none = absurd (omega (arith, none))
idle_phase dirty InPlaceSuperFlush none = absurd (omega (arith, none))

job_seen : (v : PlainVolume) (job : Option Work)
    → is_some (kind_next v job) ≡ is_some (option_map (job_ahead v) job)
job_seen v None = refl
job_seen v (Some w) = refl

-- THE NUMBERS ARE SEEN
pub seen : {D : Type 0} (s : SessionView D) (n : Begun) → IsSeenBy (run_seen s) (standing_seen s 0) 0 (lone_run s n)
seen s n = record {
  ready = refl;
  flush = refl;
  wanted = refl;
  commits = commits_seen s.volume.plain.dirty s.volume.plain.phase;
  job = job_seen s.volume.plain s.volume.plain.job;
  free = refl;
  limbo = limbo_in_all s.volume.plain.division;
}

-- THE STOCK of a volume whose job, if any, has ended
module _ (v : PlainVolume) (fixed : IsFixed v) where
  -- behind the last chunk nothing is named
  pub named_inside : (c z : ℕ) → NamesZone (entry_of (tables_now v) c) z → c < v.head.layout.chunks
  named_inside c z names = elim (cases_lt c v.head.layout.chunks) [
    | inl low ↦ low
    | inr past ↦
        let none = entry_past v.geometry v.head.layout v.fresh c past in
        elim names [
          | inl zone ↦ absurd (none_some z (sym (ap (λ (e : MapEntry). e.zone) none) ∙ zone))
          | inr buffer ↦ absurd (none_some z (sym (ap (λ (e : MapEntry). e.buffer) none) ∙ buffer))
        ]
  ]

  no_target : (z : ℕ) → v.job ≡ None → IsTarget v.job z → ⊥
  no_target z none target = subst (λ (o : Option Work). IsTarget o z) none target

  held_named : v.job ≡ None → (z : ℕ) → use_at v.division.zones z ≡ Held → IsNamedIn (stock_of v).entries z
  held_named none z is = elim (fixed.uses.held z is) [
    | inl named ↦ record {
      chunk = named.0;
      inside = (
          let low = named_inside named.0 z named.1 in
          let size = length-entries v.geometry v.head.layout v.fresh in
          omega (arith, low, size)
          );
      names = named.1;
    }
    | inr target ↦ absurd (no_target z none target)
  ]

  pub stocked : v.job ≡ None → IsStocked (first_data_zone v.geometry v.head.layout) (stock_of v)
  stocked none =
      let conv = fixed.uses.conv in
      let count = fixed.uses.count in
      let low = fixed.sets.fits.conventional_data in
      record {
        conventional = omega (arith, conv, low);
        kinds = omega (arith, conv, count);
        data_zones = λ z from inside is. (
            let below = (fixed.uses.meta z (omega (arith, inside, count))).0 is in
            omega (arith, from, below));
        held = λ z from inside is. held_named none z is;
        buffers = λ c b is.
            subst (λ (k : ℕ). (b < k)
            × IsSomeAnd (entry_of (tables_now v) c).zone (λ z. k ≤ z)) (sym conv)
            (fixed.sets.new_rules.map.buffers c b is);
      }

  -- what is dirty stands behind the super block
  pub few_dirty : dirty_from v.dirty 1 + 1 ≤ used_blocks v.geometry v.head.layout
  few_dirty =
      let count = count_by-le-length (λ k. get_or v.dirty k false) (range_with_len 1 (length v.dirty - 1)) in
      let all = length-range_with_len 1 (length v.dirty - 1) in
      let size = fixed.flags.size in
      omega (arith, count, all, size)

  pub few_calls : calls_of_commit (dirty_from v.dirty 1) ≤ 2 * used_blocks v.geometry v.head.layout + 4
  few_calls = commit_few (dirty_from v.dirty 1) (used_blocks v.geometry v.head.layout) few_dirty

no_work : (v : PlainVolume) (job : Option Work) → option_map (job_ahead v) job ≡ None
    → job ≡ None
no_work v None none = refl
no_work v (Some w) none = absurd (none-some (job_ahead v w) (sym none))

pub no_work_ahead : {D : Type 0} (s : SessionView D) (n : Begun) → (lone_run s n).job ≡ None → s.volume.plain.job ≡ None
no_work_ahead s n none = no_work s.volume.plain s.volume.plain.job none

-- WHERE NO OTHER ACTOR has a piece in flight
module _ {D : Type 0} (look : D → View) (s : SessionView D) (n : Begun) (stands : StandsSession look s)
    (alone : FliesAlone s.flights 0) where
  abbrev marks : List Mark
  marks = map mark_of_entry s.volume.plain.history

  queue_alone : FliesAlone stands.queue.flights 0
  queue_alone other p at = alone other p (ap (λ (r : Run). slice_get r.flights other) (sym stands.run) ∙ at)

  queue_seen : IsSeenBy (run_of stands.queue marks) (standing_seen s 0) 0 (lone_run s n)
  queue_seen = subst (λ (r : Run). IsSeenBy r (standing_seen s 0) 0 (lone_run s n)) (sym stands.run) (seen s n)

  pub waits : IsWaitingRun (lone_run s n)
  waits =
      waiting stands.queue stands.is_queue marks stands.entered (standing_seen s 0) 0 queue_alone (lone_run s n) queue_seen

  -- THE RUN IS SOUND
  pub sound_run : IsSoundRun (first_data_zone s.volume.plain.geometry s.volume.plain.head.layout)
      (2 * used_blocks s.volume.plain.geometry s.volume.plain.head.layout + 4) (lone_run s n)
  sound_run = record {
    waiting = waits;
    stocked = λ none. stocked s.volume.plain stands.fixed (no_work_ahead s n none);
    dirty = few_calls s.volume.plain stands.fixed;
  }

  -- THE NEXT STEP TELLS why it comes next
  pub next_tells : s.volume.plain.stopped ≡ None → is_over (run_seen s) ≡ false
      → TellsNext (lone_run s n) (standing_seen s 0) (next_seen s 0 Pieces)
  next_tells runs left =
      subst (λ (r : Run). TellsNext (lone_run s n) (standing_seen s 0) (next_step r (standing_seen s 0) 0 Pieces))
      stands.run
      (tells stands.queue stands.is_queue marks stands.entered (standing_seen s 0) 0 queue_alone (lone_run s n)
      queue_seen (ap (λ (o : Option Why). is_some o) runs) (ap (λ (r : Run). is_over r) stands.run ∙ left))
