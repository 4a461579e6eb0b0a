-- How the report of a run comes together whose volume was opened.
use Rattle.std.proofs.Common.{◌≡◌, ℕ, ◌+◌, ◌-◌, ◌/◌, ◌^◌, ◌≤◌, ◌<◌, List, length, map, Option, Some}
use Rattle.std.proofs.Common.{sym, ap, ap₂, ◌∙◌, subst, arith}
use Rattle.zd_base.specs.Geometry.{IsShape, Shape}
use Rattle.zd_base.specs.Layout.{device_blocks, used_blocks}
use Rattle.zd_base.specs.declared.layout.Layout.{Layout}
use Rattle.zd_disk.specs.Moments.{AtEach}
use Rattle.zd_disk.specs.Told.{WhereTold}
use Rattle.zd_disk.specs.View.{Keeps, ReachesBy, View}
use Rattle.zd_disk.proofs.ToldLaws.{Both-at, Some-same}
use Rattle.zd_disk.proofs.ViewLaws.{turned}
use Rattle.zd_examine.specs.Opened.{IsKept, IsLeftOrKept, IsOpened, IsOpening, KeepsFrom}
use Rattle.zd_examine.specs.declared.examining.Image.{Image as Volume}
use Rattle.zd_model.specs.History.{HistoryEntry, IsLegal, IsOrdered, mark_of_piece, marks_of_caller}
use Rattle.zd_model.specs.Image.{Image}
use Rattle.zd_model.specs.Pieces.{pieces_of}
use Rattle.zd_model.specs.Safe.{IsSafe, base_at, base_of}
use Rattle.zd_model.specs.Script.{IsScript}
use Rattle.zd_model.specs.Stops.{AreBy}
use Rattle.zd_model.specs.Volume.{Chosen, IsWellFormed}
use Rattle.zd_model.specs.declared.requests.Ending.TheVariants as endings
use Rattle.zd_model.specs.declared.requests.Piece.{Piece}
use Rattle.zd_model.specs.declared.requests.Request.{Request}
use Rattle.zd_model.specs.declared.texts.Outcome.{Outcome}
use Rattle.zd_model.specs.declared.texts.Outcome.TheVariants as outcomes
use Rattle.zd_progress.specs.Paces.{AreClose}
use Rattle.zd_session.specs.LoneSessions.{ats_of, most_between}
use Rattle.zd_session.specs.Sessions.{pieces_on}
use Rattle.zd_sets.specs.Choice.{chosen_of}
use Rattle.zd_state.specs.ClosedImages.{IsClosedImage}
use Rattle.zd_state.specs.Started.{IsStarted}
use Rattle.zd_tell.specs.Stages.{RunStage, stage_order}
use Rattle.zd_tell.specs.Stages.RunStage.{Words, Script, Opening, Run}
use Rattle.zd_tell.specs.Telling.{TellsMessage}
use Rattle.zd_tell.proofs.TellLaws.{status_told}
use Rattle.zd_volume.specs.FaultCounts.{TellsFaults}
use Rattle.zd_volume.specs.Volumes.{PlainVolume}
use Rattle.zd_replay.specs.Ends.{EndsRun, IsFixedRun, IsReplayCommand, ReplayCause, ReplayPassed, all_done}
use Rattle.zd_replay.specs.Ends.{no_generation, replay_telling, stop_of}
use Rattle.zd_replay.specs.Headline.{DoesAll, KeepsHeadline, pieces_in}
use Rattle.zd_replay.specs.Replay.{Replayed, Reports, ReportsAlone, ReportsShared, TellsRunFaults}
use Rattle.zd_replay.specs.Replay.{UsesGenerations}
use Rattle.zd_replay.specs.Run.{RunsInTime, RunsPlan}
use Rattle.zd_replay.specs.Spacing.{IsSpaced, LacksGenerations}
use Rattle.zd_replay.proofs.BaseLaws.{base_size, kept_base}
use Rattle.zd_replay.proofs.EndLaws.{may_end}
use Rattle.zd_replay.proofs.OpeningLaws.{opened_after, opened_some, ran_leaves}
use Rattle.zd_replay.proofs.ReportLaws.{none_told}

-- A RUN OVER A VOLUME that was opened from u to w, and whose disk tells x now
module _ (u w x : View) (plan : List Request) (outcome : Outcome) (history : List HistoryEntry) (v : Volume)
    (from : PlainVolume) (pointers : List ℕ)
    (opening : IsOpening v u w) (values : IsStarted v.geometry v.chosen.head v.blocks pointers from)
    (way : ReachesBy IsLeftOrKept u w) (kept : Keeps IsKept u w)
    (ran : RunsPlan plan outcome history from w x) where
  -- the volume is that of the image
  same_geometry : from.geometry ≡ v.geometry
  same_geometry = ap (λ (p : PlainVolume). p.geometry) values.plain

  same_layout : from.head.layout ≡ v.chosen.head.layout
  same_layout = ap (λ (p : PlainVolume). p.head.layout) values.plain

  first_generation : from.opening_generation ≡ v.chosen.head.generation
  first_generation = ap (λ (p : PlainVolume). p.opening_generation) values.plain

  module _ (image : Image) (there : u.zones ≡ Some image) where
    into : (j : Image) × (w.zones ≡ Some j)
        × IsOpened v.geometry v.chosen v.blocks v.pointers.items v.named.items image j
    into = turned opening.opened image there

    well : IsWellFormed image (chosen_of v.chosen)
    well = into.2.well_formed

    same_shape : from.geometry ≡ image.geometry
    same_shape = same_geometry ∙ into.2.geometry ∙ into.2.stays

    same_blocks : from.geometry.zone_blocks ≡ image.geometry.zone_blocks
    same_blocks = ap (λ (g : Shape). g.zone_blocks) same_shape

    base_is : base_at w.zones ≡ base_of image
    base_is =
        ap base_at into.1
        ∙ kept_base image into.0 (chosen_of v.chosen) (u.shaped image there)
        (subst IsShape same_shape ran.shape) well (Both-at u.zones w.zones IsKept image into.0 there into.1 kept.reads.reads)

    now_told : (i : Image) × (x.zones ≡ Some i)
    now_told = ran.stands.shows into.0 into.1

    blocks_are : device_blocks from.geometry from.head.layout ≡ length (base_of image) / 8
    blocks_are =
        let size = base_size v image into.0 into.2 in
        ap₂ (λ (g : Shape) (l : Layout). device_blocks g l) same_geometry same_layout
        ∙ (let e : device_blocks v.geometry v.chosen.head.layout ≡ length (base_of image) / 8 =
        omega (arith, size) in e)

    pieces_are : pieces_on from plan ≡ pieces_in image plan
    pieces_are = ap₂ (λ (z blocks : ℕ). pieces_of z blocks plan) same_blocks blocks_are

    ran_headline : KeepsHeadline image plan history w.calls x
    ran_headline = record {
      legal = λ small.
          subst (λ (b : List (List ℕ)). IsLegal b history) base_is (ran.stands.legal small now_told.0 now_told.1);
      ordered =
          subst (λ (blocks : ℕ). IsOrdered image.geometry.zone_blocks blocks plan history) blocks_are
          (subst (λ (z : ℕ). IsOrdered z (device_blocks from.geometry from.head.layout) plan history) same_blocks
          ran.ordered);
      by_now = λ small.
          let count = ran.stands.counted.count small in
          subst (λ (h : List HistoryEntry). AreBy (x.calls - w.calls) h) ran.last_history
          (subst (λ (n : ℕ). AreBy n ran.last.history)
          (let e : ran.last.since ≡ x.calls - w.calls = omega (arith, count) in e)
          ran.stands.counted.by_now);
      safe = λ small.
          subst (λ (b : List (List ℕ)). AtEach (IsSafe b history) w.calls x.calls x.left) base_is
          (ran.stands.safe small now_told.0 now_told.1);
    }

    ran_done : outcome ≡ all_done → DoesAll image plan history x
    ran_done e = record {
      all = λ caller.
          ran.all e caller
          ∙ ap (λ (ps : List Piece). marks_of_caller caller (map mark_of_piece ps)) pieces_are;
      calm = ran.calm e;
      closed = λ small i can.
          subst (λ (b : List (List ℕ)). IsClosedImage b history i) base_is
          (ran.closed e small now_told.0 now_told.1 i can);
    }

    ran_generation : outcome ≡ no_generation → x.calls < 2 ^ 64 - 1 → UsesGenerations image (x.calls - w.calls)
    ran_generation stopped small =
        let first = first_generation in
        let same = ran.generations in
        let last = ran.generation stopped in
        let most = ran.stands.counted.generation small in
        let count = ran.stands.counted.count small in
        (chosen_of v.chosen, well.is_chosen, omega (arith, first, same, last, most, count))

    module _ (timely : RunsInTime plan outcome history from w x) where
      ran_spaced : IsSpaced image history
      ran_spaced set is =
          let one : set ≡ chosen_of v.chosen = Some-same set (chosen_of v.chosen) (sym is ∙ well.is_chosen) in
          subst (λ (s : Chosen). AreClose
          (most_between image.geometry.zone_blocks (used_blocks image.geometry s.head.layout)) (ats_of history)) (sym one)
          (subst (λ (n : ℕ). AreClose n (ats_of history))
          (ap₂ (λ (g : Shape) (l : Layout). most_between g.zone_blocks (used_blocks g l)) same_shape same_layout)
          timely.close)

      ran_spare : outcome ≡ no_generation → LacksGenerations image (length (pieces_in image plan))
      ran_spare stopped =
          let first = first_generation in
          let count = ap (λ (ps : List Piece). length ps) pieces_are in
          let less = timely.spare stopped in
          (chosen_of v.chosen, well.is_chosen, omega (arith, first, count, less))

  -- the disk's faults in opening and in the run
  ran_faults : TellsRunFaults history outcome u.faults x.faults
  ran_faults = record {
    counted = tells;
    none = none_told history (stop_of outcome) u.faults x.faults tells;
  }
    where
      before : u.faults ≤ w.faults
      before = way.stays.later

      tells : TellsFaults history (stop_of outcome) u.faults x.faults
      tells = record {
        later = (let l = ran.faulted.later in omega (arith, before, l));
        told = λ small. (let t = ran.faulted.told small in omega (arith, before, t));
        cause = λ small why. (let t = ran.faulted.cause small why in omega (arith, before, t));
      }

  ran_cause : (words : List (List ℕ)) (left : Option (List ℕ)) (o : Outcome) → EndsRun o
      → ReplayCause words left u.zones o
  ran_cause words left (outcomes.Ended endings.Ok) comes = tt
  ran_cause words left (outcomes.Ended (endings.Stopped why)) comes = tt
  ran_cause words left outcomes.Usage comes = absurd comes
  ran_cause words left outcomes.Source comes = absurd comes
  ran_cause words left outcomes.NotBuilt comes = absurd comes
  ran_cause words left (outcomes.BadScript line why) comes = absurd comes
  ran_cause words left (outcomes.NoVolume kind) comes = absurd comes

  module _ (words : List (List ℕ)) (left : Option (List ℕ)) (right : IsReplayCommand words)
      (script : WhereTold left (λ bytes. IsScript bytes plan)) where
    earlier_ran : (s : RunStage) → stage_order s < 3 → ReplayPassed words left u.zones s
    earlier_ran Words less = right
    earlier_ran Script less = λ bytes told. (plan, script bytes told)
    earlier_ran Opening less = λ image there. (chosen_of v.chosen, well image there)
    earlier_ran Run less = absurd (omega (arith, less))

    abbrev pub ran_run : Replayed
    ran_run = record { stage = Run; outcome = outcome; plan = plan; history = history; opened = w.calls }

    module _ {status faults now : ℕ} {held after : Option (List ℕ)}
        (t : TellsMessage (replay_telling history outcome) (IsFixedRun history outcome) status held after faults now)
      where
        pub reports_ran : Reports words left u x status held after faults now ran_run
        reports_ran = record {
          ends = record { comes = ran.comes; earlier = earlier_ran; cause = ran_cause words left outcome ran.comes };
          status_is = status_told t;
          statuses = may_end Run history outcome (λ less. absurd (omega (arith, less))) ran.comes t;
          planned = λ past. script;
          unread = λ less. absurd (omega (arith, less));
          none_before = λ less. absurd (omega (arith, less));
          unbegun = λ is e. (let none = ran.unbegun e in record { none = none.0; calls = none.1 });
          opens = opened_after v u w x opening way.order ran.stands.counted.later;
          headline = λ is. ran_headline;
          done = λ e image there. ran_done image there e;
          faulted = ran_faults;
          generation = λ e small image there. ran_generation image there e small;
          tells = t;
        }

        -- by one actor that prefers pieces
        pub reports_alone : RunsInTime plan outcome history from w x → KeepsFrom (u.calls + 1) u w
            → ReportsAlone words left u x status held after faults now
        reports_alone timely settled = record {
          run = ran_run;
          reports = reports_ran;
          opening = ran_leaves u w x ran.stands.counted.later (λ image there. now_told image there)
              timely.earlier (opened_some v u w x opening) outcome way kept settled;
          spaced = λ image there. ran_spaced image there timely;
          spare = λ e image there. ran_spare image there timely e;
        }

        -- by many
        pub reports_shared : ReportsShared words left u x status held after faults now
        reports_shared = record {
          run = ran_run;
          reports = reports_ran;
          opening = λ less. absurd (omega (arith, less));
        }
