-- What a stop leaves of a disk until opening ends.
use Rattle.std.proofs.Common.{◌≡◌, ℕ, ◌+◌, ◌-◌, ◌^◌, ◌<◌, ◌≤◌, Some, ap, arith}
use Rattle.zd_disk.specs.Told.{WhereTold}
use Rattle.zd_disk.specs.View.{Keeps, ReachesBy, View}
use Rattle.zd_disk.proofs.ViewLaws.{turned}
use Rattle.zd_examine.specs.Opened.{IsKept, IsLeftOrKept, IsOpening, KeepsFrom}
use Rattle.zd_examine.specs.declared.examining.Image.{Image as Volume}
use Rattle.zd_examine.proofs.LeftLaws.{unused_way, way_keeps}
use Rattle.zd_model.specs.Image.{Image}
use Rattle.zd_model.specs.declared.texts.Outcome.{Outcome}
use Rattle.zd_tell.specs.Stages.{RunStage, stage_order}
use Rattle.zd_tell.specs.Stages.RunStage.{Words, Script, Opening, Run}
use Rattle.zd_replay.specs.Ends.{no_device}
use Rattle.zd_replay.specs.Moments.{LeavesOpening, OpenedAfter, last_of_opening}

-- before the run the last moment is the present one
last_before : (stage : RunStage) (opened : ℕ) → stage_order stage < 3 → last_of_opening stage opened ≡ opened
last_before Words opened less = omega arith
last_before Script opened less = omega arith
last_before Opening opened less = omega arith
last_before Run opened less = absurd (omega (arith, less))

last_most : (stage : RunStage) (opened : ℕ) → last_of_opening stage opened ≤ opened
last_most Words opened = omega arith
last_most Script opened = omega arith
last_most Opening opened = omega arith
last_most Run opened = omega arith

not_run : (stage : RunStage) → stage_order stage < 3 → stage ≡ Run → ⊥
not_run stage less is = (let at = ap stage_order is in omega (arith, at, less))

-- A RUN THAT ENDED BEFORE ITS VOLUME WAS OPENED
module _ (stage : RunStage) (outcome : Outcome) (early : stage_order stage < 3) {u v : View} where
  pub ended_after : u.calls ≤ v.calls → OpenedAfter stage v.calls u v
  ended_after order = record {
    first = order;
    last = omega arith;
    before = λ less. omega arith;
    counted = λ is. absurd (not_run stage early is);
  }

  pub ended_leaves : ReachesBy IsLeftOrKept u v → Keeps IsKept u v
      → ((stage ≡ Opening → outcome ≡ no_device → u.calls + 2 ≤ v.calls) → KeepsFrom (u.calls + 1) u v)
      → LeavesOpening stage outcome v.calls u v
  ended_leaves way kept settled =
      let last = last_before stage v.calls early in
      record {
        way = λ small image there. record {
          earlier = (way.left small image there).earlier;
          each = λ k i from until can.
              (way.left small image there).each k i from (omega (arith, last, until)) can;
        };
        settled = λ twice small image there k i from until can.
            (settled twice).left small image there k i from (omega (arith, last, until)) can;
        kept = λ small durable image there k i from until can.
            kept.left small durable image there k i from (omega (arith, last, until)) can;
        reads = λ less. kept.reads;
      }

-- one to whose disk no call came
pub unread_leaves : (stage : RunStage) (outcome : Outcome) (u : View) → stage_order stage < 2
    → LeavesOpening stage outcome u.calls u u
unread_leaves stage outcome u early =
    ended_leaves stage outcome (omega (arith, early)) {u = u} {v = u} unused_way (way_keeps unused_way)
    (λ twice. record { left = λ small image there k i from until can. absurd (omega (arith, from, until)) })

-- A RUN OVER A VOLUME that was opened, from u to w, and whose disk tells x now
module _ (u w x : View) (order : w.calls ≤ x.calls)
    (shows : WhereTold u.zones (λ _. (i : Image) × (x.zones ≡ Some i)))
    (earlier : x.calls < 2 ^ 64 - 1 → WhereTold x.zones (λ _.
    (k : ℕ) (i : Image) → k < w.calls → x.left k i → w.left k i)) where
  -- of a moment before opening ended no more is left than then
  then_left : x.calls < 2 ^ 64 - 1 → (image : Image) → u.zones ≡ Some image → (k : ℕ) (i : Image) → k < w.calls
      → x.left k i → w.left k i
  then_left small image there k i before can =
      (let now = shows image there in earlier small now.0 now.1 k i before can)

  -- some call was made in opening
  module _ (some : WhereTold u.zones (λ _. w.calls < 2 ^ 64 - 1 → u.calls < w.calls)) where
    inside : x.calls < 2 ^ 64 - 1 → (image : Image) → u.zones ≡ Some image → (k : ℕ)
        → k ≤ last_of_opening Run w.calls → k < w.calls
    inside small image there k until = (let more = some image there (omega arith) in omega (arith, until, more))

    pub ran_leaves : (outcome : Outcome) → ReachesBy IsLeftOrKept u w → Keeps IsKept u w → KeepsFrom (u.calls + 1) u w
        → LeavesOpening Run outcome w.calls u x
    ran_leaves outcome way kept settled = record {
      way = λ small image there. record {
        earlier = λ k i before can.
            (way.left (omega arith) image there).earlier k i before
            (then_left small image there k i (let o = way.order in omega arith) can);
        each = λ k i from until can.
            let low = inside small image there k until in
            (way.left (omega arith) image there).each k i from (omega (arith, low))
            (then_left small image there k i low can);
      };
      settled = λ twice small image there k i from until can.
          let low = inside small image there k until in
          settled.left (omega arith) image there k i from (omega (arith, low)) (then_left small image there k i low can);
      kept = λ small durable image there k i from until can.
          let low = inside small image there k until in
          kept.left (omega arith) durable image there k i from (omega (arith, low))
          (then_left small image there k i low can);
      reads = λ less. absurd (omega (arith, less));
    }

-- the calls of opening
module _ (v : Volume) (u w x : View) (opening : IsOpening v u w) where
  pub opened_some : WhereTold u.zones (λ _. w.calls < 2 ^ 64 - 1 → u.calls < w.calls)
  opened_some image there small = (let made = opening.counted.number_is small image there in omega (arith, made))

  pub opened_after : u.calls ≤ w.calls → w.calls ≤ x.calls → OpenedAfter Run w.calls u x
  opened_after first last = record {
    first = first;
    last = last;
    before = λ less. absurd (omega (arith, less));
    counted = λ _ small image there.
        let into = turned opening.opened image there in
        (v.chosen, into.2.well_formed.is_chosen, opening.counted.number_is small image there);
  }
