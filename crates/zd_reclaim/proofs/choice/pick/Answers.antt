use Rattle.std.proofs.Common.{Option, None, sym, subst}
use Rattle.zd_volume.specs.declared.work.Job.{Job}
use Rattle.zd_reclaim.specs.Picks.{IsPick}
use Rattle.zd_reclaim.proofs.PickedJobs.{none_merge, pick_empty, pick_giving, pick_merge, pick_none}
use Rattle.zd_reclaim.proofs.choice.pick.Goals as goal

pub returns-in-Some : goal.returns-in-Some
returns-in-Some g c =
    pick_giving c.args.v.now.plain c.sound.ensures c.in-Some.chunk c.possible.result c.in-Some.ensures.some
    c.possible.ensures.some c.possible.ensures.none

pub returns-in-Some-oldest : goal.returns-in-Some-oldest
returns-in-Some-oldest g c =
    pick_merge c.args.v.now.plain c.sound.ensures c.candidates-candidates.result.now c.in-Some-oldest.chunk
    c.candidates-candidates.ensures c.in_default.ensures.none
    (c.in-Some-oldest.ensures.value, c.in-Some-oldest.ensures.inside)

pub returns-in_err-chunk : goal.returns-in_err-chunk
returns-in_err-chunk g c =
    let v = c.args.v.now.plain in
    let s = c.candidates-candidates.result.now in
    subst (λ (o : Option Job). IsPick v o) (sym c.from_residual.ensures)
    (pick_none v c.sound.ensures c.in_default.ensures.none
    (none_merge v c.sound.ensures s None c.candidates-candidates.ensures
    (c.in_default-oldest.ensures.value, c.in_default-oldest.ensures.inside)) s None c.candidates-candidates.ensures
    (c.in_err-chunk.ensures.value, c.in_err-chunk.ensures.inside))

pub returns : goal.returns
returns g c =
    let v = c.args.v.now.plain in
    let s = c.candidates-candidates.result.now in
    pick_empty v c.sound.ensures c.in_default.ensures.none
    (none_merge v c.sound.ensures s None c.candidates-candidates.ensures
    (c.in_default-oldest.ensures.value, c.in_default-oldest.ensures.inside)) s c.in_ok-chunk.chunk
    c.candidates-candidates.ensures (c.in_ok-chunk.ensures.value, c.in_ok-chunk.ensures.inside)
