use Rattle.std.proofs.Common.{◌≡◌, ◌+◌, ◌++◌, List, sym, subst, ap, arith}
use Rattle.std.proofs.lemmas.Option.{slice_get_within}
use Rattle.zd_model.specs.History.{Mark}
use Rattle.zd_model.specs.declared.requests.Piece.{Piece}
use Rattle.zd_steps.specs.Queues.{HasEntered, QueueState, queue_of, run_of}
use Rattle.zd_steps.specs.Runs.{eligible_flushes}
use Rattle.zd_steps.proofs.FlushLaws.{IsGathered, few_heads, gather_none, gather_one, one_gathered}
use Rattle.zd_steps.proofs.queue.Queue.flushes.Goals as goal

pub loop-piece-init : goal.loop-piece-init
loop-piece-init c =
    let room = c.requires.room in
    let kept = c.clear.ensures.capacity in
    let none = c.clear.ensures.len in
    let few = few_heads 0 c.self.inside.heads.heads in
    let size = c.self.invariant.heads.count in
    let q : QueueState =
    queue_of c.self.inside.flights.chunk_blocks c.self.inside.heads c.self.inside.flights.pieces.items in
    record {
      room = omega (arith, room, kept);
      from = 0;
      up = omega arith;
      least = c.least-place.ensures.least;
      few = omega (arith, none, few, size);
      so_far = λ entered before. ap (λ (xs : List Piece). xs ++ eligible_flushes (run_of q entered)) c.clear.ensures.items;
    }

pub add-requires : goal.add-requires
add-requires c =
    let i = c.loop-piece.invariant in
    let less = one_gathered c.self.inside.heads i.from c.loop-piece.place c.in-Some.piece.now i.up i.least (sym c.in-Some.ensures) in
    let few = i.few in
    let room = i.room in
    omega (arith, less, few, room)

pub overflow_add-place : goal.overflow_add-place
overflow_add-place c =
    let inside = slice_get_within c.self.inside.heads.pieces c.loop-piece.place c.in-Some.piece.now (sym c.in-Some.ensures) in
    let fits = c.least-place.ensures.count in
    omega (arith, inside, fits)

pub loop-piece-smaller : goal.loop-piece-smaller
loop-piece-smaller c =
    let inside = slice_get_within c.self.inside.heads.pieces c.loop-piece.place c.in-Some.piece.now (sym c.in-Some.ensures) in
    let up = c.least-place-in-Some.ensures.least.above (omega (arith, inside)) in
    omega (arith, inside, up)

pub loop-piece-preserved : goal.loop-piece-preserved
loop-piece-preserved c =
    let i = c.loop-piece.invariant in
    let inside = slice_get_within c.self.inside.heads.pieces c.loop-piece.place c.in-Some.piece.now (sym c.in-Some.ensures) in
    let less = one_gathered c.self.inside.heads i.from c.loop-piece.place c.in-Some.piece.now i.up i.least (sym c.in-Some.ensures) in
    let few = i.few in
    let room = i.room in
    let count = c.add.ensures.count in
    let kept = c.add.ensures.room in
    let q : QueueState =
    queue_of c.self.inside.flights.chunk_blocks c.self.inside.heads c.self.inside.flights.pieces.items in
    record {
      room = omega (arith, room, kept);
      from = c.loop-piece.place + 1;
      up = c.least-place-in-Some.ensures.least.above (omega (arith, inside));
      least = c.least-place-in-Some.ensures.least;
      few = omega (arith, less, few, count);
      so_far = λ entered before. subst (λ (ps : List Piece). IsGathered q entered ps (c.loop-piece.place + 1)) (sym c.add.ensures.items)
          (gather_one q c.self.invariant entered before c.loop-piece.list.items i.from c.loop-piece.place c.in-Some.piece.now i.up i.least (sym c.in-Some.ensures) (i.so_far entered before));
    }

pub returns-clause-list : goal.returns-clause-list
returns-clause-list c =
    let i = c.loop-piece.invariant in
    let q : QueueState =
    queue_of c.self.inside.flights.chunk_blocks c.self.inside.heads c.self.inside.flights.pieces.items in
    subst (λ (s : QueueState). (entered : List Mark) → HasEntered s.callers entered → c.loop-piece.list.items ≡ eligible_flushes (run_of s entered)) c.self.view_is
    (λ entered before. gather_none q c.self.invariant entered before c.loop-piece.list.items i.from c.loop-piece.place i.up i.least c.in_default.ensures (i.so_far entered before))
