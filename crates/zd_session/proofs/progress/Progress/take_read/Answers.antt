use Rattle.std.proofs.Common.{◌≡◌, None, Option, Some, ap, refl, set, slice_get, subst, sym, ◌∙◌}
use Rattle.std.proofs.lemmas.Option.{slice_get-get_or}
use Rattle.zd_volume.specs.declared.flight.Flight.{Flight}
use Rattle.zd_session.specs.Moving.{HasReplyIfNone, LeavesReplies}
use Rattle.zd_session.specs.Serving.{IsReadOf}
use Rattle.std.specs.Vec.{with_item}
use Rattle.zd_session.specs.declared.progress.Progress.{Progress}
use Rattle.zd_session.specs.declared.actor.Actor.{Actor}
use Rattle.zd_session.proofs.progress.Progress.take_read.Goals as goal

pub take_reply-requires-clause-space : goal.take_reply-requires-clause-space
take_reply-requires-clause-space c =
    let a : Actor = c.index_mut.result.now in
    let at : slice_get c.args.self.now.actors.items c.args.actor ≡ Some a =
    slice_get-get_or c.args.self.now.actors.items c.args.actor a c.requires.actor ∙ ap Some (sym c.index_mut.ensures.value) in
    subst (λ (read : Option Flight). HasReplyIfNone read c.args.self.now c.args.piece.now)
    (sym c.take.ensures.value ∙ c.in-None.is) (c.requires.space a at)

pub returns-in-Some : goal.returns-in-Some
returns-in-Some c =
    let a : Actor = c.index_mut.result.now in
    let is : a.read ≡ Some c.in-Some.flight = sym c.take.ensures.value ∙ c.in-Some.is in
    let h : Progress = record {
      queue = c.args.self.now.queue;
      actors = with_item c.args.self.now.actors c.args.actor (record { read = c.take.new.self; edges = a.edges });
      replies = c.args.self.now.replies;
    } in
    record {
      a = a;
      was = slice_get-get_or c.args.self.now.actors.items c.args.actor a c.requires.actor ∙ ap Some (sym c.index_mut.ensures.value);
      is = subst (λ (read : Option Flight). IsReadOf read c.args.piece.now c.in-Some.flight) (sym is) refl;
      queue = refl;
      actors = ap (λ (read : Option Flight). set c.args.self.now.actors.items c.args.actor (record { read = read; edges = a.edges })) c.take.ensures.after;
      replies = subst (λ (read : Option Flight). LeavesReplies read c.args.self.now h c.args.piece.now c.in-Some.flight) (sym is) refl;
    }

pub returns-in-None : goal.returns-in-None
returns-in-None c =
    let a : Actor = c.index_mut.result.now in
    let is : a.read ≡ None = sym c.take.ensures.value ∙ c.in-None.is in
    let f : Flight = record { piece = c.args.piece.now; done = 0; bytes = c.take_reply.result } in
    record {
      a = a;
      was = slice_get-get_or c.args.self.now.actors.items c.args.actor a c.requires.actor ∙ ap Some (sym c.index_mut.ensures.value);
      is = subst (λ (read : Option Flight). IsReadOf read c.args.piece.now f) (sym is)
          (refl, refl, c.take_reply.ensures.empty);
      queue = c.take_reply.ensures.queue;
      actors = ap (λ v. v.items) c.take_reply.ensures.actors
          ∙ ap (λ (read : Option Flight). set c.args.self.now.actors.items c.args.actor (record { read = read; edges = a.edges })) c.take.ensures.after;
      replies = subst (λ (read : Option Flight). LeavesReplies read c.args.self.now c.take_reply.new.self c.args.piece.now f) (sym is)
          (c.take_reply.ensures.room, c.take_reply.ensures.replies);
    }
