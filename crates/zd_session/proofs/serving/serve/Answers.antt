use Rattle.std.proofs.Common.{◌≡◌, Bool, ap, inl, inr, subst, sym}
use Rattle.zd_model.specs.Requests.{Operation, operation_of}
use Rattle.zd_model.specs.Requests.Operation.{Writing}
use Rattle.zd_session.specs.Moving.{seen_by}
use Rattle.zd_session.specs.Serving.{ServesBy, ServesIn}
use Rattle.zd_session.specs.Sessions.{edges_seen}
use Rattle.zd_session.specs.Standings.{lacks_edge}
use Rattle.zd_session.proofs.serving.serve.Goals as goal

pub returns-in-Write-clause-serves : goal.returns-in-Write-clause-serves
returns-in-Write-clause-serves g c plan =
    let writes : operation_of c.args.piece.now.what ≡ Writing =
    elim c.in-Write.is [ inl blocks ↦ ap operation_of blocks.3 | inr sectors ↦ ap operation_of sectors.3 ] in
    subst (λ (range : Bool). ServesBy g.D.ZonedDisk.view (seen_by c.args.volume.now plan c.args.progress.now)
    (seen_by c.serve_blocks.new.volume plan c.serve_blocks.new.progress) c.args.actor c.args.piece.now range)
    (sym c.if-piece.false)
    (subst (λ (o : Operation). ServesIn g.D.ZonedDisk.view (seen_by c.args.volume.now plan c.args.progress.now)
    (seen_by c.serve_blocks.new.volume plan c.serve_blocks.new.progress) c.args.actor c.args.piece.now o
    (lacks_edge c.args.volume.now.plain (edges_seen c.args.progress.now.actors.items c.args.actor) c.args.piece.now))
    (sym writes) (c.serve_blocks.ensures.serves plan))
