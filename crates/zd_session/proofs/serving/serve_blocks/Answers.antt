use Rattle.std.proofs.Common.{Bool, ap, subst, sym, ◌∙◌}
use Rattle.zd_model.specs.Requests.Operation.{Writing}
use Rattle.zd_routes.specs.Edges.{IsDue}
use Rattle.zd_routes.specs.declared.edges.Edge.{Edge}
use Rattle.zd_routes.specs.declared.edges.Edges.{Edges}
use Rattle.zd_session.specs.Moving.{seen_by}
use Rattle.zd_session.specs.Serving.{ServesIn}
use Rattle.zd_session.specs.Standings.{lacks_edge}
use Rattle.zd_steps.specs.NextStep.{kind_by}
use Rattle.zd_session.proofs.EdgeChoice.{lacks_none, lacks_one, none_due, one_due}
use Rattle.zd_session.proofs.ServeWriteLaws.{now_seen}
use Rattle.zd_session.proofs.StepLaws.{ready_place}
use Rattle.zd_session.proofs.serving.serve_blocks.Goals as goal

pub serve_edge-requires-clause-due : goal.serve_edge-requires-clause-due
serve_edge-requires-clause-due g c =
    subst (λ (e : Edges). (edge : Edge) × IsDue c.args.volume.now.plain c.args.piece.now.what e edge)
    (sym (now_seen g.D.ZonedDisk.view c.args.volume.now c.args.progress.now c.args.actor c.args.piece.now
    c.requires.moves c.requires.range c.requires.writes c.index.result.now c.index.ensures))
    (one_due c.args.volume.now.plain c.args.piece.now c.index.result.now.edges c.next_edge.result
    c.next_edge.ensures.some c.next_edge.ensures.none (sym c.is_some.ensures ∙ c.if-is_some.true))

pub serve_write-requires-clause-zone : goal.serve_write-requires-clause-zone
serve_write-requires-clause-zone g c =
    ready_place c.args.volume.now.plain c.args.piece.now c.requires.range c.requires.writes c.requires.ready

pub serve_write-requires-clause-none : goal.serve_write-requires-clause-none
serve_write-requires-clause-none g c =
    subst (λ (e : Edges). (edge : Edge) → IsDue c.args.volume.now.plain c.args.piece.now.what e edge → ⊥)
    (sym (now_seen g.D.ZonedDisk.view c.args.volume.now c.args.progress.now c.args.actor c.args.piece.now
    c.requires.moves c.requires.range c.requires.writes c.index.result.now c.index.ensures))
    (none_due c.args.volume.now.plain c.args.piece.now c.index.result.now.edges c.next_edge.result
    c.next_edge.ensures.some c.next_edge.ensures.none (sym c.is_some.ensures ∙ c.if-is_some.false))

pub returns-then-is_some-clause-serves : goal.returns-then-is_some-clause-serves
returns-then-is_some-clause-serves g c plan =
    let seen = now_seen g.D.ZonedDisk.view c.args.volume.now c.args.progress.now c.args.actor c.args.piece.now
    c.requires.moves c.requires.range c.requires.writes c.index.result.now c.index.ensures in
    subst (λ (lacks : Bool). ServesIn g.D.ZonedDisk.view (seen_by c.args.volume.now plan c.args.progress.now)
    (seen_by c.serve_edge.new.volume plan c.serve_edge.new.progress) c.args.actor c.args.piece.now Writing lacks)
    (sym (ap (λ (e : Edges). lacks_edge c.args.volume.now.plain e c.args.piece.now) seen
    ∙ lacks_one c.args.volume.now.plain c.args.piece.now c.index.result.now.edges c.next_edge.result
    c.next_edge.ensures.some c.next_edge.ensures.none (sym c.is_some.ensures ∙ c.if-is_some.true)))
    (c.serve_edge.ensures.serves plan)

pub returns-then-is_some-clause-kind : goal.returns-then-is_some-clause-kind
returns-then-is_some-clause-kind g c =
    let seen = now_seen g.D.ZonedDisk.view c.args.volume.now c.args.progress.now c.args.actor c.args.piece.now
    c.requires.moves c.requires.range c.requires.writes c.index.result.now c.index.ensures in
    ap (kind_by Writing)
    (sym (ap (λ (e : Edges). lacks_edge c.args.volume.now.plain e c.args.piece.now) seen
    ∙ lacks_one c.args.volume.now.plain c.args.piece.now c.index.result.now.edges c.next_edge.result
    c.next_edge.ensures.some c.next_edge.ensures.none (sym c.is_some.ensures ∙ c.if-is_some.true)))

pub returns-else-is_some-clause-serves : goal.returns-else-is_some-clause-serves
returns-else-is_some-clause-serves g c plan =
    let seen = now_seen g.D.ZonedDisk.view c.args.volume.now c.args.progress.now c.args.actor c.args.piece.now
    c.requires.moves c.requires.range c.requires.writes c.index.result.now c.index.ensures in
    subst (λ (lacks : Bool). ServesIn g.D.ZonedDisk.view (seen_by c.args.volume.now plan c.args.progress.now)
    (seen_by c.serve_write.new.volume plan c.serve_write.new.progress) c.args.actor c.args.piece.now Writing lacks)
    (sym (ap (λ (e : Edges). lacks_edge c.args.volume.now.plain e c.args.piece.now) seen
    ∙ lacks_none c.args.volume.now.plain c.args.piece.now c.index.result.now.edges c.next_edge.result
    c.next_edge.ensures.some c.next_edge.ensures.none (sym c.is_some.ensures ∙ c.if-is_some.false)))
    (c.serve_write.ensures.serves plan)

pub returns-else-is_some-clause-kind : goal.returns-else-is_some-clause-kind
returns-else-is_some-clause-kind g c =
    let seen = now_seen g.D.ZonedDisk.view c.args.volume.now c.args.progress.now c.args.actor c.args.piece.now
    c.requires.moves c.requires.range c.requires.writes c.index.result.now c.index.ensures in
    ap (kind_by Writing)
    (sym (ap (λ (e : Edges). lacks_edge c.args.volume.now.plain e c.args.piece.now) seen
    ∙ lacks_none c.args.volume.now.plain c.args.piece.now c.index.result.now.edges c.next_edge.result
    c.next_edge.ensures.some c.next_edge.ensures.none (sym c.is_some.ensures ∙ c.if-is_some.false)))
