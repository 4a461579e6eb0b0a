-- Whether an edge of a write is read next, or its blocks are written.
use Rattle.std.proofs.Common.{◌≡◌, true, false, Option, Some, None, sym, IfNone, IfSome}
use Rattle.std.specs.Prelude.{is_some}
use Rattle.std.proofs.lemmas.Bool.{false_from_ne_true, false≢true}
use Rattle.zd_model.specs.declared.requests.Piece.{Piece}
use Rattle.zd_volume.specs.Volumes.{PlainVolume}
use Rattle.zd_routes.specs.Edges.{IsDue, IsNextEdge}
use Rattle.zd_routes.specs.declared.edges.Edge.{Edge}
use Rattle.zd_routes.specs.declared.edges.Edges.{Edges}
use Rattle.zd_session.specs.Standings.{lacks_edge}
use Rattle.zd_session.proofs.EdgeStates.{lacks_decides, next_is_due}

module _ (v : PlainVolume) (p : Piece) (e : Edges) (next : Option Edge) (some : IfSome next (IsNextEdge v p.what e))
    (none : IfNone next ((edge : Edge) → IsDue v p.what e edge → ⊥)) where
  pub one_due : is_some next ≡ true → (edge : Edge) × IsDue v p.what e edge
  one_due is = by next some is
    where
      by : (o : Option Edge) → IfSome o (IsNextEdge v p.what e) → is_some o ≡ true
          → (edge : Edge) × IsDue v p.what e edge
      by None some is = absurd (false≢true is)
      by (Some edge) some is = (edge, next_is_due v p.what e edge some)

  pub none_due : is_some next ≡ false → (edge : Edge) → IsDue v p.what e edge → ⊥
  none_due is = by next none is
    where
      by : (o : Option Edge) → IfNone o ((edge : Edge) → IsDue v p.what e edge → ⊥) → is_some o ≡ false
          → (edge : Edge) → IsDue v p.what e edge → ⊥
      by None none is = none
      by (Some edge) none is = absurd (false≢true (sym is))

  pub lacks_one : is_some next ≡ true → lacks_edge v e p ≡ true
  lacks_one is = (lacks_decides v e p).1 (one_due is)

  pub lacks_none : is_some next ≡ false → lacks_edge v e p ≡ false
  lacks_none is =
      false_from_ne_true (lacks_edge v e p) (λ lacks.
      let due = (lacks_decides v e p).0 lacks in
      none_due is due.0 due.1)
