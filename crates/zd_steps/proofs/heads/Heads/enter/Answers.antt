use Rattle.std.proofs.Common.{◌≡◌, ◌<◌, ap, ◌∙◌, length, set, slice_get, Some, sym, subst}
use Rattle.zd_steps.specs.Queues.{Callers, HasEntered, first_of, head_in, head_of}
use Rattle.zd_steps.proofs.EnterLaws.{one_entered}
use Rattle.zd_steps.proofs.LinkLaws.{head_passes, head_stays, heads_on, known, next_first}
use Rattle.zd_steps.proofs.heads.Heads.enter.Goals as goal

pub returns-clause-heads : goal.returns-clause-heads
returns-clause-heads c =
    heads_on c.self.inside.pieces.items c.self.inside.links.items c.self.inside.heads c.self.invariant.1 c.self.invariant.2
    c.args.caller c.from-caller.result c.index.result.now c.from-caller.ensures c.requires.known
    (subst (λ (v : Callers). head_of v c.args.caller < length v.pieces) (sym c.self.view_is) c.requires.some)
    c.index.ensures

pub invariant_of-self : goal.invariant_of-self
invariant_of-self c = (
  c.self.invariant.0,
  c.self.invariant.1,
  heads_on c.self.inside.pieces.items c.self.inside.links.items c.self.inside.heads c.self.invariant.1 c.self.invariant.2
      c.args.caller c.from-caller.result c.index.result.now c.from-caller.ensures c.requires.known
      (subst (λ (v : Callers). head_of v c.args.caller < length v.pieces) (sym c.self.view_is) c.requires.some)
      c.index.ensures,
)

pub returns-clause-entered : goal.returns-clause-entered
returns-clause-entered c entered p before at =
    let some = subst (λ (v : Callers). head_of v c.args.caller < length v.pieces) (sym c.self.view_is) c.requires.some in
    let there = subst (λ (v : Callers). first_of v c.args.caller ≡ Some p) (sym c.self.view_is) at in
    let first : slice_get c.self.inside.pieces.items (head_in c.self.inside.pieces.items c.self.inside.heads c.from-caller.result) ≡ Some p =
    ap (λ n. slice_get c.self.inside.pieces.items (head_in c.self.inside.pieces.items c.self.inside.heads n))
    c.from-caller.ensures ∙ there in
    one_entered c.self.inside.pieces.items c.self.inside.heads entered c.from-caller.result c.index.result.now p
    (known c.self.inside.pieces.items c.self.inside.links.items c.self.inside.heads c.self.invariant.1 c.self.invariant.2
    c.args.caller c.from-caller.result c.index.result.now c.from-caller.ensures c.requires.known some c.index.ensures)
    (c.self.invariant.2.own c.from-caller.result p first) first
    (next_first c.self.inside.pieces.items c.self.inside.links.items c.self.inside.heads c.self.invariant.1 c.self.invariant.2
    c.args.caller c.from-caller.result c.index.result.now c.from-caller.ensures c.requires.known some c.index.ensures)
    (subst (λ (v : Callers). HasEntered v entered) (sym c.self.view_is) before)

pub returns-clause-passes : goal.returns-clause-passes
returns-clause-passes c =
    subst (λ (v : Callers). head_of v c.args.caller < head_in c.self.inside.pieces.items (set c.self.inside.heads c.from-caller.result c.index.result.now) c.args.caller)
    c.self.view_is
    (head_passes c.self.inside.pieces.items c.self.inside.links.items c.self.inside.heads c.self.invariant.1 c.self.invariant.2
    c.args.caller c.from-caller.result c.index.result.now c.from-caller.ensures c.requires.known
    (subst (λ (v : Callers). head_of v c.args.caller < length v.pieces) (sym c.self.view_is) c.requires.some)
    c.index.ensures)

pub returns-clause-stays : goal.returns-clause-stays
returns-clause-stays c = λ d other.
    subst (λ (v : Callers). head_in c.self.inside.pieces.items (set c.self.inside.heads c.from-caller.result c.index.result.now) d ≡ head_of v d)
    c.self.view_is
    (head_stays c.self.inside.pieces.items c.self.inside.links.items c.self.inside.heads c.self.invariant.1 c.self.invariant.2
    c.args.caller c.from-caller.result c.index.result.now c.from-caller.ensures c.requires.known
    (subst (λ (v : Callers). head_of v c.args.caller < length v.pieces) (sym c.self.view_is) c.requires.some)
    c.index.ensures d other)
