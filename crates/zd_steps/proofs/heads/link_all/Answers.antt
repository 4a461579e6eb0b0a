use Rattle.std.proofs.Common.{◌≡◌, ◌+◌, ◌-◌, List, ℕ, length, replicate, sym, subst, arith}
use Rattle.zd_steps.specs.Queues.{AreLinkedFrom}
use Rattle.zd_steps.proofs.LinkLaws.{link_none}
use Rattle.zd_steps.proofs.heads.link_all.Goals as goal

pub loop-i-init : goal.loop-i-init
loop-i-init c = record {
  inside = omega arith;
  linked = subst
      (λ (ns : List ℕ). AreLinkedFrom c.args.pieces.now ns (replicate 64 (length c.args.pieces.now)) (length c.args.pieces.now))
      (sym c.requires.count) (link_none c.args.pieces.now);
}

pub link-requires-clause-behind : goal.link-requires-clause-behind
link-requires-clause-behind c =
    let some = c.loop-i-test.true in
    let same : c.loop-i.i ≡ c.loop-i.i - 1 + 1 = omega (arith, some) in
    subst (λ (ns : List ℕ). AreLinkedFrom c.args.pieces.now ns c.loop-i.heads (c.loop-i.i - 1 + 1)) (sym c.deref_mut.ensures.value)
    (subst (AreLinkedFrom c.args.pieces.now c.loop-i.links.items c.loop-i.heads) same c.loop-i.invariant.linked)

pub returns : goal.returns
returns c =
    let none = c.loop-i-test.false in
    let same : c.loop-i.i ≡ 0 = omega (arith, none) in
    subst (AreLinkedFrom c.args.pieces.now c.loop-i.links.items c.loop-i.heads) same c.loop-i.invariant.linked
