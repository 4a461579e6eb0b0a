use Rattle.std.proofs.Common.{◌+◌, ◌-◌, ◌≤◌, ℕ, List, Option, drop, length, arith, length-take, length-drop, subst, sym}
use Rattle.std.proofs.lemmas.Bool.{false≢true}
use Rattle.std.proofs.lemmas.List.{drop_all}
use Rattle.zd_ports.proofs.SinkLaws.{HoldsMore, held_more, took_prefix}
use Rattle.zd_ports.proofs.writing.write_all.Goals as goal

pub loop-at-preserved : goal.loop-at-preserved
loop-at-preserved g c =
    let v = c.loop-at.invariant in
    let e = c.in-Ok.ensures in
    let bytes = c.args.bytes.now in
    let at = c.loop-at.at in
    let n = c.in-Ok.taken in
    let within : at + n ≤ length bytes = omega (arith, e.count, length-take (length bytes - at) (drop at bytes), length-drop at bytes) in
    record {
      within = within;
      later = omega (arith, e.cause.later);
      held = held_more _ (g.K.Sink.held c.loop-at.out) (g.K.Sink.held c.write.new.self) bytes at n v.held e.bytes within;
    }

pub returns-clause-taken : goal.returns-clause-taken
returns-clause-taken g c =
    took_prefix _ (g.K.Sink.held c.loop-at.out) c.args.bytes.now c.loop-at.at _
    c.loop-at.invariant.held (λ ok. drop_all c.loop-at.at c.args.bytes.now c.loop-at-test.false)

pub returns-in_default-clause-taken : goal.returns-in_default-clause-taken
returns-in_default-clause-taken g c =
    let old = g.K.Sink.held c.args.out.now in
    took_prefix old (g.K.Sink.held c.write.new.self) c.args.bytes.now c.loop-at.at _
    (subst (λ (here : Option (List ℕ)). HoldsMore old here c.args.bytes.now c.loop-at.at) (sym c.in_default.ensures.err) c.loop-at.invariant.held)
    (λ ok. absurd (false≢true ok))
