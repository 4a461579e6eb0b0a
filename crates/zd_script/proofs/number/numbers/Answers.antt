use Rattle.std.proofs.Common.{◌≡◌, ◌<◌, ◌+◌, length, set, sym, arith, subst}
use Rattle.std.proofs.lemmas.List.{length-replicate, length-set, take_more_set}
use Rattle.zd_script.proofs.NumberLaws.{where_none}
use Rattle.zd_script.proofs.FieldLaws.{HasFields, no_fields, one_more_field, no_more_field}
use Rattle.zd_script.proofs.number.numbers.Goals as goal

pub loop-value-init : goal.loop-value-init
loop-value-init g c = record { size = length-replicate g.row.N 0; fields = no_fields g.row.N c.args.text.now }

pub returns-in_err-number-clause-none : goal.returns-in_err-number-clause-none
returns-in_err-number-clause-none g c = where_none c.from_residual.result _ (λ ns rest size.
    let before = c.loop-value.invariant in
    let some : c.loop-value.value-index < g.row.N = omega arith in
    no_more_field _ _ _ _ _ before.fields some c.in_err-number.ensures.none ns rest size)

pub loop-value-preserved : goal.loop-value-preserved
loop-value-preserved g c =
    let before = c.loop-value.invariant in
    let i = c.loop-value.value-index in
    let values = c.loop-value.value-items in
    let value = c.in_ok-number.number in
    let some : i < length values = omega arith in
    let less : i < g.row.N = omega arith in
    let found = c.in_ok-number.ensures.found in
    let all : length (set values i value) ≡ g.row.N = omega (arith, length-set values i value) in
    record {
      size = all;
      fields = subst (HasFields g.row.N c.args.text.now c.in_ok-number.after.now (i + 1)) (sym (take_more_set values i value some)) (one_more_field _ _ _ _ _ _ found.0 value before.fields less found.1 found.2);
    }
