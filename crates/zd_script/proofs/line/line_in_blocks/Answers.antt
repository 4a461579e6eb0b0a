use Rattle.std.proofs.Common.{◌≢◌, refl, arith}
use Rattle.zd_model.specs.declared.requests.What.TheVariants.{Read, Write, Discard, Flush}
use Rattle.zd_script.proofs.NumberLaws.{where_none}
use Rattle.zd_script.proofs.LineForms.{one_letter, read_stands, write_stands, discard_stands, flush_stands, no_numbers, no_letter}
use Rattle.zd_script.proofs.line.line_in_blocks.Goals as goal

pub returns-in_err-caller-in-114-clause-none : goal.returns-in_err-caller-in-114-clause-none
returns-in_err-caller-in-114-clause-none c =
    let first = one_letter c.args.letter 114 c.args.fields.now c.in-114.is in
    where_none c.from_residual.result _ (no_numbers _ _ (Read 0 0) 3 refl first c.in_err-caller-in-114.ensures.none)

pub returns-in_err-caller-in-119-clause-none : goal.returns-in_err-caller-in-119-clause-none
returns-in_err-caller-in-119-clause-none c =
    let first = one_letter c.args.letter 119 c.args.fields.now c.in-119.is in
    where_none c.from_residual-in_err-caller-in-119.result _ (no_numbers _ _ (Write 0 0 0) 4 refl first c.in_err-caller-in-119.ensures.none)

pub returns-in_err-caller-in-100-clause-none : goal.returns-in_err-caller-in-100-clause-none
returns-in_err-caller-in-100-clause-none c =
    let first = one_letter c.args.letter 100 c.args.fields.now c.in-100.is in
    where_none c.from_residual-in_err-caller-in-100.result _ (no_numbers _ _ (Discard 0 0) 3 refl first c.in_err-caller-in-100.ensures.none)

pub returns-in_err-caller-in-102-clause-none : goal.returns-in_err-caller-in-102-clause-none
returns-in_err-caller-in-102-clause-none c =
    let first = one_letter c.args.letter 102 c.args.fields.now c.in-102.is in
    where_none c.from_residual-in_err-caller-in-102.result _ (no_numbers _ _ (Flush) 1 refl first c.in_err-caller-in-102.ensures.none)

pub returns-in_ok-caller-in-114-clause-found : goal.returns-in_ok-caller-in-114-clause-found
returns-in_ok-caller-in-114-clause-found c =
    let first = one_letter c.args.letter 114 c.args.fields.now c.in-114.is in
    read_stands _ _ _ _ first c.in_ok-caller-in-114.ensures.found

pub returns-in_ok-caller-in-119-clause-found : goal.returns-in_ok-caller-in-119-clause-found
returns-in_ok-caller-in-119-clause-found c =
    let first = one_letter c.args.letter 119 c.args.fields.now c.in-119.is in
    write_stands _ _ _ _ first c.in_ok-caller-in-119.ensures.found

pub returns-in_ok-caller-in-100-clause-found : goal.returns-in_ok-caller-in-100-clause-found
returns-in_ok-caller-in-100-clause-found c =
    let first = one_letter c.args.letter 100 c.args.fields.now c.in-100.is in
    discard_stands _ _ _ _ first c.in_ok-caller-in-100.ensures.found

pub returns-in_ok-caller-in-102-clause-found : goal.returns-in_ok-caller-in-102-clause-found
returns-in_ok-caller-in-102-clause-found c =
    let first = one_letter c.args.letter 102 c.args.fields.now c.in-102.is in
    flush_stands _ _ _ _ first c.in_ok-caller-in-102.ensures.found

pub returns-in_default-clause-none : goal.returns-in_default-clause-none
returns-in_default-clause-none c =
    let letter = c.args.letter in
    let reads : letter ≢ 114 = omega arith in
    let writes : letter ≢ 119 = omega arith in
    let discards : letter ≢ 100 = omega arith in
    let flushes : letter ≢ 102 = omega arith in
    no_letter c.args.fields.now letter reads writes discards flushes
