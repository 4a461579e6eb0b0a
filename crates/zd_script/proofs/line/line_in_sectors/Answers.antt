use Rattle.std.proofs.Common.{◌≢◌, refl, arith}
use Rattle.zd_model.specs.declared.requests.What.TheVariants.{ReadSectors, WriteSectors}
use Rattle.zd_script.proofs.NumberLaws.{where_none}
use Rattle.zd_script.proofs.LineForms.{two_letters, read_sectors_stands, write_sectors_stands, no_numbers, no_letters}
use Rattle.zd_script.proofs.line.line_in_sectors.Goals as goal

pub returns-in_err-caller-in-114-clause-none : goal.returns-in_err-caller-in-114-clause-none
returns-in_err-caller-in-114-clause-none c =
    let first = two_letters c.args.letter 114 c.args.fields.now c.in-114.is in
    where_none c.from_residual.result _ (no_numbers _ _ (ReadSectors 0 0) 3 refl first c.in_err-caller-in-114.ensures.none)

pub returns-in_err-caller-in-119-clause-none : goal.returns-in_err-caller-in-119-clause-none
returns-in_err-caller-in-119-clause-none c =
    let first = two_letters c.args.letter 119 c.args.fields.now c.in-119.is in
    where_none c.from_residual-in_err-caller-in-119.result _ (no_numbers _ _ (WriteSectors 0 0 0) 4 refl first c.in_err-caller-in-119.ensures.none)

pub returns-in_ok-caller-in-114-clause-found : goal.returns-in_ok-caller-in-114-clause-found
returns-in_ok-caller-in-114-clause-found c =
    let first = two_letters c.args.letter 114 c.args.fields.now c.in-114.is in
    read_sectors_stands _ _ _ _ first c.in_ok-caller-in-114.ensures.found

pub returns-in_ok-caller-in-119-clause-found : goal.returns-in_ok-caller-in-119-clause-found
returns-in_ok-caller-in-119-clause-found c =
    let first = two_letters c.args.letter 119 c.args.fields.now c.in-119.is in
    write_sectors_stands _ _ _ _ first c.in_ok-caller-in-119.ensures.found

pub returns-in_default-clause-none : goal.returns-in_default-clause-none
returns-in_default-clause-none c =
    let letter = c.args.letter in
    let reads : letter ≢ 114 = omega arith in
    let writes : letter ≢ 119 = omega arith in
    no_letters c.args.fields.now letter reads writes
