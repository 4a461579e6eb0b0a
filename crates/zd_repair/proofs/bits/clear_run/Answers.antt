use Rattle.std.proofs.Common.{Bool, subst}
use Rattle.zd_bits.specs.Bits.{IsBitRun}
use Rattle.zd_tables.specs.Held.{tables_held}
use Rattle.zd_tables.specs.Tables.{bits_in_blocks}
use Rattle.zd_repair.proofs.InvalidLaws.{run_invalid, run_valid}
use Rattle.zd_repair.proofs.bits.clear_run.Goals as goal

pub returns-then-not-valid-clause-bits : goal.returns-then-not-valid-clause-bits
returns-then-not-valid-clause-bits c =
    let t = c.args.tables.now in
    let run = c.run_at-valid in
    run_invalid t.geometry t.layout t.bytes c.args.buffer c.args.main c.args.at c.zone_blocks-end.result run.result.1 c.requires.buffer
    (subst (λ (b : Bool). IsBitRun (bits_in_blocks t.geometry t.layout t.bytes c.args.buffer) c.args.at c.zone_blocks-end.result b run.result.1) c.if-not-valid.true run.ensures)

pub returns-clause-bits : goal.returns-clause-bits
returns-clause-bits c =
    let t = c.args.tables.now in
    let run = c.run_at-valid in
    run_valid t.geometry t.layout t.bytes c.args.buffer c.args.main c.args.at c.zone_blocks-end.result run.result.1 c.requires.buffer
    (tables_held c.clear_valid-cleared.new.tables)
    (subst (λ (b : Bool). IsBitRun (bits_in_blocks t.geometry t.layout t.bytes c.args.buffer) c.args.at c.zone_blocks-end.result b run.result.1) c.if-not-valid.false run.ensures)
    c.clear_valid-cleared.ensures.bits
