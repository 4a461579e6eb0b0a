use Rattle.std.proofs.Common.{ℕ, ◌+◌, ◌*◌, ◌%◌, ◌^◌, ◌≡◌, ◌∙◌, ap, arith, slice_range}
use Rattle.zd_model.specs.Report.{row_of}
use Rattle.zd_report.proofs.Patterns.{row_wraps}
use Rattle.zd_report.proofs.rows.kind_at.Goals as goal

pub returns : goal.returns
returns c =
    let sector = slice_range c.args.bytes.now (512 * c.args.i) (512 * c.args.i + 512) in
    let number : (c.args.first % 2 ^ 64 + c.args.i) % 2 ^ 64 ≡ (c.args.first + c.args.i) % 2 ^ 64 = omega arith in
    c.kind_of.ensures ∙ ap (λ (n : ℕ). row_of (n, sector)) number ∙ row_wraps (c.args.first + c.args.i) sector
