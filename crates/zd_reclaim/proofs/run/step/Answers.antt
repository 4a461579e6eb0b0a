use Rattle.std.proofs.lemmas.Result.{err_from_is_err_and}
use Rattle.zd_reclaim.proofs.WorkedSteps.{ends_next, read_failed, write_failed}
use Rattle.zd_reclaim.proofs.run.step.Goals as goal

pub returns-in_err-copy_read-in-CopyRead-clause-step : goal.returns-in_err-copy_read-in-CopyRead-clause-step
returns-in_err-copy_read-in-CopyRead-clause-step g c =
    let p = err_from_is_err_and c.from_residual.result c.from_residual.ensures.1 in
    let did = c.in_err-copy_read-in-CopyRead in
    rw (p.1, p.2) (read_failed c.args.v.now.plain c.copy_read.new.self.plain (g.D.ZonedDisk.view c.args.v.now.disk)
    (g.D.ZonedDisk.view c.copy_read.new.self.disk) c.next_kind-kind.result c.next_kind-kind.ensures did.field-0.0
    c.in-CopyRead.is did.ensures.err did.ensures.read_calls did.ensures.reads)

pub returns-in_err-copy_write-in-CopyWrite-clause-step : goal.returns-in_err-copy_write-in-CopyWrite-clause-step
returns-in_err-copy_write-in-CopyWrite-clause-step g c =
    let end = c.from_residual-in_err-copy_write-in-CopyWrite in
    let p = err_from_is_err_and end.result end.ensures.1 in
    let did = c.in_err-copy_write-in-CopyWrite in
    let copied = did.ensures.copied in
    rw (p.1, p.2) (write_failed c.args.v.now.plain c.copy_write.new.self.plain
    (g.D.ZonedDisk.view c.args.v.now.disk) (g.D.ZonedDisk.view c.copy_write.new.self.disk) c.next_kind-kind.result
    c.next_kind-kind.ensures did.field-0.0 copied.0 c.in-CopyWrite.is copied.1 copied.2 did.ensures.err)

pub remap-requires-clause-idle : goal.remap-requires-clause-idle
remap-requires-clause-idle g c =
    c.requires.idle (ends_next c.args.v.now.plain c.next_kind-kind.result c.next_kind-kind.ensures
    c.in_default.not-CopyRead c.in_default.not-CopyWrite)

pub remap-requires-clause-next : goal.remap-requires-clause-next
remap-requires-clause-next g c =
    ends_next c.args.v.now.plain c.next_kind-kind.result c.next_kind-kind.ensures c.in_default.not-CopyRead
    c.in_default.not-CopyWrite
