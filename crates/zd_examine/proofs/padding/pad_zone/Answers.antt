use Rattle.std.proofs.Common.{◌*◌, ◌-◌, ◌%◌, ℕ, arith}
use Rattle.std.proofs.lemmas.List.{take-replicate}
use Rattle.zd_examine.proofs.PadLaws.{leaves_is, step_is, zone_padded}
use Rattle.zd_examine.proofs.PadSteps.{calls_as, err_anyway}
use Rattle.zd_disk.proofs.ViewLaws.{turns_as}
use Rattle.zd_examine.proofs.padding.pad_zone.Goals as goal

pub returns-in_err-write-clause-err : goal.returns-in_err-write-clause-err
returns-in_err-write-clause-err g c =
    let n : ℕ = 8 - c.args.pointer % 8 in
    err_anyway c.from_residual.result (turns_as c.requires.told (λ a b is after w.
    step_is c.args.geometry.now c.args.zone c.args.pointer n _
    (take-replicate (512 * n) 4096 0 (omega arith)) c.requires.zone.0 c.requires.cut (omega arith) a a b
    (c.requires.pointer a is.is) is.geometry w) c.in_err-write.ensures.err)

pub returns-in_err-write-clause-call : goal.returns-in_err-write-clause-call
returns-in_err-write-clause-call g c =
    let n : ℕ = 8 - c.args.pointer % 8 in
    calls_as c.requires.told
    (λ r a b is shape w. step_is c.args.geometry.now c.args.zone c.args.pointer n _
    (take-replicate (512 * n) 4096 0 (omega arith)) c.requires.zone.0 c.requires.cut (omega arith) r a b
    (c.requires.pointer r is.is) shape w)
    (λ r m a b is shape w. leaves_is c.args.geometry.now c.args.zone c.args.pointer n _
    (take-replicate (512 * n) 4096 0 (omega arith)) c.requires.zone.0 c.requires.cut (omega arith) r m a b
    (c.requires.pointer r is.is) shape w) c.write.ensures.call

pub returns-clause-ok : goal.returns-clause-ok
returns-clause-ok g c =
    let n : ℕ = 8 - c.args.pointer % 8 in
    turns_as c.requires.told (λ a b is after w.
    zone_padded c.args.geometry.now c.args.zone c.args.pointer n _
    (take-replicate (512 * n) 4096 0 (omega arith)) c.requires.zone.0 c.requires.cut (omega arith) a b
    (c.requires.pointer a is.is) w) c.in_ok-write.ensures.ok

pub returns-clause-call : goal.returns-clause-call
returns-clause-call g c =
    let n : ℕ = 8 - c.args.pointer % 8 in
    calls_as c.requires.told
    (λ r a b is shape w. step_is c.args.geometry.now c.args.zone c.args.pointer n _
    (take-replicate (512 * n) 4096 0 (omega arith)) c.requires.zone.0 c.requires.cut (omega arith) r a b
    (c.requires.pointer r is.is) shape w)
    (λ r m a b is shape w. leaves_is c.args.geometry.now c.args.zone c.args.pointer n _
    (take-replicate (512 * n) 4096 0 (omega arith)) c.requires.zone.0 c.requires.cut (omega arith) r m a b
    (c.requires.pointer r is.is) shape w) c.write.ensures.call
