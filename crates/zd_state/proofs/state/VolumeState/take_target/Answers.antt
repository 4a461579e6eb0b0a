use Rattle.std.proofs.Common.{◌≡◌, Some, sym, subst}
use Rattle.zd_model.specs.Tables.{entry_of}
use Rattle.zd_jobs.specs.JobSteps.{BeginsBy}
use Rattle.zd_jobs.specs.Possible.{IsPossible}
use Rattle.zd_volume.specs.Flights.{tables_now}
use Rattle.zd_volume.specs.declared.work.JobKind.{JobKind}
use Rattle.zd_state.proofs.JobStarts.{append_begins, move_begins, zone_pointer}
use Rattle.zd_state.proofs.state.VolumeState.take_target.Goals as goal

pub pointer-requires : goal.pointer-requires
pointer-requires c =
    let v = c.args.self.now.plain in
    let names : c.entry-entry.result ≡ entry_of (tables_now v) c.args.job.now.chunk =
    rw (← c.self.view_is) (rw c.self.invariant at c.entry-entry.ensures) in
    zone_pointer v c.requires.fixed c.args.job.now.chunk c.entry-entry.result names c.unwrap-zone.result
    c.unwrap-zone.ensures

pub returns-in-Move-clause-begins : goal.returns-in-Move-clause-begins
returns-in-Move-clause-begins c =
    let v = c.args.self.now.plain in
    subst (λ (kind : JobKind). BeginsBy v kind (entry_of (tables_now v) c.args.job.now.chunk) c.take_sequential.result 0
    c.take_sequential.new.self) (sym c.in-Move.is)
    (move_begins v c.args.job.now.chunk (entry_of (tables_now v) c.args.job.now.chunk) c.take_sequential.result
    c.take_sequential.new.self
    (subst (λ (kind : JobKind). IsPossible v c.args.job.now.chunk kind) c.in-Move.is c.requires.possible)
    (rw (← c.self.view_is) c.take_sequential.ensures.some) (rw (← c.self.view_is) c.take_sequential.ensures.none))

pub returns-in-Append-clause-begins : goal.returns-in-Append-clause-begins
returns-in-Append-clause-begins c =
    let v = c.args.self.now.plain in
    let names : c.entry-entry.result ≡ entry_of (tables_now v) c.args.job.now.chunk =
    rw (← c.self.view_is) (rw c.self.invariant at c.entry-entry.ensures) in
    subst (λ (kind : JobKind). BeginsBy v kind (entry_of (tables_now v) c.args.job.now.chunk)
    (Some c.unwrap-zone.result)
    c.pointer.result v.division) (sym c.in-Append.is)
    (append_begins v c.args.job.now.chunk c.entry-entry.result names c.unwrap-zone.result c.pointer.result
    c.unwrap-zone.ensures c.pointer.ensures)
