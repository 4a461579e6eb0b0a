use Rattle.std.proofs.Common.{◌≡◌, ◌∙◌, Some, ap, sym, arith}
use Rattle.zd_jobs.specs.NextSteps.{IsCopied, source}
use Rattle.zd_jobs.proofs.WorkLaws.{source_low}
use Rattle.zd_model.specs.Tables.{entry_of}
use Rattle.zd_volume.specs.Flights.{tables_now}
use Rattle.zd_volume.specs.Jobs.{source_of}
use Rattle.zd_state.proofs.NextRuns.{none_left, run_left, where_none}
use Rattle.zd_state.proofs.state.VolumeState.next_run.Goals as goal

pub bits-bits-requires : goal.bits-bits-requires
bits-bits-requires c =
    let v = c.args.self.now.plain in
    let names : c.entry.result ≡ entry_of (tables_now v) c.args.work.now.job.chunk =
    rw (← c.self.view_is) (rw c.self.invariant at c.entry.ensures) in
    let from : source v c.args.work.now ≡ Some c.in_ok-zone.zone =
    sym (ap (source_of c.args.work.now.job.kind) names) ∙ sym c.source_of.ensures ∙ c.in_ok-zone.was in
    rw (← c.self.view_is) at (source_low v c.args.work.now c.requires.fixed c.requires.job c.in_ok-zone.zone from)

pub returns-in_err-at-clause-none : goal.returns-in_err-at-clause-none
returns-in_err-at-clause-none c =
    let v = c.args.self.now.plain in
    let names : c.entry.result ≡ entry_of (tables_now v) c.args.work.now.job.chunk =
    rw (← c.self.view_is) (rw c.self.invariant at c.entry.ensures) in
    let from : source v c.args.work.now ≡ Some c.in_ok-zone.zone =
    sym (ap (source_of c.args.work.now.job.kind) names) ∙ sym c.source_of.ensures ∙ c.in_ok-zone.was in
    where_none c.from_residual-in_err-at.result (IsCopied v c.args.work.now)
    (none_left v c.args.work.now c.requires.fixed c.requires.job c.in_ok-zone.zone from
    (rw (← c.self.view_is)
    (rw (
      c.bits-bits.ensures.value,
      c.zone_blocks-end.ensures.value,
      c.geometry.ensures,
      c.self.invariant,
      ← c.self.view_is,
    ) at
    c.in_err-at.ensures.none)))

pub returns-clause-some : goal.returns-clause-some
returns-clause-some c =
    let v = c.args.self.now.plain in
    let names : c.entry.result ≡ entry_of (tables_now v) c.args.work.now.job.chunk =
    rw (← c.self.view_is) (rw c.self.invariant at c.entry.ensures) in
    let from : source v c.args.work.now ≡ Some c.in_ok-zone.zone =
    sym (ap (source_of c.args.work.now.job.kind) names) ∙ sym c.source_of.ensures ∙ c.in_ok-zone.was in (
      run_left v c.args.work.now c.requires.fixed c.requires.job c.in_ok-zone.zone from c.in_ok-at.at c.min.result
          c.run_at-count.result.1 c.run_at-count.result.0
          (rw (← c.self.view_is)
          (rw (
            c.bits-bits.ensures.value,
            c.zone_blocks-end.ensures.value,
            c.geometry.ensures,
            c.self.invariant,
            ← c.self.view_is,
          ) at
          c.in_ok-at.ensures.some))
          (let least = c.min.ensures in
          let end = rw c.geometry.ensures at c.zone_blocks-end.ensures.value in
          omega (arith, least, end))
          (rw (← c.self.view_is)
          (rw (c.bits-bits.ensures.value, c.self.invariant) at c.run_at-count.ensures)),
      from,
    )
