use Rattle.std.proofs.Common.{◌∙◌, ℕ, Bool, cond, Option, Some, None, sym, ap, subst}
use Rattle.zd_model.specs.Places.{IsPlacedRun, place_in}
use Rattle.zd_model.specs.Tables.{entry_of}
use Rattle.zd_tables.specs.Tables.{tables_in}
use Rattle.zd_tables.proofs.ChunkRuns.{zone_low, buffer_low, run_unnamed, run_zone, run_alone, run_buffered}
use Rattle.zd_state.proofs.state.VolumeState.run_at.Goals as goal
use Rattle.zd_state.proofs.state.VolumeState.run_at.Goals.{then-valid-2, else-valid-2}

pub returns-in_default : goal.returns-in_default
returns-in_default c =
    let i = c.self.inside in
    let rules = rw (← c.self.view_is) at c.requires.rules in
    let entry = rw c.self.invariant at c.entry-entry.ensures in
    rw (← c.self.view_is) (run_unnamed i.tables.geometry i.head.layout i.tables.bytes rules c.args.chunk
    c.entry-entry.result entry
    c.args.at c.args.end c.in_default.is c.requires.some)

pub run_at-valid-requires-clause-zone : goal.run_at-valid-requires-clause-zone
run_at-valid-requires-clause-zone c =
    let i = c.self.inside in
    let rules = rw (← c.self.view_is) at c.requires.rules in
    let entry = rw c.self.invariant at c.entry-entry.ensures in
    zone_low i.tables.geometry i.head.layout i.tables.bytes rules c.args.chunk c.entry-entry.result entry
    c.args.at c.args.end c.in-Some.zone c.in-Some.is

pub returns-then-valid : goal.returns-then-valid
returns-then-valid c =
    let i = c.self.inside in
    let rules = rw (← c.self.view_is) at c.requires.rules in
    let entry = rw c.self.invariant at c.entry-entry.ensures in
    let run = rw c.self.invariant at c.run_at-valid.ensures in
    rw (← c.self.view_is) (run_zone i.tables.geometry i.head.layout i.tables.bytes rules c.args.chunk
    c.entry-entry.result entry
    c.args.at c.args.end c.in-Some.zone c.in-Some.is c.run_at-valid.result.0 c.run_at-valid.result.1 run
    c.if-valid.true)

pub returns-in_default-buffer : goal.returns-in_default-buffer
returns-in_default-buffer c =
    let i = c.self.inside in
    let rules = rw (← c.self.view_is) at c.requires.rules in
    let entry = rw c.self.invariant at c.entry-entry.ensures in
    let run = rw c.self.invariant at c.run_at-valid.ensures in
    rw (← c.self.view_is) (run_alone i.tables.geometry i.head.layout i.tables.bytes rules c.args.chunk
    c.entry-entry.result entry
    c.args.at c.args.end c.in-Some.zone c.in-Some.is c.run_at-valid.result.0 c.run_at-valid.result.1 run
    c.if-valid.false
    c.in_default-buffer.is)

pub run_at-valid-requires-2-clause-zone : goal.run_at-valid-requires-2-clause-zone
run_at-valid-requires-2-clause-zone c =
    let i = c.self.inside in
    let rules = rw (← c.self.view_is) at c.requires.rules in
    let entry = rw c.self.invariant at c.entry-entry.ensures in
    buffer_low i.tables.geometry i.head.layout i.tables.bytes rules c.args.chunk c.entry-entry.result entry
    c.args.at c.args.end c.in-Some-buffer.buffer c.in-Some-buffer.is

pub returns : goal.returns
returns c =
    let i = c.self.inside in
    let rules = rw (← c.self.view_is) at c.requires.rules in
    let entry = rw c.self.invariant at c.entry-entry.ensures in
    let run = rw c.self.invariant at c.run_at-valid.ensures in
    let inner = rw c.self.invariant at c.run_at-valid-2.ensures in
    let buffer : ℕ = c.in-Some-buffer.buffer in
    let all = run_buffered i.tables.geometry i.head.layout i.tables.bytes rules c.args.chunk c.entry-entry.result entry
    c.args.at c.args.end c.in-Some.zone c.in-Some.is c.run_at-valid.result.0 c.run_at-valid.result.1 run
    c.if-valid.false
    c.in-Some-buffer.buffer c.in-Some-buffer.is c.run_at-valid-2.result.0 c.run_at-valid-2.result.1 inner in
    rw (← c.self.view_is) (subst (λ (zone : Option ℕ). IsPlacedRun
    (place_in (tables_in i.tables.geometry i.head.layout i.tables.bytes)
    (entry_of (tables_in i.tables.geometry i.head.layout i.tables.bytes) c.args.chunk)) c.args.at c.args.end zone
    c.run_at-valid-2.result.1)
    (elim c.if-valid-2.branch [
      | then-valid-2 w ↦ ap (λ (b : Bool). cond b (Some buffer) None) w.if-valid-2.true ∙ sym w.result-is
      | else-valid-2 w ↦ ap (λ (b : Bool). cond b (Some buffer) None) w.if-valid-2.false ∙ sym w.result-is
    ]) all)
