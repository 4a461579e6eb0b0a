use Rattle.std.proofs.Common.{◌≡◌, ◌∙◌, ap, sym}
use Rattle.std.specs.Option.{is_some}
use Rattle.zd_model.specs.Tables.{entry_of}
use Rattle.zd_volume.specs.Flights.{tables_now}
use Rattle.zd_state.proofs.PromotionSteps.{bare_by, not_bare_by, own_low}
use Rattle.zd_state.proofs.state.VolumeState.bare_zones.Goals as goal

pub first_valid-requires : goal.first_valid-requires
first_valid-requires c =
    let v = c.args.self.now.plain in
    let names : c.entry-entry.result ≡ entry_of (tables_now v) c.args.chunk =
    rw (← c.self.view_is) (rw c.self.invariant at c.entry-entry.ensures) in
    rw (← c.self.view_is) at
    (own_low v c.requires.fixed c.args.chunk c.requires.chunk c.entry-entry.result names c.in_ok-zone.zone
    c.in_ok-buffer.buffer c.in_ok-zone.was)

pub returns-then-is_some-clause-none : goal.returns-then-is_some-clause-none
returns-then-is_some-clause-none c =
    let v = c.args.self.now.plain in
    let names : c.entry-entry.result ≡ entry_of (tables_now v) c.args.chunk =
    rw (← c.self.view_is) (rw c.self.invariant at c.entry-entry.ensures) in
    not_bare_by v c.requires.fixed c.args.chunk c.requires.chunk c.entry-entry.result names c.in_ok-zone.zone
    c.in_ok-buffer.buffer c.in_ok-zone.was
    (rw (← c.self.view_is)
    (rw c.self.invariant at (sym (ap is_some c.first_valid.ensures) ∙ sym c.is_some.ensures ∙ c.if-is_some.true)))

pub returns-clause-some : goal.returns-clause-some
returns-clause-some c =
    let v = c.args.self.now.plain in
    let names : c.entry-entry.result ≡ entry_of (tables_now v) c.args.chunk =
    rw (← c.self.view_is) (rw c.self.invariant at c.entry-entry.ensures) in
    bare_by v c.requires.fixed c.args.chunk c.requires.chunk c.entry-entry.result names c.in_ok-zone.zone
    c.in_ok-buffer.buffer c.in_ok-zone.was c.in_ok-buffer.was
    (rw (← c.self.view_is)
    (rw c.self.invariant at (sym (ap is_some c.first_valid.ensures) ∙ sym c.is_some.ensures ∙ c.if-is_some.false)))
