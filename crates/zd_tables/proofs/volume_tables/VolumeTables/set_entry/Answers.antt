-- A map block was lent, and one entry of it set.
use Rattle.std.proofs.Common.{◌<◌, ℕ, List, sym, ap, ◌∙◌, subst}
use Rattle.zd_model.specs.Tables.{entry_at}
use Rattle.zd_tables.specs.Held.{HeldTables}
use Rattle.zd_tables.proofs.TableSteps.{entry_held, sets_entry}
use Rattle.zd_tables.proofs.TableLaws.{entry_changed}
use Rattle.zd_tables.proofs.volume_tables.VolumeTables.set_entry.Goals as goal

pub invariant_of-self : goal.invariant_of-self
invariant_of-self c =
    let low : c.chunk.inside.0 < c.self.inside.layout.chunks =
    subst (λ (n : ℕ). n < c.self.inside.layout.chunks) (sym c.chunk.view_is)
    (subst (λ (h : HeldTables). c.args.chunk < h.layout.chunks) (sym c.self.view_is) c.requires.chunk) in
    entry_held c.self.inside.geometry c.self.inside.layout c.self.inside.blocks c.set.new.block
    c.self.inside.counts.items
    c.self.invariant c.set.ensures.size c.chunk.inside.0 low

pub returns-clause-blocks : goal.returns-clause-blocks
returns-clause-blocks c =
    let low : c.chunk.inside.0 < c.self.inside.layout.chunks =
    subst (λ (n : ℕ). n < c.self.inside.layout.chunks) (sym c.chunk.view_is)
    (subst (λ (h : HeldTables). c.args.chunk < h.layout.chunks) (sym c.self.view_is) c.requires.chunk) in
    rw (← c.self.view_is, ← c.chunk.view_is)
    (sets_entry c.self.inside.geometry c.self.inside.layout c.self.inside.blocks c.set.new.block
    c.self.inside.counts.items
    c.self.invariant c.set.ensures.size c.chunk.inside.0 low c.args.entry c.set.ensures.entry
    (λ j off. c.set.ensures.others j off ∙ ap (λ (bytes : List ℕ). entry_at bytes j) c.block_mut-block.ensures.value))

pub returns-clause-tables : goal.returns-clause-tables
returns-clause-tables c =
    let low : c.chunk.inside.0 < c.self.inside.layout.chunks =
    subst (λ (n : ℕ). n < c.self.inside.layout.chunks) (sym c.chunk.view_is)
    (subst (λ (h : HeldTables). c.args.chunk < h.layout.chunks) (sym c.self.view_is) c.requires.chunk) in
    let sets =
    sets_entry c.self.inside.geometry c.self.inside.layout c.self.inside.blocks c.set.new.block
    c.self.inside.counts.items
    c.self.invariant c.set.ensures.size c.chunk.inside.0 low c.args.entry c.set.ensures.entry
    (λ j off. c.set.ensures.others j off
    ∙ ap (λ (bytes : List ℕ). entry_at bytes j) c.block_mut-block.ensures.value) in
    rw (← c.self.view_is, ← c.chunk.view_is)
    (entry_changed c.self.inside.geometry c.self.inside.layout c.self.inside.blocks _ c.chunk.inside.0 c.args.entry
    c.self.invariant.fits.map low sets)
