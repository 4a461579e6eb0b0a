-- The entry in the blocks is that of the tables.
use Rattle.std.proofs.Common.{◌≡◌, ℕ, List, sym, ap, ◌∙◌}
use Rattle.zd_tables.specs.Held.{HeldTables}
use Rattle.zd_tables.specs.Tables.{entry_in_blocks}
use Rattle.zd_tables.proofs.TableLaws.{entry_is}
use Rattle.zd_tables.proofs.volume_tables.VolumeTables.entry.Goals as goal

pub returns : goal.returns
returns c =
    let blocks : c.self.inside.blocks ≡ c.args.self.now.bytes = ap (λ (h : HeldTables). h.bytes) c.self.view_is in
    c.entry.ensures
    ∙ ap (λ (bytes : List ℕ). entry_in_blocks bytes c.chunk.inside.0) blocks
    ∙ ap (entry_in_blocks c.args.self.now.bytes) c.chunk.view_is
    ∙ sym (entry_is c.args.self.now.geometry c.args.self.now.layout c.args.self.now.bytes c.args.chunk c.requires)
