-- The bit is that of the tables.
use Rattle.std.proofs.Common.{ℕ, List, sym, ap, ◌∙◌}
use Rattle.zd_model.specs.Tables.{is_set}
use Rattle.zd_tables.proofs.TableLaws.{valid_is}
use Rattle.zd_tables.proofs.volume_tables.VolumeTables.valid.Goals as goal

pub returns : goal.returns
returns c =
    c.valid.ensures
    ∙ ap (λ (bits : List ℕ). is_set bits c.args.block) c.bits.ensures.value
    ∙ sym (valid_is c.args.self.now.geometry c.args.self.now.layout c.args.self.now.bytes c.args.zone
    c.args.block c.requires.zone)
