use Rattle.std.proofs.Common.{◌&&◌, Bool, sym, ap₂, ◌∙◌}
use Rattle.zd_examine.proofs.EntryLaws.{entry_is_right}
use Rattle.zd_examine.proofs.map.is_right.Goals as goal

pub returns : goal.returns
returns c earlier named =
    ap₂ (λ (x y : Bool). x && y)
    (ap₂ (λ (x y : Bool). x && y) (c.is_new-is_zone_new.ensures earlier named) (c.is_new-is_buffer_new.ensures earlier named))
    c.is_right_buffer.ensures
    ∙ sym (entry_is_right c.args.geometry.now c.args.layout.now earlier c.args.entry.now)
