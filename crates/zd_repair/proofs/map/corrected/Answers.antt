use Rattle.std.proofs.Common.{◌&&◌, Bool, sym, ap₂, ◌∙◌}
use Rattle.zd_repair.proofs.LeftEntries.{nothing_wrong, wrong_buffer}
use Rattle.zd_repair.proofs.map.corrected.Goals as goal

pub returns-then-is_buffer_new-is_right_buffer : goal.returns-then-is_buffer_new-is_right_buffer
returns-then-is_buffer_new-is_right_buffer c earlier named =
    nothing_wrong c.args.geometry.now c.args.layout.now earlier c.args.entry.now
    (sym (c.is_new.ensures earlier named) ∙ c.if-not-is_new.false)
    (ap₂ (λ (x y : Bool). x && y) (sym (c.is_new-is_buffer_new.ensures earlier named)) (sym c.is_right_buffer.ensures) ∙ c.if-is_buffer_new-is_right_buffer.true)

pub returns : goal.returns
returns c earlier named =
    wrong_buffer c.args.geometry.now c.args.layout.now earlier c.args.entry.now
    (sym (c.is_new.ensures earlier named) ∙ c.if-not-is_new.false)
    (ap₂ (λ (x y : Bool). x && y) (sym (c.is_new-is_buffer_new.ensures earlier named)) (sym c.is_right_buffer.ensures) ∙ c.if-is_buffer_new-is_right_buffer.false)
