use Rattle.std.proofs.Common.{◌∙◌, ap, sym, bit_xor, ◌/◌, ◌%◌}
use Rattle.std.proofs.lemmas.Nat.{and_mask}
use Rattle.zd_model.specs.Crc.{crc_bits}
use Rattle.zd_super.proofs.StepLaws.{crc_bits_8-xor}
use Rattle.zd_super.proofs.crc.step.Goals as goal

pub returns : goal.returns
returns c =
    let crc = c.args.crc in
    let low = and_mask (bit_xor crc c.from.result) 8 ∙ ap (λ b. bit_xor crc b % 256) c.from.ensures in
    ap (bit_xor (crc / 256)) (c.eight_bits.ensures ∙ ap (crc_bits 8) low)
    ∙ sym (crc_bits_8-xor crc c.args.byte c.ranges.byte.fits)
