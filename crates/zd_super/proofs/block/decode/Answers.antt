use Rattle.std.proofs.Common.{rules, ◌≡◌, ap, sym, Ok, ℕ, ◌<◌, eqb, true, get_or}
use Rattle.zd_model.specs.Bytes.{AreBytes, u32_at}
use Rattle.zd_model.specs.Super.{decoded, is_version, crc_of, has_zero_tail}
use Rattle.zd_model.proofs.RecordLaws.{decoded_has_block}
use Rattle.zd_super.proofs.block.decode.Goals as goal

-- the head of a block that decodes has a block
pub returns-clause-head : goal.returns-clause-head
unfolding decoded
returns-clause-head c =
    let block = c.args.block.now in
    let magic : eqb (u32_at block 0) 0x445A4244 ≡ true = search rules in
    let version : is_version (u32_at block 4) ≡ true = search rules in
    let crc : eqb (u32_at block 44) (crc_of block) ≡ true = search rules in
    let tail : has_zero_tail block ≡ true = search rules in
    let value : decoded block ≡ Ok c.super_at.result = rw (magic, version, crc, tail) (ap Ok (sym c.super_at.ensures)) in
    let each : (i : ℕ) → get_or block i 0 < 256 = search rules in
    let bytes : AreBytes 4096 block = record { count = c.requires; each = each } in
    decoded_has_block block c.super_at.result bytes value
