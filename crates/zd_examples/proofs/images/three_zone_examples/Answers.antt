use Rattle.std.proofs.Common.{◌≡◌, ◌+◌, ◌<◌, ◌≤◌, ℕ, zero, suc, Bool, true, false, [], refl, arith, lit≤, lit<}
use Rattle.zd_base.specs.Layout.{Fits}
use Rattle.zd_model.specs.Bytes.{u32_at, u64_at, zero_sector}
use Rattle.zd_model.specs.Image.{block_at}
use Rattle.zd_model.specs.Super.{crc_of, decoded, fields_end, has_zero_tail}
use Rattle.zd_model.specs.Tables.{MapFollowsRules}
use Rattle.zd_model.specs.Volume.{has_magic, tables_of}
use Rattle.zd_model.proofs.BitLaws.{bits_follow}
use Rattle.zd_model.proofs.FaultLaws.{map_follows}
use Rattle.zd_examples.specs.Blocks.{fresh_front, short_block}
use Rattle.zd_examples.specs.Images.{eight_zones, three_first, three_layout, three_second, three_zones}
use Rattle.zd_examples.proofs.images.three_zone_examples.Goals as goal

fits : Fits eight_zones three_layout
fits = record {
  some_reserved = lit≤ tt;
  reserved_sequential = lit≤ tt;
  some_chunk = lit≤ tt;
  map = lit≤ tt;
  bitmaps = lit≤ tt;
  set = lit≤ tt;
  conventional_data = lit< tt;
  room = lit≤ tt;
}

first_tables : MapFollowsRules eight_zones three_layout (tables_of (three_zones 0 fresh_front) three_first).entries
unfolding zero_sector u32_at
first_tables = map_follows eight_zones three_layout _ refl

pub returns-clause-good : goal.returns-clause-good
unfolding short_block decoded crc_of has_zero_tail fields_end zero_sector u32_at u64_at
returns-clause-good c = record {
  is_chosen = refl;
  layout = fits;
  no_other_magic = λ bad k some low. absurd (let good : ◌≡◌ {A = Bool} true false = bad in cc);
  map = first_tables;
  bits = bits_follow eight_zones three_layout (three_zones 0 fresh_front).held
      (tables_of (three_zones 0 fresh_front) three_first) first_tables refl;
}

pub returns-clause-bad : goal.returns-clause-bad
unfolding short_block u32_at decoded zero_sector
returns-clause-bad c h =
    let none : ◌≡◌ {A = Bool} true false = h.no_other_magic refl 2 (lit≤ tt) (lit< tt) in cc

second_tables : MapFollowsRules eight_zones three_layout (tables_of (three_zones 3 []) three_second).entries
unfolding zero_sector u32_at
second_tables = map_follows eight_zones three_layout _ refl

no_magic : (k : ℕ) → 1 ≤ k → k < 3 → has_magic (block_at (three_zones 3 []) (3 + k) 0) ≡ false
unfolding zero_sector u32_at
no_magic zero some low = absurd (omega arith)
no_magic (suc zero) some low = refl
no_magic (suc (suc zero)) some low = refl
no_magic (suc (suc (suc k))) some low = absurd (omega arith)

pub returns-clause-clean : goal.returns-clause-clean
unfolding short_block decoded crc_of has_zero_tail fields_end zero_sector u32_at u64_at
returns-clause-clean c = record {
  is_chosen = refl;
  layout = fits;
  no_other_magic = λ bad k some low. no_magic k some low;
  map = second_tables;
  bits = bits_follow eight_zones three_layout (three_zones 3 []).held
      (tables_of (three_zones 3 []) three_second) second_tables refl;
}
