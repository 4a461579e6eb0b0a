use Rattle.std.proofs.Common.{◌≡◌, ℕ, Bool, true, false, List, [], Some, None, refl, arith, lit≤, lit<}
use Rattle.zd_model.specs.Bytes.{u32_at, u64_at, zero_sector}
use Rattle.zd_model.specs.Super.{decoded, crc_of, has_zero_tail, fields_end}
use Rattle.zd_examples.specs.Blocks.{short_block}
use Rattle.zd_model.specs.Faults.{bad_bit, bad_chunk}
use Rattle.zd_model.specs.Tables.{MapFollowsRules}
use Rattle.zd_model.specs.Volume.{IsWellFormed, chosen, tables_of}
use Rattle.zd_model.proofs.BitLaws.{bits_follow}
use Rattle.zd_model.proofs.FaultLaws.{map_follows}
use Rattle.zd_base.specs.Layout.{Fits}
use Rattle.zd_examples.specs.Fresh.{bare_chosen, fresh_chosen, fresh_layout, small}
use Rattle.zd_examples.specs.Images.{bare_image, last_zone_image, spare_chosen, spare_image, spare_layout}
use Rattle.zd_examples.specs.Images.{buffered_image, conventional_image, fresh_image, sequential_image}
use Rattle.zd_examples.proofs.Chosen.{fresh_is, conventional_is, sequential_is, buffered_is, last_zone_is}
use Rattle.zd_examples.proofs.images.well_formed_examples.Goals as goal

fits : Fits small fresh_layout
fits = record {
  some_reserved = lit≤ tt;
  reserved_sequential = lit≤ tt;
  some_chunk = lit≤ tt;
  map = lit≤ tt;
  bitmaps = lit≤ tt;
  set = lit≤ tt;
  conventional_data = lit< tt;
  room = lit≤ tt;
}

-- of an image of the small geometry whose tables have no fault
formed : (held : ℕ → ℕ) (sector : ℕ → ℕ → List ℕ) → chosen (record { geometry = small; held = held; sector = sector }) ≡ Some fresh_chosen → bad_chunk small fresh_layout [] 0 (tables_of (record { geometry = small; held = held; sector = sector }) fresh_chosen).entries ≡ None → bad_bit small held (tables_of (record { geometry = small; held = held; sector = sector }) fresh_chosen) ≡ None → IsWellFormed (record { geometry = small; held = held; sector = sector }) fresh_chosen
formed held sector is_chosen chunks bits =
    let map_rules : MapFollowsRules small fresh_layout (tables_of (record { geometry = small; held = held; sector = sector }) fresh_chosen).entries = map_follows small fresh_layout _ chunks in
    record {
      is_chosen = is_chosen;
      layout = fits;
      no_other_magic = λ bad k some low. absurd (omega arith);
      map = map_rules;
      bits = bits_follow small fresh_layout held _ map_rules bits;
    }

pub returns-clause-fresh : goal.returns-clause-fresh
unfolding zero_sector u32_at
returns-clause-fresh c = formed fresh_image.held fresh_image.sector fresh_is refl refl

pub returns-clause-conventional : goal.returns-clause-conventional
unfolding zero_sector u32_at
returns-clause-conventional c = formed conventional_image.held conventional_image.sector conventional_is refl refl

pub returns-clause-sequential : goal.returns-clause-sequential
unfolding zero_sector u32_at
returns-clause-sequential c = formed (sequential_image 8).held (sequential_image 8).sector (sequential_is 8) refl refl

pub returns-clause-stray : goal.returns-clause-stray
unfolding zero_sector u32_at
returns-clause-stray c = formed (sequential_image 11).held (sequential_image 11).sector (sequential_is 11) refl refl

pub returns-clause-buffered : goal.returns-clause-buffered
unfolding zero_sector u32_at
returns-clause-buffered c = formed buffered_image.held buffered_image.sector buffered_is refl refl

spare_tables : MapFollowsRules small spare_layout (tables_of spare_image spare_chosen).entries
unfolding zero_sector u32_at
spare_tables = map_follows small spare_layout (tables_of spare_image spare_chosen).entries refl

pub returns-clause-spare_magic : goal.returns-clause-spare_magic
unfolding short_block decoded crc_of has_zero_tail fields_end zero_sector u32_at u64_at
returns-clause-spare_magic c = record {
  is_chosen = refl;
  layout = record {
    some_reserved = lit≤ tt;
    reserved_sequential = lit≤ tt;
    some_chunk = lit≤ tt;
    map = lit≤ tt;
    bitmaps = lit≤ tt;
    set = lit≤ tt;
    conventional_data = lit< tt;
    room = lit≤ tt;
  };
  no_other_magic = λ bad k some low. absurd (let good : ◌≡◌ {A = Bool} true false = bad in cc);
  map = spare_tables;
  bits = bits_follow small spare_layout spare_image.held (tables_of spare_image spare_chosen) spare_tables refl;
}

pub returns-clause-last_zone : goal.returns-clause-last_zone
unfolding zero_sector u32_at
returns-clause-last_zone c = formed (last_zone_image 8).held (last_zone_image 8).sector (last_zone_is 8) refl refl

bare_tables : MapFollowsRules small fresh_layout (tables_of bare_image bare_chosen).entries
unfolding zero_sector u32_at
bare_tables = map_follows small fresh_layout (tables_of bare_image bare_chosen).entries refl

pub returns-clause-bare : goal.returns-clause-bare
unfolding short_block decoded crc_of has_zero_tail fields_end zero_sector u32_at u64_at
returns-clause-bare c = record {
  is_chosen = refl;
  layout = fits;
  no_other_magic = λ bad k some low. absurd (let good : ◌≡◌ {A = Bool} true false = bad in cc);
  map = bare_tables;
  bits = bits_follow small fresh_layout bare_image.held (tables_of bare_image bare_chosen) bare_tables refl;
}
