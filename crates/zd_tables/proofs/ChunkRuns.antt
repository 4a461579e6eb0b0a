-- Where the next blocks of a chunk stand, by the bitmaps of its zones.
use Rattle.std.proofs.Common.{◌≡◌, ℕ, ◌+◌, ◌-◌, ◌<◌, ◌≤◌, Bool, true, false, cond, List, Option, Some, None, refl}
use Rattle.std.proofs.Common.{sym, ap, ◌∙◌, subst, inl, inr}
use Rattle.std.specs.Prelude.{IsSomeAnd}
use Rattle.zd_base.specs.Geometry.{Shape, zone_count}
use Rattle.zd_base.specs.declared.layout.Layout.{Layout}
use Rattle.zd_bits.specs.Bits.{IsBitRun}
use Rattle.zd_model.specs.Places.{IsPlacedRun, place_in}
use Rattle.zd_model.specs.Tables.{MapFollowsRules, NamesZone, entry_of}
use Rattle.zd_model.specs.declared.metadata.MapEntry.{MapEntry}
use Rattle.zd_tables.specs.Tables.{bits_in_blocks, tables_in}
use Rattle.zd_tables.proofs.RunPlaces.{buffer_run, empty_run, unnamed_run, zone_run}
use Rattle.zd_tables.proofs.TableLaws.{valid_is}

no_buffer : (o main : Option ℕ) (P : ℕ → Type 0) → main ≡ None → ((b : ℕ) → o ≡ Some b → IsSomeAnd main P)
    → o ≡ None
no_buffer None main P none rule = refl
no_buffer (Some b) main P none rule = absurd (subst (λ (z : Option ℕ). IsSomeAnd z P) none (rule b refl))

module _ (g : Shape) (l : Layout) (bytes : List ℕ) (rules : MapFollowsRules g l (tables_in g l bytes).entries)
    (chunk : ℕ) (e : MapEntry) (is : e ≡ entry_of (tables_in g l bytes) chunk) (at end : ℕ) where
  -- the zones that its entry names are zones of the disk
  named_low : (z : ℕ) → NamesZone e z → z < zone_count g
  named_low z named = (rules.data_zones chunk z (subst (λ (f : MapEntry). NamesZone f z) is named)).1

  pub zone_low : (z : ℕ) → e.zone ≡ Some z → z < zone_count g
  zone_low z named = named_low z (inl named)

  pub buffer_low : (z : ℕ) → e.buffer ≡ Some z → z < zone_count g
  buffer_low z named = named_low z (inr named)

  placed_run : (zone : Option ℕ) (count : ℕ) → IsPlacedRun (place_in (tables_in g l bytes) e) at end zone count
      → IsPlacedRun (place_in (tables_in g l bytes) (entry_of (tables_in g l bytes) chunk)) at end zone count
  placed_run zone count run =
      subst (λ (f : MapEntry). IsPlacedRun (place_in (tables_in g l bytes) f) at end zone count) is run

  -- it names none
  pub run_unnamed : e.zone ≡ None → at < end
      → IsPlacedRun (place_in (tables_in g l bytes) (entry_of (tables_in g l bytes) chunk)) at end None (end - at)
  run_unnamed none some =
      let alone : e.buffer ≡ None =
      no_buffer e.buffer e.zone (λ z. g.conv ≤ z) none
      (λ b named. subst (λ (f : MapEntry). IsSomeAnd f.zone (λ z. g.conv ≤ z)) (sym is)
      (rules.buffers chunk b (ap (λ (f : MapEntry). f.buffer) (sym is) ∙ named)).1) in
      placed_run None (end - at) (unnamed_run (tables_in g l bytes) e at end none alone some)

  module _ (z : ℕ) (zone : e.zone ≡ Some z) (bit : Bool) (count : ℕ)
      (run : IsBitRun (bits_in_blocks g l bytes z) at end bit count) where
    -- they are valid in its zone
    pub run_zone : bit ≡ true
        → IsPlacedRun (place_in (tables_in g l bytes) (entry_of (tables_in g l bytes) chunk)) at end (Some z) count
    run_zone on =
        placed_run (Some z) count
        (zone_run (tables_in g l bytes) e z (bits_in_blocks g l bytes z) zone
        (λ x. valid_is g l bytes z x (zone_low z zone)) at end count bit run on)

    -- they aren't, and there is no buffer
    pub run_alone : bit ≡ false → e.buffer ≡ None
        → IsPlacedRun (place_in (tables_in g l bytes) (entry_of (tables_in g l bytes) chunk)) at end None count
    run_alone off none =
        placed_run None count
        (empty_run (tables_in g l bytes) e z (bits_in_blocks g l bytes z) zone
        (λ x. valid_is g l bytes z x (zone_low z zone)) at end count bit run off none)

    -- they are as the buffer tells
    pub run_buffered : bit ≡ false → (b : ℕ) → e.buffer ≡ Some b → (like : Bool) (few : ℕ)
        → IsBitRun (bits_in_blocks g l bytes b) at (at + count) like few
        → IsPlacedRun (place_in (tables_in g l bytes) (entry_of (tables_in g l bytes) chunk)) at end
        (cond like (Some b) None) few
    run_buffered off b buffer like few inner =
        placed_run (cond like (Some b) None) few
        (buffer_run (tables_in g l bytes) e z (bits_in_blocks g l bytes z) zone
        (λ x. valid_is g l bytes z x (zone_low z zone)) b (bits_in_blocks g l bytes b) buffer
        (λ x. valid_is g l bytes b x (buffer_low b buffer)) at end count few bit like run off inner)
