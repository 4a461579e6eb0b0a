-- A zone that an entry of the map names is flagged so.
use Rattle.std.proofs.Common.{◌≡◌, ℕ, zero, suc, ◌<◌, ◌==◌, Bool, true, false, ◌||◌, List, [], ◌∷◌, inl, inr, ap, ◌∙◌, arith}
use Rattle.std.proofs.lemmas.List.Folds.{list_any-append}
use Rattle.std.proofs.lemmas.List.FromFn.{get_or-map-range_with_len}
use Rattle.std.specs.Prelude.{flat_map, slice_index_or}
use Rattle.zd_base.specs.Geometry.{Shape, zone_count}
use Rattle.zd_model.specs.Faults.{has}
use Rattle.zd_model.specs.Tables.{NamesZone, Tables, entry_in_map, entry_of, named_zones, zones_of}
use Rattle.zd_model.specs.declared.metadata.MapEntry.{MapEntry}
use Rattle.zd_model.proofs.FaultLaws.{has_named, none_some, or_right}
use Rattle.zd_examine.specs.Padded.{named_flags}

has_entry : (entries : List MapEntry) (c z : ℕ) → NamesZone (entry_in_map entries c) z
    → has (flat_map zones_of entries) z ≡ true
has_entry [] c z n = elim n [ inl e ↦ absurd (none_some z e) | inr e ↦ absurd (none_some z e) ]
has_entry (e ∷ entries) zero z n =
    list_any-append (λ y. y == z) (zones_of e) (flat_map zones_of entries)
    ∙ ap (λ (b : Bool). b || has (flat_map zones_of entries) z) (has_named e.zone e.buffer z n)
has_entry (e ∷ entries) (suc c) z n =
    list_any-append (λ y. y == z) (zones_of e) (flat_map zones_of entries)
    ∙ ap (λ (b : Bool). has (zones_of e) z || b) (has_entry entries c z n)
    ∙ or_right (has (zones_of e) z)

pub flagged : (g : Shape) (t : Tables) (c z : ℕ) → z < zone_count g → NamesZone (entry_of t c) z
    → slice_index_or (named_flags g t) z false ≡ true
flagged g t c z low n =
    get_or-map-range_with_len (has (named_zones t)) 0 (zone_count g) z z false low (omega arith) ∙ has_entry t.entries c z n
