-- Events counted one call after another.
use Rattle.std.proofs.Common.{◌≡◌, ◌≢◌, ℕ, zero, suc, ◌+◌, ◌<◌, ◌≤◌, List, [], ◌∷◌, ◌++◌, length, refl, ap}
use Rattle.std.proofs.Common.{◌∙◌, inl, inr, arith}
use Rattle.std.specs.Prelude.{filter}
use Rattle.std.proofs.lemmas.Bool.{cases_eq}
use Rattle.std.proofs.lemmas.List.{length-append}
use Rattle.std.proofs.lemmas.List.Elements.{filter-append}
use Rattle.zd_model.specs.Left.{Event, on_zone, zone_of}
use Rattle.zd_model.specs.Left.Event.{Put, Clear}
use Rattle.zd_model.proofs.EventLaws.{same_test, other_test}
use Rattle.zd_disk.specs.Growth.{puts}
use Rattle.zd_memdisk.specs.Choices.{values_put}
use Rattle.zd_memdisk.specs.Greatest.{event_count, is_event_of}
use Rattle.zd_memdisk.specs.declared.greatest.EventsOf.{EventsOf}
use Rattle.zd_memdisk.specs.declared.greatest.EventsOf.TheVariants.{Sector, Zone}

-- THE SECTORS OF A WRITE
module _ (bytes : List ℕ) (start : ℕ) where
  -- of another zone
  pub no_sector : (z i y j n : ℕ) → y ≢ z → event_count (Sector z i) (puts y start bytes j n) ≡ 0
  no_sector z i y j zero ne = refl
  no_sector z i y j (suc n) ne = rw (other_test y z ne) (no_sector z i y (j + 1) n ne)

  pub none_of_zone : (z y j n : ℕ) → y ≢ z → event_count (Zone z) (puts y start bytes j n) ≡ 0
  none_of_zone z y j zero ne = refl
  none_of_zone z y j (suc n) ne = rw (other_test y z ne) (none_of_zone z y (j + 1) n ne)

  -- of this zone
  pub all_of_zone : (z y j n : ℕ) → y ≡ z → event_count (Zone z) (puts y start bytes j n) ≡ n
  all_of_zone z y j zero e = refl
  all_of_zone z y j (suc n) e = rw (same_test y z e) (ap suc (all_of_zone z y (j + 1) n e))

  -- before the first sector, and after the last
  pub sector_before : (z i y j n : ℕ) → i < start + j → event_count (Sector z i) (puts y start bytes j n) ≡ 0
  sector_before z i y j zero less = refl
  sector_before z i y j (suc n) less = elim (cases_eq y z) [
    | inr there ↦ no_sector z i y j (suc n) there
    | inl here ↦
        let ne : start + j ≢ i = omega arith in
        rw (same_test y z here, other_test (start + j) i ne) (sector_before z i y (j + 1) n (omega arith))
  ]

  pub sector_behind : (z i y j n : ℕ) → start + j + n ≤ i → event_count (Sector z i) (puts y start bytes j n) ≡ 0
  sector_behind z i y j zero more = refl
  sector_behind z i y j (suc n) more = elim (cases_eq y z) [
    | inr there ↦ no_sector z i y j (suc n) there
    | inl here ↦
        let ne : start + j ≢ i = omega arith in
        rw (same_test y z here, other_test (start + j) i ne) (sector_behind z i y (j + 1) n (omega arith))
  ]

  -- one of them
  pub sector_among : (z i y j n : ℕ) → y ≡ z → start + j ≤ i → i < start + j + n
      → event_count (Sector z i) (puts y start bytes j n) ≡ 1
  sector_among z i y j zero here low high = absurd (omega arith)
  sector_among z i y j (suc n) here low high = elim (cases_eq (start + j) i) [
    | inl it ↦
        rw (same_test y z here, same_test (start + j) i it) (ap suc (sector_before z i y (j + 1) n (omega arith)))
    | inr other ↦
        rw (same_test y z here, other_test (start + j) i other)
        (sector_among z i y (j + 1) n here (omega arith) (omega arith))
  ]

-- those of two lists
pub count-append : (which : EventsOf) (es fs : List Event)
    → event_count which (es ++ fs) ≡ event_count which es + event_count which fs
count-append which es fs =
    ap length (filter-append (is_event_of which) es fs)
    ∙ length-append (filter (is_event_of which) es) (filter (is_event_of which) fs)

-- THE NUMBERS OF CHOICES
pub values_counted : (z i : ℕ) (es : List Event) → event_count (Sector z i) es ≡ length (values_put z i es)
values_counted z i [] = refl
values_counted z i (Clear y ∷ es) = values_counted z i es
values_counted z i (Put y j v ∷ es) = elim (cases_eq y z) [
  | inr there ↦ rw (other_test y z there) (values_counted z i es)
  | inl here ↦ elim (cases_eq j i) [
    | inr beside ↦ rw (same_test y z here, other_test j i beside) (values_counted z i es)
    | inl at ↦ rw (same_test y z here, same_test j i at) (ap suc (values_counted z i es))
  ]
]

pub zone_counted : (z : ℕ) (es : List Event) → event_count (Zone z) es ≡ length (on_zone z es)
zone_counted z [] = refl
zone_counted z (e ∷ es) = elim (cases_eq (zone_of e) z) [
  | inr there ↦ rw (other_test (zone_of e) z there) (zone_counted z es)
  | inl here ↦ rw (same_test (zone_of e) z here) (ap suc (zone_counted z es))
]
