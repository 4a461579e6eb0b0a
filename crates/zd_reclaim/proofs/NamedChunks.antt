-- Zones that entries name, and chunks that have two.
use Rattle.std.proofs.Common.{◌≡◌, ◌⊎◌, inl, inr, ℕ, zero, suc, ◌+◌, ◌<◌, ◌≤◌, Bool, true, false, cond, List, [], ◌∷◌, length, flat_map, Option, Some, None, is_some, option_to_list, count_by, refl, ap, arith, length-append}
use Rattle.std.proofs.lemmas.List.Sums.{sum_by-cons}
use Rattle.zd_alloc.proofs.OrderLaws.{times-append, times_same}
use Rattle.zd_alloc.specs.Links.{times}
use Rattle.zd_model.proofs.FaultLaws.{none_some, some_is}
use Rattle.zd_model.specs.Tables.{NamesZone, entry_in_map, zones_of}
use Rattle.zd_model.specs.declared.metadata.MapEntry.{MapEntry}
use Rattle.zd_reclaim.proofs.OrderPlaces.{many_places}

abbrev has_buffer : MapEntry → Bool
has_buffer e = is_some e.buffer

in_option : (o : Option ℕ) (z : ℕ) → o ≡ Some z → 0 < times z (option_to_list o)
in_option None z is = absurd (none_some z is)
in_option (Some y) z is = (let one = times_same z y [] (some_is y z is) in omega (arith, one))

in_entry : (e : MapEntry) (z : ℕ) → NamesZone e z → 0 < times z (zones_of e)
in_entry e z (inl is) =
    let both = times-append z (option_to_list e.zone) (option_to_list e.buffer) in
    let one = in_option e.zone z is in
    omega (arith, both, one)
in_entry e z (inr is) =
    let both = times-append z (option_to_list e.zone) (option_to_list e.buffer) in
    let one = in_option e.buffer z is in
    omega (arith, both, one)

-- a zone that an entry names is in the list of all
in_map : (es : List MapEntry) (c z : ℕ) → NamesZone (entry_in_map es c) z → 0 < times z (flat_map zones_of es)
in_map [] c z (inl is) = absurd (none_some z is)
in_map [] c z (inr is) = absurd (none_some z is)
in_map (e ∷ es) zero z names =
    let both = times-append z (zones_of e) (flat_map zones_of es) in
    let one = in_entry e z names in
    omega (arith, both, one)
in_map (e ∷ es) (suc c) z names =
    let both = times-append z (zones_of e) (flat_map zones_of es) in
    let one = in_map es c z names in
    omega (arith, both, one)

most_of : (o : Option ℕ) → length (option_to_list o) ≡ cond (is_some o) 1 0
most_of None = refl
most_of (Some x) = refl

most_one : (b : Bool) → cond b 1 0 ≤ 1
most_one true = omega arith
most_one false = omega arith

abbrev tally : MapEntry → ℕ
tally e = cond (has_buffer e) 1 0

-- each entry names one zone at most, and a buffer beside it
few_named : (es : List MapEntry) → length (flat_map zones_of es) ≤ length es + count_by has_buffer es
few_named [] = omega arith
few_named (e ∷ es) =
    let zones = length-append (option_to_list e.zone) (option_to_list e.buffer) in
    let zone = most_of e.zone in
    let buffer = most_of e.buffer in
    let one = most_one (is_some e.zone) in
    let rest = few_named es in
    let all = length-append (zones_of e) (flat_map zones_of es) in
    let count = sum_by-cons tally e es in
    omega (arith, zones, zone, buffer, one, rest, all, count)

-- a chunk with a buffer
pub record IsBuffered (es : List MapEntry) : Type 0 where
  pub chunk : ℕ
  pub buffer : ℕ
  pub is : (entry_in_map es chunk).buffer ≡ Some buffer

some_or_none : (o : Option ℕ) → ((b : ℕ) × (o ≡ Some b)) ⊎ (o ≡ None)
some_or_none None = inr refl
some_or_none (Some b) = inl (b, refl)

counted_one : (es : List MapEntry) → 0 < count_by has_buffer es → IsBuffered es
counted_one [] some = absurd (omega (arith, some))
counted_one (e ∷ es) some = elim (some_or_none e.buffer) [
  | inl one ↦ record { chunk = 0; buffer = one.0; is = one.1 }
  | inr none ↦
      let count = sum_by-cons tally e es in
      let here : tally e ≡ 0 = ap (λ (o : Option ℕ). cond (is_some o) 1 0) none in
      let rest = counted_one es (omega (arith, some, count, here)) in
      record { chunk = suc rest.chunk; buffer = rest.buffer; is = rest.is }
]

-- MORE ZONES IN A ROW than there are entries, all named: some chunk has a buffer
pub some_buffered : (first n : ℕ) (es : List MapEntry) → length es < n
    → ((z : ℕ) → first ≤ z → z < first + n → (c : ℕ) × NamesZone (entry_in_map es c) z) → IsBuffered es
some_buffered first n es more all =
    let row = many_places first n (flat_map zones_of es)
    (λ z low less. (let one = all z low less in in_map es one.0 z one.1)) in
    let few = few_named es in
    counted_one es (omega (arith, more, row, few))
