-- Chunks on conventional zones, and jobs that leave one there.
use Rattle.std.proofs.Common.{◌≡◌, ◌≢◌, ◌⊎◌, inl, inr, ℕ, suc, ◌+◌, ◌<◌, ◌≤◌, Bool, true, cond, List, [], ◌∷◌, length}
use Rattle.std.proofs.Common.{get_or}
use Rattle.std.proofs.Common.{set, Option, Some, None, refl, sym, ap, ◌∙◌, arith, get_or-set_same, get_or-set_other}
use Rattle.std.proofs.Common.{length-set}
use Rattle.std.proofs.lemmas.Bool.{false≢true, cases_Bool, lt-ltb, ltb-true}
use Rattle.std.proofs.lemmas.List.Sums.{get_or-le-sum_by, sum_by-cons}
use Rattle.zd_alloc.specs.Zones.{is_free, is_limbo, use_at}
use Rattle.zd_base.specs.declared.geometry.Kind.TheVariants.{Conventional, Sequential}
use Rattle.zd_model.specs.Tables.{entry_in_map}
use Rattle.zd_model.specs.declared.metadata.MapEntry.{MapEntry}
use Rattle.zd_progress.specs.Stocks.{HasNoBuffer, IsNamedIn, IsPickedFor, IsStocked, Stock, free_of, is_below, limbo_of}
use Rattle.zd_progress.specs.Stocks.{on_count}
use Rattle.zd_progress.specs.Stocks.IsPickedFor.{empties, gives, merges}
use Rattle.zd_progress.proofs.Counts.{held_left, none_counts}

abbrev nothing : MapEntry
nothing = record { zone = None; buffer = None }

abbrev below : ℕ → MapEntry → Bool
below conv e = is_below conv e.zone

abbrev one : Bool → ℕ
one b = cond b 1 0

pub cases_option : {A : Type 0} (o : Option A) → (o ≡ None) ⊎ ((x : A) × (o ≡ Some x))
cases_option None = inl refl
cases_option (Some x) = inr (x, refl)

-- a chunk with a conventional zone
pub record IsOn (conv : ℕ) (es : List MapEntry) : Type 0 where
  pub chunk : ℕ
  pub zone : ℕ
  pub inside : chunk < length es
  pub is : (entry_in_map es chunk).zone ≡ Some zone
  pub low : zone < conv

-- is found by the count, and counts
found : (conv : ℕ) (es : List MapEntry) → 0 < on_count conv es
    → (c : ℕ) × (c < length es) × (is_below conv (entry_in_map es c).zone ≡ true)
found conv [] some = absurd (omega (arith, some))
found conv (e ∷ es) some = elim (cases_Bool (is_below conv e.zone)) [
  | inl here ↦ (0, omega arith, here)
  | inr off ↦
      let all : on_count conv (e ∷ es) ≡ one (is_below conv e.zone) + on_count conv es =
      sum_by-cons (λ (x : MapEntry). one (is_below conv x.zone)) e es in
      let none : one (is_below conv e.zone) ≡ 0 = ap one off in
      let rest = found conv es (omega (arith, some, all, none)) in
      (suc rest.0, omega (arith, rest.1), rest.2)
]

pub is_on : (conv : ℕ) (es : List MapEntry) → 0 < on_count conv es → IsOn conv es
is_on conv es some =
    let at = found conv es some in
    elim (cases_option (entry_in_map es at.0).zone) [
      | inl none ↦ absurd (false≢true (sym (ap (is_below conv) none) ∙ at.2))
      | inr (z, zone) ↦ record {
        chunk = at.0;
        zone = z;
        inside = at.1;
        is = zone;
        low = ltb-true z conv (sym (ap (is_below conv) zone) ∙ at.2);
      }
    ]

on_counts : (conv : ℕ) (es : List MapEntry) → IsOn conv es → 0 < on_count conv es
on_counts conv es on =
    let is : below conv (get_or es on.chunk nothing) ≡ true = ap (is_below conv) on.is ∙ lt-ltb on.zone conv on.low in
    let here : one (below conv (get_or es on.chunk nothing)) ≡ 1 = ap one is in
    omega (arith, here, get_or-le-sum_by (λ (e : MapEntry). one (below conv e)) es on.chunk nothing on.inside)

module _ (first : ℕ) (s : Stock) (is : IsStocked first s) (free : free_of Conventional s ≡ 0)
    (limbo : limbo_of Conventional s ≡ 0) where
  -- where no conventional zone is free or in limbo, each one is named
  named_low : (z : ℕ) → first ≤ z → z < s.division.conv → IsNamedIn s.entries z
  named_low z low less =
      let inside : z < length s.division.zones = omega (arith, less, is.kinds) in
      let not_free = none_counts is_free Conventional s.division z is.kinds inside less free in
      let not_limbo = none_counts is_limbo Conventional s.division z is.kinds inside less limbo in
      is.held z low inside
      (held_left (use_at s.division.zones z) (is.data_zones z low inside) not_free not_limbo)

  -- and where no chunk has a buffer, one is on the first of them
  first_on : HasNoBuffer s → IsOn s.division.conv s.entries
  first_on no_buffer =
      let named = named_low first (omega arith) is.conventional in
      elim named.names [
        | inl zone ↦ record {
          chunk = named.chunk;
          zone = first;
          inside = named.inside;
          is = zone;
          low = is.conventional;
        }
        | inr buffer ↦ absurd (let f : None ≡ Some first = sym (no_buffer named.chunk) ∙ buffer in let g : ⊥ = cc in g)
      ]

  -- a picked job that gives a sequential zone back leaves a chunk on a conventional one
  pub leaves_on : (chunk source : ℕ) (result : MapEntry) → chunk < length s.entries
      → IsPickedFor s chunk source result → s.division.conv ≤ source
      → 0 < on_count s.division.conv (set s.entries chunk result)
  leaves_on chunk source result inside (gives low) high = absurd (omega (arith, low, high))
  leaves_on chunk source result inside (merges no_move b buffer zone) high =
      on_counts s.division.conv (set s.entries chunk result) (record {
        chunk = chunk;
        zone = b;
        inside = omega (arith, inside, length-set s.entries chunk result);
        is = ap (λ (e : MapEntry). e.zone) (get_or-set_same s.entries chunk result nothing inside) ∙ zone;
        low = (is.buffers chunk b buffer).0;
      })
  leaves_on chunk source result inside (empties no_move no_buffer zone) high =
      let on = first_on no_buffer in
      let other : on.chunk ≢ chunk = (λ e.
      let same : on.zone ≡ source = (
      let f : Some on.zone ≡ Some source =
      sym on.is ∙ ap (λ (x : ℕ). (entry_in_map s.entries x).zone) e ∙ zone in
      cc
      ) in
      omega (arith, same, high, on.low)) in
      on_counts s.division.conv (set s.entries chunk result) (record {
        chunk = on.chunk;
        zone = on.zone;
        inside = omega (arith, on.inside, length-set s.entries chunk result);
        is = ap (λ (e : MapEntry). e.zone) (get_or-set_other s.entries chunk on.chunk result nothing other) ∙ on.is;
        low = on.low;
      })

-- where a chunk on a conventional zone can be moved, a picked job gives a conventional zone back
pub gives_low : (s : Stock) (chunk source : ℕ) (result : MapEntry) → IsPickedFor s chunk source result
    → IsOn s.division.conv s.entries → 0 < free_of Sequential s → source < s.division.conv
gives_low s chunk source result (gives low) on some = low
gives_low s chunk source result (merges no_move b buffer zone) on some =
    absurd (omega (arith, some, no_move on.chunk on.zone on.is on.low))
gives_low s chunk source result (empties no_move no_buffer zone) on some =
    absurd (omega (arith, some, no_move on.chunk on.zone on.is on.low))
