-- Zones of both kinds in one list.
use Rattle.std.proofs.Common.{◌≡◌, inl, inr, ℕ, Bool, false, ◌+◌, ◌-◌, ◌*◌, ◌<◌, ◌≤◌, List, ◌++◌, length, get_or, set, refl, sym, ap, ap₂, ◌∙◌, arith, length-set, length-append}
use Rattle.std.specs.List.{range_with_len}
use Rattle.std.proofs.lemmas.List.{get_or_append_left, get_or-append_right, set-append_left, set-append_right}
use Rattle.std.proofs.lemmas.Bool.{cases_lt}
use Rattle.zd_base.specs.Geometry.{Shape}
use Rattle.zd_base.specs.Layout.{set_zones, first_data_zone}
use Rattle.zd_base.specs.declared.layout.Layout.{Layout}
use Rattle.zd_base.specs.declared.geometry.Kind.TheVariants.{Conventional, Sequential}
use Rattle.zd_alloc.specs.Zones.{use_at, division, use_at_start, IsLeastFree, IsLeastOf, TakesLeast, IsStart}
use Rattle.zd_alloc.specs.declared.uses.ZoneUse.{ZoneUse}
use Rattle.zd_alloc.specs.declared.uses.ZoneUse.TheVariants.{Meta, Held}

-- a use of the second list
at_right : (a b : List ZoneUse) (i : ℕ) → length a ≤ i → use_at (a ++ b) i ≡ use_at b (i - length a)
at_right a b i past = get_or-append_right a b (length a) i Meta refl past

pub left_least : (a b : List ZoneUse) (order : List ℕ) (z : ℕ) → IsLeastFree a z → z < length a → IsLeastOf Conventional (division a b order) z
left_least a b order z first inside = record {
  inside = omega (arith, inside, length-append a b);
  of_kind = inside;
  free = get_or_append_left a b Meta z inside ∙ first.free;
  least = λ other low less e. first.least other less (sym (get_or_append_left a b Meta other low) ∙ e);
}

pub right_least : (a b : List ZoneUse) (order : List ℕ) (z : ℕ) → IsLeastFree b z → z < length b → IsLeastOf Sequential (division a b order) (length a + z)
right_least a b order z first inside =
    let place : length a + z - length a ≡ z = omega arith in
    record {
      inside = omega (arith, inside, length-append a b);
      of_kind = omega arith;
      free = at_right a b (length a + z) (omega arith) ∙ ap (use_at b) place ∙ first.free;
      least = λ other low less e. first.least (other - length a) (omega (arith, low, less)) (sym (at_right a b other low) ∙ e);
    }

pub left_set : (a b : List ZoneUse) (z : ℕ) (u : ZoneUse) → z < length a → set a z u ++ b ≡ set (a ++ b) z u
left_set a b z u inside = sym (set-append_left a b z u inside)

pub right_set : (a b : List ZoneUse) (z : ℕ) (u : ZoneUse) → length a ≤ z → a ++ set b (z - length a) u ≡ set (a ++ b) z u
right_set a b z u past = sym (set-append_right a b (length a) z u refl past)

pub left_takes : (a a' b : List ZoneUse) (order : List ℕ) (z : ℕ) → IsLeastFree a z → z < length a → a' ≡ set a z Held → TakesLeast Conventional (division a b order) (division a' b order) z
left_takes a a' b order z first inside e = record {
  least = left_least a b order z first inside;
  zones = ap (λ (x : List ZoneUse). x ++ b) e ∙ left_set a b z Held inside;
  conv = ap length e ∙ length-set a z Held;
  order = refl;
}

pub right_takes : (a b b' : List ZoneUse) (order : List ℕ) (z : ℕ) → IsLeastFree b z → z < length b → b' ≡ set b z Held → TakesLeast Sequential (division a b order) (division a b' order) (length a + z)
right_takes a b b' order z first inside e =
    let place : length a + z - length a ≡ z = omega arith in
    record {
      least = right_least a b order z first inside;
      zones = ap (λ (x : List ZoneUse). a ++ x) (e ∙ ap (λ (i : ℕ). set b i Held) (sym place)) ∙ right_set a b (length a + z) Held (omega arith);
      conv = refl;
      order = refl;
    }

-- both kinds as they start make the start of all zones
pub both_start : (g : Shape) (l : Layout) (named : List Bool) (a b : List ZoneUse) (order : List ℕ) (s c q : ℕ) → s ≡ set_zones g l → c ≡ g.conv → q ≡ g.seq → length a ≡ c → length b ≡ q → ((i : ℕ) → i < c → use_at a i ≡ use_at_start (2 * s) (get_or named (0 + i) false) (0 + i)) → ((i : ℕ) → i < q → use_at b i ≡ use_at_start (2 * s) (get_or named (c + i) false) (c + i)) → order ≡ range_with_len 0 l.chunks → IsStart g l named (division a b order)
both_start g l named a b order s c q first conv seq few more left right chunks = record {
  conv = few ∙ conv;
  count = omega (arith, few, more, conv, seq, length-append a b);
  order = chunks;
  uses = λ zone inside.
      let begin : 2 * s ≡ first_data_zone g l = ap (λ (x : ℕ). 2 * x) first in
      elim (cases_lt zone c) [
        | inl low ↦
            let place : 0 + zone ≡ zone = omega arith in
            get_or_append_left a b Meta zone (omega (arith, few, low)) ∙ left zone low
            ∙ ap₂ (λ (d i : ℕ). use_at_start d (get_or named i false) i) begin place
        | inr high ↦
            let place : c + (zone - length a) ≡ zone = omega (arith, few, high) in
            at_right a b zone (omega (arith, few, high)) ∙ right (zone - length a) (omega (arith, few, conv, seq, inside, high))
            ∙ ap₂ (λ (d i : ℕ). use_at_start d (get_or named i false) i) begin place
      ];
}
