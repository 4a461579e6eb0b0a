-- Tables that name no zone and have no bit follow the rules, and serve zeros.
use Rattle.std.proofs.Common.{◌≡◌, ℕ, zero, suc, ◌+◌, ◌*◌, ◌/◌, ◌%◌, false, List, [], ◌∷◌, length, map, replicate, get_or, refl, sym, ap, ap₂, ◌∙◌, Some, None, inl, inr, eqb}
use Rattle.std.proofs.lemmas.Bool.{false≢true}
use Rattle.std.specs.Int.{bit_at}
use Rattle.std.proofs.lemmas.Nat.Bits.{bit_at-zero}
use Rattle.std.specs.Prelude.{Option}
use Rattle.std.specs.List.{range_with_len}
use Rattle.std.proofs.lemmas.List.{length-replicate}
use Rattle.zd_model.specs.Bytes.{zero_sector}
use Rattle.zd_base.specs.Geometry.{Shape}
use Rattle.zd_model.specs.Tables.{Tables, MapFollowsRules, BitsFollowRules, NamesZone, entry_of, is_set, served, sector_of}
use Rattle.zd_base.specs.declared.layout.Layout.{Layout}
use Rattle.zd_model.specs.declared.metadata.MapEntry.{MapEntry}

abbrev pub unmapped : MapEntry
unmapped = record { zone = None; buffer = None }

-- n chunks, and m zones of k bytes of bits
abbrev pub empty_tables : ℕ → ℕ → ℕ → Tables
empty_tables n m k = record { entries = replicate n unmapped; bits = replicate m (replicate k 0) }

read-replicate : {X : Type 0} (n : ℕ) (x : X) (k : ℕ) → get_or (replicate n x) k x ≡ x
read-replicate zero x k = refl
read-replicate (suc n) x zero = refl
read-replicate (suc n) x (suc k) = read-replicate n x k

no_bit : (b x : ℕ) → b ≡ 0 → eqb (bit_at b x) 1 ≡ false
no_bit b x e = ap (λ c. eqb (bit_at c x) 1) e ∙ ap (λ c. eqb c 1) (bit_at-zero x)

no_bits : (m k zone x : ℕ) → is_set (get_or (replicate m (replicate k 0)) zone []) x ≡ false
no_bits zero k zone x = no_bit 0 (x % 8) refl
no_bits (suc m) k zero x = no_bit (get_or (replicate k 0) (x / 8) 0) (x % 8) (read-replicate {X = ℕ} k 0 (x / 8))
no_bits (suc m) k (suc zone) x = no_bits m k zone x

empty_entry : (n m k chunk : ℕ) → entry_of (empty_tables n m k) chunk ≡ unmapped
empty_entry n m k chunk = read-replicate n unmapped chunk

none_some : (z : ℕ) → ◌≡◌ {A = Option ℕ} None (Some z) → ⊥
none_some z e = cc

no_zone : (e : MapEntry) (z : ℕ) → e ≡ unmapped → e.zone ≡ Some z → ⊥
no_zone e z is h = none_some z (sym (ap (λ (f : MapEntry). f.zone) is) ∙ h)

no_buffer : (e : MapEntry) (z : ℕ) → e ≡ unmapped → e.buffer ≡ Some z → ⊥
no_buffer e z is h = none_some z (sym (ap (λ (f : MapEntry). f.buffer) is) ∙ h)

no_name : (e : MapEntry) (z : ℕ) → e ≡ unmapped → NamesZone e z → ⊥
no_name e z is (inl h) = no_zone e z is h
no_name e z is (inr h) = no_buffer e z is h

pub empty_map : (g : Shape) (l : Layout) (n : ℕ) → MapFollowsRules g l (replicate n unmapped)
empty_map g l n = record {
  data_zones = λ c z h. absurd (no_name _ z (empty_entry n 0 0 c) h);
  named_once = λ c d z h. absurd (no_name _ z (empty_entry n 0 0 c) h);
  buffers = λ c b h. absurd (no_buffer _ b (empty_entry n 0 0 c) h);
}

pub empty_bits : (g : Shape) (pointer : ℕ → ℕ) (n m k : ℕ) → BitsFollowRules g pointer (empty_tables n m k)
empty_bits g pointer n m k = record {
  named = λ z x h within valid. absurd (false≢true (sym (no_bits m k z x) ∙ valid));
  below = λ z x far h within valid. absurd (false≢true (sym (no_bits m k z x) ∙ valid));
  one_place = λ c z b x h. absurd (no_zone _ z (empty_entry n m k c) h);
}

empty_sector : (b n m k : ℕ) (zone_at : ℕ → ℕ → List ℕ) (i : ℕ) → sector_of b (empty_tables n m k) zone_at i ≡ zero_sector
empty_sector b n m k zone_at i = rw (empty_entry n m k (i / 8 / b)) refl

zeros_of : (f : ℕ → List ℕ) → ((i : ℕ) → f i ≡ zero_sector) → (a n : ℕ) → map f (range_with_len a n) ≡ replicate n zero_sector
zeros_of f all a zero = refl
zeros_of f all a (suc n) = ap₂ (λ (x : List ℕ) (xs : List (List ℕ)). x ∷ xs) (all a) (zeros_of f all (a + 1) n)

pub empty_served : (b n m k : ℕ) (zone_at : ℕ → ℕ → List ℕ) → served b (empty_tables n m k) zone_at ≡ replicate (n * b * 8) zero_sector
empty_served b n m k zone_at = zeros_of (sector_of b (empty_tables n m k) zone_at) (empty_sector b n m k zone_at) 0 (length (replicate n unmapped) * b * 8) ∙ ap (λ c. replicate (c * b * 8) zero_sector) (length-replicate n unmapped)
