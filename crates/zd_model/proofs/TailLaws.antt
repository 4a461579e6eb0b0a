-- Which versions there are, and the zeros after the fields of each.
use Rattle.std.proofs.Common.{◌≡◌, ◌⊎◌, inl, inr, ℕ, ◌+◌, ◌≤◌, Bool, true, false, cond, List, drop, get_or, length}
use Rattle.std.proofs.Common.{replicate, refl, sym, ap, ◌∙◌, arith, subst, lit≤, eqb, ◌||◌}
use borrow.Author.Tests.{eqb-true}
use Rattle.std.proofs.lemmas.List.{length-drop, get_or-drop, ext_get_or, length-replicate, get_or-replicate}
use Rattle.zd_model.specs.Bytes.{u32_at}
use Rattle.zd_model.specs.declared.metadata.Super.{Super}
use Rattle.zd_model.specs.Super.{FitsVersion, IsSuper, IsVersion, is_version, fields_end}

-- a version that there is passes the test, and no other
pub version_passes : (v : ℕ) → IsVersion v → is_version v ≡ true
version_passes v (inl one) = ap is_version one
version_passes v (inr two) = ap is_version two

one_of : (a b : Bool) → (a || b) ≡ true → (a ≡ true) ⊎ (b ≡ true)
one_of true b h = inl refl
one_of false b h = inr h

pub passed_version : (v : ℕ) → is_version v ≡ true → IsVersion v
passed_version v h = elim (one_of (eqb v 1) (eqb v 2) h) [
  | inl one ↦ inl (eqb-true v 1 one)
  | inr two ↦ inr (eqb-true v 2 two)
]

-- the fields of no version go past byte 112
fields_end-le : (v : ℕ) → fields_end v ≤ 112
unfolding fields_end
fields_end-le v = either (eqb v 1)
  where
    either : (b : Bool) → cond b 48 112 ≤ 112
    either true = lit≤ tt
    either false = lit≤ tt

-- so from there on are zeros in each version
pub zero_from_112 : (block : List ℕ) (s : Super) → IsSuper block s → (i : ℕ) → 112 ≤ i → get_or block i 0 ≡ 0
zero_from_112 block s h i far = h.tail i (let end = fields_end-le (u32_at block 4) in omega arith)

-- in version 1 zeros begin at byte 48
pub zero_from_48 : (block : List ℕ) (s : Super) → IsSuper block s → s.version ≡ 1 → (i : ℕ) → 48 ≤ i → get_or block i 0 ≡ 0
unfolding fields_end
zero_from_48 block s h one i far =
    let version : 1 ≡ u32_at block 4 = sym (ap (λ (t : Super). t.version) (sym h.fields) ∙ one) in
    h.tail i (subst (λ v. fields_end v ≤ i) version far)

-- bytes that are zeros from a place on end with so many zeros
pub zeros_from : (bytes : List ℕ) (at n : ℕ) → length bytes ≡ at + n → ((i : ℕ) → at ≤ i → get_or bytes i 0 ≡ 0)
    → drop at bytes ≡ replicate n 0
zeros_from bytes at n size zeros =
    let rest : length (drop at bytes) ≡ n = length-drop at bytes ∙ omega (arith, size) in
    ext_get_or 0 (drop at bytes) (replicate n 0) (rest ∙ sym (length-replicate {A = ℕ} n 0))
    (λ i h. get_or-drop at bytes i 0 ∙ zeros (at + i) (omega arith) ∙ sym (get_or-replicate n i 0 0 (omega (arith, rest, h))))

-- each head of version 2 fits its version
pub fits_2 : (s : Super) → s.version ≡ 2 → FitsVersion s
fits_2 s two =
    let other : s.version ≡ 1 → ⊥ = λ one. omega (arith, one, two) in
    record {
      version = inr two;
      label = λ one. absurd (other one);
      volume = λ one. absurd (other one);
      device = λ one. absurd (other one);
    }

-- a head fits its version whatever its generation and its place
pub fits_elsewhere : (s : Super) (generation own : ℕ) → FitsVersion s
    → FitsVersion (record s { generation = generation; own = own })
fits_elsewhere s generation own h =
    record { version = h.version; label = h.label; volume = h.volume; device = h.device }
