-- Texts that grow.
use Rattle.std.proofs.Common.{◌≡◌, ℕ, suc, ◌<◌, ◌/◌, ◌%◌, false, List, [], ◌∷◌, ◌++◌, append_assoc, refl, ap, ap₂, ◌∙◌, arith, get_or, rules}
use Rattle.std.specs.Prelude.{slice_index}
use Rattle.std.specs.Fmt.{digit_glyph}
use Rattle.hex.specs.Hex.{encode_lower, encode_with, lower_digits}
use Rattle.zd_model.specs.Text.{hex}

-- three pieces, one behind the other
pub three_pieces : (old a b c one two three : List ℕ) → one ≡ old ++ a → two ≡ one ++ b → three ≡ two ++ c
    → three ≡ old ++ (a ++ (b ++ c))
three_pieces old a b c one two three p q r =
    r ∙ ap (λ (t : List ℕ). t ++ c) (q ∙ ap (λ (t : List ℕ). t ++ b) p) ∙ append_assoc (old ++ a) b c ∙ append_assoc old a (b ++ c)

-- a digit of sixteen
glyph : (n : ℕ) → n < 16 → slice_index lower_digits n ≡ digit_glyph false n
glyph n low = search rules

-- the digits of bytes
pub encoded : (bytes : List ℕ) → ((i : ℕ) → get_or bytes i 0 < 256) → encode_lower bytes ≡ hex bytes
unfolding encode_with
encoded [] all = refl
encoded (b ∷ bytes) all =
    let low : b < 256 = all 0 in
    ap₂ (λ (x : ℕ) (xs : List ℕ). x ∷ xs) (glyph (b / 16) (omega (arith, low)))
    (ap₂ (λ (x : ℕ) (xs : List ℕ). x ∷ xs) (glyph (b % 16) (omega arith)) (encoded bytes (λ i. all (suc i))))
