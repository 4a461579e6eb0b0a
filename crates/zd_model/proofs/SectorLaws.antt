-- A sector of a pattern, and one of zeros, are 512 bytes.
use Rattle.std.proofs.Common.{◌≡◌, ℕ, zero, suc, ◌+◌, ◌*◌, ◌<◌, List, [], ◌∷◌, ◌++◌, length}
use Rattle.std.proofs.Common.{replicate, refl, ◌∙◌, arith, All}
use Rattle.std.specs.Int.{w64, to_le_bytes}
use Rattle.std.specs.List.{AllByRecursion, flat_map, range_with_len}
use Rattle.std.proofs.lemmas.List.{length-append, length-replicate}
use Rattle.zd_model.specs.Bytes.{IsSector, zero_sector}
use Rattle.zd_model.specs.Plain.{pattern, word}

pub each-append : {X : Type 0} (P : X → Type 0) (xs ys : List X) → AllByRecursion P xs → AllByRecursion P ys → AllByRecursion P (xs ++ ys)
each-append P [] ys h k = k
each-append P (x ∷ xs) ys h k = (h.0, each-append P xs ys h.1 k)

-- each element by its place
pub each-at : {X : Type 0} (P : X → Type 0) (xs : List X) → AllByRecursion P xs → All P xs
each-at P [] h i d low = absurd (omega arith)
each-at P (x ∷ xs) h zero d low = h.0
each-at P (x ∷ xs) h (suc i) d low = each-at P xs h.1 i d (omega arith)

word-bytes : (n : ℕ) → AllByRecursion (λ b. b < 256) (to_le_bytes w64 n)
word-bytes n = (
  omega arith,
  (omega arith, (omega arith, (omega arith, (omega arith, (omega arith, (omega arith, (omega arith, tt))))))),
)

words-bytes : (f : ℕ → ℕ) (a n : ℕ) → AllByRecursion (λ b. b < 256) (flat_map (λ j. to_le_bytes w64 (f j)) (range_with_len a n))
words-bytes f a zero = tt
words-bytes f a (suc n) = each-append (λ b. b < 256) (to_le_bytes w64 (f a)) _ (word-bytes (f a)) (words-bytes f (a + 1) n)

length-words : (f : ℕ → ℕ) (a n : ℕ) → length (flat_map (λ j. to_le_bytes w64 (f j)) (range_with_len a n)) ≡ 8 * n
length-words f a zero = refl
length-words f a (suc n) = length-append (to_le_bytes w64 (f a)) _ ∙ (let rest = length-words f (a + 1) n in omega arith)

pub pattern-bytes : (seed i : ℕ) → AllByRecursion (λ b. b < 256) (pattern seed i)
unfolding pattern
pattern-bytes seed i = words-bytes (word seed i) 0 64

pub length-pattern : (seed i : ℕ) → length (pattern seed i) ≡ 512
unfolding pattern
length-pattern seed i = length-words (word seed i) 0 64

pub pattern-sector : (seed i : ℕ) → IsSector (pattern seed i)
pattern-sector seed i = (length-pattern seed i, each-at (λ b. b < 256) (pattern seed i) (pattern-bytes seed i))

zeros-bytes : (n : ℕ) → AllByRecursion (λ b. b < 256) (replicate n 0)
zeros-bytes zero = tt
zeros-bytes (suc n) = (omega arith, zeros-bytes n)

pub zero_sector-bytes : AllByRecursion (λ b. b < 256) zero_sector
unfolding zero_sector
zero_sector-bytes = zeros-bytes 512

pub length-zero_sector : length zero_sector ≡ 512
unfolding zero_sector
length-zero_sector = length-replicate {A = ℕ} 512 0

pub zero_sector-sector : IsSector zero_sector
zero_sector-sector = (length-zero_sector, each-at (λ b. b < 256) zero_sector zero_sector-bytes)
