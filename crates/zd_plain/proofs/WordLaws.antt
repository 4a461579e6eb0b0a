-- A run of words, one longer.
use Rattle.std.proofs.Common.{◌≡◌, ℕ, zero, suc, ◌+◌, List, ◌++◌, sym, ap, ◌∙◌, append_assoc, add-one, arith}
use Rattle.std.proofs.lemmas.List.{append-nil}
use Rattle.std.specs.List.{range_with_len, flat_map}

joined_suc : (f : ℕ → List ℕ) (a n j : ℕ) → a + n ≡ j → flat_map f (range_with_len a (suc n)) ≡ flat_map f (range_with_len a n) ++ f j
joined_suc f a zero j e =
    let first : a ≡ j = omega arith in
    append-nil (f a) ∙ ap f first
joined_suc f a (suc n) j e =
    ap (λ xs. f a ++ xs) (joined_suc f (a + 1) n j (omega arith))
    ∙ sym (append_assoc (f a) (flat_map f (range_with_len (a + 1) n)) (f j))

-- the parts of a run joined, with that of the next number
pub joined_more : (f : ℕ → List ℕ) (a n j : ℕ) → a + n ≡ j → flat_map f (range_with_len a (n + 1)) ≡ flat_map f (range_with_len a n) ++ f j
joined_more f a n j e = rw add-one (joined_suc f a n j e)
