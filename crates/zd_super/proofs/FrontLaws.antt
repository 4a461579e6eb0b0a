-- Fronts of bytes that grow by one piece after another.
use Rattle.std.proofs.Common.{◌≡◌, ℕ, List, ◌++◌, refl, sym, append_assoc}

-- five pieces
pub joined : (a b c d e f : List ℕ) (p q r s t : List ℕ) → b ≡ a ++ p → c ≡ b ++ q → d ≡ c ++ r → e ≡ d ++ s
    → f ≡ e ++ t → f ≡ a ++ (p ++ (q ++ (r ++ (s ++ t))))
joined a b c d e f p q r s t one two three four five = rw (five, four, three, two, one) simp append_assoc refl

-- the whole of them, behind a front, where two pieces go by other names
pub whole : (front a b c d e f out p q r s t v w : List ℕ) → a ≡ front → v ≡ r → w ≡ s → b ≡ a ++ p → c ≡ b ++ q
    → d ≡ c ++ v → e ≡ d ++ w → f ≡ e ++ t → f ≡ out → out ≡ front ++ (p ++ (q ++ (r ++ (s ++ t))))
whole front a b c d e f out p q r s t v w zero r-is s-is one two three four five all =
    rw (sym all, joined a b c d e f p q v w t one two three four five, zero, r-is, s-is) refl
