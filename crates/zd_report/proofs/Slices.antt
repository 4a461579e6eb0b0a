-- What a slice holds are bytes.
use Rattle.std.proofs.Common.{◌<◌, ℕ, suc, List, [], ◌∷◌, arith, get_or, Fits, w8}
use Rattle.std.specs.List.{AllByRecursion}

pub each_byte : (xs : List ℕ) → ((i : ℕ) → Fits w8 (get_or xs i 0)) → AllByRecursion (λ b. b < 256) xs
each_byte [] h = tt
each_byte (x ∷ xs) h = ((let first = h 0 in omega (arith, first)), each_byte xs (λ i. h (suc i)))
