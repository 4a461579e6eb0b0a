-- Lists by their elements in turn.
use Rattle.std.proofs.Common.{◌≡◌, ℕ, ◌+◌, List, [], ◌∷◌, ◌++◌, take, Some, sym, ap, zero, suc, add-one}
use Rattle.std.specs.List.{slice_get, flat_map}
use Rattle.std.proofs.lemmas.List.{flat_map_more}

pub take_found : {X : Type 0} (xs : List X) (i : ℕ) (x : X) → slice_get xs i ≡ Some x → take (suc i) xs ≡ take i xs ++ x ∷ []
take_found [] i x e = absurd (let f : ⊥ = cc in f)
take_found (y ∷ ys) zero x e = let same : y ≡ x = cc in ap (λ z. z ∷ []) same
take_found (y ∷ ys) (suc i) x e = ap (λ l. y ∷ l) (take_found ys i x e)

-- the texts of one element more
pub flat_map_found : {X : Type 0} (f : X → List ℕ) (xs : List X) (i : ℕ) (x : X) → slice_get xs i ≡ Some x → flat_map f (take (i + 1) xs) ≡ flat_map f (take i xs) ++ f x
flat_map_found f xs i x e = rw (add-one, take_found xs i x e) (sym (flat_map_more f [] (take i xs) x))
