-- Pointers in sectors made pointers in blocks, one after another.
use Rattle.std.proofs.Common.{◌≡◌, ℕ, ◌+◌, ◌<◌, List, [], ◌∷◌, ◌++◌, length, take, drop, set, get_or, refl, sym, ap}
use Rattle.std.proofs.Common.{◌∙◌}
use Rattle.std.proofs.Common.{arith}
use Rattle.std.specs.Int.{div_ceil}
use Rattle.std.proofs.lemmas.Grind.{drop_more_same, take-set_at}
use Rattle.std.proofs.lemmas.List.{drop-set-lt, drop_more, length-set, map-append, take_more}
use Rattle.zd_base.specs.Layout.{rounded_up}
use Rattle.zd_open.specs.OpenedVolume.{in_blocks}

rounded : (p : ℕ) → div_ceil p 8 ≡ rounded_up p 8
rounded p = omega arith

-- the first pointers are in blocks, so many, and the others as they were
module _ (old new : List ℕ) (i x v : ℕ) (low : i < length old)
    (was : (length new ≡ length old) × (take i new ≡ in_blocks (take i old)) × (drop i new ≡ drop i old))
    (read : x ≡ get_or new i x) (is : v ≡ div_ceil x 8) where
  inside : i < length new
  inside = (let size = was.0 in omega (arith, size, low))

  same : get_or new i x ≡ get_or old i x
  same = ap (λ (xs : List ℕ). get_or xs 0 x) (sym (drop_more new i x inside) ∙ was.2 ∙ drop_more old i x low)

  one : v ≡ rounded_up (get_or old i x) 8
  one = is ∙ rounded x ∙ ap (λ (p : ℕ). rounded_up p 8) (read ∙ same)

  pub next_in_blocks : (length (set new i v) ≡ length old) × (take (i + 1) (set new i v) ≡ in_blocks (take (i + 1) old))
      × (drop (i + 1) (set new i v) ≡ drop (i + 1) old)
  next_in_blocks = (
    length-set new i v ∙ was.0,
    take-set_at new i (i + 1) v refl inside
        ∙ ap (λ (xs : List ℕ). xs ++ v ∷ []) was.1
        ∙ ap (λ (w : ℕ). in_blocks (take i old) ++ w ∷ []) one
        ∙ sym (map-append (λ (p : ℕ). rounded_up p 8) (take i old) (get_or old i x ∷ []))
        ∙ ap (λ (xs : List ℕ). in_blocks xs) (sym (take_more old i x low)),
    drop-set-lt (i + 1) new i v (omega arith) ∙ drop_more_same new old i was.2,
  )
