-- An image is refused for one reason, and a volume for none.
use Rattle.std.proofs.Common.{◌≡◌, ℕ, Option, Some, None, sym, ap, ◌∙◌, subst, inl, inr, []}
use Rattle.std.proofs.lemmas.Bool.{false≢true}
use Rattle.zd_model.specs.Faults.{bad_bit, bad_chunk}
use Rattle.zd_model.specs.Image.{Image}
use Rattle.zd_model.specs.Volume.{Chosen, IsWellFormed, WellFormed, chosen, tables_of}
use Rattle.zd_model.proofs.BitLaws.{no_bad_bit}
use Rattle.zd_model.proofs.FaultLaws.{no_chunk_bad}
use Rattle.zd_sets.specs.Choice.{IsMisplaced}
use Rattle.zd_examine.specs.Examined.{ExplainsRefusal, IsPlacedSet}
use Rattle.zd_examine.specs.declared.examining.OpenFault.TheVariants.{NoSuperBlock, Layout, BadMap, BadBits}

some_is : {X : Type 0} (x y : X) → ◌≡◌ {A = Option X} (Some x) (Some y) → x ≡ y
some_is x y e = cc

none_some : {X : Type 0} (x : X) → ◌≡◌ {A = Option X} None (Some x) → ⊥
none_some x e = cc

-- a well-formed image has a placed set
placed_of : (image : Image) (c : Chosen) → IsWellFormed image c → IsPlacedSet image c
placed_of image c well = record { is_chosen = well.is_chosen; layout = well.layout; no_other_magic = well.no_other_magic }

-- one set is chosen
one_set : (image : Image) (c d : Chosen) → chosen image ≡ Some c → chosen image ≡ Some d → c ≡ d
one_set image c d h k = some_is c d (sym h ∙ k)

pub none_or_placed : (image : Image) → ExplainsRefusal NoSuperBlock image → (c : Chosen) → IsPlacedSet image c → ⊥
none_or_placed image none c placed = none_some c (sym none ∙ placed.is_chosen)

pub none_or_layout : (image : Image) → ExplainsRefusal NoSuperBlock image → ExplainsRefusal Layout image → ⊥
none_or_layout image none why = none_some why.0 (sym none ∙ why.1)

-- a placed set isn't misplaced
not_misplaced : (image : Image) (c : Chosen) → IsPlacedSet image c → IsMisplaced image c → ⊥
not_misplaced image c placed (inl misfit) = misfit placed.layout
not_misplaced image c placed (inr magic) =
    false≢true (sym (placed.no_other_magic magic.0 magic.1.0 magic.1.1 magic.1.2) ∙ magic.1.3)

pub layout_or_placed : (image : Image) → ExplainsRefusal Layout image → (c : Chosen) → IsPlacedSet image c → ⊥
layout_or_placed image why c placed =
    not_misplaced image why.0 (subst (IsPlacedSet image) (one_set image c why.0 placed.is_chosen why.1) placed) why.2

-- what the map is refused for, by any placed set
map_fault : (image : Image) (c d : Chosen) → IsPlacedSet image c → IsPlacedSet image d
    → bad_chunk image.geometry c.head.layout [] 0 (tables_of image c).entries ≡ bad_chunk image.geometry d.head.layout [] 0 (tables_of image d).entries
map_fault image c d h k =
    ap (λ (e : Chosen). bad_chunk image.geometry e.head.layout [] 0 (tables_of image e).entries) (one_set image c d h.is_chosen k.is_chosen)

bit_fault : (image : Image) (c d : Chosen) → IsPlacedSet image c → IsPlacedSet image d
    → bad_bit image.geometry image.held (tables_of image c) ≡ bad_bit image.geometry image.held (tables_of image d)
bit_fault image c d h k =
    ap (λ (e : Chosen). bad_bit image.geometry image.held (tables_of image e)) (one_set image c d h.is_chosen k.is_chosen)

pub one_chunk : (image : Image) (m n : ℕ) → ExplainsRefusal (BadMap m) image → ExplainsRefusal (BadMap n) image → m ≡ n
one_chunk image m n h k = some_is m n (sym h.2 ∙ map_fault image h.0 k.0 h.1 k.1 ∙ k.2)

pub map_or_bits : (image : Image) (m z x : ℕ) → ExplainsRefusal (BadMap m) image → ExplainsRefusal (BadBits z x) image → ⊥
map_or_bits image m z x h k = none_some m (sym k.2 ∙ map_fault image k.0 h.0 k.1 h.1 ∙ h.2)

pub one_bit : (image : Image) (y w z x : ℕ) → ExplainsRefusal (BadBits y w) image → ExplainsRefusal (BadBits z x) image → (y ≡ z) × (w ≡ x)
one_bit image y w z x h k =
    let same = some_is (y, w) (z, x) (sym h.3 ∙ bit_fault image h.0 k.0 h.1 k.1 ∙ k.3) in
    (ap (λ (p : ℕ × ℕ). p.0) same, ap (λ (p : ℕ × ℕ). p.1) same)

-- a well-formed image isn't refused
pub refused_none : (image : Image) → ExplainsRefusal NoSuperBlock image → WellFormed image → ⊥
refused_none image none well = none_or_placed image none well.0 (placed_of image well.0 well.1)

pub refused_layout : (image : Image) → ExplainsRefusal Layout image → WellFormed image → ⊥
refused_layout image why well = layout_or_placed image why well.0 (placed_of image well.0 well.1)

pub refused_map : (chunk : ℕ) (image : Image) → ExplainsRefusal (BadMap chunk) image → WellFormed image → ⊥
refused_map chunk image why well =
    none_some chunk (sym (no_chunk_bad image.geometry well.0.head.layout (tables_of image well.0).entries well.1.map)
    ∙ map_fault image well.0 why.0 (placed_of image well.0 well.1) why.1 ∙ why.2)

pub refused_bits : (zone block : ℕ) (image : Image) → ExplainsRefusal (BadBits zone block) image → WellFormed image → ⊥
refused_bits zone block image why well =
    none_some (zone, block) (sym (no_bad_bit image.geometry image.held (tables_of image well.0) well.1.bits)
    ∙ bit_fault image well.0 why.0 (placed_of image well.0 well.1) why.1 ∙ why.3)
