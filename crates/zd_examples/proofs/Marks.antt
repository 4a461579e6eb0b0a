-- What a stop may leave of the examples' disk, in which sectors are marked.
use Rattle.std.proofs.Common.{◌≡◌, ◌≢◌, ℕ, ◌+◌, ◌<◌, ◌≤◌, max, Bool, true, false, cond, eqb, List, [], ◌∷◌, length, take}
use Rattle.std.proofs.Common.{inl, inr, refl, sym, subst, arith, lit≤}
use Rattle.std.specs.Prelude.{◌&&◌}
use borrow.Author.Tests.{lt-ltb, le-ltb}
use Rattle.zd_model.specs.Bytes.{IsSector}
use Rattle.zd_model.specs.Image.{Image, IsImage, SameZone}
use Rattle.zd_model.specs.Left.{Event, replay, on_zone, IsPut, IsStop}
use Rattle.zd_model.proofs.EventLaws.{geometry-replay, one_zone, one_zone_same, other_test, replay_values, replay_zone}
use Rattle.zd_model.proofs.SectorLaws.{pattern-sector, zero_sector-sector}
use Rattle.zd_examples.specs.Remains.{empty_disk, mark, marked}

either_sector : (b : Bool) (v w : List ℕ) → IsSector v → IsSector w → IsSector (cond b v w)
either_sector true v w h k = h
either_sector false v w h k = k

full : (b : Bool) (i : ℕ) → i < 128 → cond b (max 128 (i + 1)) 128 ≡ 128
full true i inside = omega arith
full false i inside = refl

within : (b : Bool) (i h : ℕ) → i < 128 → h ≤ 128 → cond b (max h (i + 1)) h ≤ 128
within true i h inside low = omega arith
within false i h inside low = low

conventional_held : (z : ℕ) → z < 6 → empty_disk.held z ≡ 128
conventional_held z low = rw (lt-ltb z 6 low) refl

sequential_held : (z : ℕ) → 6 ≤ z → empty_disk.held z ≤ 128
sequential_held z far = rw (le-ltb z 6 far) (lit≤ tt)

-- the empty disk, and one with a mark
pub empty_image : IsImage empty_disk
empty_image = record {
  sectors = λ z i h. zero_sector-sector;
  conventional = conventional_held;
  sequential = sequential_held;
}

pub marked_image : (z i : ℕ) → i < 128 → IsImage (marked (mark z i ∷ []))
marked_image z i inside = record {
  sectors = λ y j h. either_sector (eqb y z && eqb j i) _ _ (pattern-sector 1 i) zero_sector-sector;
  conventional = λ y low.
      rw (conventional_held y low) (full (eqb y z) i inside);
  sequential = λ y far. within (eqb y z) i _ inside (sequential_held y far);
}

-- a stop may leave those of the events that are a first part in each sequential zone
pub may_leave : (flushed : Image) (events some : List Event) → IsImage (replay flushed some)
    → ((z i : ℕ) (v : List ℕ) → IsPut some z i v → IsPut events z i v)
    → ((z : ℕ) → flushed.geometry.conv ≤ z → (n : ℕ)
    × (n ≤ length (on_zone z events)) × (on_zone z some ≡ take n (on_zone z events)))
    → IsStop flushed events (replay flushed some)
may_leave flushed events some image put part = record {
  image = image;
  geometry = geometry-replay flushed some;
  conventional = λ z i low inside. elim (replay_values flushed some z i) [
    | inl stayed ↦ inl stayed
    | inr there ↦ inr (put z i _ there)
  ];
  sequential = λ z far.
      let first = part z far in
      let own = one_zone_same (replay flushed (on_zone z some)) (replay flushed some) z
      (replay_zone flushed flushed z some (one_zone flushed z)) in
      (first.0, first.1, subst (λ (l : List Event). SameZone (replay flushed l) (replay flushed some) z) first.2 own);
}

-- nothing of a list is a first part of it
pub nothing : (z : ℕ) (events : List Event) → (n : ℕ) × (n ≤ length (on_zone z events)) × ([] ≡ take n (on_zone z events))
nothing z events = (0, omega arith, refl)

-- and so is a mark elsewhere
pub elsewhere : (z y i : ℕ) (events : List Event) → z ≢ y → (n : ℕ) × (n ≤ length (on_zone z events))
    × (on_zone z (mark y i ∷ []) ≡ take n (on_zone z events))
elsewhere z y i events ne =
    let other : eqb y z ≡ false = other_test y z (λ e. ne (sym e)) in
    (0, omega arith, rw other refl)
