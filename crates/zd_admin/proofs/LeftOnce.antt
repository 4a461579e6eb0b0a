-- What is wrong in tables is one thing.
use Rattle.std.proofs.Common.{◌≡◌, ℕ, zero, suc, ◌+◌, ◌<◌, ◌≤◌, Bool, true, false, not, List, length, refl, sym, ap, ap₂, ◌∙◌, subst, inl, inr, arith, sum_by}
use Rattle.std.proofs.lemmas.Bool.{cases_lt}
use Rattle.std.proofs.lemmas.List.Sums.{sum_by-cons}
use Rattle.std.proofs.Math.ListN.{get_or-eq_default}
use Rattle.std.specs.Prelude.{IsTrue}
use Rattle.std.specs.List.{range_with_len}
use Rattle.zd_base.specs.Geometry.{Shape, zone_count}
use Rattle.zd_base.specs.declared.layout.Layout.{Layout}
use Rattle.zd_disk.proofs.ToldLaws.{Some-same}
use Rattle.zd_model.specs.Faults.{is_right_entry}
use Rattle.zd_model.specs.Image.{Image}
use Rattle.zd_model.specs.Tables.{NamesZone, Tables, entry_of, is_valid}
use Rattle.zd_model.specs.Volume.{Chosen, tables_of}
use Rattle.zd_model.specs.declared.metadata.MapEntry.{MapEntry}
use Rattle.zd_tables.specs.Held.{valid_count}
use Rattle.zd_repair.specs.Repaired.{CountsDropped, IsLeftOf, IsMapLeft, IsNothing, MayStayValid, left_of, named_before, valid_total, wrong_entries}
use Rattle.zd_repair.specs.Repairing.{AreLeft, ExplainsRepair}
use Rattle.zd_repair.specs.declared.repairing.RepairFault.TheVariants.{Generation}
use Rattle.zd_repair.specs.declared.tables.Repaired.{Repaired as Dropped}
use Rattle.zd_repair.proofs.LeftMaps.{named_as, passing_as}
use Rattle.zd_admin.specs.Ends.{CanRepair}
use Rattle.zd_admin.specs.Rows.{no_zone}

-- two maps of what is left of one
module _ (g : Shape) (l : Layout) (old one two : ℕ → MapEntry)
    (first : IsMapLeft g l old one l.chunks) (second : IsMapLeft g l old two l.chunks) where
  below : (k : ℕ) → k ≤ l.chunks → (c : ℕ) → c < k → one c ≡ two c
  below zero few c low = absurd (omega (arith, low))
  below (suc k) few c low = elim (cases_lt c k) [
    | inl less ↦ below k (omega (arith, few)) c less
    | inr last ↦ (
        let is : k ≡ c = omega (arith, low, last) in
        let before = named_as two one k (λ d less. below k (omega (arith, few)) d less) in
        subst (λ (j : ℕ). one j ≡ two j) is (first k (omega (arith, few))
        ∙ ap (λ (zones : List ℕ). left_of g l zones (old k)) before ∙ sym (second k (omega (arith, few)))))
  ]

  pub map_once : (c : ℕ) → c < l.chunks → one c ≡ two c
  map_once c low = below l.chunks (omega arith) c low

  pub wrong_once : wrong_entries g l old one l.chunks ≡ wrong_entries g l old two l.chunks
  wrong_once = passing_as (λ c. not (is_right_entry g l (named_before one c) (old c)))
      (λ c. not (is_right_entry g l (named_before two c) (old c))) l.chunks
      (λ c low. ap (λ (zones : List ℕ). not (is_right_entry g l zones (old c)))
      (named_as two one c (λ d less. map_once d (omega (arith, low, less)))))

abbrev dropped_of : ℕ → ℕ → Dropped
dropped_of entries bits = record { entries = entries; bits = bits }

same_test : (a b : Bool) → (IsTrue a → IsTrue b) → (IsTrue b → IsTrue a) → a ≡ b
same_test true true f h = refl
same_test false false f h = refl
same_test true false f h = sym (f refl)
same_test false true f h = h refl

-- numbers that are the same below an end have the same sum
sum_same : (f h : ℕ → ℕ) (a n : ℕ) → ((k : ℕ) → a ≤ k → k < a + n → f k ≡ h k) → sum_by f (range_with_len a n) ≡ sum_by h (range_with_len a n)
sum_same f h a zero same = refl
sum_same f h a (suc n) same =
    sum_by-cons f a (range_with_len (a + 1) n)
    ∙ ap₂ (λ (x y : ℕ). x + y) (same a (omega arith) (omega arith))
    (sum_same f h (a + 1) n (λ k low high. same k (omega (arith, low)) (omega (arith, high))))
    ∙ sym (sum_by-cons h a (range_with_len (a + 1) n))

module _ (g : Shape) (l : Layout) (pointer : ℕ → ℕ) (old one two : Tables)
    (first : IsLeftOf g l pointer old one) (second : IsLeftOf g l pointer old two)
    (all : length one.entries ≡ l.chunks) (others : length two.entries ≡ l.chunks) where
  -- behind the last chunk nothing is named
  entry_once : (c : ℕ) → entry_of one c ≡ entry_of two c
  entry_once c = elim (cases_lt c l.chunks) [
    | inl low ↦ map_once g l (entry_of old) (entry_of one) (entry_of two) first.map second.map c low
    | inr high ↦ get_or-eq_default one.entries no_zone (omega (arith, all, high))
        ∙ sym (get_or-eq_default two.entries no_zone (omega (arith, others, high)))
  ]

  stays_as : (z x : ℕ) (a b : Tables) → ((c : ℕ) → entry_of b c ≡ entry_of a c) → MayStayValid g pointer old a z x → MayStayValid g pointer old b z x
  stays_as z x a b same may = record {
    named = (may.named.0, subst (λ (e : MapEntry). NamesZone e z) (sym (same may.named.0)) may.named.1);
    below = may.below;
    alone = λ c buffer zone beside. may.alone c buffer (ap (λ (e : MapEntry). e.zone) (sym (same c)) ∙ zone)
        (ap (λ (e : MapEntry). e.buffer) (sym (same c)) ∙ beside);
  }

  bit_once : (z x : ℕ) → z < zone_count g → x < g.zone_blocks → is_valid one z x ≡ is_valid two z x
  bit_once z x low inside = same_test (is_valid one z x) (is_valid two z x)
      (λ valid. let here = (first.bits z x low inside).0 valid in
      (second.bits z x low inside).1 (here.0, stays_as z x one two (λ c. sym (entry_once c)) here.1))
      (λ valid. let here = (second.bits z x low inside).0 valid in
      (first.bits z x low inside).1 (here.0, stays_as z x two one entry_once here.1))

  total_once : valid_total g one ≡ valid_total g two
  total_once = sum_same (valid_count g.zone_blocks one) (valid_count g.zone_blocks two) 0 (zone_count g)
      (λ z from low. passing_as (is_valid one z) (is_valid two z) g.zone_blocks (λ x inside. bit_once z x (omega (arith, low)) inside))

  pub dropped_once : (a b : Dropped) → CountsDropped g l old one a → CountsDropped g l old two b → a ≡ b
  dropped_once a b h k =
      ap₂ (λ (entries bits : ℕ). dropped_of entries bits)
      (h.entries ∙ wrong_once g l (entry_of old) (entry_of one) (entry_of two) first.map second.map ∙ sym k.entries)
      (let total = total_once in let here = h.bits in let there = k.bits in omega (arith, total, here, there))

-- a repair of an image drops one thing
pub one_repair : (image : Image) (a b : Dropped) → CanRepair a image → CanRepair b image → a ≡ b
one_repair image a b h k =
    let same : k.set ≡ h.set = Some-same k.set h.set (sym k.placed.is_chosen ∙ h.placed.is_chosen) in
    dropped_once image.geometry h.set.head.layout image.held (tables_of image h.set) h.left k.left h.tables
    (subst (λ (c : Chosen). AreLeft c image k.left) same k.tables) h.count
    (k.count ∙ ap (λ (c : Chosen). c.head.layout.chunks) same) a b h.counts
    (subst (λ (c : Chosen). CountsDropped image.geometry c.head.layout (tables_of image c) k.left b) same k.counts)

-- and where the generation is the last, nothing
pub repair_or_last : (image : Image) (a : Dropped) → CanRepair a image → ExplainsRepair Generation image → ⊥
repair_or_last image a can why =
    let wrong = why.3 in
    let same : why.0 ≡ can.set = Some-same why.0 can.set (sym why.1.is_chosen ∙ can.placed.is_chosen) in
    let is : wrong.dropped ≡ a = dropped_once image.geometry can.set.head.layout image.held (tables_of image can.set) wrong.left can.left
    (subst (λ (c : Chosen). AreLeft c image wrong.left) same wrong.tables) can.tables
    (wrong.count ∙ ap (λ (c : Chosen). c.head.layout.chunks) same) can.count wrong.dropped a
    (subst (λ (c : Chosen). CountsDropped image.geometry c.head.layout (tables_of image c) wrong.left wrong.dropped) same wrong.counts) can.counts in
    let rises = can.rises (λ none. wrong.some (subst IsNothing (sym is) none)) in
    let last = why.2 in
    let generation = ap (λ (c : Chosen). c.head.generation) same in
    omega (arith, rises, last, generation)
