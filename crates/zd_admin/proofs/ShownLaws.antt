-- What is shown of a volume.
use Rattle.std.proofs.Common.{Bool, true, false, ◌≡◌, ℕ, zero, suc, ◌+◌, ◌-◌, ◌≤◌, List, [], ◌∷◌, cond, count_by, not, map, take, drop, length, refl, sym, ap, ap₂, ◌∙◌, subst, arith}
use Rattle.std.proofs.lemmas.List.{drop-map}
use Rattle.std.proofs.lemmas.List.FromFn.{length-map-range_with_len, sum_by-map-range_with_len_more, take-map-range_with_len}
use Rattle.std.proofs.lemmas.List.Sums.{count_by-le-length, sum_by-cons}
use Rattle.std.specs.Int.{from_bool}
use Rattle.std.specs.List.{range_with_len, slice_range}
use Rattle.zd_base.specs.Geometry.{Shape, zone_count}
use Rattle.zd_examine.specs.Examined.{IsExamined, IsUsable}
use Rattle.zd_examine.specs.Padded.{named_flags}
use Rattle.zd_examine.proofs.OpenedLaws.{tables_of_set}
use Rattle.zd_model.specs.Faults.{has}
use Rattle.zd_model.specs.Image.{Image}
use Rattle.zd_model.specs.Tables.{Tables, named_zones}
use Rattle.zd_model.specs.declared.metadata.MapEntry.{MapEntry}
use Rattle.zd_sets.specs.Choice.{chosen_of}
use Rattle.zd_sets.specs.declared.choice.Chosen.{Chosen as Choice}
use Rattle.zd_tables.specs.Tables.{tables_in}
use Rattle.zd_admin.specs.Shown.{CountsUse, IsStatus, free_zones}
use Rattle.zd_admin.specs.declared.volume.VolumeStatus.{VolumeStatus}

one_if : (b : Bool) → from_bool b ≡ cond b 1 0
one_if true = refl
one_if false = refl

-- one more entry is counted
pub counted_more : (p : MapEntry → Bool) (f : ℕ → MapEntry) (k n one : ℕ) (b : Bool) (e : MapEntry)
    → n ≡ count_by p (map f (range_with_len 0 k)) → one ≡ from_bool b → b ≡ p e → e ≡ f k
    → n + one ≡ count_by p (map f (range_with_len 0 (k + 1)))
counted_more p f k n one b e so test is here =
    ap₂ (λ (m o : ℕ). m + o) so (test ∙ ap from_bool (is ∙ ap p here) ∙ one_if (p (f k)))
    ∙ sym (sum_by-map-range_with_len_more (λ x. cond (p x) 1 0) f 0 k k (omega arith))

-- no more than there are
pub counted_low : (p : MapEntry → Bool) (f : ℕ → MapEntry) (k n : ℕ) → n ≡ count_by p (map f (range_with_len 0 k)) → n ≤ k
counted_low p f k n so =
    let most = count_by-le-length p (map f (range_with_len 0 k)) in
    let size = length-map-range_with_len f 0 k in
    omega (arith, so, most, size)

pub one_low : (b : Bool) (n : ℕ) → n ≡ from_bool b → n ≤ 1
one_low true n is = omega (arith, is)
one_low false n is = omega (arith, is)

drop_range : (a k n : ℕ) → drop k (range_with_len a (k + n)) ≡ range_with_len (a + k) n
drop_range a zero n = ap₂ (λ (b m : ℕ). range_with_len b m) (let e : a ≡ a + 0 = omega arith in e) (let e : 0 + n ≡ n = omega arith in e)
drop_range a (suc k) n =
    ap (λ (m : ℕ). drop (suc k) (range_with_len a m)) (let e : suc k + n ≡ suc (k + n) = omega arith in e)
    ∙ drop_range (a + 1) k n
    ∙ ap (λ (b : ℕ). range_with_len b n) (let e : a + 1 + k ≡ a + suc k = omega arith in e)

count_mapped : (p : Bool → Bool) (f : ℕ → Bool) (xs : List ℕ) → count_by p (map f xs) ≡ count_by (λ x. p (f x)) xs
count_mapped p f [] = refl
count_mapped p f (x ∷ xs) =
    sum_by-cons (λ y. cond (p y) 1 0) (f x) (map f xs)
    ∙ ap (λ (n : ℕ). cond (p (f x)) 1 0 + n) (count_mapped p f xs)
    ∙ sym (sum_by-cons (λ y. cond (p (f y)) 1 0) x xs)

-- the flags of some zones that say no
pub count_flags : (f : ℕ → Bool) (n from end : ℕ) → from ≤ end → end ≤ n
    → count_by not (slice_range (map f (range_with_len 0 n)) from end) ≡ count_by (λ z. not (f z)) (range_with_len from (end - from))
count_flags f n from end low high =
    let whole : n ≡ from + (n - from) = omega arith in
    ap (λ (m : ℕ). count_by not (slice_range (map f (range_with_len 0 m)) from end)) whole
    ∙ ap (λ (xs : List Bool). count_by not (take (end - from) xs)) (drop-map f from (range_with_len 0 (from + (n - from)))
    ∙ ap (map f) (drop_range 0 from (n - from) ∙ ap (λ (b : ℕ). range_with_len b (n - from)) (let e : 0 + from ≡ from = omega arith in e)))
    ∙ ap (count_by not) (take-map-range_with_len f from (n - from) (end - from) (omega arith))
    ∙ count_mapped not f (range_with_len from (end - from))

pub flags_size : (g : Shape) (t : Tables) (named : List Bool) → named ≡ named_flags g t → length named ≡ zone_count g
flags_size g t named flags = ap length flags ∙ length-map-range_with_len (has (named_zones t)) 0 (zone_count g)

-- the free zones are those whose flags say no
pub free_counted : (g : Shape) (t : Tables) (named : List Bool) (from end f e n : ℕ) → named ≡ named_flags g t → f ≡ from → e ≡ end
    → from ≤ end → end ≤ zone_count g → n ≡ count_by not (slice_range named f e) → n ≡ free_zones t from end
free_counted g t named from end f e n flags begins ends low high so =
    so ∙ ap₂ (λ (i j : ℕ). count_by not (slice_range named i j)) begins ends
    ∙ ap (λ (xs : List Bool). count_by not (slice_range xs from end)) flags
    ∙ count_flags (has (named_zones t)) (zone_count g) from end low high

module _ (g : Shape) (c : Choice) (bytes reported : List ℕ) (image : Image) (e : IsExamined g c bytes reported image)
    (status : VolumeStatus) (head : status.head ≡ c.head) (counts : CountsUse g c.head.layout (tables_in g c.head.layout bytes) status) where
  -- what is shown of a volume that was examined is that of the image
  pub shown_of : IsStatus image status
  shown_of = record {
    set = chosen_of c;
    well_formed = e.well_formed;
    head = head;
    counts = subst (λ (t : Tables). CountsUse image.geometry c.head.layout t status) (tables_of_set g c bytes reported image e)
        (subst (λ (h : Shape). CountsUse h c.head.layout (tables_in g c.head.layout bytes) status) e.geometry counts);
  }

-- there is a flag for each zone, and they are few
pub usable_size : (g : Shape) (c : Choice) (bytes reported : List ℕ) (named : List Bool) (flags : List Bool)
    → IsUsable g c bytes reported named → flags ≡ named → length flags ≡ zone_count g
usable_size g c bytes reported named flags usable are =
    ap length are ∙ flags_size g (tables_in g c.head.layout bytes) named usable.flags
