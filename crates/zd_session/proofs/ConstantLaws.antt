-- The constant of a session is read back.
use Rattle.std.proofs.Common.{◌≡◌, ℕ, zero, suc, ◌+◌, List, [], ◌∷◌, ◌++◌, length, map, take, drop, get_or, Option, Some, None, refl, sym, ap, ap₂, ◌∙◌, arith}
use Rattle.std.proofs.Math.Seq.{drop-append_seam, take-append_seam}
use Rattle.std.proofs.lemmas.List.{length-append}
use Rattle.std.specs.List.{concat}
use Rattle.std.specs.Prelude.{is_some}
use Rattle.zd_base.specs.Geometry.{Shape}
use Rattle.zd_base.specs.declared.layout.Layout.{Layout}
use Rattle.zd_disk.specs.View.{View}
use Rattle.zd_model.specs.Image.{Image}
use Rattle.zd_model.specs.Safe.{base_at}
use Rattle.zd_model.specs.declared.requests.Request.{Request}
use Rattle.zd_model.specs.declared.requests.What.{What}
use Rattle.zd_model.specs.declared.requests.What.TheVariants.{Read, Write, Discard, Flush, ReadSectors, WriteSectors}
use Rattle.zd_session.specs.Constants.{IsSameSession, IsToldAlike, constant_of, opened_lines, request_line, told_number, what_line}
use Rattle.zd_session.specs.Sessions.{SessionView}

-- LISTS are parted where their fronts, or their ends, are of one length
module _ {A : Type 0} where
  abbrev Parted : List A → List A → List A → List A → Type 0
  Parted xs ys t u = (xs ≡ ys) × (t ≡ u)

  same_fronts : (xs ys t u : List A) → length xs ≡ length ys → xs ++ t ≡ ys ++ u → Parted xs ys t u
  same_fronts xs ys t u size is = (
    sym (take-append_seam xs t) ∙ (ap₂ (λ (n : ℕ) (l : List A). take n l) size is ∙ take-append_seam ys u),
    sym (drop-append_seam xs t) ∙ (ap₂ (λ (n : ℕ) (l : List A). drop n l) size is ∙ drop-append_seam ys u),
  )

  same_ends : (xs ys t u : List A) → length t ≡ length u → xs ++ t ≡ ys ++ u → Parted xs ys t u
  same_ends xs ys t u size is =
      let all : length xs + length t ≡ length ys + length u =
      sym (length-append xs t) ∙ (ap (λ (l : List A). length l) is ∙ length-append ys u) in
      same_fronts xs ys t u (omega (arith, all, size)) is

-- lists of bytes are those whose bytes, together, and lengths are the same
abbrev lengths : List (List ℕ) → List ℕ
lengths xs = map (λ (x : List ℕ). length x) xs

same_parts : (xs ys : List (List ℕ)) → lengths xs ≡ lengths ys → concat xs ≡ concat ys → xs ≡ ys
same_parts [] [] sizes bytes = refl
same_parts [] (y ∷ ys) sizes bytes = absurd (let n = ap (λ (l : List ℕ). length l) sizes in omega (arith, n))
same_parts (x ∷ xs) [] sizes bytes = absurd (let n = ap (λ (l : List ℕ). length l) sizes in omega (arith, n))
same_parts (x ∷ xs) (y ∷ ys) sizes bytes =
    let both = same_fronts x y (concat xs) (concat ys) (ap (λ (l : List ℕ). get_or l 0 0) sizes) bytes in
    ap₂ (λ (z : List ℕ) (zs : List (List ℕ)). z ∷ zs) both.0
    (same_parts xs ys (ap (λ (l : List ℕ). drop 1 l) sizes) both.1)

-- A REQUEST is read back from its list
what_by : ℕ → ℕ → ℕ → ℕ → What
what_by zero place count seed = Read place count
what_by (suc zero) place count seed = Write place count seed
what_by (suc (suc zero)) place count seed = Discard place count
what_by (suc (suc (suc zero))) place count seed = Flush
what_by (suc (suc (suc (suc zero)))) place count seed = ReadSectors place count
what_by (suc (suc (suc (suc (suc kind))))) place count seed = WriteSectors place count seed

abbrev number_at : List ℕ → ℕ → ℕ
number_at line i = get_or line i 0

request_from : List ℕ → Request
request_from line = record {
  caller = number_at line 0;
  what = what_by (number_at line 1) (number_at line 2) (number_at line 3) (number_at line 4);
}

what_back : (caller : ℕ) (what : What) → request_from (caller ∷ what_line what) ≡ record { caller = caller; what = what }
unfolding request_from what_by
what_back caller (Read block count) = refl
what_back caller (Write block count seed) = refl
what_back caller (Discard block count) = refl
what_back caller Flush = refl
what_back caller (ReadSectors sector count) = refl
what_back caller (WriteSectors sector count seed) = refl

plan_back : (plan : List Request) → map request_from (map request_line plan) ≡ plan
plan_back [] = refl
plan_back (r ∷ plan) = ap₂ (λ (q : Request) (rest : List Request). q ∷ rest) (what_back r.caller r.what) (plan_back plan)

one_plan : (p q : List Request) → map request_line p ≡ map request_line q → p ≡ q
one_plan p q is = sym (plan_back p) ∙ (ap (λ (l : List (List ℕ)). map request_from l) is ∙ plan_back q)

-- whether a disk told its zones
told_alike : (a b : Option Image) → told_number a ≡ told_number b → is_some a ≡ is_some b
told_alike None None is = refl
told_alike None (Some image) is = absurd (omega (arith, is))
told_alike (Some image) None is = absurd (omega (arith, is))
told_alike (Some image) (Some other) is = refl

-- THE FIXED LISTS
module _ (g h : Shape) (l m : Layout) (n k : ℕ) (u v : View)
    (is : opened_lines h m k v ≡ opened_lines g l n u) where
  line : (i : ℕ) → get_or (opened_lines h m k v) i [] ≡ get_or (opened_lines g l n u) i []
  line i = ap (λ (lines : List (List ℕ)). get_or lines i []) is

  number : (i j : ℕ) → number_at (get_or (opened_lines h m k v) i []) j ≡ number_at (get_or (opened_lines g l n u) i []) j
  number i j = ap (λ (numbers : List ℕ). number_at numbers j) (line i)

  abbrev shape_with : ℕ → ℕ → ℕ → Shape
  shape_with zone_blocks conv seq = record { zone_blocks = zone_blocks; conv = conv; seq = seq }

  same_shape : h ≡ g
  same_shape = ap₂ (λ (z : ℕ) (zones : List ℕ). shape_with z (number_at zones 0) (number_at zones 1)) (number 1 0) (line 4)

  abbrev layout_with : List ℕ → Layout
  layout_with numbers = record {
    meta_blocks = number_at numbers 2;
    reserved = number_at numbers 3;
    chunks = number_at numbers 4;
    map_blocks = number_at numbers 5;
    bitmap_blocks = number_at numbers 6;
  }

  same_layout : m ≡ l
  same_layout = ap layout_with (line 4)

  same_generation : k ≡ n
  same_generation = number 2 2

  same_told : IsToldAlike u v
  same_told = record {
    base = same_parts (base_at v.zones) (base_at u.zones) (line 5) (line 0);
    told = told_alike v.zones u.zones (number 3 0);
    calls = number 2 1;
    faults = number 2 0;
  }

-- SESSIONS WITH ONE CONSTANT
module _ {D : Type 0} (look : D → View) (s t : SessionView D) (is : constant_of look t ≡ constant_of look s) where
  abbrev lines_of : SessionView D → List (List ℕ)
  lines_of x = opened_lines x.volume.plain.geometry x.volume.plain.head.layout x.volume.plain.opening_generation
      (look x.volume.opening)

  parts : (map request_line t.plan ≡ map request_line s.plan) × (lines_of t ≡ lines_of s)
  parts = same_ends (map request_line t.plan) (map request_line s.plan) (lines_of t) (lines_of s) refl
      (ap (λ (lines : List (List ℕ)). drop 1 lines) is)

  pub one_session : IsSameSession look s t
  one_session = record {
    actors = ap (λ (lines : List (List ℕ)). number_at (get_or lines 0 []) 0) is;
    plan = one_plan t.plan s.plan parts.0;
    geometry = same_shape s.volume.plain.geometry t.volume.plain.geometry s.volume.plain.head.layout
        t.volume.plain.head.layout s.volume.plain.opening_generation t.volume.plain.opening_generation
        (look s.volume.opening) (look t.volume.opening) parts.1;
    layout = same_layout s.volume.plain.geometry t.volume.plain.geometry s.volume.plain.head.layout
        t.volume.plain.head.layout s.volume.plain.opening_generation t.volume.plain.opening_generation
        (look s.volume.opening) (look t.volume.opening) parts.1;
    generation = same_generation s.volume.plain.geometry t.volume.plain.geometry s.volume.plain.head.layout
        t.volume.plain.head.layout s.volume.plain.opening_generation t.volume.plain.opening_generation
        (look s.volume.opening) (look t.volume.opening) parts.1;
    opening = same_told s.volume.plain.geometry t.volume.plain.geometry s.volume.plain.head.layout
        t.volume.plain.head.layout s.volume.plain.opening_generation t.volume.plain.opening_generation
        (look s.volume.opening) (look t.volume.opening) parts.1;
  }
