-- What the class of a chunk says of the job that is possible there.
use Rattle.std.proofs.Common.{◌≡◌, ◌⊎◌, inl, inr, ℕ, ◌<◌, Bool, true, false, cond, List, Option, Some, None, refl, sym, ap, ◌∙◌, subst, arith}
use Rattle.std.proofs.lemmas.Bool.{ltb-true, lt-ltb, true≢false}
use Rattle.std.specs.Option.{is_some}
use Rattle.std.specs.Prelude.{nat_le, nat_lt, slice_index}
use Rattle.zd_base.specs.Geometry.{Shape}
use Rattle.zd_alloc.specs.declared.job_class.JobClass.{JobClass}
use Rattle.zd_alloc.specs.declared.job_class.JobClass.TheVariants as classes
use Rattle.zd_model.specs.Tables.{Tables, entry_of}
use Rattle.zd_model.specs.declared.metadata.MapEntry.{MapEntry}
use Rattle.zd_tables.specs.Held.{first_valid_block}
use Rattle.zd_volume.specs.Flights.{tables_now}
use Rattle.zd_volume.specs.Jobs.{class_alone, class_buffered, class_by, class_in}
use Rattle.zd_volume.specs.Volumes.{PlainVolume}
use Rattle.zd_volume.specs.declared.work.JobKind.{JobKind}
use Rattle.zd_volume.specs.declared.work.JobKind.TheVariants.{Empty, Move, Append, Merge}
use Rattle.zd_jobs.specs.Possible.{kind_alone, kind_buffered, kind_by, kind_on}
use Rattle.zd_reclaim.specs.Picks.{GivesConventional, IsOnConventional, kind_of_class}

-- the kind by the class
abbrev kind_with : Option JobClass → Bool → Option JobKind
kind_with None buffered = None
kind_with (Some class) buffered = Some (kind_of_class class buffered)

alone : (conventional : Bool) (first : Option ℕ)
    → kind_with (class_alone conventional first) false ≡ kind_alone conventional first
alone true None = refl
alone false None = refl
alone true (Some x) = refl
alone false (Some x) = refl

with_buffer : (first : Option ℕ) (pointer : ℕ)
    → kind_with (class_buffered first pointer) true ≡ Some (kind_buffered first pointer)
with_buffer None pointer = refl
with_buffer (Some x) pointer = by (nat_le pointer x)
  where
    by : (b : Bool)
        → kind_with (Some (cond b classes.Append classes.Merge)) true ≡ Some (cond b Append Merge)
    by true = refl
    by false = refl

module _ (g : Shape) (pointers : List ℕ) (t : Tables) where
  kind_by_class : (zone buffer : Option ℕ)
      → kind_with (class_by g pointers t zone buffer) (is_some buffer) ≡ kind_by g pointers t zone buffer
  kind_by_class None None = refl
  kind_by_class None (Some b) = refl
  kind_by_class (Some z) None = alone (nat_lt z g.conv) (first_valid_block g.zone_blocks t z)
  kind_by_class (Some z) (Some b) =
      with_buffer (first_valid_block g.zone_blocks t b) (slice_index pointers z)

pub some_same : {A : Type 0} (x y : A) → ◌≡◌ {A = Option A} (Some x) (Some y) → x ≡ y
some_same x y is = cc

no_class : (c : JobClass) → ◌≡◌ {A = Option JobClass} None (Some c) → ⊥
no_class c is = cc

-- back from a kind to the class
from_kind : (o : Option JobClass) (buffered : Bool) (kind : JobKind) → kind_with o buffered ≡ Some kind
    → (c : JobClass) × (o ≡ Some c) × (kind_of_class c buffered ≡ kind)
from_kind None buffered kind is = absurd (let f : ⊥ = cc in f)
from_kind (Some c) buffered kind is = (c, refl, some_same (kind_of_class c buffered) kind is)

merge_back : (c : JobClass) (buffered : Bool) → kind_of_class c buffered ≡ Merge → c ≡ classes.Merge
merge_back classes.Append true is = absurd (let f : ⊥ = cc in f)
merge_back classes.Append false is = absurd (let f : ⊥ = cc in f)
merge_back classes.Move buffered is = absurd (let f : ⊥ = cc in f)
merge_back classes.Merge buffered is = refl
merge_back classes.Empty buffered is = absurd (let f : ⊥ = cc in f)

empty_back : (c : JobClass) (buffered : Bool) → kind_of_class c buffered ≡ Empty
    → (c ≡ classes.Append) ⊎ (c ≡ classes.Empty)
empty_back classes.Append buffered is = inl refl
empty_back classes.Move buffered is = absurd (let f : ⊥ = cc in f)
empty_back classes.Merge buffered is = absurd (let f : ⊥ = cc in f)
empty_back classes.Empty buffered is = inr refl

-- alone in its zone, a chunk is of the first class on a conventional one alone, and an Empty's on a sequential one
append_alone : (conventional : Bool) (first : Option ℕ) → class_alone conventional first ≡ Some classes.Append
    → conventional ≡ true
append_alone true first is = refl
append_alone false None is = absurd (let f : ⊥ = cc in f)
append_alone false (Some x) is = absurd (let f : ⊥ = cc in f)

empty_alone : (conventional : Bool) (first : Option ℕ) → class_alone conventional first ≡ Some classes.Empty
    → conventional ≡ false
empty_alone true None is = absurd (let f : ⊥ = cc in f)
empty_alone true (Some x) is = absurd (let f : ⊥ = cc in f)
empty_alone false first is = refl

empty_buffered : (first : Option ℕ) (pointer : ℕ) → class_buffered first pointer ≡ Some classes.Empty → ⊥
empty_buffered None pointer is = cc
empty_buffered (Some x) pointer is = by (nat_le pointer x) is
  where
    by : (b : Bool) → Some (cond b classes.Append classes.Merge) ≡ Some classes.Empty → ⊥
    by true is = cc
    by false is = cc

module _ (v : PlainVolume) (chunk : ℕ) where
  abbrev e : MapEntry
  e = entry_of (tables_now v) chunk

  abbrev class : Option JobClass
  class = class_in v.geometry v.pointers (tables_now v) chunk

  abbrev class_with : Option ℕ → Option ℕ → Option JobClass
  class_with zone buffer = class_by v.geometry v.pointers (tables_now v) zone buffer

  kind_is : kind_with class (is_some e.buffer) ≡ kind_on v chunk
  kind_is = kind_by_class v.geometry v.pointers (tables_now v) e.zone e.buffer

  -- A CLASS tells the kind
  pub class_kind : (c : JobClass) → class_in v.geometry v.pointers (tables_now v) chunk ≡ Some c
      → kind_on v chunk ≡ Some (kind_of_class c (is_some (entry_of (tables_now v) chunk).buffer))
  class_kind c is = sym kind_is ∙ ap (λ (o : Option JobClass). kind_with o (is_some e.buffer)) is

  -- and without one there is no job
  pub no_kind : class_in v.geometry v.pointers (tables_now v) chunk ≡ None → kind_on v chunk ≡ None
  no_kind is = sym kind_is ∙ ap (λ (o : Option JobClass). kind_with o (is_some e.buffer)) is

  -- THE ZONE of a chunk of the first class that isn't buffered
  append_on : (zone buffer : Option ℕ) → e.zone ≡ zone → e.buffer ≡ buffer
      → class_with zone buffer ≡ Some classes.Append → is_some buffer ≡ false → IsOnConventional v chunk
  append_on None buffer zone is given none = absurd (no_class classes.Append given)
  append_on (Some z) (Some b) zone is given none = absurd (true≢false none)
  append_on (Some z) None zone is given none = (
    z,
    zone,
    ltb-true z v.geometry.conv
        (append_alone (nat_lt z v.geometry.conv) (first_valid_block v.geometry.zone_blocks (tables_now v) z) given),
  )

  -- that of an Empty's isn't conventional
  empty_off : (zone buffer : Option ℕ) → e.zone ≡ zone → class_with zone buffer ≡ Some classes.Empty
      → IsOnConventional v chunk → ⊥
  empty_off None buffer zone given on = no_class classes.Empty given
  empty_off (Some z) (Some b) zone given on =
      empty_buffered (first_valid_block v.geometry.zone_blocks (tables_now v) b) (slice_index v.pointers z) given
  empty_off (Some z) None zone given on =
      let same : z ≡ on.0 = some_same z on.0 (sym zone ∙ on.1) in
      let low : z < v.geometry.conv = (let less = on.2 in omega (arith, same, less)) in
      true≢false (sym (lt-ltb z v.geometry.conv low)
      ∙ empty_alone (nat_lt z v.geometry.conv) (first_valid_block v.geometry.zone_blocks (tables_now v) z) given)

  -- THE FIRST CLASS gives a conventional zone back
  pub append_gives : class_in v.geometry v.pointers (tables_now v) chunk ≡ Some classes.Append
      → GivesConventional v
      (kind_of_class classes.Append (is_some (entry_of (tables_now v) chunk).buffer)) chunk
  append_gives given = by (is_some e.buffer) refl
    where
      by : (b : Bool) → is_some e.buffer ≡ b → GivesConventional v (kind_of_class classes.Append b) chunk
      by true is = tt
      by false is = append_on e.zone e.buffer refl refl given is

  -- WHAT GIVES A CONVENTIONAL ZONE BACK is of the first class, or is a Move
  pub giving_class : (kind : JobKind) → kind_on v chunk ≡ Some kind → GivesConventional v kind chunk
      → (class_in v.geometry v.pointers (tables_now v) chunk ≡ Some classes.Append)
      ⊎ ((kind ≡ Move) × (class_in v.geometry v.pointers (tables_now v) chunk ≡ Some classes.Move))
  giving_class kind is gives =
      let back = from_kind class (is_some e.buffer) kind (kind_is ∙ is) in
      by back.0 back.1 back.2
    where
      by : (c : JobClass) → class ≡ Some c → kind_of_class c (is_some e.buffer) ≡ kind
          → (class ≡ Some classes.Append) ⊎ ((kind ≡ Move) × (class ≡ Some classes.Move))
      by classes.Append at is = inl at
      by classes.Move at is = inr (sym is, at)
      by classes.Merge at is = absurd (subst (λ (k : JobKind). GivesConventional v k chunk) (sym is) gives)
      by classes.Empty at is = absurd (empty_off e.zone e.buffer refl at
          (subst (λ (k : JobKind). GivesConventional v k chunk) (sym is) gives))

  -- A MERGE is of its class
  pub merge_class : kind_on v chunk ≡ Some Merge
      → class_in v.geometry v.pointers (tables_now v) chunk ≡ Some classes.Merge
  merge_class is =
      let back = from_kind class (is_some e.buffer) Merge (kind_is ∙ is) in
      back.1 ∙ ap (λ (c : JobClass). Some c) (merge_back back.0 (is_some e.buffer) back.2)

  -- AN EMPTY is of its class, or of the first
  pub empty_class : kind_on v chunk ≡ Some Empty
      → (class_in v.geometry v.pointers (tables_now v) chunk ≡ Some classes.Append)
      ⊎ (class_in v.geometry v.pointers (tables_now v) chunk ≡ Some classes.Empty)
  empty_class is =
      let back = from_kind class (is_some e.buffer) Empty (kind_is ∙ is) in
      elim (empty_back back.0 (is_some e.buffer) back.2) [
        | inl one ↦ inl (back.1 ∙ ap (λ (c : JobClass). Some c) one)
        | inr other ↦ inr (back.1 ∙ ap (λ (c : JobClass). Some c) other)
      ]
