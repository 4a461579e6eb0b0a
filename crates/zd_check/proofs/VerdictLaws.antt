-- Each volume has one verdict.
use Rattle.std.proofs.Common.{◌≡◌, ◌⊎◌, ℕ, zero, suc, ◌+◌, ◌-◌, ◌<◌, ◌≤◌, List, Bool, true, false, Option, Some, None, refl, sym, ap, ◌∙◌, subst, inl, inr, arith}
use Rattle.std.proofs.lemmas.Bool.{cases_eq, cases_lt}
use Rattle.std.proofs.lemmas.Slice.Eq.{bytes_eq-Decides}
use Rattle.std.specs.Str.{bytes_eq}
use Rattle.zd_base.specs.declared.layout.Layout.{Layout}
use Rattle.zd_base.specs.Layout.{used_blocks}
use Rattle.zd_model.specs.Image.{Image, set_block}
use Rattle.zd_model.specs.Volume.{Chosen, IsWellFormed, good_super}
use Rattle.zd_model.specs.declared.metadata.Super.{Super as Head}
use Rattle.zd_sets.specs.Choice.{chosen_of}
use Rattle.zd_sets.specs.Equal.{InSet, IsMadeEqual, head_at}
use Rattle.zd_sets.specs.declared.choice.Chosen.{Chosen as Choice}
use Rattle.zd_sets.proofs.EqualLaws.{only_same}
use Rattle.zd_examine.specs.Examined.{ExplainsRefusal}
use Rattle.zd_examine.specs.Opened.{IsRefusal}
use Rattle.zd_examine.specs.declared.examining.OpenFault.{OpenFault}
use Rattle.zd_examine.specs.declared.examining.OpenFault.TheVariants.{NoSuperBlock, Layout as BadLayout, BadMap, BadBits, Device, Memory}
use Rattle.zd_examine.proofs.RefusalLaws.{refused_bits, refused_layout, refused_map, refused_none}
use Rattle.zd_check.specs.Verdicts.{DifferFirstIn, HaveSameBlocks, HaveSameSupers, IsVerdict, IsVerdictOf}
use Rattle.zd_check.specs.declared.comparing.Verdict.{Verdict}
use Rattle.zd_check.specs.declared.comparing.Verdict.TheVariants.{Same, Super, Block}

-- it holds, or it doesn't
abbrev Decided : Type 0 → Type 0
Decided P = P ⊎ (P → ⊥)

both : {P Q : Type 0} → Decided P → Decided Q → Decided (P × Q)
both (inl p) (inl q) = inl (p, q)
both (inl p) (inr none) = inr (λ pair. none pair.1)
both (inr none) q = inr (λ pair. none pair.0)

as_well : {P Q : Type 0} → (P → Q) → (Q → P) → Decided P → Decided Q
as_well there back (inl p) = inl (there p)
as_well there back (inr none) = inr (λ q. none (back q))

same_bytes : (xs ys : List ℕ) → Decided (xs ≡ ys)
same_bytes xs ys = by_test (bytes_eq xs ys) refl
  where
    by_test : (b : Bool) → bytes_eq xs ys ≡ b → Decided (xs ≡ ys)
    by_test true is = inl ((bytes_eq-Decides xs ys).0 is)
    by_test false is = inr (λ same. (let f : true ≡ false = sym ((bytes_eq-Decides xs ys).1 same) ∙ is in cc))

layouts_same : (a b : Layout) → a.meta_blocks ≡ b.meta_blocks → a.reserved ≡ b.reserved → a.chunks ≡ b.chunks
    → a.map_blocks ≡ b.map_blocks → a.bitmap_blocks ≡ b.bitmap_blocks → a ≡ b
layouts_same a b m r c p q =
    let e : record {
      meta_blocks = a.meta_blocks;
      reserved = a.reserved;
      chunks = a.chunks;
      map_blocks = a.map_blocks;
      bitmap_blocks = a.bitmap_blocks;
    } ≡ b = rw (m, r, c, p, q) refl in
    e

heads_same : (a b : Head) → a.version ≡ b.version → a.generation ≡ b.generation → a.own ≡ b.own → a.layout ≡ b.layout
    → a.label ≡ b.label → a.volume ≡ b.volume → a.device ≡ b.device → a ≡ b
heads_same a b v g o l t p q =
    let e : record {
      version = a.version;
      generation = a.generation;
      own = a.own;
      layout = a.layout;
      label = a.label;
      volume = a.volume;
      device = a.device;
    } ≡ b = rw (v, g, o, l, t, p, q) refl in
    e

same_layout : (a b : Layout) → Decided (a ≡ b)
same_layout a b =
    as_well (λ p. layouts_same a b p.0 p.1.0 p.1.1.0 p.1.1.1.0 p.1.1.1.1)
    (λ same. (
      ap (λ (l : Layout). l.meta_blocks) same,
      (
        ap (λ (l : Layout). l.reserved) same,
        (
          ap (λ (l : Layout). l.chunks) same,
          (ap (λ (l : Layout). l.map_blocks) same, ap (λ (l : Layout). l.bitmap_blocks) same),
        ),
      ),
    ))
    (both (cases_eq a.meta_blocks b.meta_blocks) (both (cases_eq a.reserved b.reserved) (both (cases_eq a.chunks b.chunks)
    (both (cases_eq a.map_blocks b.map_blocks) (cases_eq a.bitmap_blocks b.bitmap_blocks)))))

same_head : (a b : Head) → Decided (a ≡ b)
same_head a b =
    as_well (λ p. heads_same a b p.0 p.1.0 p.1.1.0 p.1.1.1.0 p.1.1.1.1.0 p.1.1.1.1.1.0 p.1.1.1.1.1.1)
    (λ same. (
      ap (λ (h : Head). h.version) same,
      (
        ap (λ (h : Head). h.generation) same,
        (
          ap (λ (h : Head). h.own) same,
          (
            ap (λ (h : Head). h.layout) same,
            (
              ap (λ (h : Head). h.label) same,
              (ap (λ (h : Head). h.volume) same, ap (λ (h : Head). h.device) same),
            ),
          ),
        ),
      ),
    ))
    (both (cases_eq a.version b.version) (both (cases_eq a.generation b.generation) (both (cases_eq a.own b.own)
    (both (same_layout a.layout b.layout) (both (same_bytes a.label b.label) (both (same_bytes a.volume b.volume)
    (same_bytes a.device b.device)))))))

is_head : (o : Option Head) (h : Head) → Decided (o ≡ Some h)
is_head None h = inr (λ e. cc)
is_head (Some s) h = as_well (ap Some) (λ e. cc) (same_head s h)

same_supers : (image : Image) (c : Chosen) → Decided (HaveSameSupers image c)
same_supers image c = is_head (good_super image c.other) (head_at image.geometry c.other c.head)

-- two sets have the same blocks, or there is a first one in which they differ
module _ (one other : ℕ → List ℕ) where
  later : (n k : ℕ) → DifferFirstIn one other n k → DifferFirstIn one other (n + 1) k
  later n k d = record { low = d.low; high = (let h = d.high in omega (arith, h)); differ = d.differ; before = d.before }

  with_next : (n : ℕ) → HaveSameBlocks one other n → (1 ≤ n → other n ≡ one n) → HaveSameBlocks one other (n + 1)
  with_next n same next k some below = elim (cases_lt k n) [
    | inl less ↦ same k some less
    | inr past ↦ (let e : n ≡ k = omega arith in
        subst (λ (x : ℕ). 1 ≤ x → other x ≡ one x) e next some)
  ]

  next_block : (n : ℕ) → HaveSameBlocks one other n
      → HaveSameBlocks one other (n + 1) ⊎ ((k : ℕ) × DifferFirstIn one other (n + 1) k)
  next_block zero same = inl (with_next 0 same (λ low. absurd (let none : ⊥ = omega arith in none)))
  next_block (suc m) same = elim (same_bytes (other (suc m)) (one (suc m))) [
    | inl next ↦ inl (with_next (suc m) same (λ low. next))
    | inr none ↦ inr (suc m, record { low = omega arith; high = omega arith; differ = none; before = same })
  ]

  blocks_compare : (n : ℕ) → HaveSameBlocks one other n ⊎ ((k : ℕ) × DifferFirstIn one other n k)
  blocks_compare zero = inl (λ k some below. absurd (let none : ⊥ = omega arith in none))
  blocks_compare (suc n) = subst (λ (m : ℕ). HaveSameBlocks one other m ⊎ ((k : ℕ) × DifferFirstIn one other m k))
      (let e : n + 1 ≡ suc n = omega arith in e) (elim (blocks_compare n) [
        | inl same ↦ next_block n same
        | inr d ↦ inr (d.0, later n d.0 d.1)
      ])

  one_first : (n j k : ℕ) → DifferFirstIn one other n j → DifferFirstIn one other n k → j < k → ⊥
  one_first n j k p q less = p.differ (q.before j p.low less)

  pub same_first : (n j k : ℕ) → DifferFirstIn one other n j → DifferFirstIn one other n k → j ≡ k
  same_first n j k p q = elim (cases_lt j k) [
    | inl less ↦ absurd (one_first n j k p q less)
    | inr more ↦ elim (cases_lt k j) [
      | inl less ↦ absurd (one_first n k j q p less)
      | inr same ↦ omega arith
    ]
  ]

verdict_of : (image : Image) (c : Chosen) → (v : Verdict) × IsVerdictOf image c v
verdict_of image c = elim (same_supers image c) [
  | inl same ↦ elim (blocks_compare (set_block image c.first) (set_block image c.other)
      (used_blocks image.geometry c.head.layout)) [
        | inl all ↦ (Same, (same, all))
        | inr d ↦ (Block d.0, (same, d.1))
      ]
  | inr none ↦ (Super (1 - c.set), (none, refl))
]

pub each_verdict : (image : Image) (c : Chosen) → IsWellFormed image c → (v : Verdict) × IsVerdict image v
each_verdict image c well =
    let found = verdict_of image c in
    (found.0, record { set = c; well_formed = well; compares = found.1 })

one_of : (image : Image) (c : Chosen) (v w : Verdict) → IsVerdictOf image c v → IsVerdictOf image c w → v ≡ w
one_of image c Same Same p q = refl
one_of image c Same (Super s) p q = absurd (q.0 p.0)
one_of image c Same (Block b) p q = absurd (q.1.differ (p.1 b q.1.low q.1.high))
one_of image c (Super s) Same p q = absurd (p.0 q.0)
one_of image c (Super s) (Super t) p q = ap Super (p.1 ∙ sym q.1)
one_of image c (Super s) (Block b) p q = absurd (p.0 q.0)
one_of image c (Block b) Same p q = absurd (p.1.differ (q.1 b p.1.low p.1.high))
one_of image c (Block b) (Super s) p q = absurd (q.0 p.0)
one_of image c (Block b) (Block d) p q =
    ap Block (same_first (set_block image c.first) (set_block image c.other)
    (used_blocks image.geometry c.head.layout) b d p.1 q.1)

some_is : (x y : Chosen) → ◌≡◌ {A = Option Chosen} (Some x) (Some y) → x ≡ y
some_is x y e = cc

pub one_verdict : (image : Image) (v w : Verdict) → IsVerdict image v → IsVerdict image w → v ≡ w
one_verdict image v w p q =
    let set : q.set ≡ p.set = some_is q.set p.set (sym q.well_formed.is_chosen ∙ p.well_formed.is_chosen) in
    one_of image p.set v w p.compares (subst (λ (c : Chosen). IsVerdictOf image c w) set q.compares)

pub none_refused : (image : Image) (fault : OpenFault) (v : Verdict) → IsRefusal fault → ExplainsRefusal fault image
    → IsVerdict image v → ⊥
none_refused image NoSuperBlock v refusal why is = refused_none image why (is.set, is.well_formed)
none_refused image BadLayout v refusal why is = refused_layout image why (is.set, is.well_formed)
none_refused image (BadMap chunk) v refusal why is = refused_map chunk image why (is.set, is.well_formed)
none_refused image (BadBits zone block) v refusal why is = refused_bits zone block image why (is.set, is.well_formed)
none_refused image Device v refusal why is = refusal
none_refused image Memory v refusal why is = refusal

module _ (image : Image) (c : Choice) where
  abbrev end : ℕ
  end = used_blocks image.geometry c.head.layout

  pub made_of : IsVerdictOf image (chosen_of c) Same → IsMadeEqual image.geometry c end image image
  made_of same = record {
    only = only_same (InSet image.geometry c.other 0 end) image;
    super = same.0;
    each = same.1;
    kept = λ k below. refl;
  }

  pub same_of : IsMadeEqual image.geometry c end image image → IsVerdictOf image (chosen_of c) Same
  same_of made = (made.super, made.each)
