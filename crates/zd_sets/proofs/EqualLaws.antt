-- Steps by which a set becomes equal to another, one after another.
use Rattle.std.proofs.Common.{◌≡◌, ◌≢◌, Option, Some, None, Result, Ok, Err, OnOk, ℕ, ◌+◌, ◌*◌, ◌/◌, ◌%◌, ◌<◌, ◌≤◌, List, ◌++◌, length, take, is_some, inl, inr, Bool, true, false, cond, replicate, refl, sym, ap, ap₂, ◌∙◌, subst, arith}
use Rattle.std.proofs.lemmas.Bool.{cases_eq, cases_lt, eq-eqb}
use Rattle.std.proofs.lemmas.List.{length-replicate, take_all}
use Rattle.std.proofs.Math.Seq.{take-append_seam}
use Rattle.std.proofs.Math.Nat.{mul-le-mul_left, zero-div, zero-mod}
use Rattle.zd_base.specs.Geometry.{Shape}
use Rattle.zd_base.specs.Layout.{Fits, set_zones, used_blocks}
use Rattle.zd_base.specs.declared.layout.Layout.{Layout}
use Rattle.zd_model.specs.Image.{Image, IsImage, Same, block_at, run_of, set_block}
use Rattle.zd_model.specs.Bytes.{zero_sector}
use Rattle.zd_model.specs.Super.{HasBlock, block_of, decoded}
use Rattle.zd_model.specs.Volume.{good_super, if_own}
use Rattle.zd_model.specs.declared.metadata.Super.{Super}
use Rattle.zd_model.proofs.SectorLaws.{length-zero_sector}
use Rattle.zd_model.proofs.Decoded.{decodes}
use Rattle.zd_model.proofs.EventLaws.{SameZone-refl, SameZone-trans}
use Rattle.zd_model.proofs.SuperSpelling.{spells}
use Rattle.zd_model.proofs.SameLaws.{same_block, same_run}
use Rattle.zd_disk.specs.Steps.{Wrote, count_of, piece}
use Rattle.zd_sets.specs.Blocks.{AreBlocks, blocks_of}
use Rattle.zd_sets.specs.Choice.{IsPlacedChoice}
use Rattle.zd_sets.specs.declared.choice.Chosen.{Chosen as Choice}
use Rattle.zd_sets.specs.Equal.{HasSetBlocks, HasSuper, InSet, IsCleared, IsMadeEqual, IsReady, OnlyAt, head_at}
use Rattle.zd_sets.specs.Writes.{WroteBlock}

pub only_same : (P : ℕ → ℕ → Type 0) (a : Image) → OnlyAt P a a
only_same P a = record {
  geometry = refl;
  sequential = λ z conv. SameZone-refl a z;
  elsewhere = λ z x conv inside other. refl;
}

pub only_more : (P Q : ℕ → ℕ → Type 0) (a b : Image) → ((z x : ℕ) → P z x → Q z x) → OnlyAt P a b → OnlyAt Q a b
only_more P Q a b f h = record {
  geometry = h.geometry;
  sequential = h.sequential;
  elsewhere = λ z x conv inside other. h.elsewhere z x conv inside (λ p. other (f z x p));
}

pub only_then : (P : ℕ → ℕ → Type 0) (a b c : Image) → OnlyAt P a b → OnlyAt P b c → OnlyAt P a c
only_then P a b c h k =
    let conv = ap (λ (g : Shape). g.conv) h.geometry in
    let size = ap (λ (g : Shape). g.zone_blocks) h.geometry in
    record {
      geometry = k.geometry ∙ h.geometry;
      sequential = λ z above. SameZone-trans a b c z (h.sequential z above) (k.sequential z (omega (arith, conv)));
      elsewhere = λ z x low inside other. k.elsewhere z x (omega (arith, conv)) (omega (arith, size)) other
          ∙ h.elsewhere z x low inside other;
    }

-- a flush changes no block
pub same_only : (P : ℕ → ℕ → Type 0) (a b : Image) → IsImage a → Same a b → OnlyAt P a b
same_only P a b image same = record {
  geometry = same.geometry;
  sequential = λ z above. same.zones z;
  elsewhere = λ z x low inside other. same_block a b image same z x low inside;
}

-- a write of at most a block changes that block alone
module _ (old new : Image) (image : IsImage old) (zone x n : ℕ) (bytes : List ℕ) (low : zone < old.geometry.conv)
    (inside : x < old.geometry.zone_blocks) (size : length bytes ≡ 512 * n) (few : n ≤ 8)
    (w : Wrote zone (8 * x) bytes old new) where
  count : count_of bytes ≡ n
  count = omega arith

  in_zone : (k : ℕ) → k < old.geometry.zone_blocks → k ≢ x → block_at new zone k ≡ block_at old zone k
  in_zone k block other =
      let full = image.conventional zone low in
      same_run (new.sector zone) (old.sector zone) (8 * k) 8
      (λ i from below. elim (cases_lt k x) [
        | inl before ↦ w.zone.before i (omega arith) (omega arith)
        | inr behind ↦ w.zone.behind i (omega (arith, count)) (omega arith)
      ])

  pub wrote_only : OnlyAt (λ z k. (z ≡ zone) × (k ≡ x)) old new
  wrote_only = record {
    geometry = w.geometry;
    sequential = λ z above. w.others z (omega arith);
    elsewhere = λ z k conv block other. elim (cases_eq z zone) [
      | inl here ↦ subst (λ (y : ℕ). block_at new y k ≡ block_at old y k) (sym here)
          (in_zone k block (λ e. other (here, e)))
      | inr there ↦ let full = image.conventional z conv in
          same_run (new.sector z) (old.sector z) (8 * k) 8 (λ i from below. (w.others z there).sectors i (omega arith))
    ];
  }

-- blocks of a set at one place are one
pub same_place : (n k i : ℕ) → 0 < n → k / n ≡ i / n → k % n ≡ i % n → k ≡ i
same_place n k i some quotient rest = let e = ap (λ (q : ℕ). n * q) quotient in omega arith

-- a block of a set that isn't at such a place stays
pub set_still : (g : Shape) (first : ℕ) (At : ℕ → ℕ → Type 0) (b c : Image) → 0 < g.zone_blocks → b.geometry ≡ g → OnlyAt At b c
    → (k : ℕ) → first + k / g.zone_blocks < g.conv → (At (first + k / g.zone_blocks) (k % g.zone_blocks) → ⊥)
    → set_block c first k ≡ set_block b first k
set_still g first At b c some shape only k conv other =
    let place : (j : Image) → j.geometry ≡ g → set_block j first k ≡ block_at j (first + k / g.zone_blocks) (k % g.zone_blocks)
    = λ (j : Image) (e : j.geometry ≡ g). ap (λ (s : Shape). block_at j (first + k / s.zone_blocks) (k % s.zone_blocks)) e in
    let size = ap (λ (s : Shape). s.zone_blocks) shape in
    let count = ap (λ (s : Shape). s.conv) shape in
    place c (only.geometry ∙ shape)
    ∙ only.elsewhere (first + k / g.zone_blocks) (k % g.zone_blocks) (omega (arith, count)) (omega (arith, size)) other
    ∙ sym (place b shape)

module _ (g : Shape) (first : ℕ) (some : 0 < g.zone_blocks) where
  -- another block of the set isn't at the place of block i
  apart : (i k : ℕ) → k ≢ i → InSet g first i (i + 1) (first + k / g.zone_blocks) (k % g.zone_blocks) → ⊥
  apart i k other at =
      let one : at.0 ≡ i = omega (arith, at.1, at.2) in
      other (same_place g.zone_blocks k at.0 some (omega (arith, at.3)) at.4 ∙ one)

  -- blocks are copied, and then those after them
  pub copied_then : (from m end : ℕ) (bytes : List ℕ) (a b c : Image) → a.geometry ≡ g → from ≤ m → m ≤ end
      → ((k : ℕ) → k < m → first + k / g.zone_blocks < g.conv)
      → HasSetBlocks g first from m bytes a b → HasSetBlocks g first m end bytes b c
      → HasSetBlocks g first from end bytes a c
  copied_then from m end bytes a b c shape low high inside h k = record {
    only = only_then (InSet g first from end) a b c
        (only_more (InSet g first from m) (InSet g first from end) a b (λ z x p. (p.0, p.1, omega (arith, p.2, high), p.3, p.4)) h.only)
        (only_more (InSet g first m end) (InSet g first from end) b c (λ z x p. (p.0, omega (arith, p.1, low), p.2, p.3, p.4)) k.only);
    each = λ j above below. elim (cases_lt j m) [
      | inl before ↦ set_still g first (InSet g first m end) b c some (h.only.geometry ∙ shape) k.only j (inside j before)
          (λ at. absurd (omega (arith, before, at.1, same_place g.zone_blocks j at.0 some (omega (arith, at.3)) at.4)))
          ∙ h.each j above before
      | inr past ↦ k.each j past below
    ];
  }

-- a block that is written is there, alone
pub wrote_has : (g : Shape) (first i : ℕ) (bytes : List ℕ) (old new : Image) → old.geometry ≡ g → IsImage old
    → 0 < g.zone_blocks → first + i / g.zone_blocks < g.conv → length (blocks_of bytes i 1) ≡ 4096
    → WroteBlock (first + i / g.zone_blocks) (i % g.zone_blocks) (blocks_of bytes i 1) old new
    → HasSetBlocks g first i (i + 1) bytes old new
wrote_has g first i bytes old new shape image some inside size w =
    let conv = ap (λ (s : Shape). s.conv) shape in
    let blocks = ap (λ (s : Shape). s.zone_blocks) shape in
    record {
      only = only_more (λ z k. (z ≡ first + i / g.zone_blocks) × (k ≡ i % g.zone_blocks)) (InSet g first i (i + 1)) old new
          (λ z k p. (i, omega arith, omega arith, p.0, p.1))
          (wrote_only old new image (first + i / g.zone_blocks) (i % g.zone_blocks) 8 (blocks_of bytes i 1) (omega (arith, conv))
          (omega (arith, blocks)) size (omega arith) w.wrote);
      each = λ k above below. subst (λ (n : ℕ). set_block new first n ≡ blocks_of bytes n 1) (let e : i ≡ k = omega arith in e)
          (ap (λ (s : Shape). block_at new (first + i / s.zone_blocks) (i % s.zone_blocks)) (w.wrote.geometry ∙ shape) ∙ w.put);
    }

-- a block that stands there already need not be written
pub stands_there : (g : Shape) (first i : ℕ) (bytes : List ℕ) (image : Image) → set_block image first i ≡ blocks_of bytes i 1
    → HasSetBlocks g first i (i + 1) bytes image image
stands_there g first i bytes image is = record {
  only = only_same (InSet g first i (i + 1)) image;
  each = λ k above below. subst (λ (n : ℕ). set_block image first n ≡ blocks_of bytes n 1) (let e : i ≡ k = omega arith in e) is;
}

pub copied_none : (g : Shape) (first from : ℕ) (bytes : List ℕ) (a : Image) → HasSetBlocks g first from from bytes a a
copied_none g first from bytes a = record {
  only = only_same (InSet g first from from) a;
  each = λ k above below. absurd (omega arith);
}

pub ok_anyway : {T E P : Type 0} (r : Result T E) → P → OnOk r P
ok_anyway (Ok x) p = p
ok_anyway (Err e) p = tt

-- a flush leaves blocks that were written
module _ (g : Shape) (first : ℕ) (some : 0 < g.zone_blocks) (a b c : Image) (shape : a.geometry ≡ g) (image : IsImage b)
    (same : Same b c) where
  still : b.geometry ≡ g → (k : ℕ) → first + k / g.zone_blocks < g.conv → set_block c first k ≡ set_block b first k
  still here k conv = set_still g first (λ _ _. ⊥) b c some here (same_only (λ _ _. ⊥) b c image same) k conv (λ none. none)

  pub blocks_stay : (from end : ℕ) (bytes : List ℕ) → ((k : ℕ) → k < end → first + k / g.zone_blocks < g.conv)
      → HasSetBlocks g first from end bytes a b → HasSetBlocks g first from end bytes a c
  blocks_stay from end bytes inside h = record {
    only = only_then (InSet g first from end) a b c h.only (same_only (InSet g first from end) b c image same);
    each = λ k above below. still (h.only.geometry ∙ shape) k (inside k below) ∙ h.each k above below;
  }

-- the first block of a set stands at its beginning
pub first_block : (image : Image) (zone : ℕ) → set_block image zone 0 ≡ block_at image zone 0
first_block image zone =
    let n = image.geometry.zone_blocks in
    let at : zone + 0 / n ≡ zone = (let none = zero-div n in omega (arith, none)) in
    ap₂ (λ (z x : ℕ). block_at image z x) at (zero-mod n)

-- the super block of a head is good at its own number
pub good_at : (image : Image) (zone : ℕ) (s : Super) → set_block image zone 0 ≡ block_of s → HasBlock s
    → s.own ≡ zone * image.geometry.zone_blocks → good_super image zone ≡ Some s
good_at image zone s is sizes own =
    ap (λ (block : List ℕ). if_own (zone * image.geometry.zone_blocks) (decoded block)) (sym (first_block image zone) ∙ is)
    ∙ ap (if_own (zone * image.geometry.zone_blocks)) (decodes (block_of s) s (spells s sizes))
    ∙ ap (λ (b : Bool). cond b (Some s) None) (eq-eqb s.own (zone * image.geometry.zone_blocks) own)

-- the place of the first block of a set
pub at_front : (g : Shape) (zone z k : ℕ) → (z ≡ zone) × (k ≡ 0) → InSet g zone 0 1 z k
at_front g zone z k p =
    let none = zero-div g.zone_blocks in
    (0, omega arith, omega arith, omega (arith, p.0, none), p.1 ∙ sym (zero-mod g.zone_blocks))

pub zero_piece : piece (replicate 512 0) 0 ≡ zero_sector
unfolding zero_sector
zero_piece = take_all 512 (replicate {A = ℕ} 512 0) (omega (arith, length-replicate {A = ℕ} 512 0))

pub front_sector : (image : Image) (zone : ℕ) → image.sector zone 0 ≡ zero_sector → take 512 (block_at image zone 0) ≡ zero_sector
front_sector image zone e =
    let size = length-zero_sector in
    ap (λ (s : List ℕ). take 512 (s ++ run_of (image.sector zone) 1 7)) e
    ∙ ap (λ (n : ℕ). take n (zero_sector ++ run_of (image.sector zone) 1 7)) (sym size)
    ∙ take-append_seam zero_sector (run_of (image.sector zone) 1 7)

-- the first sector is zeros, and a flush leaves it so
pub cleared : (g : Shape) (zone : ℕ) (good : Bool) (a b c : Image) → a.geometry ≡ g → IsImage a → IsImage b → zone < g.conv
    → 0 < g.zone_blocks → good ≡ false → Wrote zone 0 (replicate 512 0) a b → Same b c → IsCleared g zone good a c
cleared g zone good a b c shape first image low some bad w same =
    let conv = ap (λ (s : Shape). s.conv) shape in
    let size = ap (λ (s : Shape). s.zone_blocks) shape in
    let count = length-replicate {A = ℕ} 512 0 in
    let full = image.conventional zone (let here = ap (λ (s : Shape). s.conv) w.geometry in omega (arith, conv, here)) in
    let blocks = ap (λ (s : Shape). s.zone_blocks) w.geometry in
    record {
      only = only_then (InSet g zone 0 1) a b c
          (only_more (λ z k. (z ≡ zone) × (k ≡ 0)) (InSet g zone 0 1) a b (at_front g zone)
          (wrote_only a b first zone 0 1 (replicate 512 0) (omega (arith, conv)) (omega (arith, size)) (omega (arith, count)) (omega arith) w))
          (same_only (InSet g zone 0 1) b c image same);
      zeros = λ e. front_sector c zone ((same.zones zone).sectors 0 (omega (arith, full, blocks, size)) ∙ w.zone.put 0 (omega (arith, count)) ∙ zero_piece);
      same = λ e. absurd (let f : true ≡ false = sym e ∙ bad in cc);
    }

-- a super block that is written is good, and a flush leaves it so
pub super_put : (g : Shape) (zone : ℕ) (head : Super) (a b c : Image) → a.geometry ≡ g → IsImage a → IsImage b → zone < g.conv
    → 0 < g.zone_blocks → HasBlock (head_at g zone head) → WroteBlock zone 0 (block_of (head_at g zone head)) a b → Same b c
    → HasSuper g zone head a c
super_put g zone head a b c shape first image low some sizes w same =
    let conv = ap (λ (s : Shape). s.conv) shape in
    let size = ap (λ (s : Shape). s.zone_blocks) shape in
    let block : List ℕ = block_of (head_at g zone head) in
    let here = w.wrote.geometry ∙ shape in
    let there = ap (λ (s : Shape). s.conv) here in
    let blocks = ap (λ (s : Shape). s.zone_blocks) here in
    record {
      only = only_then (InSet g zone 0 1) a b c
          (only_more (λ z k. (z ≡ zone) × (k ≡ 0)) (InSet g zone 0 1) a b (at_front g zone)
          (wrote_only a b first zone 0 8 block (omega (arith, conv)) (omega (arith, size)) (spells (head_at g zone head) sizes).bytes.count (omega arith) w.wrote))
          (same_only (InSet g zone 0 1) b c image same);
      super = good_at c zone (head_at g zone head)
          (first_block c zone ∙ same_block b c image same zone 0 (omega (arith, there)) (omega (arith, blocks)) ∙ w.put)
          sizes (ap (λ (s : Shape). zone * s.zone_blocks) (sym (same.geometry ∙ here)));
    }

pub same_good : (a b : Image) (zone : ℕ) → b.geometry ≡ a.geometry → block_at b zone 0 ≡ block_at a zone 0
    → good_super b zone ≡ good_super a zone
same_good a b zone geometry block =
    ap₂ (λ (n : ℕ) (bytes : List ℕ). if_own (zone * n) (decoded bytes)) (ap (λ (s : Shape). s.zone_blocks) geometry) block

-- a used block lies in the zones of its set
pub in_zones : (g : Shape) (l : Layout) → Fits g l → 0 < g.zone_blocks → (k : ℕ) → k < used_blocks g l → k / g.zone_blocks < set_zones g l
in_zones g l fits some k low = elim (cases_lt (k / g.zone_blocks) (set_zones g l)) [
  | inl inside ↦ inside
  | inr past ↦ absurd (let most = fits.set in let bits = fits.bitmaps in omega (arith, mul-le-mul_left g.zone_blocks past))
]

module _ (g : Shape) (choice : Choice) (bytes : List ℕ) (placed : IsPlacedChoice g choice) (some : 0 < g.zone_blocks) where
  -- no block of the chosen set stands in the other one
  sets_apart : (from k : ℕ) → k < used_blocks g choice.head.layout
      → InSet g choice.other from (used_blocks g choice.head.layout) (choice.zone + k / g.zone_blocks) (k % g.zone_blocks) → ⊥
  sets_apart from k low at =
      let one = in_zones g choice.head.layout placed.fits some k low in
      let two = in_zones g choice.head.layout placed.fits some at.0 at.2 in
      elim placed.places [
        | inl p ↦ absurd (omega (arith, p.1, p.2, at.3))
        | inr p ↦ absurd (omega (arith, p.1, p.2, at.3))
      ]

  pub there_inside : (k : ℕ) → k < used_blocks g choice.head.layout → choice.other + k / g.zone_blocks < g.conv
  there_inside k low =
      let one = in_zones g choice.head.layout placed.fits some k low in
      let room = placed.fits.conventional_data in
      elim placed.places [ inl p ↦ omega (arith, p.2) | inr p ↦ omega (arith, p.2) ]

  pub here_inside : (k : ℕ) → k < used_blocks g choice.head.layout → choice.zone + k / g.zone_blocks < g.conv
  here_inside k low =
      let one = in_zones g choice.head.layout placed.fits some k low in
      let room = placed.fits.conventional_data in
      elim placed.places [ inl p ↦ omega (arith, p.1) | inr p ↦ omega (arith, p.1) ]

  -- a block behind the first doesn't stand at its place
  front_apart : (end : ℕ) → InSet g choice.other 1 end (choice.other + 0 / g.zone_blocks) (0 % g.zone_blocks) → ⊥
  front_apart end at =
      let e : 0 ≡ at.0 = same_place g.zone_blocks 0 at.0 some (omega (arith, at.3)) at.4 in
      absurd (omega (arith, at.1, e))

  -- the three steps, one after another
  pub made_equal : (a b c d : Image) → a.geometry ≡ g → AreBlocks a choice.zone (used_blocks g choice.head.layout) bytes
      → IsCleared g choice.other choice.other_good a b
      → HasSetBlocks g choice.other 1 (used_blocks g choice.head.layout) bytes b c
      → HasSuper g choice.other choice.head c d → IsMadeEqual g choice (used_blocks g choice.head.layout) a d
  made_equal a b c d shape blocks clear copied put =
      let end : ℕ = used_blocks g choice.head.layout in
      let whole : ℕ → ℕ → Type 0 = InSet g choice.other 0 end in
      let ab = only_more (InSet g choice.other 0 1) (InSet g choice.other 0 end) a b (λ z x p. (p.0, p.1, omega (arith, p.2), p.3, p.4)) clear.only in
      let bc = only_more (InSet g choice.other 1 end) (InSet g choice.other 0 end) b c (λ z x p. (p.0, omega arith, p.2, p.3, p.4)) copied.only in
      let cd = only_more (InSet g choice.other 0 1) (InSet g choice.other 0 end) c d (λ z x p. (p.0, p.1, omega (arith, p.2), p.3, p.4)) put.only in
      let all = only_then (InSet g choice.other 0 end) a b d ab (only_then (InSet g choice.other 0 end) b c d bc cd) in
      record {
        only = all;
        super = put.super;
        each = λ k above below.
            set_still g choice.other (InSet g choice.other 0 1) c d some (copied.only.geometry ∙ clear.only.geometry ∙ shape) put.only k
            (there_inside k below) (apart g choice.other some 0 k (omega arith))
            ∙ copied.each k above below ∙ blocks.each k below;
        kept = λ k below. set_still g choice.zone (InSet g choice.other 0 end) a d some shape all k (here_inside k below) (sets_apart 0 k below);
      }

  -- after the first two steps the super block may be written
  pub ready : (a b c : Image) → a.geometry ≡ g → AreBlocks a choice.zone (used_blocks g choice.head.layout) bytes
      → choice.other_good ≡ is_some (good_super a choice.other) → IsCleared g choice.other choice.other_good a b
      → HasSetBlocks g choice.other 1 (used_blocks g choice.head.layout) bytes b c
      → IsReady choice (used_blocks g choice.head.layout) c
  ready a b c shape blocks good clear copied =
      let end : ℕ = used_blocks g choice.head.layout in
      let ab = only_more (InSet g choice.other 0 1) (InSet g choice.other 0 end) a b (λ z x p. (p.0, p.1, omega (arith, p.2), p.3, p.4)) clear.only in
      let bc = only_more (InSet g choice.other 1 end) (InSet g choice.other 0 end) b c (λ z x p. (p.0, omega arith, p.2, p.3, p.4)) copied.only in
      let ac = only_then (InSet g choice.other 0 end) a b c ab bc in
      let here = clear.only.geometry ∙ shape in
      let front : block_at c choice.other 0 ≡ block_at b choice.other 0 =
      sym (first_block c choice.other)
      ∙ set_still g choice.other (InSet g choice.other 1 end) b c some here copied.only 0 (there_inside 0 (omega arith)) (front_apart end)
      ∙ first_block b choice.other in
      record {
        each = λ k above below. copied.each k above below ∙ blocks.each k below
            ∙ sym (set_still g choice.zone (InSet g choice.other 0 end) a c some shape ac k (here_inside k below) (sets_apart 0 k below));
        good = λ e. ap (λ (o : Option Super). is_some o) (same_good a c choice.other ac.geometry (front ∙ clear.same e)) ∙ sym good ∙ e;
        zeros = λ e. ap (λ (block : List ℕ). take 512 block) front ∙ clear.zeros e;
      }

  -- and so in an image that holds the same
  pub still_ready : (c d : Image) → c.geometry ≡ g → IsImage c → Same c d → IsReady choice (used_blocks g choice.head.layout) c
      → IsReady choice (used_blocks g choice.head.layout) d
  still_ready c d shape image same h =
      let conv = ap (λ (s : Shape). s.conv) shape in
      let size = ap (λ (s : Shape). s.zone_blocks) shape in
      let low = placed.other in
      let front = same_block c d image same choice.other 0 (omega (arith, conv)) (omega (arith, size)) in
      record {
        each = λ k above below.
            still g choice.other some c c d shape image same shape k (there_inside k below) ∙ h.each k above below
            ∙ sym (still g choice.zone some c c d shape image same shape k (here_inside k below));
        good = λ e. ap (λ (o : Option Super). is_some o) (same_good c d choice.other same.geometry front) ∙ h.good e;
        zeros = λ e. ap (λ (block : List ℕ). take 512 block) front ∙ h.zeros e;
      }
