-- A block decodes to the record for which it stands.
use Rattle.std.proofs.Common.{◌≡◌, ℕ, zero, suc, ◌+◌, Bool, true, false, cond, List, [], ◌∷◌, drop, get_or, refl, sym, ap, ◌∙◌, arith, Result, Ok, Err, eqb, ◌&&◌, ◌-◌}
use borrow.Author.Tests.{eqb-true, eq-eqb}
use Rattle.std.specs.List.{list_all}
use Rattle.std.proofs.lemmas.List.{get_or-drop}
use Rattle.zd_model.specs.Bytes.{AreBytes, u32_at}
use Rattle.zd_model.specs.declared.metadata.Super.{Super}
use Rattle.zd_model.specs.declared.metadata.NotSuper.{NotSuper}
use Rattle.zd_model.specs.Super.{IsSuper, super_at, crc_of, has_zero_tail, decoded, fields_end, is_version}
use Rattle.zd_model.proofs.TailLaws.{version_passes, passed_version}

-- a test passed, where what follows it is right
passed : (b : Bool) (r : Result Super NotSuper) (e : NotSuper) (s : Super) → cond b r (Err e) ≡ Ok s → (b ≡ true) × (r ≡ Ok s)
passed true r e s h = (refl, h)
passed false r e s h = cc

both : (b c : Bool) → (b && c) ≡ true → (b ≡ true) × (c ≡ true)
both true c h = (refl, h)
both false c h = cc

all_zero : (xs : List ℕ) → list_all (λ b. eqb b 0) xs ≡ true → (i : ℕ) → get_or xs i 0 ≡ 0
all_zero [] h i = refl
all_zero (x ∷ xs) h zero = eqb-true x 0 (both (eqb x 0) (list_all (λ b. eqb b 0) xs) h).0
all_zero (x ∷ xs) h (suc i) = all_zero xs (both (eqb x 0) (list_all (λ b. eqb b 0) xs) h).1 i

zero_all : (xs : List ℕ) → ((i : ℕ) → get_or xs i 0 ≡ 0) → list_all (λ b. eqb b 0) xs ≡ true
zero_all [] h = refl
zero_all (x ∷ xs) h = rw (eq-eqb x 0 (h 0)) (zero_all xs (λ i. h (suc i)))

-- the block of a record decodes to it
pub decodes : (block : List ℕ) (s : Super) → IsSuper block s → decoded block ≡ Ok s
unfolding decoded has_zero_tail
decodes block s h =
    let magic = eq-eqb (u32_at block 0) 0x445A4244 h.magic in
    let version = version_passes (u32_at block 4) h.version in
    let crc = eq-eqb (u32_at block 44) (crc_of block) h.crc in
    let end = fields_end (u32_at block 4) in
    let tail = zero_all (drop end block) (λ i. get_or-drop end block i 0 ∙ h.tail (end + i) (omega arith)) in
    rw (magic, version, crc, tail) (ap Ok (sym h.fields))

ok_is : (s t : Super) → ◌≡◌ {A = Result Super NotSuper} (Ok s) (Ok t) → s ≡ t
ok_is s t h = cc

-- a block that decodes to a record is its block
pub is_decoded : (block : List ℕ) (s : Super) → AreBytes 4096 block → decoded block ≡ Ok s → IsSuper block s
unfolding decoded has_zero_tail
is_decoded block s bytes h =
    let magic = passed (eqb (u32_at block 0) 0x445A4244) _ _ s h in
    let version = passed (is_version (u32_at block 4)) _ _ s magic.1 in
    let crc = passed (eqb (u32_at block 44) (crc_of block)) _ _ s version.1 in
    let tail = passed (has_zero_tail block) _ _ s crc.1 in
    let end = fields_end (u32_at block 4) in
    record {
      bytes = bytes;
      magic = eqb-true (u32_at block 0) 0x445A4244 magic.0;
      version = passed_version (u32_at block 4) version.0;
      crc = eqb-true (u32_at block 44) (crc_of block) crc.0;
      tail = λ i far. (let e : end + (i - end) ≡ i = omega arith in
          ap (λ k. get_or block k 0) (sym e) ∙ sym (get_or-drop end block (i - end) 0)
          ∙ all_zero (drop end block) tail.0 (i - end));
      fields = sym (ok_is (super_at block) s tail.1);
    }
