-- Eight bits at once: the low byte of a number decides what the crc makes of it, and the rest moves down.
use Rattle.std.proofs.Common.{◌≡◌, ◌⊎◌, inl, inr, ℕ, zero, suc, ◌+◌, ◌*◌, ◌/◌, ◌%◌, ◌^◌, ◌<◌, bit_xor, map, get_or, refl, sym, ap, ap₂, ◌∙◌, arith, lit<, zero-add}
use Rattle.std.specs.List.{range_with_len}
use Rattle.std.specs.Int.Bits.{xor_assoc, xor_self, xor_zero_r}
use Rattle.std.proofs.lemmas.Nat.{xor_comm, xor_shr, xor_mod, xor_block}
use Rattle.std.proofs.lemmas.List.FromFn.{get_or-map-range_with_len}
use Rattle.std.proofs.Math.Nat.{pow-suc, mul_assoc}
use Rattle.zd_model.specs.Crc.{crc_bit, crc_bits}
use Rattle.zd_super.specs.declared.table.TheConstants.{TABLE}

-- the middle terms change places
exchanged : (a b c d : ℕ) → bit_xor (bit_xor a b) (bit_xor c d) ≡ bit_xor (bit_xor a c) (bit_xor b d)
exchanged a b c d =
    xor_assoc a b (bit_xor c d)
    ∙ ap (bit_xor a) (sym (xor_assoc b c d) ∙ ap (λ n. bit_xor n d) (xor_comm b c) ∙ xor_assoc c b d)
    ∙ sym (xor_assoc a c (bit_xor b d))

is_bit : (n : ℕ) → (n % 2 ≡ 0) ⊎ (n % 2 ≡ 1)
is_bit n = grind arith

-- the polynomial, where one of two numbers is odd
times-xor : (m n p : ℕ) → bit_xor (m % 2) (n % 2) * p ≡ bit_xor (m % 2 * p) (n % 2 * p)
times-xor m n p =
    let none : 0 * p ≡ 0 = omega arith in
    elim (is_bit m) [
      | inl even ↦ rw (even, none) refl
      | inr odd ↦ elim (is_bit n) [
        | inl even ↦ rw (even, none) (ap (λ k. k * p) (xor_zero_r (m % 2)) ∙ sym (xor_zero_r (m % 2 * p)))
        | inr both ↦ rw (odd, both) (none ∙ sym (xor_self (1 * p)))
      ]
    ]

-- a bit of the crc is linear, and so are n of them
crc_bit-xor : (a b : ℕ) → crc_bit (bit_xor a b) ≡ bit_xor (crc_bit a) (crc_bit b)
crc_bit-xor a b =
    ap₂ (λ n k. bit_xor n (k * 0xEDB88320)) (xor_shr a b 1) (xor_mod a b 1)
    ∙ ap (bit_xor (bit_xor (a / 2) (b / 2))) (times-xor a b 0xEDB88320)
    ∙ exchanged (a / 2) (b / 2) (a % 2 * 0xEDB88320) (b % 2 * 0xEDB88320)

crc_bits-xor : (n a b : ℕ) → crc_bits n (bit_xor a b) ≡ bit_xor (crc_bits n a) (crc_bits n b)
crc_bits-xor zero a b = refl
crc_bits-xor (suc n) a b = ap (crc_bits n) (crc_bit-xor a b) ∙ crc_bits-xor n (crc_bit a) (crc_bit b)

-- a number whose low bit is zero only moves down
crc_bit-double : (a : ℕ) → crc_bit (a * 2) ≡ a
crc_bit-double a =
    let half : a * 2 / 2 ≡ a = omega arith in
    let low : a * 2 % 2 ≡ 0 = omega arith in
    ap₂ (λ n k. bit_xor n (k * 0xEDB88320)) half low ∙ xor_zero_r a

-- and so do n of them
crc_bits-shifted : (n a : ℕ) → crc_bits n (a * 2 ^ n) ≡ a
crc_bits-shifted zero a = omega arith
crc_bits-shifted (suc n) a =
    let twice : a * 2 ^ suc n ≡ a * 2 ^ n * 2 = rw pow-suc (sym (mul_assoc a (2 ^ n) 2)) in
    ap (crc_bits n) (ap crc_bit twice ∙ crc_bit-double (a * 2 ^ n)) ∙ crc_bits-shifted n a

-- a number by its low byte and the rest
split : (a low : ℕ) → low < 256 → bit_xor (a * 256) low ≡ a * 256 + low
split a low small =
    let alone : a * 256 ≡ a * 256 + 0 = omega arith in
    let below : low ≡ 0 * 256 + low = omega arith in
    ap₂ bit_xor alone below ∙ xor_block 8 a 0 0 low (lit< tt) small ∙ ap (λ k. k * 256 + low) (xor_zero_r a)

-- the upper part moves down, and the low byte goes through eight bits
crc_bits_8 : (n : ℕ) → crc_bits 8 n ≡ bit_xor (n / 256) (crc_bits 8 (n % 256))
crc_bits_8 n =
    let whole : n / 256 * 256 + n % 256 ≡ n = omega arith in
    let parts : bit_xor (n / 256 * 256) (n % 256) ≡ n = split (n / 256) (n % 256) (omega arith) ∙ whole in
    ap (crc_bits 8) (sym parts)
    ∙ crc_bits-xor 8 (n / 256 * 256) (n % 256)
    ∙ ap (λ k. bit_xor k (crc_bits 8 (n % 256))) (crc_bits-shifted 8 (n / 256))

-- the upper part of the sum is that of the crc, since a byte has none
pub crc_bits_8-xor : (c b : ℕ) → b < 256 →
    crc_bits 8 (bit_xor c b) ≡ bit_xor (c / 256) (crc_bits 8 (bit_xor c b % 256))
crc_bits_8-xor c b small =
    let none : b / 256 ≡ 0 = omega arith in
    let upper = xor_shr c b 8 ∙ ap (bit_xor (c / 256)) none ∙ xor_zero_r (c / 256) in
    crc_bits_8 (bit_xor c b) ∙ ap (λ k. bit_xor k (crc_bits 8 (bit_xor c b % 256))) upper

-- each entry of the table is what eight bits make of its place
table_lem : TABLE ≡ map (crc_bits 8) (range_with_len 0 256)
table_lem = refl

pub get_or-table : (k : ℕ) → k < 256 → get_or TABLE k 0 ≡ crc_bits 8 k
get_or-table k inside =
    ap (λ entries. get_or entries k 0) table_lem
    ∙ get_or-map-range_with_len (crc_bits 8) 0 256 k k 0 inside (zero-add k)
