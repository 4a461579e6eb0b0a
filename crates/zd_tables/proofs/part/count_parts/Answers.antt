-- One block more is counted.
use Rattle.std.proofs.Common.{◌≡◌, ℕ, ◌+◌, ◌<◌, List, [], ◌∷◌, ◌++◌, None, length, inl, inr, subst, arith, length-append}
use Rattle.std.proofs.Math.Seq.{get_or-append_seam}
use Rattle.std.proofs.lemmas.Bool.{cases_lt}
use Rattle.std.proofs.lemmas.List.{get_or_append_left}
use Rattle.zd_sets.specs.Blocks.{blocks_of}
use Rattle.zd_tables.specs.Counts.{IsCounted, count_at}
use Rattle.zd_tables.specs.declared.part.PartCount.{PartCount}
use Rattle.zd_tables.proofs.part.count_parts.Goals as goal

module _ (bytes : List ℕ) (first bits i : ℕ) (counts : List PartCount) (count : PartCount)
    (size : first + length counts ≡ i)
    (each : (k : ℕ) → first + k < i → IsCounted (blocks_of bytes (first + k) 1) bits (count_at counts k))
    (next : IsCounted (blocks_of bytes i 1) bits count) where
  more : (k : ℕ) → first + k < i + 1 → IsCounted (blocks_of bytes (first + k) 1) bits
      (count_at (counts ++ count ∷ []) k)
  more k low = elim (cases_lt k (length counts)) [
    | inl before ↦
        rw (get_or_append_left counts (count ∷ []) (record { weight = 0; first = None }) k before)
        (each k (omega (arith, before, size)))
    | inr there ↦
        let last : k ≡ length counts = omega (arith, there, low, size) in
        let block : first + length counts ≡ i = size in
        rw (last, block, get_or-append_seam counts count [] (record { weight = 0; first = None })) next
  ]

pub loop-i-preserved : goal.loop-i-preserved
loop-i-preserved c =
    let before = c.loop-i.invariant in
    let is = subst (λ (b : List ℕ). IsCounted b c.args.bits c.counted.result) c.block.ensures c.counted.ensures in
    rw c.in_ok-push.ensures.items (
      omega (arith, before.0, length-append c.loop-i.counts.items (c.counted.result ∷ [])),
      more c.args.blocks.now c.args.first c.args.bits c.loop-i.i c.loop-i.counts.items c.counted.result before.0
          before.1 is,
    )
