use Rattle.std.proofs.Common.{ℕ, ◌≡◌, ◌+◌, ◌*◌, ◌≤◌, List, length, take, sym, ap, ◌∙◌, arith}
use Rattle.zd_disk.proofs.ViewLaws.{stays_then}
use Rattle.zd_format.specs.Sets.{zero_blocks}
use Rattle.zd_format.proofs.FreshLaws.{fresh_zeros, length-zero_blocks, take-zero_blocks}
use Rattle.zd_format.proofs.SetLaws.{told_more}
use Rattle.zd_format.proofs.sets.write_bitmaps.Goals as goal

-- the first blocks of the zeros, as a run
prefix : (zeros : List ℕ) (n : ℕ) → zeros ≡ zero_blocks 32 → n ≤ 32 → take (4096 * n) zeros ≡ zero_blocks n
prefix zeros n is most = ap (λ (l : List ℕ). take (4096 * n) l) is ∙ take-zero_blocks n 32 most

length-prefix : (zeros : List ℕ) (n : ℕ) → zeros ≡ zero_blocks 32 → n ≤ 32 → length (take (4096 * n) zeros) ≡ 4096 * n
length-prefix zeros n is most = ap length (prefix zeros n is most) ∙ length-zero_blocks n

pub slice_bounds-write_run-end : goal.slice_bounds-write_run-end
slice_bounds-write_run-end g c =
    sym (length-prefix c.args.zeros.now c.run_length-count.result c.requires.zeros c.run_length-count.ensures.most)

pub write_run-requires-clause-whole : goal.write_run-requires-clause-whole
write_run-requires-clause-whole g c =
    let size = length-prefix c.args.zeros.now c.run_length-count.result c.requires.zeros c.run_length-count.ensures.most in
    omega (arith, size)

pub write_run-requires-clause-some : goal.write_run-requires-clause-some
write_run-requires-clause-some g c =
    let size = length-prefix c.args.zeros.now c.run_length-count.result c.requires.zeros c.run_length-count.ensures.most in
    let some = c.run_length-count.ensures.some in
    omega (arith, size, some)

pub loop-block-preserved : goal.loop-block-preserved
loop-block-preserved g c =
    let zeros = c.args.zeros.now in
    let n = c.run_length-count.result in
    let few = c.run_length-count.ensures.most in
    let size = length-prefix zeros n c.requires.zeros few in
    let wrote = c.in_ok-write_run.ensures in
    record {
      after_map = omega (arith, c.loop-block.invariant.after_map);
      within = c.run_length-count.ensures.end;
      stays = stays_then c.loop-block.invariant.stays wrote.stays;
      written = told_more c.args.geometry.now c.args.head.now c.args.first c.loop-block.block (c.loop-block.block + n) (take (4096 * n) zeros)
          c.requires.set
          (fresh_zeros c.args.head.now c.loop-block.block n (take (4096 * n) zeros) (prefix zeros n c.requires.zeros few) c.loop-block.invariant.after_map)
          (omega (arith, size)) wrote.ok c.loop-block.invariant.written;
    }
