use Rattle.std.proofs.Common.{◌≡◌, ℕ, ◌+◌, ◌-◌, ◌*◌, ◌≤◌, List, length, take, drop, ap, ◌∙◌, arith}
use Rattle.std.proofs.lemmas.List.{length-drop, length-take}
use Rattle.zd_disk.specs.Steps.{piece}
use Rattle.zd_state.proofs.FilledBlocks.{PutsSectors, puts_sectors, whole_piece}
use Rattle.zd_state.proofs.filling.put_pattern.Goals as goal
use borrow.Rule.Slice.PartMut.{put_mid}

-- what is put there is one sector
part_size : (old part : List ℕ) (at : ℕ) → 512 * (at + 1) ≤ length old
    → length part ≡ length (take (512 * at + 512 - 512 * at) (drop (512 * at) old)) → length part ≡ 512
part_size old part at fits is =
    omega (arith, fits, is, length-take (512 * at + 512 - 512 * at) (drop (512 * at) old), length-drop (512 * at) old)

put_one : (old part : List ℕ) (at : ℕ) → 512 * (at + 1) ≤ length old
    → length part ≡ length (take (512 * at + 512 - 512 * at) (drop (512 * at) old))
    → PutsSectors at 1 part old (put_mid (512 * at) (512 * at + 512 - 512 * at) old part)
put_one old part at fits is =
    puts_sectors old part at 1 (512 * at) (512 * at + 512 - 512 * at) (omega arith) (omega arith)
    (omega (arith, part_size old part at fits is)) (omega (arith, fits))

pub returns-clause-put : goal.returns-clause-put
returns-clause-put c =
    let old : List ℕ = c.args.out.now in
    let part : List ℕ = c.pattern.new.out in
    let at : ℕ = c.args.at in
    ap (piece (put_mid (512 * at) (512 * at + 512 - 512 * at) old part)) (let e : at ≡ at + 0 = omega arith in e)
    ∙ (put_one old part at c.requires c.pattern.auto.out).put 0 (omega arith)
    ∙ whole_piece part (part_size old part at c.requires c.pattern.auto.out)
    ∙ c.pattern.ensures

pub returns-clause-others : goal.returns-clause-others
returns-clause-others c = (put_one c.args.out.now c.pattern.new.out c.args.at c.requires c.pattern.auto.out).others
