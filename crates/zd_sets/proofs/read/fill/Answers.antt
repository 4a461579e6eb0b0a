use Rattle.std.proofs.Common.{◌≡◌, ◌+◌, ◌-◌, ℕ, inl, inr, subst, ◌∙◌, arith}
use Rattle.std.proofs.lemmas.Bool.{cases_lt}
use Rattle.zd_disk.proofs.RunLaws.{run_more, run_next}
use Rattle.zd_disk.proofs.ViewLaws.{read_once, reads_then}
use Rattle.zd_model.specs.Image.{set_block}
use Rattle.zd_sets.specs.Blocks.{blocks_of}
use Rattle.zd_sets.proofs.read.fill.Goals as goal

pub loop-i-preserved : goal.loop-i-preserved
loop-i-preserved g c =
    let shape = c.args.geometry.now in
    let some = c.zone_blocks-zone_blocks.ensures.shape.size.least in
    let so_far = c.loop-i.invariant in
    let run = c.run_length-run.ensures in
    let filled = c.in_ok-fill_run.ensures in
    let starts = so_far.starts (omega arith) in
    record {
      within = run.end;
      size = c.fill_run.ensures.size ∙ so_far.size;
      reads = reads_then so_far.reads c.fill_run.ensures.reads;
      read = λ image z j low. elim (cases_lt j c.loop-i.i) [
        | inl before ↦ c.fill_run.ensures.before j before ∙ so_far.read image z j before
        | inr past ↦ subst (λ (k : ℕ). blocks_of c.fill_run.new.into k 1 ≡ set_block image c.args.first k)
            (let at : c.loop-i.i + (j - c.loop-i.i) ≡ j = omega (arith, past) in at)
            (filled.value image (so_far.reads.zones ∙ z) (j - c.loop-i.i) (omega (arith, low, past)))
      ];
      starts = λ more. run_next shape (omega (arith, some)) 0 c.loop-i.i (omega arith) starts c.run_length-run.result run.some
          (elim run.longest [
            | inl full ↦ inl full
            | inr end ↦ elim end [ inl last ↦ absurd (omega (arith, last, more)) | inr zone ↦ inr zone ]
          ]) run.within;
      calls = read_once (run_more shape (omega (arith, some)) 0 c.loop-i.i (omega arith) starts c.run_length-run.result run.some run.most run.within)
          so_far.calls c.fill_run.ensures.read_calls;
    }
