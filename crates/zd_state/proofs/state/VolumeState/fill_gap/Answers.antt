use Rattle.std.proofs.Common.{◌≡◌, ◌*◌, ◌∙◌, ℕ, List, ap, length, take, arith}
use Rattle.std.proofs.lemmas.List.{take_at}
use Rattle.zd_disk.proofs.ToldLaws.{IfSome-at}
use Rattle.zd_state.proofs.CopySteps.{fills_gap, found_for_gap}
use Rattle.zd_state.proofs.state.VolumeState.fill_gap.Goals as goal

pub unwrap-run-requires : goal.unwrap-run-requires
unwrap-run-requires c =
    found_for_gap c.args.self.now.plain c.args.work.now c.requires.next c.requires.none c.next_run.result
    c.next_run.ensures.none

pub returns-clause-copy : goal.returns-clause-copy
returns-clause-copy c =
    let run = IfSome-at c.next_run.result c.unwrap-run.result _ c.unwrap-run.ensures c.next_run.ensures.some in
    let size : length c.clear_front.new.bytes ≡ c.self.inside.buffer.len =
    c.clear_front.ensures.size ∙ c.deref_mut.ensures.len in
    fills_gap c.args.self.now.plain c.args.work.now c.unwrap-run.result.at c.unwrap-run.result.count c.min-count.result
    _ c.requires.next c.requires.none run.0 (let e = c.min-count.ensures in omega (arith, e))
    (ap (λ (xs : List ℕ). take (4096 * c.min-count.result) xs)
    (take_at c.clear_front.new.bytes _ c.self.inside.buffer.len size) ∙ c.clear_front.ensures.value)
