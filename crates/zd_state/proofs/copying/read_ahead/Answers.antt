use Rattle.std.proofs.Common.{◌≡◌, ◌*◌, ◌∙◌, ℕ, List, ap, length, take}
use Rattle.std.proofs.lemmas.List.{take_at}
use Rattle.std.proofs.lemmas.Result.{on_ok_weaker}
use Rattle.zd_disk.proofs.ToldLaws.{IfSome-at}
use Rattle.zd_state.proofs.copying.read_ahead.Goals as goal

pub returns-clause-value : goal.returns-clause-value
returns-clause-value g c =
    let size : length c.read_front.new.into ≡ c.state.inside.buffer.len =
    c.read_front.ensures.size ∙ c.deref_mut.ensures.len in
    on_ok_weaker c.read_front.result
    (λ value i there.
    ap (λ (xs : List ℕ). take (4096 * c.args.run.now.count) xs)
    (take_at c.read_front.new.into _ c.state.inside.buffer.len size)
    ∙ IfSome-at _ i _ there value) c.read_front.ensures.value
