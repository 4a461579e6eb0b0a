use Rattle.std.proofs.Common.{◌≡◌, ℕ, List, Result, Ok, Err, IfOk, replicate}
use Rattle.zd_format.specs.Sets.{zero_blocks}
use Rattle.zd_format.proofs.runs.zero_run.Goals as goal

where_made : {V E : Type 0} (r : Result V E) (items : V → List ℕ)
    → IfOk r (λ v. ((y : ℕ) → y ≡ 0 → y ≡ 0) → items v ≡ replicate 131072 0) → IfOk r (λ v. items v ≡ zero_blocks 32)
unfolding zero_blocks
where_made (Ok v) items h = h (λ y e. e)
where_made (Err e) items h = tt

pub returns : goal.returns
returns c = where_made c.vec.result (λ v. v.items) c.vec.ensures.items_if_clones_equal
