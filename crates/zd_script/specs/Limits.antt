-- What is left of the limits of a script.
use Rattle.std.specs.Prelude.{◌≡◌, ◌+◌, List, length, sum_by}
use Rattle.zd_model.specs.Script.{moved_blocks, discarded_blocks}
use Rattle.zd_model.specs.declared.requests.What.{What}
use Rattle.zd_model.specs.declared.requests.Request.{Request}
use Rattle.zd_script.specs.declared.limits.Limits.{Limits}

-- what is left after one more request
pub record Spends (limits left : Limits) (what : What) : Type 0 where
  pub requests : left.requests + 1 ≡ limits.requests
  pub moved : left.moved + moved_blocks what ≡ limits.moved
  pub discarded : left.discarded + discarded_blocks what ≡ limits.discarded

-- what is left after a plan
pub record IsLeftOfLimits (limits : Limits) (plan : List Request) : Type 0 where
  pub requests : limits.requests + length plan ≡ 1_000_000
  pub moved : limits.moved + sum_by (λ r. moved_blocks r.what) plan ≡ 32_768
  pub discarded : limits.discarded + sum_by (λ r. discarded_blocks r.what) plan ≡ 4_194_304
