-- What is known of a plan while it is made.
use Rattle.std.specs.Prelude.{◌≤◌, ℕ, List, All, length}
use Rattle.zd_model.specs.declared.requests.Request.{Request}
use Rattle.zd_plain.specs.Plan.{IsRequest}

-- its requests so far, as many as were made
pub record HasRequests (made : ℕ) (plan : List Request) : Type 0 where
  pub count : length plan ≤ made
  pub each : All IsRequest plan
