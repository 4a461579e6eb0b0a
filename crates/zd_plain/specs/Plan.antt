-- Which lists of requests are plans that can be cut.
use Rattle.std.specs.Prelude.{◌<◌, ◌≤◌, ◌^◌, List, length, All}
use Rattle.zd_model.specs.Requests.{Moves, operation_of, sector_count}
use Rattle.zd_model.specs.declared.requests.Request.{Request}
use Rattle.zd_model.specs.declared.requests.What.{What}

-- it asks for a sector at least, or is a flush
abbrev pub AsksForSome : What → Type 0
AsksForSome what = Moves (operation_of what) → 1 ≤ sector_count what

-- a request of one of the 64 callers
pub record IsRequest (r : Request) : Type 0 where
  pub caller : r.caller < 64
  pub some : AsksForSome r.what

-- requests whose numbers, counted from 1, fit 32 bits
pub record IsPlan (plan : List Request) : Type 0 where
  pub count : length plan < 2 ^ 32
  pub each : All IsRequest plan
