-- The one call of a write.
use Rattle.std.specs.Prelude.{ℕ, List, Result, OnErr, OnOk}
use Rattle.zd_disk.specs.Steps.{WriteLeaves, WriteStep, Wrote}
use Rattle.zd_disk.specs.View.{Calls, Fails, Turns, View}
use Rattle.zd_model.specs.declared.requests.What.{What}
use Rattle.zd_routes.specs.Edges.{FillsBlocks}
use Rattle.zd_routes.specs.declared.edges.Edges.{Edges}

-- The blocks of a write were put into a zone from this sector on; where the call failed some of their
-- sectors may have been
pub record PutsBlocks {T E : Type 0} (zone start : ℕ) (what : What) (edges : Edges) (result : Result T E)
    (u x : View) : Type 0 where
  pub bytes : List ℕ
  pub fills : FillsBlocks what edges.first.items edges.last.items bytes
  pub call : Calls (λ r. WriteStep r zone start bytes) (λ r j. WriteLeaves r j zone start bytes) u x
  pub ok : OnOk result (Turns (Wrote zone start bytes) u x)
  pub err : OnErr result (Turns (λ i. WriteStep i zone start bytes i) u x)
  pub cause : Fails result u x
