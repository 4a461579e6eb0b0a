-- Bytes that are lent to be written.
use Rattle.std.specs.Prelude.{ℕ, List, ◌++◌, length, take, drop}
use Rattle.std.specs.Borrow.{Lends, MutBor, Fml, Array, u8}
use Rattle.zd_model.specs.Room.{ListWithRoom}
use Rattle.zd_model.specs.contracts.bytes.Bytes.{the_row}

-- these with others written over them: as many as before
abbrev pub with_bytes : ListWithRoom ℕ → List ℕ → ListWithRoom ℕ
with_bytes old ws = record {
  items = take (length old.items) (ws ++ drop (length ws) old.items);
  room = old.room;
}

-- r is all bytes of s, which end as what was last written through r
abbrev pub LendsAll : MutBor (ListWithRoom ℕ) → MutBor (List ℕ) → Fml
LendsAll s r = Lends the_row (Array u8 0) s r (with_bytes s.now)
