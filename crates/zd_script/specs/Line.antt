-- Lines whose numbers may have any size.
use Rattle.std.specs.Prelude.{◌<◌, ◌≤◌, ◌^◌}
use Rattle.zd_model.specs.Script.{HasNumbers, IsSpan}
use Rattle.zd_model.specs.declared.requests.What.{What}
use Rattle.zd_model.specs.declared.requests.What.TheVariants.{Read, Write, Discard, Flush}
use Rattle.zd_model.specs.declared.requests.What.TheVariants.{ReadSectors, WriteSectors}
use Rattle.zd_model.specs.declared.requests.Request.{Request}
use Rattle.zd_model.specs.declared.texts.BadLine.{BadLine}
use Rattle.zd_model.specs.declared.texts.BadLine.TheVariants.{Form, Number, Caller, TooLong}
use Rattle.zd_script.specs.Number.{told}
use Rattle.zd_script.specs.declared.line.Asks.{Asks}
use Rattle.zd_script.specs.declared.line.Asks.TheVariants as asks
use Rattle.zd_script.specs.declared.line.Line.{Line}

-- what a line asks for, as the parser tells its numbers
abbrev pub asks_of : What → Asks
asks_of (Read block count) = asks.Read (told block) (told count)
asks_of (Write block count seed) = asks.Write (told block) (told count) (told seed)
asks_of (Discard block count) = asks.Discard (told block) (told count)
asks_of Flush = asks.Flush
asks_of (ReadSectors sector count) = asks.ReadSectors (told sector) (told count)
asks_of (WriteSectors sector count seed) = asks.WriteSectors (told sector) (told count) (told seed)

-- the line of a request, likewise
abbrev pub line_of : Request → Line
line_of r = record { caller = told r.caller; asks = asks_of r.what }

-- block or sector, count and seed are within their bounds
abbrev pub HasBounds : Asks → Type 0
HasBounds (asks.Read block count) = IsSpan block count
HasBounds (asks.Write block count seed) = IsSpan block count × (seed < 2 ^ 32)
HasBounds (asks.Discard block count) = IsSpan block count
HasBounds asks.Flush = Unit {0}
HasBounds (asks.ReadSectors sector count) = IsSpan sector count
HasBounds (asks.WriteSectors sector count seed) = IsSpan sector count × (seed < 2 ^ 32)

-- a request of one of the 64 callers, with numbers within their bounds
pub record IsRightRequest (r : Request) : Type 0 where
  pub numbers : HasNumbers r.what
  pub caller : r.caller ≤ 63

-- the first of its rules that a request breaks
abbrev pub BreaksRequestRule : Request → BadLine → Type 0
BreaksRequestRule r Form = ⊥
BreaksRequestRule r Number = HasNumbers r.what → ⊥
BreaksRequestRule r Caller = HasNumbers r.what × (63 < r.caller)
BreaksRequestRule r TooLong = ⊥
