use Rattle.std.proofs.Common.{◌≡◌, ◌≤◌, ℕ, List, length, arith, lit≤}
use Rattle.zd_model.specs.Script.{RefusesScript}
use Rattle.zd_model.specs.Script.RefusesScript.{size, line}
use Rattle.zd_model.specs.declared.texts.BadLine.{BadLine}
use Rattle.zd_examples.proofs.scripts.limit_examples.Goals as goal

pub returns-clause-discards : goal.returns-clause-discards
returns-clause-discards c = record { requests = lit≤ tt; moved = lit≤ tt; discarded = lit≤ tt }

pub returns-clause-discards_more : goal.returns-clause-discards_more
returns-clause-discards_more c h = let all : 4194305 ≤ 4194304 = h.discarded in omega arith

pub returns-clause-moves : goal.returns-clause-moves
returns-clause-moves c = record { requests = lit≤ tt; moved = lit≤ tt; discarded = lit≤ tt }

pub returns-clause-moves_more : goal.returns-clause-moves_more
returns-clause-moves_more c h = let all : 32769 ≤ 32768 = h.moved in omega arith

pub returns-clause-requests_more : goal.returns-clause-requests_more
returns-clause-requests_more c plan long h = let few = h.requests in omega arith

pub returns-clause-bytes_more : goal.returns-clause-bytes_more
returns-clause-bytes_more c bytes long = size (omega arith)

-- line 0 is the whole text
no_line : (bytes : List ℕ) (n : ℕ) (why : BadLine) → length bytes ≡ 67108864 → n ≡ 0 → RefusesScript bytes n why → ⊥
no_line bytes n why long none (size more) = omega arith
no_line bytes n why long none (line plan rest few begins breaks) = omega arith

pub returns-clause-bytes_most : goal.returns-clause-bytes_most
returns-clause-bytes_most c bytes why long refused = no_line bytes 0 why long (omega arith) refused

pub returns-clause-requests_most : goal.returns-clause-requests_most
returns-clause-requests_most c plan long few = record {
  requests = omega arith;
  moved = few.moved;
  discarded = few.discarded;
}

pub returns-clause-sectors : goal.returns-clause-sectors
returns-clause-sectors c = record { requests = lit≤ tt; moved = lit≤ tt; discarded = lit≤ tt }

pub returns-clause-sectors_more : goal.returns-clause-sectors_more
returns-clause-sectors_more c h = let all : 32769 ≤ 32768 = h.moved in omega arith
