use Rattle.std.proofs.Common.{◌≡◌, ◌≢◌, ℕ, ◌<◌, ◌≤◌, ◌++◌, List, Some, map, take, slice_get}
use Rattle.zd_model.specs.History.{Mark, mark_of_piece}
use Rattle.zd_model.specs.declared.requests.Piece.{Piece}
use Rattle.zd_steps.specs.Queues.{AreHeads, HasEntered, first_of, head_of}
use Rattle.zd_steps.proofs.heads.Heads.enter_all.Given as goal

abbrev pub invariant-loop-piece : goal.invariant-loop-piece
invariant-loop-piece l = record {
  pieces : l.self.pieces ≡ l.initial.self.pieces;
  heads : AreHeads l.self.pieces l.self.heads;
  entered : (marks : List Mark) → HasEntered l.initial.self marks → HasEntered l.self (marks ++ map mark_of_piece (take l.piece-index l.list));
  others : (c : ℕ) → ((k : ℕ) (p : Piece) → k < l.piece-index → slice_get l.list k ≡ Some p → p.caller ≢ c) → first_of l.self c ≡ first_of l.initial.self c;
  later : (c : ℕ) → head_of l.initial.self c ≤ head_of l.self c;
}
