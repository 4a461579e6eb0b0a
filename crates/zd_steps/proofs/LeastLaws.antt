-- The least head whose piece passes, as it is found caller by caller.
use Rattle.std.proofs.Common.{◌≡◌, ℕ, ◌<◌, ◌≤◌, Bool, true, length, slice_get, Some}
use Rattle.zd_model.specs.declared.requests.Piece.{Piece}
use Rattle.zd_steps.specs.Queues.{Callers, first_of, head_of}

-- among the callers below n
pub record IsLeastBelow (h : Callers) (test : Piece → Bool) (from n place : ℕ) : Type 0 where
  pub within : place ≤ length h.pieces
  pub above : from ≤ length h.pieces → from ≤ place
  pub here : (p : Piece) → slice_get h.pieces place ≡ Some p → (head_of h p.caller ≡ place) × (test p ≡ true)
  pub least : (c : ℕ) (p : Piece) → c < n → first_of h c ≡ Some p → test p ≡ true → from ≤ head_of h c → place ≤ head_of h c
