use Rattle.std.proofs.Common.{◌≡◌, ℕ, List, get_or, ap, arith}
use Rattle.zd_model.specs.History.{Mark}
use Rattle.zd_model.specs.declared.requests.What.{What}
use Rattle.zd_model.specs.declared.requests.What.TheVariants.{Write, Flush}
use Rattle.zd_examples.proofs.histories.wrong_order_examples.Goals as goal

-- the mark at a place
abbrev at : ℕ → List Mark → Mark
at i marks = get_or marks i (record { caller = 0; request = 0; piece = 0; what = Flush })

abbrev seed : What → ℕ
seed (Write block count s) = s
seed what = 0

pub returns-clause-own : goal.returns-clause-own
returns-clause-own c h = let e : ◌≡◌ {A = ℕ} 0 1 = ap (λ ms. (at 0 ms).piece) (h 2).1 in omega arith

pub returns-clause-missing : goal.returns-clause-missing
returns-clause-missing c h = let e : ◌≡◌ {A = ℕ} 1 3 = ap (λ ms. (at 0 ms).request) (h 1).1 in omega arith

pub returns-clause-twice : goal.returns-clause-twice
returns-clause-twice c h = let e : ◌≡◌ {A = ℕ} 3 1 = ap (λ ms. (at 1 ms).request) (h 1).1 in omega arith

pub returns-clause-caller : goal.returns-clause-caller
returns-clause-caller c h = let e : ◌≡◌ {A = ℕ} 2 1 = ap (λ ms. (at 0 ms).request) (h 2).1 in omega arith

pub returns-clause-piece : goal.returns-clause-piece
returns-clause-piece c h = let e : ◌≡◌ {A = ℕ} 0 1 = ap (λ ms. (at 0 ms).piece) (h 1).1 in omega arith

pub returns-clause-seed : goal.returns-clause-seed
returns-clause-seed c h = let e : ◌≡◌ {A = ℕ} 1 2 = ap (λ ms. seed (at 0 ms).what) (h 1).1 in omega arith

pub returns-clause-more : goal.returns-clause-more
returns-clause-more c h = let e : ◌≡◌ {A = ℕ} 0 4 = ap (λ ms. (at 2 ms).request) (h 1).1 in omega arith
