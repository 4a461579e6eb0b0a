-- What a call that may be refused appended.
use Rattle.std.proofs.Common.{◌≡◌, ℕ, List, ◌++◌, cond, ◌∙◌}
use Rattle.std.specs.Prelude.{Result, Ok, Err, is_ok, OnOk, IfOk}

pub appended : {T E : Type 0} (r : Result T E) (now before more whole : List ℕ) → now ≡ cond (is_ok r) (before ++ more) before → before ++ more ≡ whole → OnOk r (now ≡ whole)
appended (Ok x) now before more whole e f = e ∙ f
appended (Err x) now before more whole e f = tt

pub each_ok : {T E : Type 0} (r : Result T E) (P Q : T → Type 0) → ((x : T) → P x → Q x) → IfOk r P → IfOk r Q
each_ok (Ok x) P Q leads h = leads x h
each_ok (Err x) P Q leads h = tt
