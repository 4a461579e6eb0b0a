use Rattle.std.proofs.Common.{◌≤◌, List, ℕ, [], ◌∷◌, codes, refl, arith, lit≤}
use Rattle.zd_model.specs.declared.requests.What.TheVariants.{Flush}
use Rattle.zd_model.specs.declared.requests.Request.{Request}
use Rattle.zd_model.specs.Script.{BeginsWithLines, line_text}
use Rattle.zd_model.specs.Script.BreaksLineRule.{form}
use Rattle.zd_model.specs.Script.RefusesScript.{line}
use Rattle.zd_model.specs.Text.{numeral}
use Rattle.zd_examples.proofs.Forms.{no_small, no_large, no_letters, third_digit}
use Rattle.zd_examples.proofs.scripts.form_examples.Goals as goal

-- the first line is the bad one
at_front : (bytes : List ℕ) → BeginsWithLines bytes [] bytes
at_front bytes = record { text = refl; numbers = tt; callers = tt; limits = record { requests = lit≤ tt; moved = lit≤ tt; discarded = lit≤ tt } }

flush : Request
flush = record { caller = 0; what = Flush }

pub returns-clause-blank : goal.returns-clause-blank
unfolding flush line_text numeral
returns-clause-blank c =
    line (flush ∷ []) (codes "\n") (lit≤ tt)
    (record { text = refl; numbers = (tt, tt); callers = (lit≤ tt, tt); limits = record { requests = lit≤ tt; moved = lit≤ tt; discarded = lit≤ tt } })
    (form (λ e. cc) (λ r tail e. no_small r tail [] 10 (lit≤ tt) e))

pub returns-clause-letter : goal.returns-clause-letter
returns-clause-letter c =
    line [] (codes "x 0 0 1\n") (lit≤ tt) (at_front (codes "x 0 0 1\n"))
    (form (λ e. cc) (λ r tail e. no_large r tail (codes " 0 0 1\n") 120 (lit≤ tt) e))

pub returns-clause-spaces : goal.returns-clause-spaces
returns-clause-spaces c =
    line [] (codes "f  0\n") (lit≤ tt) (at_front (codes "f  0\n"))
    (form (λ e. cc) (λ r tail e. (let digit = third_digit r tail (codes "0\n") 102 32 (λ f. omega arith) e in let low : 48 ≤ 32 = digit.low in omega arith)))

pub returns-clause-indented : goal.returns-clause-indented
returns-clause-indented c =
    line [] (codes " f 0\n") (lit≤ tt) (at_front (codes " f 0\n"))
    (form (λ e. cc) (λ r tail e. no_small r tail (codes "f 0\n") 32 (lit≤ tt) e))

pub returns-clause-sign : goal.returns-clause-sign
returns-clause-sign c =
    line [] (codes "f -1\n") (lit≤ tt) (at_front (codes "f -1\n"))
    (form (λ e. cc) (λ r tail e. (let digit = third_digit r tail (codes "1\n") 102 45 (λ f. omega arith) e in let low : 48 ≤ 45 = digit.low in omega arith)))

pub returns-clause-letters : goal.returns-clause-letters
returns-clause-letters c =
    line [] (codes "fs 0\n") (lit≤ tt) (at_front (codes "fs 0\n"))
    (form (λ e. cc) (λ r tail e. no_letters r tail (codes " 0\n") e))
