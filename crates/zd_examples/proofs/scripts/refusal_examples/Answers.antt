use Rattle.std.proofs.Common.{◌≡◌, ◌<◌, ◌≤◌, ◌++◌, ◌∙◌, ap, ℕ, List, [], ◌∷◌, codes, refl, sym, arith, lit≤, lit<}
use Rattle.zd_model.specs.declared.requests.What.TheVariants.{Discard, Read, Flush}
use Rattle.zd_model.specs.declared.requests.What.TheVariants.{ReadSectors, WriteSectors}
use Rattle.zd_model.specs.declared.requests.Request.{Request}
use Rattle.zd_model.specs.Text.{numeral}
use Rattle.zd_model.specs.Script.{BeginsWithLines, line_text}
use Rattle.zd_model.specs.Script.BreaksLineRule.{form, number, caller, long}
use Rattle.zd_model.specs.Script.RefusesScript.{line}
use Rattle.zd_model.proofs.TextLaws.{IsDigit, same_numeral, tail_is, no_leading_zero, no_end}
use Rattle.zd_model.proofs.LineLaws.{begins_read, read_line, line_is, not_two}
use Rattle.zd_examples.proofs.scripts.refusal_examples.Goals as goal

-- the first line is the bad one
at_front : (bytes : List ℕ) → BeginsWithLines bytes [] bytes
at_front bytes = record { text = refl; numbers = tt; callers = tt; limits = record { requests = lit≤ tt; moved = lit≤ tt; discarded = lit≤ tt } }

read : ℕ → ℕ → ℕ → Request
read c b n = record { caller = c; what = Read b n }

pub returns-clause-number : goal.returns-clause-number
unfolding read line_text numeral
returns-clause-number c = line [] (codes "r 64 0 0\n") (lit≤ tt) (at_front (codes "r 64 0 0\n")) (number (read 64 0 0) [] refl (λ h. (let some : 1 ≤ 0 = h.some in omega arith)))

pub returns-clause-caller : goal.returns-clause-caller
unfolding read line_text numeral
returns-clause-caller c = line [] (codes "r 64 0 1\n") (lit≤ tt) (at_front (codes "r 64 0 1\n")) (caller (read 64 0 1) [] refl (record { place_most = lit< tt; some = lit≤ tt; count_most = lit< tt }) (lit< tt))

pub returns-clause-long : goal.returns-clause-long
unfolding read line_text numeral
returns-clause-long c = line [] (codes "r 0 0 32769\n") (lit≤ tt) (at_front (codes "r 0 0 32769\n")) (long (read 0 0 32769) [] refl (record { place_most = lit< tt; some = lit≤ tt; count_most = lit< tt }) (lit≤ tt) (λ h. (let moved : 32769 ≤ 32768 = h.moved in omega arith)))

pub returns-clause-form : goal.returns-clause-form
unfolding numeral
returns-clause-form c = line [] (codes "r 0 0\n") (lit≤ tt) (at_front (codes "r 0 0\n")) (form (λ e. cc) (λ r tail e. not_two r.what r.caller 0 0 (line_is r tail (codes "r") 0 (0 ∷ []) [] ((λ f. omega arith), tt) (sym e)).numbers))

flush : Request
flush = record { caller = 0; what = Flush }

space : IsDigit 32 → ⊥
space d = let h = d.low in omega arith

zero_digit : IsDigit 48
zero_digit = record { low = omega arith; high = omega arith }

pub returns-clause-leading : goal.returns-clause-leading
unfolding flush line_text numeral
returns-clause-leading c =
    line (flush ∷ []) (codes "r 0 00 1\n") (lit≤ tt) (record { text = refl; numbers = (tt, tt); callers = (lit≤ tt, tt); limits = record { requests = lit≤ tt; moved = lit≤ tt; discarded = lit≤ tt } })
    (form (λ e. cc) (λ r tail e.
    let read = begins_read r tail (codes "0 00 1\n") (sym e) in
    let first : codes "r 0 00 1\n" ≡ line_text (record { caller = r.caller; what = Read read.0 read.1 }) ++ tail = e ∙ ap (λ q. line_text q ++ tail) read.2 in
    let caller = same_numeral 0 r.caller 32 32 (codes "00 1\n") _ space space (tail_is 32 32 _ _ (tail_is 114 114 _ _ (first ∙ read_line r.caller read.0 read.1 tail))) in
    no_leading_zero read.0 48 32 _ (codes "1\n") zero_digit space (sym caller.after)))

pub returns-clause-unended : goal.returns-clause-unended
unfolding numeral
returns-clause-unended c =
    line [] (codes "r 0 0 1") (lit≤ tt) (at_front (codes "r 0 0 1"))
    (form (λ e. cc) (λ r tail e.
    let read = begins_read r tail (codes "0 0 1") (sym e) in
    let first : codes "r 0 0 1" ≡ line_text (record { caller = r.caller; what = Read read.0 read.1 }) ++ tail = e ∙ ap (λ q. line_text q ++ tail) read.2 in
    let caller = same_numeral 0 r.caller 32 32 (codes "0 1") _ space space (tail_is 32 32 _ _ (tail_is 114 114 _ _ (first ∙ read_line r.caller read.0 read.1 tail))) in
    let block = same_numeral 0 read.0 32 32 (codes "1") _ space space caller.after in
    no_end (numeral read.1) 10 tail (49 ∷ []) (record { low = omega arith; high = omega arith }, tt) (λ d. (let low = d.low in omega arith)) (sym block.after)))

pub returns-clause-caller_first : goal.returns-clause-caller_first
unfolding read line_text numeral
returns-clause-caller_first c =
    line [] (codes "r 64 0 32769\n") (lit≤ tt) (at_front (codes "r 64 0 32769\n"))
    (caller (read 64 0 32769) [] refl (record { place_most = lit< tt; some = lit≤ tt; count_most = lit< tt }) (lit< tt))

discard : ℕ → ℕ → ℕ → Request
discard c b n = record { caller = c; what = Discard b n }

pub returns-clause-far : goal.returns-clause-far
unfolding discard line_text numeral
returns-clause-far c =
    line [] (codes "d 0 18446744073709551616 1\n") (lit≤ tt) (at_front (codes "d 0 18446744073709551616 1\n"))
    (number (discard 0 18446744073709551616 1) [] refl (λ h. (let below : 18446744073709551616 < 18446744073709551616 = h.place_most in omega arith)))

pub returns-clause-discards : goal.returns-clause-discards
unfolding discard line_text numeral
returns-clause-discards c =
    line (discard 0 0 4194304 ∷ []) (codes "d 1 0 1\n") (lit≤ tt)
    (record { text = refl; numbers = ((record { place_most = lit< tt; some = lit≤ tt; count_most = lit< tt }), tt); callers = (lit≤ tt, tt); limits = record { requests = lit≤ tt; moved = lit≤ tt; discarded = lit≤ tt } })
    (long (discard 1 0 1) [] refl (record { place_most = lit< tt; some = lit≤ tt; count_most = lit< tt }) (lit≤ tt) (λ h. (let all : 4194305 ≤ 4194304 = h.discarded in omega arith)))

read_sectors : ℕ → ℕ → ℕ → Request
read_sectors c i n = record { caller = c; what = ReadSectors i n }

pub returns-clause-sectors : goal.returns-clause-sectors
unfolding read_sectors line_text numeral
returns-clause-sectors c =
    line [] (codes "rs 0 7 262138\n") (lit≤ tt) (at_front (codes "rs 0 7 262138\n"))
    (long (read_sectors 0 7 262138) [] refl (record { place_most = lit< tt; some = lit≤ tt; count_most = lit< tt }) (lit≤ tt)
    (λ h. (let moved : 32769 ≤ 32768 = h.moved in omega arith)))

pub returns-clause-sectors_caller_first : goal.returns-clause-sectors_caller_first
unfolding read_sectors line_text numeral
returns-clause-sectors_caller_first c =
    line [] (codes "rs 64 7 262138\n") (lit≤ tt) (at_front (codes "rs 64 7 262138\n"))
    (caller (read_sectors 64 7 262138) [] refl (record { place_most = lit< tt; some = lit≤ tt; count_most = lit< tt }) (lit< tt))

write_sectors : ℕ → ℕ → ℕ → ℕ → Request
write_sectors c i n s = record { caller = c; what = WriteSectors i n s }

pub returns-clause-no_sector : goal.returns-clause-no_sector
unfolding write_sectors line_text numeral
returns-clause-no_sector c =
    line [] (codes "ws 64 0 0 1\n") (lit≤ tt) (at_front (codes "ws 64 0 0 1\n"))
    (number (write_sectors 64 0 0 1) [] refl (λ h. (let some : 1 ≤ 0 = h.0.some in omega arith)))
