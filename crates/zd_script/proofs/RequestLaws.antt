-- A right request is all that its line tells, and which rule a line breaks.
use Rattle.std.proofs.Common.{◌≡◌, ℕ, ◌-◌, ◌<◌, ◌^◌, List, [], ◌∷◌, ◌++◌, map, refl, sym, ap, ap₂, ◌∙◌, arith}
use Rattle.std.specs.List.{AllByRecursion}
use Rattle.std.proofs.lemmas.List.{length-append}
use Rattle.std.proofs.lemmas.List.Sums.{sum_by_push}
use Rattle.zd_model.specs.Script.{HasNumbers, IsSpan, IsWithinLimits, BreaksLineRule, letters_of, line_text, numbers_of, moved_blocks, discarded_blocks}
use Rattle.zd_model.specs.Script.BreaksLineRule.{number, caller, long}
use Rattle.zd_model.specs.declared.requests.What.{What}
use Rattle.zd_model.specs.declared.requests.What.TheVariants.{Read, Write, Discard, Flush}
use Rattle.zd_model.specs.declared.requests.What.TheVariants.{ReadSectors, WriteSectors}
use Rattle.zd_model.specs.declared.requests.Request.{Request}
use Rattle.zd_model.specs.declared.texts.BadLine.{BadLine}
use Rattle.zd_model.specs.declared.texts.BadLine.TheVariants.{Form, Number, Caller, TooLong}
use Rattle.zd_script.specs.Number.{told}
use Rattle.zd_script.specs.Line.{IsRightRequest, BreaksRequestRule, asks_of, line_of}
use Rattle.zd_script.specs.Limits.{IsLeftOfLimits, Spends}
use Rattle.zd_script.specs.declared.limits.Limits.{Limits}
use Rattle.zd_script.specs.declared.line.Asks.{Asks}
use Rattle.zd_script.specs.declared.line.Asks.TheVariants as asks
use Rattle.zd_script.specs.declared.line.Line.{Line}
use Rattle.zd_model.proofs.LineLaws.{what_is}
use Rattle.zd_model.proofs.TextLaws.{head_is, tail_is}
use Rattle.zd_script.proofs.LineForms.{IsLine}

-- the request that a line asks for
what_of : Asks → What
what_of (asks.Read block count) = Read block count
what_of (asks.Write block count seed) = Write block count seed
what_of (asks.Discard block count) = Discard block count
what_of asks.Flush = Flush
what_of (asks.ReadSectors sector count) = ReadSectors sector count
what_of (asks.WriteSectors sector count seed) = WriteSectors sector count seed

same_letters : (w : What) → letters_of (what_of (asks_of w)) ≡ letters_of w
unfolding what_of
same_letters (Read b n) = refl
same_letters (Write b n s) = refl
same_letters (Discard b n) = refl
same_letters Flush = refl
same_letters (ReadSectors i n) = refl
same_letters (WriteSectors i n s) = refl

told_numbers : (w : What) → numbers_of (what_of (asks_of w)) ≡ map told (numbers_of w)
unfolding what_of
told_numbers (Read b n) = refl
told_numbers (Write b n s) = refl
told_numbers (Discard b n) = refl
told_numbers Flush = refl
told_numbers (ReadSectors i n) = refl
told_numbers (WriteSectors i n s) = refl

same_number : (m n : ℕ) → told m ≡ told n → n < 2 ^ 64 → m ≡ n
same_number m n e small = omega arith

AreSmall : List ℕ → Type 0
AreSmall ns = AllByRecursion (λ n. n < 2 ^ 64) ns

same_numbers : (ms ns : List ℕ) → map told ms ≡ map told ns → AreSmall ns → ms ≡ ns
unfolding AreSmall
same_numbers [] [] e small = refl
same_numbers [] (n ∷ ns) e small = cc
same_numbers (m ∷ ms) [] e small = cc
same_numbers (m ∷ ms) (n ∷ ns) e small =
    let first = same_number m n (head_is (told m) (told n) (map told ms) (map told ns) e) small.0 in
    let others = same_numbers ms ns (tail_is (told m) (told n) (map told ms) (map told ns) e) small.1 in
    ap₂ (λ (x : ℕ) (xs : List ℕ). x ∷ xs) first others

span_small : (place count : ℕ) (more : List ℕ) → IsSpan place count → AreSmall more → AreSmall (place ∷ count ∷ more)
unfolding AreSmall
span_small place count more span small =
    let most = span.place_most in
    let few = span.count_most in
    (omega arith, (omega arith, small))

numbers_small : (w : What) → HasNumbers w → AreSmall (numbers_of w)
unfolding AreSmall
numbers_small (Read b n) h = span_small b n [] h tt
numbers_small (Write b n s) h = span_small b n (s ∷ []) h.0 (omega (arith, h.1), tt)
numbers_small (Discard b n) h = span_small b n [] h tt
numbers_small Flush h = tt
numbers_small (ReadSectors i n) h = span_small i n [] h tt
numbers_small (WriteSectors i n s) h = span_small i n (s ∷ []) h.0 (omega (arith, h.1), tt)

same_what : (v w : What) → asks_of v ≡ asks_of w → HasNumbers w → v ≡ w
same_what v w e right =
    let letters = sym (same_letters v) ∙ ap (λ a. letters_of (what_of a)) e ∙ same_letters w in
    let values = sym (told_numbers v) ∙ ap (λ a. numbers_of (what_of a)) e ∙ told_numbers w in
    what_is v w letters (same_numbers (numbers_of v) (numbers_of w) values (numbers_small w right))

same_request : (q r : Request) → line_of q ≡ line_of r → IsRightRequest r → q ≡ r
same_request q r e right =
    let few = right.caller in
    let callers = same_number q.caller r.caller (ap (λ (l : Line). l.caller) e) (omega arith) in
    let whats = same_what q.what r.what (ap (λ (l : Line). l.asks) e) right.numbers in
    λ i. record { caller = callers i; what = whats i }

-- a right request that is told as the line in front is the line's
pub right_stands : (text rest : List ℕ) (line : Line) (r : Request) → IsLine text rest line → IsRightRequest r → line ≡ line_of r → text ≡ line_text r ++ rest
right_stands text rest line r found right is =
    found.1 ∙ ap (λ (q : Request). line_text q ++ rest) (same_request found.0 r (sym found.2 ∙ is) right)

-- which rule a line in front breaks
pub wrong_breaks : (plan : List Request) (text rest : List ℕ) (line : Line) (why : BadLine) → IsLine text rest line → ((r : Request) → line ≡ line_of r → BreaksRequestRule r why) → BreaksLineRule plan text why
wrong_breaks plan text rest line Form found wrong = absurd (wrong found.0 found.2)
wrong_breaks plan text rest line Number found wrong = number found.0 rest found.1 (wrong found.0 found.2)
wrong_breaks plan text rest line Caller found wrong = let broken = wrong found.0 found.2 in caller found.0 rest found.1 broken.0 broken.1
wrong_breaks plan text rest line TooLong found wrong = absurd (wrong found.0 found.2)

left_of : Limits → Request → Limits
left_of limits r = record { requests = limits.requests - 1; moved = limits.moved - moved_blocks r.what; discarded = limits.discarded - discarded_blocks r.what }

spends_left : (limits : Limits) (plan : List Request) (r : Request) → IsLeftOfLimits limits plan → IsWithinLimits (plan ++ r ∷ []) → Spends limits (left_of limits r) r.what
unfolding left_of
spends_left limits plan r before fits = record {
  requests = let b = before.requests in let f = fits.requests in omega (arith, length-append plan (r ∷ []));
  moved = let b = before.moved in let f = fits.moved in omega (arith, sum_by_push (λ (q : Request). moved_blocks q.what) plan r);
  discarded = let b = before.discarded in let f = fits.discarded in omega (arith, sum_by_push (λ (q : Request). discarded_blocks q.what) plan r);
}

-- the limits don't leave enough for the line in front
pub much_breaks : (plan : List Request) (text rest : List ℕ) (line : Line) (r : Request) (limits : Limits) → IsLine text rest line → IsRightRequest r → line ≡ line_of r → IsLeftOfLimits limits plan → ((left : Limits) → Spends limits left r.what → ⊥) → BreaksLineRule plan text TooLong
much_breaks plan text rest line r limits found right is before much =
    long r rest (right_stands text rest line r found right is) right.numbers right.caller (λ fits. much (left_of limits r) (spends_left limits plan r before fits))
