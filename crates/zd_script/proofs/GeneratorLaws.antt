-- The sequence of a seed, five numbers at a time, and the requests that they make.
use Rattle.std.proofs.Common.{◌≡◌, ℕ, ◌+◌, ◌-◌, ◌*◌, List, [], ◌∷◌, ◌++◌, refl, sym, ap, ap₂, ◌∙◌, add-one, arith}
use Rattle.std.proofs.lemmas.List.FromFn.{map-range_with_len_more}
use Rattle.zd_model.specs.declared.requests.Request.{Request}
use Rattle.zd_script.specs.Generator.{Draws, draws_after, draws_of, made, next_number, number_of}
use Rattle.zd_script.specs.Generator.{request_of}

-- NUMBERS
next_is : (seed k m : ℕ) → k ≡ m + 1 → number_of seed k ≡ next_number (number_of seed m)
next_is seed k m e = ap (number_of seed) (e ∙ add-one m)

-- the numbers of a request are the five after those of the requests before it
pub draws_next : (seed i : ℕ) → draws_of seed (i + 1) ≡ draws_after (number_of seed (5 * i))
draws_next seed i =
    let q : ℕ = i + 1 in
    let count = next_is seed (5 * q) (5 * q - 1) (omega arith) in
    let low = next_is seed (5 * q - 1) (5 * q - 2) (omega arith) in
    let high = next_is seed (5 * q - 2) (5 * q - 3) (omega arith) in
    let caller = next_is seed (5 * q - 3) (5 * q - 4) (omega arith) in
    let kind = next_is seed (5 * q - 4) (5 * i) (omega arith) in
    rw (count, low, high, caller, kind) refl

-- PLANS
-- one more request of a plan
pub made_more : (seed i blocks x : ℕ) (plan : List Request) (r : Request) → plan ≡ made seed i blocks
    → x ≡ number_of seed (5 * i) → r ≡ request_of blocks (i + 1) (draws_after x)
    → plan ++ r ∷ [] ≡ made seed (i + 1) blocks
made_more seed i blocks x plan r before last is =
    let f : ℕ → Request = λ q. request_of blocks q (draws_of seed q) in
    let next : r ≡ f (i + 1) =
    is ∙ ap (request_of blocks (i + 1)) (ap draws_after last ∙ sym (draws_next seed i)) in
    ap₂ (λ (p : List Request) (s : Request). p ++ s ∷ []) before next
    ∙ sym (map-range_with_len_more f 1 i (i + 1) (omega arith))

-- and the last number that was drawn for it
pub number_more : (seed i x : ℕ) → x ≡ number_of seed (5 * i)
    → (draws_after x).count ≡ number_of seed (5 * (i + 1))
number_more seed i x last = ap (λ (d : Draws). d.count) (ap draws_after last ∙ sym (draws_next seed i))
