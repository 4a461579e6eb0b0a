-- A text is a script or is refused, and for one reason.
use Rattle.std.proofs.Common.{◌≡◌, ℕ, ◌+◌, ◌≤◌, ◌⊎◌, List, [], ◌∷◌, ◌++◌, length, refl, sym, ap, ap₂, ◌∙◌, arith, subst, inl, inr}
use Rattle.std.specs.Prelude.{sum_by}
use Rattle.std.specs.List.{AllByRecursion, flat_map}
use Rattle.std.proofs.lemmas.List.{append_assoc, length-append}
use Rattle.std.proofs.lemmas.List.Sums.{sum_by-append}
use Rattle.zd_model.specs.Script.{HasNumbers, IsWithinLimits, BeginsWithLines, IsScript, BreaksLineRule, RefusesScript, line_text, moved_blocks, discarded_blocks}
use Rattle.zd_model.specs.Script.BreaksLineRule.{form, number, caller, long}
use Rattle.zd_model.specs.Script.RefusesScript.{size, line}
use Rattle.zd_model.specs.declared.requests.Request.{Request}
use Rattle.zd_model.specs.declared.texts.BadLine.{BadLine}
use Rattle.zd_model.proofs.LineLaws.{same_line, no_line}

abbrev pub texts : List Request → List ℕ
texts plan = flat_map line_text plan

-- the second plan goes on where the first ends
pub record GoesOn (p q : List Request) (rest more : List ℕ) : Type 0 where
  pub first : Request
  pub others : List Request
  pub plan : q ≡ p ++ first ∷ others
  pub text : rest ≡ line_text first ++ (texts others ++ more)

pub record IsSame (p q : List Request) (rest more : List ℕ) : Type 0 where
  pub plan : p ≡ q
  pub after : rest ≡ more

abbrev pub Compared : List Request → List Request → List ℕ → List ℕ → Type 0
Compared p q rest more = IsSame p q rest more ⊎ (GoesOn p q rest more ⊎ GoesOn q p more rest)

with_first : (r s : Request) (p q : List Request) (rest more : List ℕ) → r ≡ s → Compared p q rest more → Compared (r ∷ p) (s ∷ q) rest more
with_first r s p q rest more e (inl same) = inl (record { plan = ap₂ (λ (x : Request) (xs : List Request). x ∷ xs) e same.plan; after = same.after })
with_first r s p q rest more e (inr (inl on)) = inr (inl (record { first = on.first; others = on.others; plan = ap₂ (λ (x : Request) (xs : List Request). x ∷ xs) (sym e) on.plan; text = on.text }))
with_first r s p q rest more e (inr (inr on)) = inr (inr (record { first = on.first; others = on.others; plan = ap₂ (λ (x : Request) (xs : List Request). x ∷ xs) e on.plan; text = on.text }))

pub compare : (p q : List Request) (rest more : List ℕ) → texts p ++ rest ≡ texts q ++ more → Compared p q rest more
compare [] [] rest more e = inl (record { plan = refl; after = e })
compare [] (s ∷ q) rest more e = inr (inl (record { first = s; others = q; plan = refl; text = e ∙ append_assoc (line_text s) (texts q) more }))
compare (r ∷ p) [] rest more e = inr (inr (record { first = r; others = p; plan = refl; text = sym e ∙ append_assoc (line_text r) (texts p) rest }))
compare (r ∷ p) (s ∷ q) rest more e =
    let same = same_line r s (texts p ++ rest) (texts q ++ more) (sym (append_assoc (line_text r) (texts p) rest) ∙ e ∙ append_assoc (line_text s) (texts q) more) in
    with_first r s p q rest more same.request (compare p q rest more same.after)

pub middle : (P : Request → Type 0) (p : List Request) (r : Request) (q : List Request) → AllByRecursion P (p ++ r ∷ q) → P r
middle P [] r q h = h.0
middle P (s ∷ p) r q h = middle P p r q h.1

-- a plan that is shorter stays within the limits
sum-shorter : (f : Request → ℕ) (p : List Request) (r : Request) (q : List Request) → sum_by f (p ++ r ∷ []) ≤ sum_by f (p ++ r ∷ q)
sum-shorter f p r q =
    let whole = ap (sum_by f) (append_assoc p (r ∷ []) q) in
    omega (arith, sum_by-append f (p ++ r ∷ []) q)

pub shorter : (p : List Request) (r : Request) (q : List Request) → IsWithinLimits (p ++ r ∷ q) → IsWithinLimits (p ++ r ∷ [])
shorter p r q h = record {
  requests = let k = h.requests in omega (arith, length-append p (r ∷ q), length-append p (r ∷ []));
  moved = let k = h.moved in omega (arith, sum-shorter (λ (r : Request). moved_blocks r.what) p r q);
  discarded = let k = h.discarded in omega (arith, sum-shorter (λ (r : Request). discarded_blocks r.what) p r q);
}

-- a right line breaks no rule
right_line : {why : BadLine} (p : List Request) (rest : List ℕ) (r : Request) (tail : List ℕ) → rest ≡ line_text r ++ tail → HasNumbers r.what → r.caller ≤ 63 → IsWithinLimits (p ++ r ∷ []) → BreaksLineRule p rest why → ⊥
right_line p rest r tail is numbers few within (form full none) = none r tail is
right_line p rest r tail is numbers few within (number s after e bad) = bad (subst (λ (q : Request). HasNumbers q.what) (same_line r s tail after (sym is ∙ e)).request numbers)
right_line p rest r tail is numbers few within (caller s after e right much) = let same = ap (λ (q : Request). q.caller) (same_line r s tail after (sym is ∙ e)).request in omega arith
right_line p rest r tail is numbers few within (long s after e right small bad) = bad (subst (λ q. IsWithinLimits (p ++ q ∷ [])) (same_line r s tail after (sym is ∙ e)).request within)

goes_on : {why : BadLine} (bytes : List ℕ) (p q : List Request) (rest more : List ℕ) → GoesOn p q rest more → BeginsWithLines bytes q more → BreaksLineRule p rest why → ⊥
goes_on bytes p q rest more on begins breaks =
    let numbers = middle (λ r. HasNumbers r.what) p on.first on.others (subst (AllByRecursion (λ (r : Request). HasNumbers r.what)) on.plan begins.numbers) in
    let callers = middle (λ r. r.caller ≤ 63) p on.first on.others (subst (AllByRecursion (λ (r : Request). r.caller ≤ 63)) on.plan begins.callers) in
    right_line p rest on.first (texts on.others ++ more) on.text numbers callers (shorter p on.first on.others (subst IsWithinLimits on.plan begins.limits)) breaks

both_break : {w v : BadLine} (p : List Request) (rest : List ℕ) → BreaksLineRule p rest w → BreaksLineRule p rest v → w ≡ v
both_break p rest (form full none) (form full' none') = refl
both_break p rest (form full none) (number r tail e bad) = absurd (none r tail e)
both_break p rest (form full none) (caller r tail e right much) = absurd (none r tail e)
both_break p rest (form full none) (long r tail e right few bad) = absurd (none r tail e)
both_break p rest (number r tail e bad) (form full none) = absurd (none r tail e)
both_break p rest (number r tail e bad) (number s after k worse) = refl
both_break p rest (number r tail e bad) (caller s after k right much) = absurd (bad (subst (λ (q : Request). HasNumbers q.what) (same_line s r after tail (sym k ∙ e)).request right))
both_break p rest (number r tail e bad) (long s after k right few worse) = absurd (bad (subst (λ (q : Request). HasNumbers q.what) (same_line s r after tail (sym k ∙ e)).request right))
both_break p rest (caller r tail e right much) (form full none) = absurd (none r tail e)
both_break p rest (caller r tail e right much) (number s after k bad) = absurd (bad (subst (λ (q : Request). HasNumbers q.what) (same_line r s tail after (sym e ∙ k)).request right))
both_break p rest (caller r tail e right much) (caller s after k good more) = refl
both_break p rest (caller r tail e right much) (long s after k good few bad) = absurd (let same = ap (λ (q : Request). q.caller) (same_line r s tail after (sym e ∙ k)).request in omega arith)
both_break p rest (long r tail e right few bad) (form full none) = absurd (none r tail e)
both_break p rest (long r tail e right few bad) (number s after k worse) = absurd (worse (subst (λ (q : Request). HasNumbers q.what) (same_line r s tail after (sym e ∙ k)).request right))
both_break p rest (long r tail e right few bad) (caller s after k good much) = absurd (let same = ap (λ (q : Request). q.caller) (same_line r s tail after (sym e ∙ k)).request in omega arith)
both_break p rest (long r tail e right few bad) (long s after k good less worse) = refl

-- a text is refused for one reason
pub one_refusal : {w v : BadLine} {m n : ℕ} (bytes : List ℕ) → RefusesScript bytes m w → RefusesScript bytes n v → (m ≡ n) × (w ≡ v)
one_refusal bytes (size large) (size large') = (refl, refl)
one_refusal bytes (size large) (line q more small begins breaks) = absurd (omega arith)
one_refusal bytes (line p rest small begins breaks) (size large) = absurd (omega arith)
one_refusal {w} {v} bytes (line p rest small begins breaks) (line q more small' begins' breaks') =
    elim (compare p q rest more (sym begins.text ∙ begins'.text)) [
      | inl same ↦ (ap (λ (xs : List Request). length xs + 1) same.plan, both_break q more (subst (λ xs. BreaksLineRule xs more w) same.plan (subst (λ ys. BreaksLineRule p ys w) same.after breaks)) breaks')
      | inr differ ↦ elim differ [
        | inl on ↦ absurd (goes_on bytes p q rest more on begins' breaks)
        | inr on ↦ absurd (goes_on bytes q p more rest on begins breaks')
      ]
    ]

nothing_breaks : {w : BadLine} (p : List Request) (rest : List ℕ) → rest ≡ [] → BreaksLineRule p rest w → ⊥
nothing_breaks p rest e (form full none) = full e
nothing_breaks p rest e (number r tail k bad) = no_line r tail (sym e ∙ k)
nothing_breaks p rest e (caller r tail k right much) = no_line r tail (sym e ∙ k)
nothing_breaks p rest e (long r tail k right few bad) = no_line r tail (sym e ∙ k)

-- a script is not refused
pub script_stands : {w : BadLine} {n : ℕ} (bytes : List ℕ) (plan : List Request) → IsScript bytes plan → RefusesScript bytes n w → ⊥
script_stands bytes plan s (size large) = let small = s.size in omega arith
script_stands bytes plan s (line p rest small begins breaks) =
    elim (compare p plan rest [] (sym begins.text ∙ s.lines.text)) [
      | inl same ↦ nothing_breaks p rest same.after breaks
      | inr differ ↦ elim differ [
        | inl on ↦ goes_on bytes p plan rest [] on s.lines breaks
        | inr on ↦ no_line on.first _ on.text
      ]
    ]
