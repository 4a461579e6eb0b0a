-- The plan of the lines that were read so far, and of all.
use Rattle.std.proofs.Common.{◌≡◌, ◌≢◌, ℕ, Bool, true, false, ◌+◌, ◌<◌, ◌≤◌, List, [], ◌∷◌, ◌++◌, length, refl, sym, ap, ◌∙◌, arith, subst}
use Rattle.std.specs.Prelude.{nat_eq}
use Rattle.std.specs.List.{AllByRecursion}
use Rattle.std.proofs.lemmas.List.{append_assoc, append-nil, length-append, nil_from_length}
use Rattle.std.proofs.lemmas.Bool.Decides.{nat_tests}
use Rattle.std.proofs.lemmas.List.Sums.{sum_by_push}
use Rattle.zd_model.specs.Script.{HasNumbers, IsWithinLimits, BeginsWithLines, IsScript, BreaksLineRule, RefusesScript, line_text, moved_blocks, discarded_blocks}
use Rattle.zd_model.specs.Script.RefusesScript.{line}
use Rattle.zd_model.specs.declared.requests.Request.{Request}
use Rattle.zd_model.specs.declared.texts.BadLine.{BadLine}
use Rattle.zd_model.proofs.LineLaws.{no_line}
use Rattle.zd_model.proofs.RefusalLaws.{texts}
use Rattle.zd_script.specs.Line.{IsRightRequest}
use Rattle.zd_script.specs.Limits.{IsLeftOfLimits, Spends}
use Rattle.zd_script.specs.declared.limits.Limits.{Limits}

-- the plan of the lines in front
pub record IsPlanSoFar (bytes : List ℕ) (plan : List Request) (rest : List ℕ) (limits : Limits) : Type 0 where
  pub text : bytes ≡ texts plan ++ rest
  pub right : AllByRecursion IsRightRequest plan
  pub left : IsLeftOfLimits limits plan

AllByRecursion-push : (P : Request → Type 0) (plan : List Request) (r : Request) → AllByRecursion P plan → P r → AllByRecursion P (plan ++ r ∷ [])
AllByRecursion-push P [] r all h = (h, tt)
AllByRecursion-push P (q ∷ plan) r all h = (all.0, AllByRecursion-push P plan r all.1 h)

pub AllByRecursion-map : (P Q : Request → Type 0) → ((r : Request) → P r → Q r) → (plan : List Request) → AllByRecursion P plan → AllByRecursion Q plan
AllByRecursion-map P Q f [] all = tt
AllByRecursion-map P Q f (r ∷ plan) all = (f r all.0, AllByRecursion-map P Q f plan all.1)

texts-push : (plan : List Request) (r : Request) (tail : List ℕ) → texts (plan ++ r ∷ []) ++ tail ≡ texts plan ++ (line_text r ++ tail)
texts-push [] r tail = ap (λ xs. xs ++ tail) (append-nil (line_text r))
texts-push (q ∷ plan) r tail =
    append_assoc (line_text q) (texts (plan ++ r ∷ [])) tail ∙ ap (λ xs. line_text q ++ xs) (texts-push plan r tail) ∙ sym (append_assoc (line_text q) (texts plan) (line_text r ++ tail))

left_after : (limits left : Limits) (plan : List Request) (r : Request) → IsLeftOfLimits limits plan → Spends limits left r.what → IsLeftOfLimits left (plan ++ r ∷ [])
left_after limits left plan r before spends = record {
  requests = let b = before.requests in let s = spends.requests in omega (arith, length-append plan (r ∷ []));
  moved = let b = before.moved in let s = spends.moved in omega (arith, sum_by_push (λ (q : Request). moved_blocks q.what) plan r);
  discarded = let b = before.discarded in let s = spends.discarded in omega (arith, sum_by_push (λ (q : Request). discarded_blocks q.what) plan r);
}

-- one more line
pub one_more_line : (bytes : List ℕ) (plan : List Request) (r : Request) (rest tail : List ℕ) (limits left : Limits) → IsPlanSoFar bytes plan rest limits → rest ≡ line_text r ++ tail → IsRightRequest r → Spends limits left r.what → IsPlanSoFar bytes (plan ++ r ∷ []) tail left
one_more_line bytes plan r rest tail limits left so_far is right spends = record {
  text = so_far.text ∙ ap (λ xs. texts plan ++ xs) is ∙ sym (texts-push plan r tail);
  right = AllByRecursion-push IsRightRequest plan r so_far.right right;
  left = left_after limits left plan r so_far.left spends;
}

within : (limits : Limits) (plan : List Request) → IsLeftOfLimits limits plan → IsWithinLimits plan
within limits plan left = record {
  requests = let h = left.requests in omega arith;
  moved = let h = left.moved in omega arith;
  discarded = let h = left.discarded in omega arith;
}

begins : (bytes : List ℕ) (plan : List Request) (rest : List ℕ) (limits : Limits) → IsPlanSoFar bytes plan rest limits → BeginsWithLines bytes plan rest
begins bytes plan rest limits so_far = record {
  text = so_far.text;
  numbers = AllByRecursion-map IsRightRequest (λ r. HasNumbers r.what) (λ r h. h.numbers) plan so_far.right;
  callers = AllByRecursion-map IsRightRequest (λ r. r.caller ≤ 63) (λ r h. h.caller) plan so_far.right;
  limits = within limits plan so_far.left;
}

-- the end of the text
pub plan_stands : (bytes : List ℕ) (plan : List Request) (rest : List ℕ) (limits : Limits) → IsPlanSoFar bytes plan rest limits → rest ≡ [] → length bytes ≤ 67_108_864 → IsScript bytes plan
plan_stands bytes plan rest limits so_far none small = record { size = small; lines = subst (BeginsWithLines bytes plan) none (begins bytes plan rest limits so_far) }

-- the next line breaks a rule
pub line_breaks : {why : BadLine} (bytes : List ℕ) (plan : List Request) (rest : List ℕ) (limits : Limits) (number : ℕ) → IsPlanSoFar bytes plan rest limits → length bytes ≤ 67_108_864 → number ≡ length plan + 1 → BreaksLineRule plan rest why → RefusesScript bytes number why
line_breaks {why} bytes plan rest limits number so_far small is breaks =
    subst (λ n. RefusesScript bytes n why) (sym is) (line plan rest small (begins bytes plan rest limits so_far) breaks)

longer : (xs ys zs : List ℕ) → zs ≡ xs ++ ys → (xs ≡ [] → ⊥) → length ys < length zs
longer [] ys zs e full = absurd (full refl)
longer (x ∷ xs) ys zs e full = let whole = ap length e in omega (arith, length-append xs ys)

pub line_shortens : (rest tail : List ℕ) (r : Request) → rest ≡ line_text r ++ tail → length tail < length rest
line_shortens rest tail r e = longer (line_text r) tail rest e (λ none. no_line r [] (sym (append-nil (line_text r) ∙ none)))

pub there_is_more : (xs : List ℕ) (b : Bool) → b ≡ nat_eq (length xs) 0 → b ≡ false → xs ≢ []
there_is_more [] b is e none = cc
there_is_more (x ∷ xs) b is e none = cc

pub there_is_none : (xs : List ℕ) (b : Bool) → b ≡ nat_eq (length xs) 0 → b ≡ true → xs ≡ []
there_is_none xs b is e = nil_from_length xs (grind (arith, nat_tests))
