-- One argument more.
use Rattle.std.proofs.Common.{◌≡◌, ℕ, ◌+◌, ◌<◌, suc, refl, sym, ap, ◌∙◌, subst, List, [], ◌∷◌, ◌++◌, map, drop, length, append_assoc, drop-cons, add-one, drop_of_length-le, ◌≤◌, append-nil}
use Rattle.std.specs.List.{slice_index_or}
use Rattle.std.specs.Borrow.{Bor}
use Rattle.clap.specs.Walk.{Rule, Text}
use Rattle.clap.specs.Simple.{App, on_top, with_rule}
use Rattle.zd_commands.specs.Table.{texts, with_rules}

with_top : App → List Rule → App
with_top app rules = on_top (λ top. record top { rules = rules }) app

pub one_more : (app made whole : App) (f : Text → Rule) (names : List (Bor Text)) (i : ℕ) (d : Bor Text) → i < length names
    → made ≡ with_rule app (f (slice_index_or names i d).now) → with_rules app (map f (texts (drop i names))) ≡ whole → with_rules made (map f (texts (drop (i + 1) names))) ≡ whole
one_more app made whole f names i d lt is h =
    ap (λ (a : App). with_rules a (map f (texts (drop (i + 1) names)))) is
    ∙ ap (λ (n : ℕ). with_rules (with_rule app (f (slice_index_or names i d).now)) (map f (texts (drop n names)))) (add-one i)
    ∙ ap (λ (rules : List Rule). on_top (λ top. record top { rules = rules }) app) (append_assoc app.top.rules (f (slice_index_or names i d).now ∷ []) (map f (texts (drop (suc i) names))))
    ∙ sym (ap (λ (xs : List (Bor Text)). with_rules app (map f (texts xs))) (drop-cons names i d lt))
    ∙ h

pub no_more : (app : App) (f : Text → Rule) (names : List (Bor Text)) (i : ℕ) → length names ≤ i → with_rules app (map f (texts (drop i names))) ≡ app
no_more app f names i past =
    ap (λ (xs : List (Bor Text)). with_rules app (map f (texts xs))) (drop_of_length-le names past)
    ∙ ap (λ (rules : List Rule). on_top (λ top. record top { rules = rules }) app) (append-nil app.top.rules)
