use Rattle.std.proofs.Common.{◌≡◌, ℕ, List, [], ◌∷◌, Option, Some, None, IfNone, sym, ap, ◌∙◌}
use Rattle.std.proofs.lemmas.Bool.Decides.{Decides-eqb}
use Rattle.std.proofs.lemmas.List.{nil_from_length}
use Rattle.std.proofs.lemmas.Slice.Eq.{strip_prefix_is}
use Rattle.zd_model.proofs.LineLaws.{no_line}
use Rattle.zd_script.proofs.NumberLaws.{where_none}
use Rattle.zd_script.proofs.LineForms.{no_line_in_blocks, no_line_in_sectors}
use Rattle.zd_script.proofs.line.first_line.Goals as goal

pub returns-in_err-letter-clause-none : goal.returns-in_err-letter-clause-none
returns-in_err-letter-clause-none c = where_none c.from_residual.result _ (λ r rest e. no_line r rest (sym (nil_from_length c.args.text.now c.in_err-letter.ensures.cases) ∙ e))

-- what holds where there is none
none_then : {X : Type 0} (o : Option X) (P Q : Type 0) → (P → Q) → IfNone o P → IfNone o Q
none_then None P Q f h = f h
none_then (Some x) P Q f h = tt

pub returns-in-Some-clause-none : goal.returns-in-Some-clause-none
returns-in-Some-clause-none c =
    let letter : ℕ = c.in_ok-letter.letter.now in
    let after : List ℕ = c.in_ok-letter.rest.now in
    let split : after ≡ 115 ∷ c.in-Some.fields.now = strip_prefix_is Decides-eqb after (115 ∷ []) (Some c.in-Some.fields) c.in-Some.ensures.cases in
    let whole : c.args.text.now ≡ letter ∷ 115 ∷ c.in-Some.fields.now = c.in_ok-letter.ensures.cases.0 ∙ ap (λ xs. letter ∷ xs) split in
    none_then c.line_in_sectors.result _ _
    (λ none r rest e. no_line_in_sectors letter c.in-Some.fields.now none r rest (sym whole ∙ e)) c.line_in_sectors.ensures.none

pub returns-in-None-clause-none : goal.returns-in-None-clause-none
returns-in-None-clause-none c =
    let letter : ℕ = c.in_ok-letter.letter.now in
    let after : List ℕ = c.in_ok-letter.rest.now in
    let other = strip_prefix_is Decides-eqb after (115 ∷ []) None c.in-None.ensures.cases in
    none_then c.line_in_blocks.result _ _
    (λ none r rest e. no_line_in_blocks letter after other none r rest (sym c.in_ok-letter.ensures.cases.0 ∙ e))
    c.line_in_blocks.ensures.none
