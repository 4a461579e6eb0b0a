use Rattle.std.proofs.Common.{ap, sym, ◌∙◌}
use Rattle.std.specs.Prelude.{string_bytes}
use Rattle.std.proofs.lemmas.Bool.{false≢true}
use Rattle.std.proofs.lemmas.Slice.Eq.{bytes_eq-Decides}
use Rattle.zd_ports.specs.Words.{is_option}
use Rattle.zd_admin.proofs.WordLaws.{are_alone, are_not_alone, two_words}
use Rattle.zd_admin.proofs.words.asks_alone.Goals as goal

pub returns-then-eq : goal.returns-then-eq
returns-then-eq c =
    are_alone c.args.option.now _ (string_bytes c.first-item.result) (string_bytes c.image-item.result) c.is_option.result
    (two_words string_bytes c.args.words.now c.first-item.result c.image-item.result c.in-len2.len_at_least
    c.in-len2.len_below c.first-item.is c.image-item.is)
    (sym c.as_str.ensures.value ∙ (bytes_eq-Decides c.as_str.result.now c.args.option.now).0 (sym c.eq.ensures ∙ c.if-eq.true))
    (c.is_option.ensures ∙ ap is_option c.deref.ensures)

pub returns-else-eq : goal.returns-else-eq
returns-else-eq c =
    are_not_alone c.args.option.now _ (string_bytes c.first-item.result) (string_bytes c.image-item.result) c.eq.result
    (two_words string_bytes c.args.words.now c.first-item.result c.image-item.result c.in-len2.len_at_least
    c.in-len2.len_below c.first-item.is c.image-item.is)
    c.if-eq.false
    (λ same. false≢true (sym c.if-eq.false ∙ c.eq.ensures ∙ (bytes_eq-Decides c.as_str.result.now c.args.option.now).1 (c.as_str.ensures.value ∙ same)))
