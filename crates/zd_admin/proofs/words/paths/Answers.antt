use Rattle.std.proofs.Common.{sym, ap, ◌∙◌, Some}
use Rattle.std.specs.Prelude.{string_bytes}
use Rattle.zd_admin.proofs.WordLaws.{last_word, where_some}
use Rattle.zd_admin.proofs.words.paths.Goals as goal

pub returns-in-len1-up-clause-value : goal.returns-in-len1-up-clause-value
returns-in-len1-up-clause-value c = (
  where_some c.command.result _ (sym c.is_some.ensures ∙ c.if-is_some.true) c.command.ensures.some,
  last_word string_bytes c.args.words.now c.image-item.result c.in-len1-up.len_at_least c.image-item.is ∙ ap Some (sym c.as_str.ensures.value),
)
