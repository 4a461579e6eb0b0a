use Rattle.std.proofs.Common.{rules, ◌≡◌, Option, None, List, ℕ, ap, subst, refl, sym, ◌∙◌, []}
use Rattle.std.specs.Prelude.{IfNone}
use Rattle.std.specs.Option.{option_copied}
use Rattle.zd_commands.specs.Admins.{GivesLabel, SpellsLabel}
use Rattle.zd_commands.proofs.WordLaws.{none_as}
use Rattle.zd_commands.proofs.readers.label_given.Goals as goal

pub returns-in-None-clause-none : goal.returns-in-None-clause-none
returns-in-None-clause-none c =
    let none : c.args.word ≡ None = search rules in
    none_as c.spelled_label-in-None.result (λ h label gives. h label (subst (λ (o : Option (List ℕ)). GivesLabel o label) (ap option_copied none) gives))
    c.spelled_label-in-None.ensures.none
