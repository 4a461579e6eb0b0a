use Rattle.std.proofs.Common.{Bool, MatchBool, refl, sym, ap, ◌∙◌, subst}
use Rattle.std.specs.Option.{option_map}
use Rattle.std.proofs.lemmas.Bool.{false≢true}
use Rattle.zd_model.specs.Super.{FitsVersion}
use Rattle.zd_disk.proofs.ToldLaws.{IfSome-at}
use Rattle.zd_disk.proofs.ViewLaws.{read_as}
use Rattle.zd_sets.specs.Choice.{HasMagicAfter, IsFound, NoMagicAfter, chosen_of}
use Rattle.zd_sets.proofs.ChoiceLaws.{found_placed, told_found, told_found_unfit, told_magic}
use Rattle.zd_sets.proofs.choice.choose_without.Goals as goal

pub returns-then-not-fits-clause-err : goal.returns-then-not-fits-clause-err
returns-then-not-fits-clause-err g c = λ image e.
    let same = sym (read_as {v = g.D.ZonedDisk.view c.args.disk.now} c.requires.told image e).geometry in
    told_found_unfit image c.args.geometry.now same (c.requires.first image e) c.in-Some.chosen (c.in_ok-chosen.ensures.value image e ∙ ap (option_map chosen_of) c.in-Some.is) (λ fits. absurd (false≢true (c.if-not-fits.ensures.1 fits)))

pub returns-then-branch-clause-err : goal.returns-then-branch-clause-err
returns-then-branch-clause-err g c = λ image e.
    let same = sym (read_as {v = g.D.ZonedDisk.view c.args.disk.now} c.requires.told image e).geometry in
    let zone = c.in-Some.chosen.zone in
    let n = c.set_zones-n.result in
    let magic = subst (λ (found : Bool). MatchBool found (HasMagicAfter image zone n) (NoMagicAfter image zone n)) c.if-branch.true (c.in_ok-has_magic_after.ensures.value image (c.in_ok-chosen.ensures.reads.zones ∙ e)) in
    told_magic image c.args.geometry.now same (c.requires.first image e) c.in-Some.chosen (c.in_ok-chosen.ensures.value image e ∙ ap (option_map chosen_of) c.in-Some.is) n c.set_zones-n.ensures magic

pub returns-clause-ok : goal.returns-clause-ok
returns-clause-ok g c = λ image e.
    let same = sym (read_as {v = g.D.ZonedDisk.view c.args.disk.now} c.requires.told image e).geometry in
    let zone = c.in-Some.chosen.zone in
    let n = c.set_zones-n.result in
    let free = subst (λ (found : Bool). MatchBool found (HasMagicAfter image zone n) (NoMagicAfter image zone n)) c.if-branch.false (c.in_ok-has_magic_after.ensures.value image (c.in_ok-chosen.ensures.reads.zones ∙ e)) in
    let found = IfSome-at c.in_ok-chosen.field-0 c.in-Some.chosen (IsFound c.args.geometry.now) c.in-Some.is c.in_ok-chosen.ensures.found in
    let version = IfSome-at c.in_ok-chosen.field-0 c.in-Some.chosen (λ chosen. FitsVersion chosen.head) c.in-Some.is c.in_ok-chosen.ensures.fits in
    told_found image c.args.geometry.now same (c.requires.first image e) c.in-Some.chosen (c.in_ok-chosen.ensures.value image e ∙ ap (option_map chosen_of) c.in-Some.is) n c.set_zones-n.ensures found (found_placed c.args.geometry.now c.in-Some.chosen found version (c.if-not-fits.ensures.0 refl)) free
