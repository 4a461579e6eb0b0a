use Rattle.std.proofs.Common.{ℕ, List, sym, ◌∙◌, subst}
use Rattle.zd_disk.proofs.ViewLaws.{read_as}
use Rattle.zd_examine.specs.Examined.{BreaksTableRule, FollowsRules}
use Rattle.zd_model.proofs.BitLaws.{bits_follow}
use Rattle.zd_model.proofs.FaultLaws.{map_follows}
use Rattle.std.specs.Prelude.{slice_index}
use Rattle.zd_tables.specs.Tables.{entries_in, tables_in}
use Rattle.zd_examine.proofs.OpenLaws.{examined, explained}
use Rattle.zd_examine.proofs.examining.examine.Goals as goal

pub returns-in-Err-clause-err : goal.returns-in-Err-clause-err
returns-in-Err-clause-err g c image z =
    let here = c.geometry.ensures.reads.zones ∙ z in
    let same = sym (read_as {v = g.D.ZonedDisk.view c.geometry.new.self} c.in-Ok.ensures.value image here).geometry in
    let set = c.in_ok-chosen.ensures.value image here in
    let pointers = c.in-Ok-read_pointers.ensures.value image (c.read_chosen.ensures.reads.zones ∙ here) in
    explained c.in-Ok.geometry c.in_ok-chosen.chosen c.in_ok-chosen.blocks c.in-Ok-read_pointers.pointers.items image same set.0 set.1 pointers c.in-Err.fault
    (subst (λ (ps : List ℕ). BreaksTableRule c.in-Ok.geometry c.in_ok-chosen.chosen.head.layout ps c.in_ok-chosen.blocks c.in-Err.fault) c.deref.ensures.value c.in-Err.ensures.err)

pub returns-in-Ok-test_tables-clause-ok : goal.returns-in-Ok-test_tables-clause-ok
returns-in-Ok-test_tables-clause-ok g c image z =
    let here = c.geometry.ensures.reads.zones ∙ z in
    let same = sym (read_as {v = g.D.ZonedDisk.view c.geometry.new.self} c.in-Ok.ensures.value image here).geometry in
    let set = c.in_ok-chosen.ensures.value image here in
    let pointers = c.in-Ok-read_pointers.ensures.value image (c.read_chosen.ensures.reads.zones ∙ here) in
    examined c.in-Ok.geometry c.in_ok-chosen.chosen c.in_ok-chosen.blocks c.in-Ok-read_pointers.pointers.items image same set.0 set.1 pointers
    (subst (λ (ps : List ℕ). FollowsRules c.in-Ok.geometry c.in_ok-chosen.chosen.head.layout ps c.in_ok-chosen.blocks) c.deref.ensures.value c.in-Ok-test_tables.ensures.ok)

pub returns-in-Ok-test_tables-clause-usable : goal.returns-in-Ok-test_tables-clause-usable
returns-in-Ok-test_tables-clause-usable g c =
    let shape = c.in-Ok.geometry in
    let layout = c.in_ok-chosen.chosen.head.layout in
    let bytes = c.in_ok-chosen.blocks in
    let reported = c.in-Ok-read_pointers.pointers.items in
    let follows = subst (λ (ps : List ℕ). FollowsRules shape layout ps bytes) c.deref.ensures.value c.in-Ok-test_tables.ensures.ok in
    let map_rules = map_follows shape layout (entries_in layout bytes) follows.map in
    record {
      placed = c.in_ok-chosen.ensures.placed;
      size = c.in_ok-chosen.ensures.size;
      count = c.in-Ok-read_pointers.ensures.count;
      map = map_rules;
      bits = bits_follow shape layout (slice_index reported) (tables_in shape layout bytes) map_rules follows.bits;
      within = c.in-Ok-read_pointers.ensures.within;
      flags = c.in-Ok-test_tables.ensures.named;
    }
