use Rattle.std.proofs.Common.{◌*◌, ℕ, ap, ◌∙◌, arith}
use Rattle.zd_tables.specs.Tables.{tables_in}
use Rattle.zd_admin.proofs.ShownLaws.{free_counted, usable_size}
use Rattle.zd_admin.proofs.volume.status_of.Goals as goal

pub count_free-requires-clause-inside : goal.count_free-requires-clause-inside
count_free-requires-clause-inside c =
    let size = usable_size _ _ _ _ _ _ c.requires c.deref.ensures.value in
    let conv = c.conv-conv.ensures.value in
    omega (arith, size, conv)

pub count_free-requires-clause-few : goal.count_free-requires-clause-few
count_free-requires-clause-few c =
    let size = usable_size _ _ _ _ _ _ c.requires c.deref.ensures.value in
    let few = c.conv-conv.ensures.shape.count.most in
    omega (arith, size, few)

pub count_free-requires-2-clause-inside : goal.count_free-requires-2-clause-inside
count_free-requires-2-clause-inside c =
    let size = usable_size _ _ _ _ _ _ c.requires c.deref-2.ensures.value in
    let zones = c.zones-zones.ensures.value in
    omega (arith, size, zones)

pub count_free-requires-2-clause-few : goal.count_free-requires-2-clause-few
count_free-requires-2-clause-few c =
    let size = usable_size _ _ _ _ _ _ c.requires c.deref-2.ensures.value in
    let few = c.conv-conv.ensures.shape.count.most in
    omega (arith, size, few)

pub returns-clause-counts : goal.returns-clause-counts
returns-clause-counts c =
    let image = c.args.image.now in
    let tables = tables_in image.geometry image.chosen.head.layout image.blocks in
    let room = c.requires.placed.fits.conventional_data in
    record {
      mapped = c.count_chunks-mapped.ensures.mapped;
      buffered = c.count_chunks-mapped.ensures.buffered;
      conventional = free_counted image.geometry tables c.deref.result.now _ _ _ _ _ (c.deref.ensures.value ∙ c.requires.flags)
          (ap (λ (n : ℕ). 2 * n) c.set_zones.ensures) c.conv-conv.ensures.value (omega (arith, room)) (omega arith) c.count_free.ensures;
      sequential = free_counted image.geometry tables c.deref-2.result.now _ _ _ _ _ (c.deref-2.ensures.value ∙ c.requires.flags)
          c.conv-conv.ensures.value c.zones-zones.ensures.value (omega arith) (omega arith) c.count_free-2.ensures;
    }
