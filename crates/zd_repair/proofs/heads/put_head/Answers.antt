use Rattle.std.proofs.Common.{Option, IsSomeAnd, sym, subst, arith}
use Rattle.zd_base.specs.Geometry.{Shape}
use Rattle.zd_model.specs.Super.{HasBlock}
use Rattle.zd_disk.proofs.ViewLaws.{reaches_where, turns_then, way_flush}
use Rattle.zd_sets.specs.Writes.{IsConventionalBlock}
use Rattle.zd_sets.proofs.EqualLaws.{ok_anyway, super_put}
use Rattle.zd_repair.proofs.HeadLaws.{head_way, part_head}
use Rattle.zd_repair.proofs.heads.put_head.Goals as goal

pub write_super-requires-clause-told : goal.write_super-requires-clause-told
write_super-requires-clause-told g c =
    let size = c.head_in-head.ensures.shape.size.least in
    subst (λ (o : Option Shape). IsSomeAnd o (IsConventionalBlock c.args.zone 0)) (sym c.requires.told)
    (record { zone = c.requires.zone; block = omega (arith, size) })

pub returns-clause-ok : goal.returns-clause-ok
returns-clause-ok g c =
    let head = c.head_in-head.ensures in
    ok_anyway c.flush.result (turns_then c.requires.told (λ a b d is middle after wrote same.
    super_put c.args.geometry.now c.args.zone c.args.head.now a b d is.geometry is.image middle c.requires.zone
    (omega (arith, head.shape.size.least)) (subst HasBlock head.value head.sizes) (rw head.value at wrote) same)
    c.in_ok-write_super.ensures.ok c.flush.ensures.same)

pub returns-in_err-write_super-clause-way : goal.returns-in_err-write_super-clause-way
returns-in_err-write_super-clause-way g c =
    let head = c.head_in-head.ensures in
    reaches_where c.requires.told c.requires.good (λ a b good shape image after w.
    part_head c.args.geometry.now c.args.zone c.args.head.now a b shape image after c.requires.zone
    (omega (arith, head.shape.size.least)) (subst HasBlock head.value head.sizes) good (rw head.value at w))
    c.write_super.ensures.way

pub returns-clause-way : goal.returns-clause-way
returns-clause-way g c =
    let head = c.head_in-head.ensures in
    way_flush (head_way c.args.geometry.now c.args.zone c.args.head.now c.requires.zone
    (omega (arith, head.shape.size.least))) c.requires.told
    (reaches_where c.requires.told c.requires.good (λ a b good shape image after w.
    part_head c.args.geometry.now c.args.zone c.args.head.now a b shape image after c.requires.zone
    (omega (arith, head.shape.size.least)) (subst HasBlock head.value head.sizes) good (rw head.value at w))
    c.write_super.ensures.way) c.flush.ensures.same c.flush.ensures.call
