use Rattle.std.proofs.Common.{◌≡◌, ℕ, count_by, ap, ◌∙◌}
use Rattle.zd_base.specs.declared.geometry.Kind.TheVariants.{Sequential}
use Rattle.zd_alloc.specs.Zones.{Division, is_free, uses_of}
use Rattle.zd_reclaim.proofs.FreeZones.{counts_free, free_counts}
use Rattle.zd_reclaim.proofs.choice.has_free_sequential.Goals as goal

abbrev free_in : Division → ℕ
free_in d = count_by is_free (uses_of Sequential d)

pub returns : goal.returns
returns g c =
    let d = c.args.v.now.plain.division in
    let counts : c.free.result ≡ free_in d = c.free.ensures ∙ ap free_in c.alloc.ensures in
    (λ is. free_counts d c.free.result counts is, λ has. counts_free d c.free.result counts has)
