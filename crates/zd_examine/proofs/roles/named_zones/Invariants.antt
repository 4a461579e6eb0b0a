use Rattle.std.proofs.Common.{◌≡◌, map, not, take}
use Rattle.zd_examine.specs.Roles.{is_unnamed}
use Rattle.zd_examine.proofs.roles.named_zones.Given as goal

-- the flags of the zones so far
abbrev pub invariant-loop-role : goal.invariant-loop-role
invariant-loop-role l = l.named.items ≡ map (λ role. not (is_unnamed role)) (take l.role-index l.roles)
