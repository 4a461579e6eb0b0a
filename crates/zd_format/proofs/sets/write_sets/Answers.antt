use Rattle.std.proofs.Common.{◌≡◌, ◌*◌, ℕ, Option, ◌∙◌, subst}
use Rattle.std.proofs.lemmas.Result.{on_ok_weaker}
use Rattle.zd_base.specs.Geometry.{Shape}
use Rattle.zd_base.specs.Layout.{set_zones}
use Rattle.zd_disk.specs.Told.{WhereTold}
use Rattle.zd_disk.proofs.ViewLaws.{holds_durable, stays_then}
use Rattle.zd_model.specs.Image.{Image}
use Rattle.zd_model.specs.declared.metadata.Super.{Super}
use Rattle.zd_format.specs.Sets.{HasWritten}
use Rattle.zd_model.specs.Super.{with_own}
use Rattle.zd_format.proofs.SameSets.{same_sets, told_sets}
use Rattle.zd_format.proofs.sets.write_sets.Goals as goal

-- the second set, by the numbers that were worked out
by_numbers : (g : Shape) (head : Super) (m a b : ℕ) (told : Option Image) → m ≡ set_zones g head.layout → a ≡ set_zones g head.layout → b ≡ g.zone_blocks
    → WhereTold told (HasWritten g (with_own (a * b) head) m head.layout.meta_blocks)
    → WhereTold told (HasWritten g (with_own (set_zones g head.layout * g.zone_blocks) head) (set_zones g head.layout) head.layout.meta_blocks)
by_numbers g head m a b told first second size h image e =
    subst (λ (w : ℕ). HasWritten g (with_own (set_zones g head.layout * w) head) (set_zones g head.layout) head.layout.meta_blocks image) size
    (subst (λ (q : ℕ). HasWritten g (with_own (q * b) head) (set_zones g head.layout) head.layout.meta_blocks image) second
    (subst (λ (f : ℕ). HasWritten g (with_own (a * b) head) f head.layout.meta_blocks image) first (h image e)))

pub returns-clause-ok : goal.returns-clause-ok
returns-clause-ok g c =
    let geometry = c.args.geometry.now in
    let head = c.args.head.now in
    let shape = c.zone_blocks.ensures.shape in
    let second = c.set_zones-second.ensures in
    let written = by_numbers geometry head c.set_zones-second.result c.from.result c.from-2.result _
    second (c.from.ensures ∙ second) (c.from-2.ensures ∙ c.zone_blocks.ensures.value) c.in_ok-write_set-2.ensures.ok in
    let stays = stays_then c.in_ok-write_set.ensures.stays (stays_then c.in_ok-write_set-2.ensures.stays c.flush.ensures.call.stays) in
    on_ok_weaker c.flush.result (λ durable. holds_durable (stays.told _ c.requires.told) durable
    (λ a b _ image same sets. same_sets geometry head shape c.requires.fits c.requires.own a b image same sets)
    (told_sets geometry head shape c.requires.fits c.requires.own written c.flush.ensures.same))
    c.flush.ensures.durable
