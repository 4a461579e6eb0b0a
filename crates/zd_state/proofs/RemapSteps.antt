-- The end of a job, by the steps of its code: the chunk's entry is set, the bits of the zone that is given back are
-- joined to those of the target and cleared, the zone is released, the chunk has its class.
use Rattle.std.proofs.Common.{◌≡◌, ℕ, ◌+◌, ◌<◌, Bool, true, false, List, length, get_or, set}
use Rattle.std.proofs.Common.{Option, Some, None, sym, ap, ◌∙◌, subst, arith}
use Rattle.zd_base.specs.Geometry.{zone_count}
use Rattle.zd_alloc.specs.Candidates.{GivesClass}
use Rattle.zd_alloc.specs.Zones.{use_after_release, use_at}
use Rattle.zd_alloc.specs.declared.uses.ZoneUse.TheVariants.{Held}
use Rattle.zd_model.specs.Tables.{entry_of}
use Rattle.zd_model.proofs.FaultLaws.{some_is}
use Rattle.zd_tables.specs.Changes.{SetsEntry, entry_block}
use Rattle.zd_tables.specs.Rules.{FollowRules}
use Rattle.zd_tables.specs.Tables.{tables_in}
use Rattle.zd_volume.specs.Flights.{tables_now}
use Rattle.zd_volume.specs.Jobs.{class_in}
use Rattle.zd_volume.specs.Marks.{GivesBits}
use Rattle.zd_volume.specs.Volumes.{IsFixed, PlainVolume}
use Rattle.zd_volume.specs.declared.work.Work.{Work}
use Rattle.zd_jobs.specs.Remaps.{RemapsChunk, leaving, uses_without}
use Rattle.zd_jobs.proofs.WorkLaws.{target_low}
use Rattle.zd_state.specs.Joins.{JoinsInto}
use Rattle.zd_state.proofs.RemapBits.{left_held, left_low, remap_did, rules_remapped}

module _ (v : PlainVolume) (w : Work) (fixed : IsFixed v) (is : v.job ≡ Some w) (y : ℕ)
    (gives : leaving w.job.kind (entry_of (tables_now v) w.job.chunk) ≡ Some y) where
  -- THE STEPS: the entry is set, the bits are joined and cleared
  module _ (a : PlainVolume) (entered : a ≡ record v { fresh = a.fresh; dirty = a.dirty })
      (sets : SetsEntry w.job.chunk (record { zone = w.target; buffer = None }) v.fresh a.fresh)
      (marked : a.dirty ≡ set v.dirty (entry_block w.job.chunk) true) where
    pub left_there : y < zone_count a.geometry
    left_there = subst (λ (u : PlainVolume). y < zone_count u.geometry) (sym entered) (left_low v w fixed is y gives)

    pub target_there : (z : ℕ) → w.target ≡ Some z → z < zone_count a.geometry
    target_there z target =
        subst (λ (u : PlainVolume). z < zone_count u.geometry) (sym entered) (target_low v w fixed is z target)

    module _ (b : PlainVolume) (both : b ≡ record a { fresh = b.fresh; dirty = b.dirty })
        (joins : JoinsInto a.geometry a.head.layout y w.target a.fresh b.fresh a.dirty b.dirty) where
      pub left_still : (z : ℕ) → ◌≡◌ {A = Option ℕ} (Some y) (Some z) → z < zone_count b.geometry
      left_still z same =
          subst (λ (u : PlainVolume). z < zone_count u.geometry) (sym (both ∙ ap (λ (u : PlainVolume). record u {
            fresh = b.fresh;
            dirty = b.dirty;
          }) entered))
          (subst (λ (n : ℕ). n < zone_count v.geometry) (some_is y z same) (left_low v w fixed is y gives))

      joins_here : JoinsInto v.geometry v.head.layout y w.target a.fresh b.fresh
          (set v.dirty (entry_block w.job.chunk) true) b.dirty
      joins_here =
          subst (λ (flags : List Bool). JoinsInto v.geometry v.head.layout y w.target a.fresh b.fresh flags b.dirty)
          marked
          (subst (λ (u : PlainVolume). JoinsInto u.geometry u.head.layout y w.target a.fresh b.fresh a.dirty b.dirty)
          entered joins)

      module _ (blocks : ℕ) (all : blocks ≡ v.geometry.zone_blocks) (c : PlainVolume)
          (bits : c ≡ record b { fresh = c.fresh; dirty = c.dirty })
          (clears : GivesBits false b.geometry b.head.layout y 0 (0 + blocks) b.fresh c.fresh b.dirty c.dirty) where
        so_far : c ≡ record v { fresh = c.fresh; dirty = c.dirty }
        so_far =
            bits
            ∙ ap (λ (u : PlainVolume). record u { fresh = c.fresh; dirty = c.dirty })
            (both ∙ ap (λ (u : PlainVolume). record u { fresh = b.fresh; dirty = b.dirty }) entered)

        clears_here : GivesBits false v.geometry v.head.layout y 0 v.geometry.zone_blocks b.fresh c.fresh b.dirty
            c.dirty
        clears_here =
            subst (λ (n : ℕ). GivesBits false v.geometry v.head.layout y 0 n b.fresh c.fresh b.dirty c.dirty)
            (let same : 0 + blocks ≡ v.geometry.zone_blocks = omega (arith, all) in same)
            (subst (λ (u : PlainVolume). GivesBits false u.geometry u.head.layout y 0 (0 + blocks) b.fresh c.fresh
            b.dirty
            c.dirty) (both ∙ ap (λ (u : PlainVolume). record u { fresh = b.fresh; dirty = b.dirty }) entered) clears)

        -- what the release asks for
        pub left_flag : y < length c.named
        left_flag =
            subst (λ (u : PlainVolume). y < length u.named) (sym so_far)
            (let low = left_low v w fixed is y gives in let size = fixed.named.size in omega (arith, low, size))

        pub left_inside : y < length c.division.zones
        left_inside =
            subst (λ (u : PlainVolume). y < length u.division.zones) (sym so_far)
            (let low = left_low v w fixed is y gives in let count = fixed.uses.count in omega (arith, low, count))

        pub left_in_use : use_at c.division.zones y ≡ Held
        left_in_use =
            subst (λ (u : PlainVolume). use_at u.division.zones y ≡ Held) (sym so_far)
            (left_held v w fixed is y gives)

        -- the zone is released, and the job has ended
        module _ (d : PlainVolume) (released : d ≡ record c { division = d.division }) (e : PlainVolume)
            (ended : e ≡ record d { job = None }) where
          before_class : e ≡ record v { fresh = c.fresh; dirty = c.dirty; division = d.division; job = None }
          before_class =
              ended
              ∙ ap (λ (u : PlainVolume). record u { job = None })
              (released ∙ ap (λ (u : PlainVolume). record u { division = d.division }) so_far)

          pub rules_in_steps : FollowRules e.geometry e.head.layout e.fresh
          rules_in_steps =
              subst (λ (u : PlainVolume). FollowRules u.geometry u.head.layout u.fresh) (sym before_class)
              (rules_remapped v w fixed is y gives a.fresh sets b.fresh b.dirty joins_here c.fresh c.dirty clears_here)

          pub remaps_in_steps : (f : PlainVolume)
              → f ≡ record e { standings = record e.standings { classes = f.standings.classes } }
              → d.division.zones ≡ set c.division.zones y (use_after_release (get_or c.named y false))
              → d.division.conv ≡ c.division.conv → d.division.order ≡ c.division.order
              → GivesClass w.job.chunk (class_in e.geometry e.pointers (tables_in e.geometry e.head.layout e.fresh)
              w.job.chunk) e.standings.classes f.standings.classes
              → RemapsChunk v f w
          remaps_in_steps f classed zones conv order given =
              subst (λ (u : PlainVolume). RemapsChunk v u w)
              (sym (classed ∙ ap (λ (u : PlainVolume). record u {
                standings = record u.standings { classes = f.standings.classes };
              }) before_class))
              (remap_did v w fixed is y gives a.fresh sets b.fresh b.dirty joins_here c.fresh c.dirty clears_here
              d.division
              f.standings.classes
              (zones
              ∙ ap (λ (u : PlainVolume). set u.division.zones y (use_after_release (get_or u.named y false))) so_far
              ∙ ap (λ (o : Option ℕ). uses_without o v.named v.division.zones) (sym gives))
              (conv ∙ ap (λ (u : PlainVolume). u.division.conv) so_far)
              (order ∙ ap (λ (u : PlainVolume). u.division.order) so_far)
              (subst (λ (u : PlainVolume). GivesClass w.job.chunk (class_in u.geometry u.pointers
              (tables_in u.geometry u.head.layout u.fresh) w.job.chunk) u.standings.classes f.standings.classes)
              before_class given))
