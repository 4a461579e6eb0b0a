-- THE RULES OF THE TABLES ARE KEPT where a job ends: its chunk has the target for its zone.
use Rattle.std.proofs.Common.{◌≡◌, ◌≢◌, ℕ, Some, None, inl, inr, sym}
use Rattle.std.proofs.lemmas.Bool.{cases_eq}
use Rattle.zd_model.specs.Tables.{NamesZone, entry_of, is_valid}
use Rattle.zd_model.specs.declared.metadata.MapEntry.{MapEntry}
use Rattle.zd_model.proofs.FaultLaws.{none_some}
use Rattle.zd_volume.specs.Flights.{tables_now}
use Rattle.zd_volume.specs.Jobs.{IsJob, IsNamed}
use Rattle.zd_volume.specs.Sets.{AreSets, Sets}
use Rattle.zd_volume.specs.Volumes.{IsFixed, PlainVolume, sets_of}
use Rattle.zd_volume.specs.declared.work.Work.{Work}
use Rattle.zd_routes.specs.Changes.{ChangesChunk, MayHave}
use Rattle.zd_routes.proofs.ChunkSets.{named_by, named_here, named_still, sets_changed}
use Rattle.zd_routes.proofs.GoalLaws.{own_no_target}
use Rattle.zd_jobs.specs.Remaps.{RemapsChunk, leaving}
use Rattle.zd_jobs.proofs.EndZones.{leaving_named, target_not_leaving, target_or_leaving, target_own_or_bare}
use Rattle.zd_jobs.proofs.WorkLaws.{job_of, target_far, target_low}

module _ (from to : PlainVolume) (w : Work) (fixed : IsFixed from) (is : from.job ≡ Some w)
    (did : RemapsChunk from to w) where
  abbrev s : Sets
  s = sets_of from

  abbrev e : MapEntry
  e = entry_of (tables_now from) w.job.chunk

  abbrev entry : MapEntry
  entry = record { zone = w.target; buffer = None }

  job : IsJob (sets_of from) from.pointers w
  job = job_of from w fixed is

  -- no other chunk has the target
  pub target_alone : (c z : ℕ) → c ≢ w.job.chunk → NamesZone (entry_of (tables_now from) c) z → w.target ≢ Some z
  target_alone c z off named target =
      own_no_target s fixed.sets c z named from.pointers (Some w) job (λ here. off (sym here)) target

  may_remap : MayHave (sets_of from) w.job.chunk (record { zone = w.target; buffer = None })
  may_remap = record {
    data_zones = λ z n. elim n [
      | inl target ↦ (target_far from w fixed is z target, target_low from w fixed is z target)
      | inr none ↦ absurd (none_some z none)
    ];
    buffers = λ b none. absurd (none_some b none);
    only = λ d z named n. elim n [
      | inl target ↦ elim (cases_eq d w.job.chunk) [
        | inl here ↦ here
        | inr off ↦ absurd (target_alone d z off named target)
      ]
      | inr none ↦ absurd (none_some z none)
    ];
    limbo = λ d z named n. elim n [
      | inl target ↦ elim (target_own_or_bare s fixed.sets from.pointers w job z target) [
        | inl own ↦ fixed.sets.limbo d w.job.chunk z named own
        | inr bare ↦ absurd (bare.0 (d, named))
      ]
      | inr none ↦ absurd (none_some z none)
    ];
  }

  remap_changes : ChangesChunk from.geometry w.job.chunk (record { zone = w.target; buffer = None }) (tables_now from)
      (tables_now (record from { fresh = to.fresh }))
  remap_changes = record {
    here = did.here;
    others = did.others;
    rest = λ z x _ none none_before.
        did.bits.others z x (λ target. none (inl target)) (λ left. none_before (leaving_named w.job.kind e z left));
    left = λ z x within own none. elim (target_or_leaving s fixed.sets from.pointers w job z own) [
      | inl target ↦ absurd (none (inl target))
      | inr left ↦ did.bits.cleared z x left within
    ];
    one_place = λ z b x at buffered within valid. absurd (none_some b buffered);
  }

  -- THE RULES
  pub sets_remapped : AreSets (record (sets_of from) { new = to.fresh })
  sets_remapped = sets_changed s fixed.sets w.job.chunk entry to.fresh may_remap remap_changes did.size

  -- the zones of other chunks are as they were
  pub bits_beside : (c z x : ℕ) → c ≢ w.job.chunk → NamesZone (entry_of (tables_now from) c) z
      → is_valid (tables_now (record from { fresh = to.fresh })) z x ≡ is_valid (tables_now from) z x
  bits_beside c z x off named =
      did.bits.others z x (target_alone c z off named)
      (λ left. off (fixed.sets.new_rules.map.named_once c w.job.chunk z named (leaving_named w.job.kind e z left)))

  -- WHAT IS NAMED THEN: the target, and what was but for the zone that is given back
  pub named_target : (z : ℕ) → w.target ≡ Some z → IsNamed (tables_now (record from { fresh = to.fresh })) z
  named_target z target = named_here s fixed.sets w.job.chunk entry to.fresh may_remap remap_changes z (inl target)

  pub named_but_left : (z : ℕ) → leaving w.job.kind (entry_of (tables_now from) w.job.chunk) ≢ Some z
      → IsNamed (tables_now from) z → IsNamed (tables_now (record from { fresh = to.fresh })) z
  named_but_left z stays n =
      named_still s fixed.sets w.job.chunk entry to.fresh may_remap remap_changes z
      (λ own. elim (target_or_leaving s fixed.sets from.pointers w job z own) [
        | inl target ↦ inl target
        | inr left ↦ absurd (stays left)
      ]) n

  pub named_without_target : (z : ℕ) → w.target ≢ Some z → IsNamed (tables_now (record from { fresh = to.fresh })) z
      → IsNamed (tables_now from) z
  named_without_target z apart n =
      elim (named_by s fixed.sets w.job.chunk entry to.fresh may_remap remap_changes n.0 z n.1) [
        | inl here ↦ elim here.1 [ inl target ↦ absurd (apart target) | inr none ↦ absurd (none_some z none) ]
        | inr there ↦ (n.0, there.1)
      ]

  pub leaving_bare : (y : ℕ) → leaving w.job.kind (entry_of (tables_now from) w.job.chunk) ≡ Some y
      → IsNamed (tables_now (record from { fresh = to.fresh })) y → ⊥
  leaving_bare y left n =
      elim (named_by s fixed.sets w.job.chunk entry to.fresh may_remap remap_changes n.0 y n.1) [
        | inl here ↦ elim here.1 [
          | inl target ↦ target_not_leaving s fixed.sets from.pointers w job y left target
          | inr none ↦ none_some y none
        ]
        | inr there ↦
            there.0 (fixed.sets.new_rules.map.named_once n.0 w.job.chunk y there.1
            (leaving_named w.job.kind e y left))
      ]
