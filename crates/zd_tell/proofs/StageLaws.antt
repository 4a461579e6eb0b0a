-- What the stages of a run say of how it ends.
use Rattle.std.proofs.Common.{◌≡◌, ◌⊎◌, ◌≤◌, ◌<◌, ℕ, refl, sym, ap, ◌∙◌, subst, inl, inr, arith}
use Rattle.std.specs.Prelude.{◌==◌, if◌then◌else◌}
use Rattle.std.proofs.lemmas.Bool.{cases_order}
use Rattle.zd_tell.specs.Telling.{HasStatus, Telling, memory_telling}
use Rattle.zd_tell.specs.Stages.{CausesExclude, Course, DecidesAt, EndsIn, MayEnd, RunStage, stage_order}
use Rattle.zd_tell.specs.Stages.RunStage.{Words, Script, Opening, Run}

-- the stage at a place
abbrev stage_at : ℕ → RunStage
stage_at n = if n == 0 then Words else (if n == 1 then Script else (if n == 2 then Opening else Run))

at_its_place : (s : RunStage) → stage_at (stage_order s) ≡ s
at_its_place Words = refl
at_its_place Script = refl
at_its_place Opening = refl
at_its_place Run = refl

-- stages with one place are one
pub one_stage : (s t : RunStage) → stage_order s ≡ stage_order t → s ≡ t
one_stage s t e = sym (at_its_place s) ∙ ap stage_at e ∙ at_its_place t

module _ {O : Type 0} (course : Course O) (Decided : O → Type 0) where
  -- a cause decides: where it holds, and the stages up to its own are passed or end the run, a run ends no
  -- later, and with no other outcome that is decided
  pub cause_decides : (s t : RunStage) (o p : O) →
      ((stage : RunStage) → stage_order stage ≤ stage_order s → DecidesAt course Decided stage)
      → Decided o → EndsIn course s o → EndsIn course t p → (stage_order t ≤ stage_order s) × (Decided p → (s ≡ t) × (o ≡ p))
  cause_decides s t o p decides d here there = by (cases_order (stage_order s) (stage_order t))
    where
      by : (stage_order s ≡ stage_order t) ⊎ ((stage_order s < stage_order t) ⊎ (stage_order t < stage_order s))
          → (stage_order t ≤ stage_order s) × (Decided p → (s ≡ t) × (o ≡ p))
      by (inl same) =
          let is = one_stage s t same in (
            omega (arith, same),
            λ e. (
              is,
              (decides s (omega arith)).one o p d e here.comes (subst (λ (x : RunStage). course.Comes x p) (sym is) there.comes)
                  here.cause there.cause,
            ),
          )
      by (inr (inl later)) = absurd ((decides s (omega arith)).passed o d here.comes here.cause (there.earlier s later))
      by (inr (inr earlier)) =
          (omega (arith, earlier), λ e. absurd ((decides t (omega (arith, earlier))).passed p e there.comes there.cause (here.earlier t earlier)))

  -- so causes exclude each other
  pub causes_exclude : ((stage : RunStage) → DecidesAt course Decided stage) → CausesExclude course Decided
  causes_exclude decides s t o p d e here there =
      (cause_decides s t o p (λ stage early. decides stage) d here there).1 e

-- the status of a run that ended in a stage and told of it may come in that stage, where want of memory may come
-- in it, or the message is fixed
pub told_may_end : {O : Type 0} (Comes : RunStage → O → Type 0) (own : O → ℕ) (stage : RunStage) (o memory : O)
    (message : Telling) (fixed : Type 0)
    (status : ℕ) → Comes stage o → message.status ≡ own o → own memory ≡ 7 → ((fixed → ⊥) → Comes stage memory)
    → (told : Telling) → (told ≡ message) ⊎ ((told ≡ memory_telling) × (fixed → ⊥))
    → HasStatus told.status status → MayEnd Comes own stage status
told_may_end Comes own stage o memory message fixed status comes is seven free told (inl same) has =
    (o, comes, subst (λ (n : ℕ). HasStatus n status) (ap (λ (t : Telling). t.status) same ∙ is) has)
told_may_end Comes own stage o memory message fixed status comes is seven free told (inr none) has =
    (memory, free none.1, subst (λ (n : ℕ). HasStatus n status) (ap (λ (t : Telling). t.status) none.0 ∙ sym seven) has)
