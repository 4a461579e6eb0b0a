-- The run that a job copies next, by the bits of its source.
use Rattle.std.proofs.Common.{◌≡◌, ℕ, ◌+◌, min, Bool, true, false, Option, Some, None, IfNone, inl, inr}
use Rattle.std.proofs.Common.{sym, ap, ◌∙◌, arith}
use Rattle.std.proofs.lemmas.Bool.{cases_Bool}
use Rattle.zd_bits.specs.Bits.{AllAre, IsBitRun, IsFirstValid}
use Rattle.zd_model.specs.Tables.{is_set, is_valid}
use Rattle.zd_model.proofs.FaultLaws.{some_is}
use Rattle.zd_tables.specs.Tables.{bits_in_blocks}
use Rattle.zd_tables.proofs.TableLaws.{valid_is}
use Rattle.zd_volume.specs.Flights.{tables_now}
use Rattle.zd_volume.specs.Volumes.{IsFixed, PlainVolume}
use Rattle.zd_volume.specs.declared.work.Work.{Work}
use Rattle.zd_jobs.specs.NextSteps.{IsCopied, IsNextRun, source}
use Rattle.zd_jobs.proofs.WorkLaws.{source_low}

-- what is so is so where there is none
pub where_none : {T : Type 0} (o : Option T) (P : Type 0) → P → IfNone o P
where_none None P so = so
where_none (Some x) P so = tt

module _ (v : PlainVolume) (w : Work) (fixed : IsFixed v) (is : v.job ≡ Some w) (zone : ℕ)
    (from : source v w ≡ Some zone) where
  at_bit : (x : ℕ) → is_valid (tables_now v) zone x
      ≡ is_set (bits_in_blocks v.geometry v.head.layout v.fresh zone) x
  at_bit x = valid_is v.geometry v.head.layout v.fresh zone x (source_low v w fixed is zone from)

  pub none_left : AllAre false (bits_in_blocks v.geometry v.head.layout v.fresh zone) w.copied v.geometry.zone_blocks
      → IsCopied v w
  none_left none y x source low high =
      ap (λ (z : ℕ). is_valid (tables_now v) z x) (some_is y zone (sym source ∙ from))
      ∙ at_bit x ∙ none x low high

  pub run_left : (at end count : ℕ) (bit : Bool)
      → IsFirstValid (bits_in_blocks v.geometry v.head.layout v.fresh zone) w.copied v.geometry.zone_blocks at
      → end ≡ min v.geometry.zone_blocks (at + 32)
      → IsBitRun (bits_in_blocks v.geometry v.head.layout v.fresh zone) at end bit count
      → IsNextRun v w at count
  run_left at end count bit first upto run =
      let inside = run.inside in
      let some = run.some in
      let high = first.high in
      let on : bit ≡ true = sym (run.same at (omega arith) (omega (arith, some))) ∙ first.valid in
      record {
        zone = zone;
        from = from;
        later = first.low;
        some = some;
        few = omega (arith, inside, upto);
        inside = omega (arith, inside, upto);
        first = λ x low before. at_bit x ∙ first.before x low before;
        valid = λ x low before. at_bit x ∙ run.same x low before ∙ on;
        longest = λ less more. elim (cases_Bool (is_valid (tables_now v) zone (at + count))) [
          | inl also ↦
              absurd (run.longest (omega (arith, less, more, upto)) (sym (at_bit (at + count)) ∙ also ∙ sym on))
          | inr ends ↦ ends
        ];
      }
