-- The flushes inside a commit, phase by phase.
use Rattle.std.proofs.Common.{◌≡◌, ℕ, ◌<◌, ◌≤◌, true, false, List, Bool, get_or, Option, Some, None, inl, inr, ap, ◌∙◌, arith}
use Rattle.std.proofs.lemmas.Bool.{cases_lt}
use Rattle.zd_model.specs.Image.{Image}
use Rattle.zd_model.specs.declared.metadata.Super.{Super}
use Rattle.zd_sets.specs.Blocks.{blocks_of}
use Rattle.zd_sets.specs.Stages.{IsWritten}
use Rattle.zd_sets.proofs.StageLaws.{skip_same}
use Rattle.zd_volume.specs.Phases.{after_flush, IsInnerFlush, IsNextDirty}
use Rattle.zd_volume.specs.Sets.{AreSets, Sets, used}
use Rattle.zd_volume.specs.Uses.{AreFlags}
use Rattle.zd_volume.specs.declared.phase.Phase.{Phase}
use Rattle.zd_volume.specs.declared.phase.Phase.TheVariants.{Idle, Log, LogFlush, LogSuper, LogSuperFlush, InPlace, InPlaceFlush, InPlaceSuper, InPlaceSuperFlush}
use Rattle.zd_volume.proofs.Flushes.{Narrows}
use Rattle.zd_volume.proofs.Reading.{narrow_log, narrow_place, narrow_super}

module _ (s : Sets) (are : AreSets s) (dirty : List Bool) (flags : AreFlags s dirty) where
  -- blocks from the first on that aren't dirty are the same in both
  pub same_before : (m : ℕ) → m ≤ used s → ((j : ℕ) → 1 ≤ j → j < m → get_or dirty j true ≡ false)
      → (n : ℕ) → 0 ≤ n → n < m → blocks_of s.old n 1 ≡ blocks_of s.new n 1
  same_before m le none n from below =
      flags.clean n (omega arith) (elim (cases_lt n 1) [
        | inl first_is ↦ ap (λ (j : ℕ). get_or dirty j true) (let e : n ≡ 0 = omega arith in e) ∙ flags.front
        | inr some ↦ none n some below
      ])

  -- a set of which nothing is written is written up to the first dirty block
  pub onward : (first : ℕ) (head : Super) (m : ℕ) (i : Image) → m ≤ used s
      → ((j : ℕ) → 1 ≤ j → j < m → get_or dirty j true ≡ false)
      → IsWritten s.geometry first (used s) head s.old s.new 0 i
      → IsWritten s.geometry first (used s) head s.old s.new m i
  onward first head m i le none w =
      skip_same s.geometry first (used s) head s.old s.new i 0 m (omega arith) (same_before m le none) w

  pub none_left : IsNextDirty dirty 1 None → (j : ℕ) → 1 ≤ j → j < used s → get_or dirty j true ≡ false
  none_left is j low high = is j (let size = flags.size in omega (arith, size)) low

  pub few_dirty : (m : ℕ) → IsNextDirty dirty 1 (Some m) → m ≤ used s
  few_dirty m is = (let size = flags.size in let l = is.0 in omega (arith, size, l))

  log_flush : Narrows s LogFlush LogSuper
  log_flush = record {
    leads = λ base h k c f r. narrow_log s are base h k c f r;
    reads = λ base h c r. record { first = r.first; second = r.second; below = r.below; served = r.served };
  }

  super_flush : (m : ℕ) → IsNextDirty dirty 1 (Some m) → Narrows s LogSuperFlush (InPlace m)
  super_flush m is = record {
    leads = λ base h k c f r. narrow_super s are m base h k c f r;
    reads = λ base h c r. record {
      first = onward 0 s.head m c (few_dirty m is) (λ j a b. is.2 j a b) r.first;
      second = r.second;
      below = r.below;
      served = r.served;
    };
  }

  super_flush_last : IsNextDirty dirty 1 None → Narrows s LogSuperFlush InPlaceFlush
  super_flush_last is = record {
    leads = λ base h k c f r.
        let n = narrow_super s are 0 base h k c f r in
        record {
          first = n.first;
          second = n.second;
          by_old = n.by_old;
          below_old = n.below_old;
          below_new = n.below_new;
          by_new = n.by_new;
        };
    reads = λ base h c r. record {
      first = onward 0 s.head (used s) c (omega arith) (λ j a b. none_left is j a b) r.first;
      second = r.second;
      below = r.below;
      served = r.served;
    };
  }

  place_flush : Narrows s InPlaceFlush InPlaceSuper
  place_flush = record {
    leads = λ base h k c f r. narrow_place s are base h k c f r;
    reads = λ base h c r. record { first = r.first; second = r.second; below = r.below; served = r.served };
  }

  pub inner_flush : (p : Phase) (next : Option ℕ) → IsInnerFlush p → IsNextDirty dirty 1 next
      → Narrows s p (after_flush p next)
  inner_flush Idle next f is = absurd f
  inner_flush (Log k) next f is = absurd f
  inner_flush LogFlush next f is = log_flush
  inner_flush LogSuper next f is = absurd f
  inner_flush LogSuperFlush None f is = super_flush_last is
  inner_flush LogSuperFlush (Some m) f is = super_flush m is
  inner_flush (InPlace k) next f is = absurd f
  inner_flush InPlaceFlush next f is = place_flush
  inner_flush InPlaceSuper next f is = absurd f
  inner_flush InPlaceSuperFlush next f is = absurd f
