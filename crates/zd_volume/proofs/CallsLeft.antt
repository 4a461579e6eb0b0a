-- How many calls are left of a commit: each makes them one fewer, and the last is the only one left.
use Rattle.std.proofs.Common.{◌≡◌, ℕ, zero, suc, ◌+◌, ◌-◌, ◌*◌, ◌<◌, Bool, true, false, cond, List, [], ◌∷◌, refl, ◌∙◌}
use Rattle.std.proofs.Common.{length, get_or, count_by, Option, Some, None, ap, ◌∙◌, arith}
use Rattle.std.proofs.lemmas.Bool.{eq-eqb, ne_eqb}
use Rattle.std.proofs.lemmas.List.{get_or_default}
use Rattle.std.specs.List.{range_with_len}
use Rattle.zd_disk.proofs.RunLaws.{count_none, count_then}
use Rattle.zd_volume.specs.Commits.{IsLastCall, IsPhaseAfter, calls_left}
use Rattle.zd_volume.specs.Phases.{IsNextDirty, after_block}
use Rattle.zd_volume.specs.Uses.{IsPhase, dirty_from}
use Rattle.zd_volume.specs.declared.phase.Phase.{Phase}
use Rattle.zd_volume.specs.declared.phase.Phase.TheVariants.{Idle, Log, LogFlush, LogSuper}
use Rattle.zd_volume.specs.declared.phase.Phase.TheVariants.{LogSuperFlush, InPlace, InPlaceFlush}
use Rattle.zd_volume.specs.declared.phase.Phase.TheVariants.{InPlaceSuper, InPlaceSuperFlush}

-- a flag that is there and isn't set
flag_off : (dirty : List Bool) (j : ℕ) → get_or dirty j true ≡ false → get_or dirty j false ≡ false
flag_off [] j off = absurd (let f : ⊥ = cc in f)
flag_off (b ∷ dirty) zero off = off
flag_off (b ∷ dirty) (suc j) off = flag_off dirty j off

module _ (dirty : List Bool) where
  abbrev is_dirty : ℕ → Bool
  is_dirty k = get_or dirty k false

  -- a dirty block is one more than those behind it
  pub dirty_more : (k : ℕ) → k < length dirty → get_or dirty k false ≡ true
      → dirty_from dirty k ≡ dirty_from dirty (k + 1) + 1
  dirty_more k low is =
      let parts = count_then is_dirty k (k + 1) (length dirty) (omega arith) (omega (arith, low)) in
      let single : k + 1 - k ≡ 1 = omega arith in
      let alone = ap (λ (n : ℕ). count_by is_dirty (range_with_len k n)) single in
      let one : count_by is_dirty (range_with_len k 1) ≡ 1 = ap {B = ℕ} (λ (b : Bool). 0 + cond b 1 0) is in
      omega (arith, parts, alone, one)

  -- another one is no more
  pub dirty_less : (k : ℕ) → k < length dirty → get_or dirty k false ≡ false
      → dirty_from dirty k ≡ dirty_from dirty (k + 1)
  dirty_less k low is =
      let parts = count_then is_dirty k (k + 1) (length dirty) (omega arith) (omega (arith, low)) in
      let single : k + 1 - k ≡ 1 = omega arith in
      let alone = ap (λ (n : ℕ). count_by is_dirty (range_with_len k n)) single in
      let none : count_by is_dirty (range_with_len k 1) ≡ 0 = ap {B = ℕ} (λ (b : Bool). 0 + cond b 1 0) is in
      omega (arith, parts, alone, none)

  -- up to the next dirty block there is none
  pub dirty_next : (from k : ℕ) → IsNextDirty dirty from (Some k) → dirty_from dirty from ≡ dirty_from dirty k
  dirty_next from k is =
      let low = is.0 in
      let above = is.1 in
      let parts = count_then is_dirty from k (length dirty) above (omega (arith, low)) in
      let none = count_none is_dirty from (k - from) (λ j a b. flag_off dirty j (is.2 j a (omega (arith, b, above)))) in
      omega (arith, parts, none)

  -- where none is next, none is left
  pub dirty_none : (from : ℕ) → IsNextDirty dirty from None → dirty_from dirty from ≡ 0
  dirty_none from is =
      count_none is_dirty from (length dirty - from)
      (λ j a b. flag_off dirty j (is j (omega (arith, a, b)) a))

  -- none is dirty
  pub none_dirty : (from : ℕ) → dirty_from dirty from ≡ 0 → IsNextDirty dirty from None
  none_dirty from none j low above = by_flag (get_or dirty j false) refl
    where
      by_flag : (b : Bool) → get_or dirty j false ≡ b → get_or dirty j true ≡ false
      by_flag true is =
          let parts = count_then is_dirty from j (length dirty) above (omega (arith, low)) in
          let more = dirty_more j low is in
          absurd (omega (arith, parts, more, none))
      by_flag false is = get_or_default dirty j true false low ∙ is

  -- where a commit is after a block
  in_log : (from : ℕ) (next : Option ℕ) → IsNextDirty dirty from next
      → calls_left dirty (after_block false next) ≡ dirty_from dirty from + dirty_from dirty 1 + 6
  in_log from None is = (let none = dirty_none from is in omega (arith, none))
  in_log from (Some k) is = (let same = dirty_next from k is in omega (arith, same))

  in_place : (from : ℕ) (next : Option ℕ) → IsNextDirty dirty from next
      → calls_left dirty (after_block true next) ≡ dirty_from dirty from + 3
  in_place from None is = (let none = dirty_none from is in omega (arith, none))
  in_place from (Some k) is = (let same = dirty_next from k is in omega (arith, same))

  -- of a commit that has something to write, before it begins
  pub calls_idle : 0 < dirty_from dirty 1 → calls_left dirty Idle ≡ 2 * dirty_from dirty 1 + 6
  calls_idle some =
      ap (λ (b : Bool). cond b 1 (2 * dirty_from dirty 1 + 6))
      (ne_eqb (dirty_from dirty 1) 0 (λ e. absurd (omega (arith, some, e))))

  -- THE NEXT CALL, which isn't the last
  pub one_less : (p q : Phase) (generation : ℕ) → IsPhase p dirty generation → IsPhaseAfter dirty p q
      → calls_left dirty q + 1 ≡ calls_left dirty p
  one_less Idle q generation is after =
      let first = after.2 in
      let same = dirty_next 1 after.0 first in
      let more = dirty_more after.0 first.0 first.3 in
      let whole = calls_idle (omega (arith, same, more)) in
      let then = in_log (after.0 + 1) after.1 after.3 in
      let at = ap (calls_left dirty) after.4 in
      omega (arith, same, more, whole, then, at)
  one_less (Log k) q generation is after =
      let more = dirty_more k is.1 is.2 in
      let then = in_log (k + 1) after.0 after.1 in
      let at = ap (calls_left dirty) after.2 in
      omega (arith, more, then, at)
  one_less LogFlush q generation is after = (let at = ap (calls_left dirty) after in omega (arith, at))
  one_less LogSuper q generation is after = (let at = ap (calls_left dirty) after in omega (arith, at))
  one_less LogSuperFlush q generation is after =
      let then = in_place 1 after.0 after.1 in
      let at = ap (calls_left dirty) after.2 in
      omega (arith, then, at)
  one_less (InPlace k) q generation is after =
      let more = dirty_more k is.1 is.2 in
      let then = in_place (k + 1) after.0 after.1 in
      let at = ap (calls_left dirty) after.2 in
      omega (arith, more, then, at)
  one_less InPlaceFlush q generation is after = (let at = ap (calls_left dirty) after in omega (arith, at))
  one_less InPlaceSuper q generation is after = (let at = ap (calls_left dirty) after in omega (arith, at))
  one_less InPlaceSuperFlush q generation is after = absurd after

  -- THE LAST CALL
  pub last_call : (alone : Bool) (p : Phase) → IsLastCall alone p dirty → calls_left dirty p ≡ 1
  last_call true p is =
      ap (calls_left dirty) is.0
      ∙ ap (λ (b : Bool). cond b 1 (2 * dirty_from dirty 1 + 6)) (eq-eqb (dirty_from dirty 1) 0 is.1)
  last_call false p is = ap (calls_left dirty) is
