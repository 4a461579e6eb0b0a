-- Closing a volume: its calls add up.
use Rattle.std.proofs.Common.{◌≡◌, ℕ, ◌+◌, true, false, length, replicate, None, refl, sym, ap, ◌∙◌, subst, arith}
use Rattle.std.proofs.lemmas.List.{get_or-replicate, length-replicate}
use Rattle.zd_disk.specs.View.{HasFailed, Made, Stays, View}
use Rattle.zd_volume.specs.Abandons.{IsAbandoned}
use Rattle.zd_volume.specs.Commits.{calls_left}
use Rattle.zd_volume.specs.Phases.{IsNextDirty}
use Rattle.zd_volume.specs.Volumes.{PlainVolume}
use Rattle.zd_volume.specs.declared.phase.Phase.{Phase}
use Rattle.zd_volume.specs.declared.phase.Phase.TheVariants.{Idle, Log, LogFlush, LogSuper, LogSuperFlush, InPlace, InPlaceFlush, InPlaceSuper, InPlaceSuperFlush}
use Rattle.zd_volume.proofs.CallsLeft.{dirty_none, last_call}
use Rattle.zd_commit.specs.Closed.{calls_to_close, calls_to_finish, Finishes, IsCommitted}

-- where nothing is dirty a commit is one call
one_flush : (n : ℕ) → calls_left (replicate n false) Idle ≡ 1
one_flush n = last_call (replicate n false) true Idle (refl, dirty_none (replicate n false) 1 none)
  where
    none : IsNextDirty (replicate n false) 1 None
    none j low above = get_or-replicate n j false true (let size = length-replicate n false in omega (arith, size, low))

-- after a commit
after_commit : (from to : PlainVolume) → IsCommitted from to → calls_left to.dirty to.phase ≡ 1
after_commit from to committed =
    subst (λ (v : PlainVolume). calls_left v.dirty v.phase ≡ 1) (sym committed.rest) (one_flush (length from.dirty))

-- finishing, then a whole commit
both : (p : Phase) (left finished : PlainVolume) → left.phase ≡ p → Finishes p left finished
    → calls_to_finish left.dirty p + calls_left finished.dirty finished.phase ≡ calls_to_close left.dirty p
both Idle left finished is same =
    let n : calls_left finished.dirty finished.phase ≡ calls_left left.dirty Idle =
    ap (λ (v : PlainVolume). calls_left v.dirty v.phase) same ∙ ap (calls_left left.dirty) is in
    omega (arith, n)
both (Log k) left finished is done = (let one = after_commit left finished done in omega (arith, one))
both LogFlush left finished is done = (let one = after_commit left finished done in omega (arith, one))
both LogSuper left finished is done = (let one = after_commit left finished done in omega (arith, one))
both LogSuperFlush left finished is done = (let one = after_commit left finished done in omega (arith, one))
both (InPlace k) left finished is done = (let one = after_commit left finished done in omega (arith, one))
both InPlaceFlush left finished is done = (let one = after_commit left finished done in omega (arith, one))
both InPlaceSuper left finished is done = (let one = after_commit left finished done in omega (arith, one))
both InPlaceSuperFlush left finished is done = (let one = after_commit left finished done in omega (arith, one))

module _ (from left finished : PlainVolume) (u v w : View) (given : IsAbandoned from left)
    (finishes : Finishes left.phase left finished)
    (first : Made (calls_to_finish left.dirty left.phase) u v)
    (last : Made (calls_left finished.dirty finished.phase) v w) where
  pub closing_calls : Made (calls_to_close from.dirty from.phase) u w
  closing_calls =
      subst (λ (n : ℕ). Made n u w) same
      (record {
        number_is = λ small.
            let b = last.number_is small in
            let a = first.number_is (omega (arith, b)) in
            let c = both left.phase left finished refl finishes in
            omega (arith, a, b, c);
      })
    where
      same : calls_to_close left.dirty left.phase ≡ calls_to_close from.dirty from.phase
      same = ap (λ (v : PlainVolume). calls_to_close v.dirty v.phase) given.rest

-- the disk failed in the second part
pub failed_later : (u v w : View) → Stays u v → HasFailed v w → HasFailed u w
failed_later u v w stays rose = (let l = stays.later in omega (arith, l, rose))
