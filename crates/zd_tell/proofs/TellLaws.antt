-- How what was handed out is what is told.
use Rattle.std.proofs.Common.{◌≡◌, ◌⊎◌, ℕ, List, Option, Result, Ok, Err, Bool, true, false, IfSome, refl, sym, ap, ◌∙◌, subst, inl, inr, arith}
use Rattle.std.specs.Prelude.{IsOk, OnErr, is_ok, codes}
use Rattle.std.proofs.lemmas.Bool.{false≢true}
use Rattle.zd_base.specs.Faults.{HasCause}
use Rattle.zd_ports.specs.Taking.{Takes}
use Rattle.zd_ports.proofs.SinkLaws.{taken_by_run}
use Rattle.zd_tell.specs.Telling.{HandsOut, HasStatus, IsDone, Telling, TellsMessage, memory_telling}

-- a call that wasn't Ok blames its object
blamed : {T E : Type 0} (r : Result T E) (told : Bool) (P : Type 0) → told ≡ is_ok r → told ≡ false → OnErr r P → P
blamed (Ok x) told P is untold failed = absurd (false≢true (sym untold ∙ is))
blamed (Err e) told P is untold failed = failed

-- what a sink took, with the status that comes of it
pub handed : {T E : Type 0} (r : Result T E) (told : Bool) (own status faults now : ℕ)
    (held after : Option (List ℕ)) (text : List ℕ)
    → (own ≡ 6 → ⊥) → told ≡ is_ok r → HasStatus own status → (status ≡ 0 → told ≡ true)
    → (status ≡ 6 → told ≡ false) → HasCause faults now r
    → IfSome held (λ before. Takes before after text (IsOk r)) → HandsOut text own status held after faults now
handed r told own status faults now held after text free is answers done sink cause took = record {
  apart = free;
  answers = answers;
  taken = taken_by_run r told status faults now held after text is done cause.failed took;
  sink = λ six. blamed r told _ is (sink six) cause.failed;
  later = cause.later;
}

module _ (message : Telling) (fixed : Type 0) (text : List ℕ) (status : ℕ) (held after : Option (List ℕ))
    (faults now : ℕ) where
  -- the message itself
  pub tells : (own : ℕ) → text ≡ message.text → own ≡ message.status → HandsOut text own status held after faults now
      → TellsMessage message fixed status held after faults now
  tells own is same out = record {
    told = message;
    which = inl refl;
    out = subst (λ (n : ℕ). HandsOut message.text n status held after faults now) same
        (subst (λ (t : List ℕ). HandsOut t own status held after faults now) is out);
  }

  -- that no memory was found for it
  pub tells_memory : (fixed → ⊥) → text ≡ codes "end 7 memory\n" → HandsOut text 7 status held after faults now
      → TellsMessage message fixed status held after faults now
  tells_memory free is out = record {
    told = memory_telling;
    which = inr (refl, free);
    out = subst (λ (t : List ℕ). HandsOut t 7 status held after faults now) is out;
  }

module _ {message : Telling} {fixed : Type 0} {status : ℕ} {held after : Option (List ℕ)} {faults now : ℕ} where
  -- the status is that of the message, or 6 in place of 0, or 7
  pub status_told : TellsMessage message fixed status held after faults now
      → HasStatus message.status status ⊎ (status ≡ 7)
  status_told t = by t.which t.out.answers
    where
      by : (t.told ≡ message) ⊎ ((t.told ≡ memory_telling) × (fixed → ⊥)) → HasStatus t.told.status status
          → HasStatus message.status status ⊎ (status ≡ 7)
      by (inl same) has = inl (subst (λ (m : Telling). HasStatus m.status status) same has)
      by (inr none) has = inr (seven (subst (λ (m : Telling). HasStatus m.status status) none.0 has))
        where
          seven : HasStatus 7 status → status ≡ 7
          seven (inl is) = is
          seven (inr six) = absurd (omega (arith, six.1))

  -- a fixed message is told itself
  pub fixed_told : TellsMessage message fixed status held after faults now → fixed → HasStatus message.status status
  fixed_told t is = elim t.which [
    | inl same ↦ subst (λ (m : Telling). HasStatus m.status status) same t.out.answers
    | inr none ↦ absurd (none.1 is)
  ]

  -- where the status says that all was done, the message does
  pub done_told : TellsMessage message fixed status held after faults now → IsDone status → message.status ≡ 0
  done_told t done = by t.which done t.out.answers
    where
      by : (t.told ≡ message) ⊎ ((t.told ≡ memory_telling) × (fixed → ⊥)) → IsDone status
          → HasStatus t.told.status status → message.status ≡ 0
      by (inl same) (inl none) (inl is) = sym (ap (λ (m : Telling). m.status) same) ∙ sym is ∙ none
      by (inl same) (inr six) (inl is) = absurd (t.out.apart (sym is ∙ six.0))
      by (inl same) done (inr six) = sym (ap (λ (m : Telling). m.status) same) ∙ six.1
      by (inr none) (inl zero_is) (inl is) =
          (let s = ap (λ (m : Telling). m.status) none.0 in absurd (omega (arith, zero_is, is, s)))
      by (inr none) (inr six) (inl is) =
          (let s = ap (λ (m : Telling). m.status) none.0 in let e = six.0 in absurd (omega (arith, e, is, s)))
      by (inr none) done (inr six) =
          (let s = ap (λ (m : Telling). m.status) none.0 in let e = six.1 in absurd (omega (arith, e, s)))

-- a status that is neither 6 nor 7 is the message's own
pub own_status : {own status : ℕ} → HasStatus own status ⊎ (status ≡ 7) → (status ≡ 6 → ⊥) → (status ≡ 7 → ⊥)
    → own ≡ status
own_status (inl (inl is)) not_six not_seven = sym is
own_status (inl (inr six)) not_six not_seven = absurd (not_six six.0)
own_status (inr seven) not_six not_seven = absurd (not_seven seven)
