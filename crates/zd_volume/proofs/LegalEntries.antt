-- A HISTORY STAYS LEGAL with more entries at its end: where none was made later than now, and no fault was told but of
-- a read.
use Rattle.std.proofs.Common.{◌≡◌, ℕ, ◌+◌, ◌<◌, ◌≤◌, Bool, true, false, cond, List, [], ◌∷◌, ◌++◌, length, refl}
use Rattle.std.proofs.Common.{sym, ap, ◌∙◌, subst, inl, inr, arith}
use Rattle.std.proofs.lemmas.List.{append-nil, append_assoc}
use Rattle.std.specs.List.{AllByRecursion}
use Rattle.zd_model.specs.History.{Answers, HistoryEntry, IsFailedFlush, IsLegal, MayFail, calls_needed, last_array}
use Rattle.zd_model.specs.History.{waits}
use Rattle.zd_model.specs.Plain.{Answer, ends_past, reply_to}
use Rattle.zd_model.specs.Plain.Answer.{Done, Fault}
use Rattle.zd_model.specs.Requests.{Operation, operation_of}
use Rattle.zd_model.specs.Requests.Operation.{Reading, Writing, Discarding, Flushing}
use Rattle.zd_model.specs.Stops.{AreBy, IsFlushAt}
use Rattle.zd_model.specs.declared.requests.Piece.{Piece}
use Rattle.zd_model.specs.declared.requests.What.{What}
use Rattle.zd_model.specs.declared.requests.What.TheVariants.{Flush}
use Rattle.zd_model.proofs.ArrayLaws.{ends_inside, length-last_array}
use Rattle.zd_model.proofs.HeldLaws.{AreBy-push}
use Rattle.zd_model.proofs.HistoryLaws.{Allows, IsOpenTo, answers-push}
use Rattle.zd_model.proofs.OrderLaws.{ComesAfter, in_time-push}
use Rattle.zd_volume.specs.Commits.{AreFlushes, flush_entries}
use Rattle.zd_volume.specs.FaultCounts.{AreCalm, IsFailedFlushAt}
use Rattle.zd_volume.proofs.FaultEntries.{calm_more, done_none, none_calm}

-- TIMES: an entry waits for a call where it is a write in range alone
abbrev pub IsLater : ℕ → ℕ → HistoryEntry → Type 0
IsLater sectors now e =
    (now ≤ e.at) × (operation_of e.what ≡ Writing → ends_past sectors e.what ≡ false → now < e.at)

later_waits : (sectors now : ℕ) (e : HistoryEntry) → IsLater sectors now e → now + waits sectors e.what ≤ e.at
later_waits sectors now e is = by (operation_of e.what) (ends_past sectors e.what) is.1
  where
    by : (o : Operation) (past : Bool) → (o ≡ Writing → past ≡ false → now < e.at) → now + calls_needed o past ≤ e.at
    by Reading past f = omega (arith, is.0)
    by Writing true f = omega (arith, is.0)
    by Writing false f = (let l = f refl refl in omega (arith, l))
    by Discarding past f = omega (arith, is.0)
    by Flushing past f = omega (arith, is.0)

comes_after : (sectors now : ℕ) (h : List HistoryEntry) (e : HistoryEntry) → AreBy now h
    → now + waits sectors e.what ≤ e.at → ComesAfter sectors h e
comes_after sectors now [] e by l = tt
comes_after sectors now (f ∷ []) e by l = omega (arith, by.0, l)
comes_after sectors now (f ∷ g ∷ h) e by l = comes_after sectors now (g ∷ h) e by.1 l

-- no entry of a calm history forbids another one
open_calm : (e : HistoryEntry) (h : List HistoryEntry) → AreCalm h → AllByRecursion (IsOpenTo e) h
open_calm e [] calm = tt
open_calm e (f ∷ h) calm = (
  (λ fault. subst (λ (o : Operation). Allows o e) (sym (calm.0 fault)) tt),
  open_calm e h calm.1,
)

-- ONE ENTRY, of any kind that may stand there
legal_entry : (base : List (List ℕ)) (now : ℕ) (h : List HistoryEntry) (e : HistoryEntry) → IsLegal base h → AreBy now h
    → AllByRecursion (IsOpenTo e) h → Answers (last_array base h) e [] → IsLater (length base) now e
    → IsLegal base (h ++ e ∷ [])
legal_entry base now h e was by opens answer is = record {
  answers = answers-push base h e opens was.answers answer;
  in_time = in_time-push (length base) h e was.in_time
      (comes_after (length base) now h e by (later_waits (length base) now e is));
}

module _ (base : List (List ℕ)) (now : ℕ) (h : List HistoryEntry) (e : HistoryEntry) (was : IsLegal base h)
    (by : AreBy now h) (calm : AreCalm h) where
  -- the reply is that of the plain list
  pub legal_plain : e.reply ≡ reply_to (last_array base h) e.what → IsLater (length base) now e
      → IsLegal base (h ++ e ∷ [])
  legal_plain reply is = legal_entry base now h e was by (open_calm e h calm) (inl reply) is

  legal_fault : e.reply ≡ Fault → ends_past (length base) e.what ≡ false → MayFail (operation_of e.what) []
      → IsLater (length base) now e → IsLegal base (h ++ e ∷ [])
  legal_fault fault in_range may is =
      legal_entry base now h e was by (open_calm e h calm)
      (inr (fault, ap (λ (n : ℕ). ends_past n e.what) (length-last_array base h) ∙ in_range, may)) is

  -- a read that failed
  pub legal_read_fault : operation_of e.what ≡ Reading → ends_past (length base) e.what ≡ false → e.reply ≡ Fault
      → now ≤ e.at → IsLegal base (h ++ e ∷ [])
  legal_read_fault reads in_range fault later =
      legal_fault fault in_range (subst (λ (o : Operation). MayFail o []) (sym reads) tt)
      (later, λ writes. absurd (let no : Reading ≡ Writing = sym reads ∙ writes in let f : ⊥ = cc in f))

  -- a write that failed
  pub legal_write_fault : operation_of e.what ≡ Writing → ends_past (length base) e.what ≡ false → e.reply ≡ Fault
      → now < e.at → IsLegal base (h ++ e ∷ [])
  legal_write_fault writes in_range fault later =
      legal_fault fault in_range (subst (λ (o : Operation). MayFail o []) (sym writes) refl)
      (omega (arith, later), λ _ _. later)

-- FLUSHES, each of which ends at the same time
flush_later : (sectors now at : ℕ) (e : HistoryEntry) → now ≤ at → e.what ≡ Flush → e.at ≡ at → IsLater sectors now e
flush_later sectors now at e later flush when = (
  omega (arith, later, when),
  λ writes. absurd (let no : Flushing ≡ Writing = sym (ap operation_of flush) ∙ writes in let f : ⊥ = cc in f),
)

flush_inside : (sectors : ℕ) (what : What) → what ≡ Flush → ends_past sectors what ≡ false
flush_inside sectors what flush =
    ap (ends_past sectors) flush ∙ ends_inside sectors Flush (omega arith)

flush_reply : (array : List (List ℕ)) (what : What) → what ≡ Flush → Done ≡ reply_to array what
flush_reply array what flush =
    sym (ap (reply_to array) flush
    ∙ ap (λ (b : Bool). cond b Answer.Range Done) (flush_inside (length array) Flush refl))

pub legal_flushes_done : (base : List (List ℕ)) (now at : ℕ) (h es : List HistoryEntry) → IsLegal base h → AreBy now h
    → AreCalm h → now ≤ at → AllByRecursion (IsFlushAt at) es → IsLegal base (h ++ es)
legal_flushes_done base now at h [] was by calm later all =
    subst (IsLegal base) (sym (append-nil h)) was
legal_flushes_done base now at h (e ∷ es) was by calm later all =
    subst (IsLegal base) (append_assoc h (e ∷ []) es)
    (legal_flushes_done base at at (h ++ e ∷ []) es
    (legal_plain base now h e was by calm (all.0.done ∙ flush_reply (last_array base h) e.what all.0.flush)
    (flush_later (length base) now at e later all.0.flush all.0.when))
    (AreBy-push now at h e later by (omega (arith, all.0.when)))
    (calm_more h (e ∷ []) calm (none_calm (e ∷ []) (done_none at (e ∷ []) (all.0, tt))))
    (omega arith) all.1)

-- where they failed, each lets those after it stand
abbrev AreOpen : List HistoryEntry → Type 0
AreOpen h = (e : HistoryEntry) → IsFailedFlush e → AllByRecursion (IsOpenTo e) h

open_more : (h : List HistoryEntry) (f : HistoryEntry) → AreOpen h → IsFailedFlush f → AreOpen (h ++ f ∷ [])
open_more h f opens failed e is =
    push h (opens e is)
  where
    one : IsOpenTo e f
    one fault = subst (λ (w : What). Allows (operation_of w) e) (sym failed.0) is

    push : (g : List HistoryEntry) → AllByRecursion (IsOpenTo e) g → AllByRecursion (IsOpenTo e) (g ++ f ∷ [])
    push [] all = (one, tt)
    push (x ∷ g) all = (all.0, push g all.1)

flushes_failed : (base : List (List ℕ)) (now at : ℕ) (h es : List HistoryEntry) → IsLegal base h → AreBy now h
    → AreOpen h → now ≤ at → AllByRecursion (IsFailedFlushAt at) es → IsLegal base (h ++ es)
flushes_failed base now at h [] was by opens later all =
    subst (IsLegal base) (sym (append-nil h)) was
flushes_failed base now at h (e ∷ es) was by opens later all =
    subst (IsLegal base) (append_assoc h (e ∷ []) es)
    (flushes_failed base at at (h ++ e ∷ []) es
    (legal_entry base now h e was by (opens e all.0.failed)
    (inr (
      all.0.failed.1,
      flush_inside (length (last_array base h)) e.what all.0.failed.0,
      subst (λ (w : What). MayFail (operation_of w) []) (sym all.0.failed.0) tt,
    ))
    (flush_later (length base) now at e later all.0.failed.0 all.0.when))
    (AreBy-push now at h e later by (omega (arith, all.0.when)))
    (open_more h e opens all.0.failed)
    (omega arith) all.1)

pub legal_flushes_failed : (base : List (List ℕ)) (now at : ℕ) (h es : List HistoryEntry) → IsLegal base h → AreBy now h
    → AreCalm h → now ≤ at → AllByRecursion (IsFailedFlushAt at) es → IsLegal base (h ++ es)
legal_flushes_failed base now at h es was by calm later all =
    flushes_failed base now at h es was by (λ e _. open_calm e h calm) later all

-- THE FLUSHES THAT A COMMIT ENTERS
pub done_entries : (at : ℕ) (pieces : List Piece) → AreFlushes pieces
    → AllByRecursion (IsFlushAt at) (flush_entries Done at pieces)
done_entries at [] all = tt
done_entries at (p ∷ pieces) all =
    (record { flush = all.0; done = refl; when = refl }, done_entries at pieces all.1)

pub failed_entries : (at : ℕ) (pieces : List Piece) → AreFlushes pieces
    → AllByRecursion (IsFailedFlushAt at) (flush_entries Fault at pieces)
failed_entries at [] all = tt
failed_entries at (p ∷ pieces) all =
    (record { failed = (all.0, refl); when = refl }, failed_entries at pieces all.1)
