-- Flushes that failed: they add nothing to what may be held, and a legal history stays legal with them.
use Rattle.std.proofs.Common.{◌≡◌, ℕ, false, List, [], ◌∷◌, ◌++◌, sym, ap₂, subst, arith}
use Rattle.std.proofs.lemmas.List.{append-nil, append_assoc}
use Rattle.std.specs.List.{AllByRecursion}
use Rattle.zd_model.specs.History.{HistoryEntry}
use Rattle.zd_model.specs.Plain.{Answer}
use Rattle.zd_model.specs.Stops.{AreBy, MayHold, is_done_flush}
use Rattle.zd_model.specs.declared.requests.What.{What}
use Rattle.zd_model.proofs.HeldLaws.{no_flush}
use Rattle.zd_volume.specs.FaultCounts.{IsFailedFlushAt}

not_done : (at : ℕ) (e : HistoryEntry) → IsFailedFlushAt at e → is_done_flush e.what e.reply ≡ false
not_done at e is = ap₂ (λ (w : What) (a : Answer). is_done_flush w a) is.failed.0 is.failed.1

pub failed_hold : (base : List (List ℕ)) (at k n : ℕ) (v : List ℕ) (h es : List HistoryEntry)
    → AllByRecursion (IsFailedFlushAt at) es → MayHold base h k n v → MayHold base (h ++ es) k n v
failed_hold base at k n v h [] all may =
    subst (λ (g : List HistoryEntry). MayHold base g k n v) (sym (append-nil h)) may
failed_hold base at k n v h (e ∷ es) all may =
    subst (λ (g : List HistoryEntry). MayHold base g k n v) (append_assoc h (e ∷ []) es)
    (failed_hold base at k n v (h ++ e ∷ []) es all.1 (no_flush base h e k n v (not_done at e all.0) may))

pub failed_by : (at : ℕ) (es : List HistoryEntry) → AllByRecursion (IsFailedFlushAt at) es → AreBy at es
failed_by at [] all = tt
failed_by at (e ∷ es) all = (omega (arith, all.0.when), failed_by at es all.1)
