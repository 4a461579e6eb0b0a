-- What a stop leaves stays safe as a history grows and as time goes on.
use Rattle.std.proofs.Common.{◌≡◌, ℕ, ◌<◌, ◌≤◌, false, List, [], ◌∷◌, ◌++◌, length}
use Rattle.std.proofs.Common.{slice_index_or, sym, subst}
use Rattle.std.specs.List.{AllByRecursion}
use Rattle.zd_model.specs.Bytes.{zero_sector}
use Rattle.zd_model.specs.History.{HistoryEntry}
use Rattle.zd_model.specs.Image.{Image}
use Rattle.zd_model.specs.Safe.{IsSafe, last_at}
use Rattle.zd_model.specs.Stops.{AreBy, IsFlushAt, MayHold, is_done_flush}
use Rattle.zd_model.specs.Volume.{Chosen, IsWellFormed, content}
use Rattle.zd_model.proofs.HeldLaws.{later, no_flush, past}
use Rattle.zd_model.proofs.LastLaws.{flush_resets, last_may, pasts}

-- it is safe by a history and at a moment by which its sectors may hold as much
pub safe_more : (base : List (List ℕ)) (h g : List HistoryEntry) (j k : ℕ) (image : Image)
    → ((n : ℕ) (v : List ℕ) → MayHold base h j n v → MayHold base g k n v)
    → IsSafe base h j image → IsSafe base g k image
safe_more base h g j k image more safe = record {
  set = safe.set;
  well_formed = safe.well_formed;
  size = safe.size;
  sectors = λ n low. more n _ (safe.sectors n low);
}

-- an entry that comes later
pub safe_past : (base : List (List ℕ)) (h : List HistoryEntry) (e : HistoryEntry) (k : ℕ) (image : Image)
    → k < e.at → IsSafe base h k image → IsSafe base (h ++ e ∷ []) k image
safe_past base h e k image early = safe_more base h (h ++ e ∷ []) k k image (λ n v. past base h e k n v early)

-- an entry that is no flush that was done
pub safe_no_flush : (base : List (List ℕ)) (h : List HistoryEntry) (e : HistoryEntry) (k : ℕ) (image : Image)
    → is_done_flush e.what e.reply ≡ false → IsSafe base h k image → IsSafe base (h ++ e ∷ []) k image
safe_no_flush base h e k image plain =
    safe_more base h (h ++ e ∷ []) k k image (λ n v. no_flush base h e k n v plain)

-- flushes that come later
pub safe_pasts : (base : List (List ℕ)) (at k : ℕ) (h es : List HistoryEntry) (image : Image)
    → AllByRecursion (IsFlushAt at) es → k < at → IsSafe base h k image → IsSafe base (h ++ es) k image
safe_pasts base at k h es image all early =
    safe_more base h (h ++ es) k k image (λ n v. pasts base at k n v h es all early)

-- a later moment
pub safe_later : (base : List (List ℕ)) (h : List HistoryEntry) (n k : ℕ) (image : Image) → n ≤ k → AreBy n h
    → IsSafe base h n image → IsSafe base h k image
safe_later base h n k image order by = safe_more base h h n k image (λ i v. later n k order base h i v by)

-- AN IMAGE THAT SERVES WHAT IS THERE LAST is safe, also once it is flushed
module _ (base : List (List ℕ)) (h : List HistoryEntry) (image : Image) (set : Chosen)
    (well_formed : IsWellFormed image set) (size : length (content image set) ≡ length base)
    (serves : (n : ℕ) → n < length base → slice_index_or (content image set) n zero_sector ≡ last_at base h n) where
  pub safe_last : (k : ℕ) → AreBy k h → IsSafe base h k image
  safe_last k by = record {
    set = set;
    well_formed = well_formed;
    size = size;
    sectors = λ n low. subst (λ (v : List ℕ). MayHold base h k n v) (sym (serves n low)) (last_may base h k n by);
  }

  pub safe_flushed : (e : HistoryEntry) (at k : ℕ) → IsFlushAt at e → at ≤ k → IsSafe base (h ++ e ∷ []) k image
  safe_flushed e at k is by = record {
    set = set;
    well_formed = well_formed;
    size = size;
    sectors = λ n low.
        subst (λ (v : List ℕ). MayHold base (h ++ e ∷ []) k n v) (sym (serves n low))
        (flush_resets base h e at k n is by);
  }
