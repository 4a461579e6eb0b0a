-- Events counted while a record is walked from its front.
use Rattle.std.proofs.Common.{◌≡◌, ℕ, ◌+◌, ◌-◌, ◌<◌, List, [], ◌∷◌, length, take, drop, refl, sym, ap, ap₂, ◌∙◌, arith}
use Rattle.zd_model.specs.Left.{Call, Event, asked_of, under_way}
use Rattle.zd_memdisk.specs.Calls.{byte_count, calls_of, total_bytes}
use Rattle.zd_memdisk.specs.Events.{Done, after_all, after_done, call_at, done_by}
use Rattle.zd_memdisk.specs.Greatest.{event_count, events_by}
use Rattle.zd_memdisk.specs.declared.greatest.EventsOf.{EventsOf}
use Rattle.zd_memdisk.specs.declared.record.Noted.{Noted}
use Rattle.zd_memdisk.proofs.Stopping.{after_none, after_skipped, step_done, step_under, under_here}
use Rattle.zd_memdisk.proofs.Stopping.{under_none, under_skipped}

-- What is counted of all calls, and what is left of them, so many calls before the stop
pub record IsCountedTo (which : EventsOf) (noted : List Noted) (stop : ℕ) (bytes : List ℕ) (skipped : ℕ)
    (rest : List Noted) (left count : ℕ) : Type 0 where
  pub at : ℕ
  pub so_far : Done
  pub sized : at + total_bytes rest ≡ length bytes
  pub counted : count ≡ event_count which so_far.since
  pub done : after_all so_far (take left (calls_of rest (drop at bytes) skipped))
      ≡ done_by (calls_of noted bytes skipped) stop
  pub under : under_way (calls_of rest (drop at bytes) skipped) left
      ≡ under_way (calls_of noted bytes skipped) stop

module _ (which : EventsOf) (noted : List Noted) (stop : ℕ) (bytes : List ℕ) (skipped : ℕ) where
  pub none_counted : length bytes ≡ total_bytes noted → IsCountedTo which noted stop bytes skipped noted stop 0
  none_counted sized = record {
    at = 0;
    so_far = record { before = []; since = [] };
    sized = omega arith;
    counted = refl;
    done = refl;
    under = refl;
  }

  -- what was counted is all
  counts : (count done asked : ℕ) (d : Done) (es : List Event) → count ≡ done + asked → done ≡ event_count which d.since
      → asked ≡ event_count which es → d ≡ done_by (calls_of noted bytes skipped) stop
      → es ≡ under_way (calls_of noted bytes skipped) stop → count ≡ events_by which (calls_of noted bytes skipped) stop
  counts count done asked d es sum is_done is_asked all_done all_under =
      sum
      ∙ ap₂ (λ (m n : ℕ). m + n)
      (is_done ∙ ap (λ (x : Done). event_count which x.since) all_done)
      (is_asked ∙ ap (event_count which) all_under)

  pub counted_all : (left count : ℕ) → IsCountedTo which noted stop bytes skipped [] left count
      → count ≡ events_by which (calls_of noted bytes skipped) stop
  counted_all left count to =
      counts count count 0 to.so_far [] (omega arith) to.counted refl
      (sym (after_none to.so_far skipped left) ∙ to.done)
      (sym (under_none skipped left) ∙ to.under)

  module _ (n : Noted) (behind : List Noted) (left count : ℕ)
      (to : IsCountedTo which noted stop bytes skipped (n ∷ behind) left count) where
    abbrev calls : List Call
    calls = call_at bytes to.at n.call ∷ calls_of behind (drop (byte_count n.call) (drop to.at bytes)) skipped

    -- the stop is before the call
    pub counted_before : left < n.skipped → count ≡ events_by which (calls_of noted bytes skipped) stop
    counted_before less =
        counts count count 0 to.so_far [] (omega arith) to.counted refl
        (sym (after_skipped to.so_far n.skipped left calls (omega arith)) ∙ to.done)
        (sym (under_skipped n.skipped left calls less) ∙ to.under)

    -- the call is under way
    pub counted_under : left ≡ n.skipped → (asked : ℕ)
        → asked ≡ event_count which (asked_of (call_at bytes to.at n.call))
        → count + asked ≡ events_by which (calls_of noted bytes skipped) stop
    counted_under here asked is =
        counts (count + asked) count asked to.so_far (asked_of (call_at bytes to.at n.call)) refl to.counted is
        (sym (after_skipped to.so_far n.skipped left calls (omega arith)) ∙ to.done)
        (sym (under_here n.skipped left (call_at bytes to.at n.call)
        (calls_of behind (drop (byte_count n.call) (drop to.at bytes)) skipped) (sym here)) ∙ to.under)

    -- the call has returned
    pub counted_more : n.skipped < left → (more : ℕ)
        → more ≡ event_count which (after_done to.so_far (call_at bytes to.at n.call)).since
        → IsCountedTo which noted stop bytes skipped behind (left - (n.skipped + 1)) more
    counted_more less more is = record {
      at = to.at + byte_count n.call;
      so_far = after_done to.so_far (call_at bytes to.at n.call);
      sized = let whole = to.sized in omega arith;
      counted = is;
      done = sym (step_done bytes skipped n behind to.at left less to.so_far) ∙ to.done;
      under = sym (step_under bytes skipped n behind to.at left less) ∙ to.under;
    }
