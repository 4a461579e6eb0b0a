-- How one writing call grows what may be left, by one step for as long as it is under way and after it.
use Rattle.std.proofs.Common.{ℕ, ◌+◌, ◌-◌, ◌^◌, ◌<◌, List}
use Rattle.zd_model.specs.Image.{Image, Same}
use Rattle.zd_disk.specs.Growth.{Grows}
use Rattle.zd_disk.specs.Steps.{ResetLeaves, ResetStep, WriteLeaves, WriteStep}
use Rattle.zd_disk.specs.Told.{WhereTold}
use Rattle.zd_disk.specs.View.{View, Calls}
use Rattle.zd_disk.proofs.BeforeCalls.{leaves_step, reset_leaves_step}
use Rattle.zd_disk.proofs.ToldLaws.{Both-get}

-- growth by wider steps, of images that could and can be left
pub grows_more : (c : ℕ) (past now : ℕ → Image → Type 0) (begun ended wider after : Image → Image → Type 0)
    → ((d i : Image) → past c d → now c i → begun d i → wider d i)
    → ((d i : Image) → past c d → now (c + 1) i → ended d i → after d i)
    → Grows c past now begun ended → Grows c past now wider after
grows_more c past now begun ended wider after first last h = record {
  only = h.only;
  kept = h.kept;
  under_way = λ i can. (let from = h.under_way i can in (from.0, from.1, first from.0 i from.1 can from.2));
  returned = λ i can. (let from = h.returned i can in (from.0, from.1, last from.0 i from.1 can from.2));
}

-- what a call of the disk grows by, where what it leaves is such a step too
pub grows_by_step : {u v : View} {begun : Image → Image → Image → Type 0}
    {ended : Image → Image → Image → Image → Type 0} (step : Image → Image → Image → Type 0)
    → ((r d i : Image) → begun r d i → step r d i) → ((r j d i : Image) → ended r j d i → step r d i)
    → Calls begun ended u v → v.calls < 2 ^ 64 - 1
    → WhereTold u.zones (λ r. Grows u.calls u.left v.left (step r) (step r))
grows_by_step {u} {v} {begun} {ended} step first last call low r told =
    let both = Both-get u.zones v.zones _ r (call.left low) told in
    grows_more u.calls u.left v.left (begun r) (ended r both.0) (step r) (step r)
    (λ d i could can s. first r d i s) (λ d i could can s. last r both.0 d i s) both.2

-- a write, a reset and a flush
pub grows_by_write : {u v : View} (zone start : ℕ) (bytes : List ℕ)
    → Calls (λ r. WriteStep r zone start bytes) (λ r j. WriteLeaves r j zone start bytes) u v
    → v.calls < 2 ^ 64 - 1
    → WhereTold u.zones (λ r.
    Grows u.calls u.left v.left (WriteStep r zone start bytes) (WriteStep r zone start bytes))
grows_by_write zone start bytes =
    grows_by_step (λ r. WriteStep r zone start bytes) (λ r d i s. s)
    (λ r j d i s. leaves_step r j zone start bytes d i s)

pub grows_by_reset : {u v : View} (zone : ℕ) → Calls (λ _. ResetStep zone) (λ _ j. ResetLeaves j zone) u v
    → v.calls < 2 ^ 64 - 1
    → WhereTold u.zones (λ r. Grows u.calls u.left v.left (ResetStep zone) (ResetStep zone))
grows_by_reset zone =
    grows_by_step (λ _. ResetStep zone) (λ r d i s. s) (λ r j d i s. reset_leaves_step j zone d i s)

pub grows_by_flush : {u v : View} → Calls (λ _. Same) (λ _ _. Same) u v → v.calls < 2 ^ 64 - 1
    → WhereTold u.zones (λ r. Grows u.calls u.left v.left Same Same)
grows_by_flush = grows_by_step (λ _. Same) (λ r d i s. s) (λ r j d i s. s)
