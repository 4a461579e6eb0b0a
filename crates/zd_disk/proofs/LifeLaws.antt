-- By induction over the calls of a disk: it tells only images that a stop may leave after them.
use Rattle.std.proofs.Common.{◌≡◌, ℕ, suc, ◌+◌, ◌-◌, ◌^◌, ◌<◌, ◌≤◌, Bool, true, false, List, []}
use Rattle.std.proofs.Common.{◌∷◌}
use Rattle.std.proofs.Common.{◌++◌, length, Option, Some, IsSomeAnd, refl, sym, ◌∙◌, subst, arith}
use Rattle.std.proofs.Common.{append_assoc, length-append}
use Rattle.std.specs.Prelude.{if◌then◌else◌}
use Rattle.std.proofs.lemmas.List.{append-nil}
use Rattle.zd_base.specs.Geometry.{Shape, zone_sectors}
use Rattle.zd_model.specs.Image.{Image, Same}
use Rattle.zd_model.specs.Left.{Call, Event, apply, now_by, replay}
use Rattle.zd_model.specs.Left.Event.{Clear}
use Rattle.zd_model.specs.Left.Call.{Does, Flushes}
use Rattle.zd_model.proofs.EventLaws.{apply_elsewhere, one_zone_same, same_test}
use Rattle.zd_model.proofs.LeftLaws.{now-push}
use Rattle.zd_disk.specs.Growth.{Grows, puts}
use Rattle.zd_disk.specs.Lives.{DiskCall, FlushDid, ResetDid, WriteDid, IsBeginning, IsResetBy}
use Rattle.zd_disk.specs.Lives.{IsCall, AreCalls}
use Rattle.zd_disk.specs.Lives.{AnyCallsStayWithin, writing_call, writing_calls}
use Rattle.zd_disk.specs.Lives.DiskCall.{Writes, Resets, Saves, Looks}
use Rattle.zd_disk.specs.Steps.{WasReset, count_of}
use Rattle.zd_disk.specs.Told.{IsInside, IsSequentialZone}
use Rattle.zd_disk.specs.View.{Calls, OnlyReads, View}
use Rattle.zd_disk.specs.Within.{IsOn, IsWithin, TellsImages}
use Rattle.zd_disk.proofs.BeforeCalls.{on_clear}
use Rattle.zd_disk.proofs.ChosenPuts.{on_none}
use Rattle.zd_disk.proofs.SameSteps.{Same-trans, was_reset_same}
use Rattle.zd_disk.proofs.ToldLaws.{Both-at, IsSomeAnd-get, Some-same}
use Rattle.zd_disk.proofs.TurnLaws.{turned}
use Rattle.zd_disk.proofs.WithinLaws.{a_failed_flush, a_flush, a_new_disk, a_reset, a_write}

-- the disk before a call and after it, as the laws of one step take them
abbrev two : (ℕ → Image → Type 0) → (ℕ → Image → Type 0) → Bool → ℕ → Image → Type 0
two p q true = p
two p q false = q

-- a reset of an image is one
own_reset : (i : Image) (z : ℕ) → WasReset z i (replay i (Clear z ∷ []))
own_reset i z = record {
  geometry = refl;
  others = λ y other. one_zone_same i (apply i (Clear z)) y (apply_elsewhere i y (Clear z) other);
  zone = rw (same_test z z refl) refl;
}

-- after these calls: the disk reads as an image, has counted them, and is within what they allow
record IsSoFar (first : Image) (past : List Call) (v : View) : Type 0 where
  now : Image
  reads : v.zones ≡ Some now
  count : v.calls ≡ length past
  within : IsWithin first past now v.left

-- one call more, before the end of the count
module _ (first : Image) (past : List Call) (u v : View) (was : IsSoFar first past u)
    (low : v.calls < 2 ^ 64 - 1) where
  tells : v.calls ≡ length past + 1 → TellsImages (length past + 1) v.left
  tells count k i few can = (v.leaves k i (omega (arith, count, few)) can).0

  more : (c : Call) → v.calls ≡ length past + 1 → v.calls ≡ length (past ++ c ∷ [])
  more c count = omega (arith, count, length-append past (c ∷ []))

  next_calls : {begun : Image → Image → Image → Type 0} {ended : Image → Image → Image → Image → Type 0}
      → Calls begun ended u v → v.calls ≡ length past + 1
  next_calls call = (let count = was.count in let next = call.calls in omega (arith, low))

  -- what the call lets grow, where the disk now reads as this image
  grown : {begun : Image → Image → Image → Type 0} {ended : Image → Image → Image → Image → Type 0}
      → Calls begun ended u v → (now : Image) → v.zones ≡ Some now
      → Grows (length past) u.left v.left (begun was.now) (ended was.now now)
  grown {begun} {ended} call now reads =
      subst (λ (n : ℕ). Grows n u.left v.left (begun was.now) (ended was.now now)) was.count
      (Both-at u.zones v.zones (λ i j. Grows u.calls u.left v.left (begun i) (ended i j)) was.now now was.reads
      reads (call.left low))

  after_write : (zone start : ℕ) (bytes : List ℕ) (done : List Event) → WriteDid zone start bytes done u v
      → IsSoFar first (past ++ Does (puts zone start bytes 0 (count_of bytes)) done ∷ []) v
  after_write zone start bytes done h =
      let asked : List Event = puts zone start bytes 0 (count_of bytes) in
      let count = next_calls h.call in
      let next = turned h.did was.now was.reads in
      let there = IsSomeAnd-get u.told (IsInside zone start (count_of bytes)) h.is.inside in
      let shape : there.0 ≡ was.now.geometry =
      Some-same there.0 was.now.geometry (sym there.1 ∙ u.agrees was.now was.reads) in
      record {
        now = next.0;
        reads = next.1;
        count = more (Does asked done) count;
        within = a_write (two u.left v.left) true false first was.now next.0 past zone start bytes done was.within
            (v.shaped next.0 next.1) h.is.whole
            (subst (λ (g : Shape). start + count_of bytes ≤ zone_sectors g) shape there.2.1)
            (h.is.pointer was.now was.reads) (h.by was.now was.reads) (tells count)
            (subst (λ (i : Image). Same i next.0) (sym (now-push first past asked done))
            (next.2 (now_by first past) was.within.tied))
            (grown h.call next.0 next.1);
      }

  -- a reset that did this leads from each image that holds the same
  reset_leads : (zone : ℕ) (done : Bool) (i now : Image) → Same i was.now
      → IsResetBy zone done was.now now
      → Same (replay i (if done then Clear zone ∷ [] else [])) now
  reset_leads zone true i now same did =
      was_reset_same zone i (replay i (Clear zone ∷ [])) was.now now same (own_reset i zone) did
  reset_leads zone false i now same did = Same-trans i was.now now same did

  reset_on : (zone : ℕ) (done : Bool) → IsOn zone (if done then Clear zone ∷ [] else [])
  reset_on zone true = on_clear zone
  reset_on zone false = on_none zone

  after_reset : (zone : ℕ) (done : Bool) → ResetDid zone done u v
      → IsSoFar first (past ++ Does (Clear zone ∷ []) (if done then Clear zone ∷ [] else []) ∷ []) v
  after_reset zone done h =
      let events : List Event = if done then Clear zone ∷ [] else [] in
      let count = next_calls h.call in
      let next = turned h.did was.now was.reads in
      let there = IsSomeAnd-get u.told (IsSequentialZone zone) h.inside in
      let shape : there.0 ≡ was.now.geometry =
      Some-same there.0 was.now.geometry (sym there.1 ∙ u.agrees was.now was.reads) in
      record {
        now = next.0;
        reads = next.1;
        count = more (Does (Clear zone ∷ []) events) count;
        within = a_reset (two u.left v.left) true false first was.now next.0 past zone events was.within
            (v.shaped next.0 next.1) (subst (λ (g : Shape). g.conv ≤ zone) shape there.2.0)
            (reset_on zone done)
            (subst (λ (i : Image). Same i next.0) (sym (now-push first past (Clear zone ∷ []) events))
            (reset_leads zone done (now_by first past) next.0 was.within.tied next.2))
            (tells count) (grown h.call next.0 next.1);
      }

  after_flush : (ok : Bool) → FlushDid ok u v → IsSoFar first (past ++ Flushes ok ∷ []) v
  after_flush true h =
      let count = next_calls h.call in
      let next = turned h.same was.now was.reads in
      record {
        now = next.0;
        reads = next.1;
        count = more (Flushes true) count;
        within = a_flush (two u.left v.left) true false first was.now next.0 past was.within
            (v.shaped next.0 next.1) next.2 (tells count) (grown h.call next.0 next.1)
            (λ i can. Same-trans was.now next.0 i next.2 ((h.durable refl).left low next.0 next.1 i
            (subst (λ (n : ℕ). v.left n i) (sym count) can)));
      }
  after_flush false h =
      let count = next_calls h.call in
      let next = turned h.same was.now was.reads in
      record {
        now = next.0;
        reads = next.1;
        count = more (Flushes false) count;
        within = a_failed_flush (two u.left v.left) true false first was.now next.0 past was.within
            (v.shaped next.0 next.1) next.2 (tells count) (grown h.call next.0 next.1);
      }

  after_reads : OnlyReads u v → IsSoFar first past v
  after_reads h = record {
    now = was.now;
    reads = h.zones ∙ was.reads;
    count = h.calls ∙ was.count;
    within = record {
      image = was.within.image;
      tied = was.within.tied;
      within = λ k i few can. was.within.within k i few (h.left.only k i can);
    };
  }

  after : (c : DiskCall) → IsCall c u v → IsSoFar first (past ++ writing_call c) v
  after (Writes zone start bytes done) h = after_write zone start bytes done h
  after (Resets zone done) h = after_reset zone done h
  after (Saves ok) h = after_flush ok h
  after Looks h = subst (λ (cs : List Call). IsSoFar first cs v) (sym (append-nil past)) (after_reads h)

-- the count never falls
rises : (c : DiskCall) (u v : View) → IsCall c u v → u.calls ≤ v.calls
rises (Writes zone start bytes done) u v h = (let next = h.call.calls in omega arith)
rises (Resets zone done) u v h = (let next = h.call.calls in omega arith)
rises (Saves ok) u v h = (let next = h.call.calls in omega arith)
rises Looks u v h = (let next = h.calls in omega arith)

all_rise : (calls : List DiskCall) (views : ℕ → View) → AreCalls calls views
    → (views 0).calls ≤ (views (length calls)).calls
all_rise [] views runs = omega arith
all_rise (c ∷ calls) views runs =
    let one = rises c (views 0) (views 1) runs.0 in
    let others = all_rise calls (λ k. views (suc k)) runs.1 in
    omega arith

-- call by call
run_on : (first : Image) (past : List Call) (calls : List DiskCall) (views : ℕ → View) → AreCalls calls views
    → (views (length calls)).calls < 2 ^ 64 - 1 → IsSoFar first past (views 0)
    → IsSoFar first (past ++ writing_calls calls) (views (length calls))
run_on first past [] views runs low was =
    subst (λ (cs : List Call). IsSoFar first cs (views 0)) (sym (append-nil past)) was
run_on first past (c ∷ calls) views runs low was =
    let others = all_rise calls (λ k. views (suc k)) runs.1 in
    let next = after first past (views 0) (views 1) was (omega (arith, low)) c runs.0 in
    subst (λ (cs : List Call). IsSoFar first cs (views (suc (length calls))))
    (append_assoc past (writing_call c) (writing_calls calls))
    (run_on first (past ++ writing_call c) calls (λ k. views (suc k)) runs.1 low next)

begins : (first : Image) (v : View) → IsBeginning first v → IsSoFar first [] v
begins first v h = record {
  now = first;
  reads = h.reads;
  count = h.calls;
  within = a_new_disk (two v.left v.left) true first (v.shaped first h.reads)
      (λ i can. ((v.leaves 0 i (omega arith) can).0, h.left i can));
}

pub any_calls : {D : Type 0} (view : D → View) → AnyCallsStayWithin view
any_calls view first calls disks beginning runs low =
    let end = run_on first [] calls (λ k. view (disks k)) runs low (begins first (view (disks 0)) beginning) in
    let last : View = view (disks (length calls)) in (
      end.count,
      subst (λ (o : Option Image). IsSomeAnd o (λ now. IsWithin first (writing_calls calls) now last.left))
          (sym end.reads) end.within,
    )
