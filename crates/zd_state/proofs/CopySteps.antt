-- Copies, by the steps of their code.
use Rattle.std.proofs.Common.{◌≡◌, ℕ, ◌+◌, ◌-◌, ◌*◌, ◌≤◌, min, List, length, replicate, take, Option}
use Rattle.std.proofs.Common.{Some, None, IfNone, IsSome, inl, inr, refl, sym, ap, ◌∙◌, subst, arith}
use Rattle.std.proofs.lemmas.Bool.{false≢true}
use Rattle.zd_base.specs.declared.numbers.Why.{Why}
use Rattle.zd_base.specs.declared.steps.StepKind.{StepKind}
use Rattle.zd_disk.specs.Told.{WhereTold, next_count}
use Rattle.zd_disk.specs.View.{View}
use Rattle.zd_model.specs.Image.{Image, run_of}
use Rattle.zd_model.proofs.FaultLaws.{some_is}
use Rattle.zd_volume.specs.Volumes.{IsFixed, IsKeptVolume, PlainVolume}
use Rattle.zd_volume.specs.declared.work.Work.{Work}
use Rattle.zd_volume.proofs.FixedLaws.{fixed_buffer}
use Rattle.zd_jobs.specs.JobSteps.{FailsCopyRead, FailsCopyWrite, ReadsBlocks, WritesBlocksOn, WritesCopy}
use Rattle.zd_jobs.specs.NextSteps.{IsCopied, IsNextOf, IsNextRun, IsNextStep, source}
use Rattle.zd_jobs.proofs.NextLaws.{gap_next, read_next, write_next}
use Rattle.zd_jobs.proofs.WorkLaws.{run_below_told}

-- the next step of the job under way
pub step_under_way : (v : PlainVolume) (w : Work) (kind : StepKind) → IsNextStep v v.job (Some kind) → v.job ≡ Some w
    → IsNextOf v w kind
step_under_way v w kind next is = subst (λ (job : Option Work). IsNextStep v job (Some kind)) is next

-- where a run is left, one is found
not_all : (v : PlainVolume) (w : Work) (at count : ℕ) → IsNextRun v w at count → IsCopied v w → ⊥
not_all v w at count run copied =
    let some = run.some in
    let inside = run.inside in
    false≢true (sym (copied run.zone at run.from run.later (omega (arith, some, inside)))
    ∙ run.valid at (omega arith) (omega (arith, some)))

run_found : {T : Type 0} (v : PlainVolume) (w : Work) (at count : ℕ) → IsNextRun v w at count → (found : Option T)
    → IfNone found (IsCopied v w) → IsSome found
run_found v w at count run None none = absurd (not_all v w at count run none)
run_found v w at count run (Some x) none = refl

run_read : (v : PlainVolume) (w : Work) → IsNextOf v w StepKind.CopyRead
    → (at : ℕ) × (count : ℕ) × IsNextRun v w at count
run_read v w (inl read) = absurd (let same = read.1 in let f : ⊥ = cc in f)
run_read v w (inr (inl all)) = absurd (let same = all.2 in let f : ⊥ = cc in f)
run_read v w (inr (inr there)) = (there.1.0, there.1.1, there.1.2)

pub found_for_read : {T : Type 0} (v : PlainVolume) (w : Work) → IsNextOf v w StepKind.CopyRead → (found : Option T)
    → IfNone found (IsCopied v w) → IsSome found
found_for_read v w next found none = (let run = run_read v w next in run_found v w run.0 run.1 run.2 found none)

pub found_for_gap : {T : Type 0} (v : PlainVolume) (w : Work) → IsNextOf v w StepKind.CopyWrite → w.read ≡ 0
    → (found : Option T) → IfNone found (IsCopied v w) → IsSome found
found_for_gap v w next unread found none = elim (write_next v w next) [
  | inl read ↦ absurd (let f : ⊥ = omega (arith, read, unread) in f)
  | inr gap ↦ run_found v w gap.1.0 gap.1.1 gap.1.2 found none
]

-- a run that is found stands below the pointer of its zone
pub run_in_zone : (v : PlainVolume) (w : Work) (opening u : View) → v.stopped ≡ None → IsKeptVolume v opening u
    → v.job ≡ Some w → (zone at count : ℕ) → IsNextRun v w at count → source v w ≡ Some zone
    → WhereTold u.zones (λ i. 8 * at + 8 * count ≤ i.held zone)
run_in_zone v w opening u runs was is zone at count run from i there =
    subst (λ (z : ℕ). 8 * at + 8 * count ≤ i.held z) (some_is run.zone zone (sym run.from ∙ from))
    (run_below_told v w opening u runs was is at count run i there)

-- A GAP is filled with zeros
pub fills_gap : (v : PlainVolume) (w : Work) (at run count : ℕ) (bytes : List ℕ) → IsNextOf v w StepKind.CopyWrite
    → w.read ≡ 0 → IsNextRun v w at run → count ≡ min (at - w.copied) 32 → bytes ≡ replicate (4096 * count) 0
    → WritesCopy v w count bytes
fills_gap v w at run count bytes next unread is same zeros =
    inr (unread, (at, run, is, gap_next v w next unread at run is, same, zeros))

-- A RUN WAS READ
module _ (v a b : PlainVolume) (w : Work) (zone at count : ℕ) (run : IsNextRun v w at count)
    (from : source v w ≡ Some zone) (read : a ≡ record v { buffer = a.buffer })
    (size : length a.buffer ≡ length v.buffer) where
  pub reads_in_steps : (told : Option Image) → IsNextOf v w StepKind.CopyRead
      → b ≡ record a { job = Some (record w { copied = at; read = count }) }
      → WhereTold told (λ i. take (4096 * count) a.buffer ≡ run_of (i.sector zone) (8 * at) (8 * count))
      → ReadsBlocks v b w at count told
  reads_in_steps told next noted value = record {
    run = run;
    no_gap = (read_next v w next at count run).1;
    size = ap (λ (xs : List ℕ). length xs) buffer ∙ size;
    value = λ z source i there.
        ap (take (4096 * count)) buffer ∙ value i there
        ∙ ap (λ (z : ℕ). run_of (i.sector z) (8 * at) (8 * count)) (some_is zone z (sym from ∙ source));
    rest = noted
        ∙ ap (λ (u : PlainVolume). record u { job = Some (record w { copied = at; read = count }) }) read
        ∙ ap (λ (xs : List ℕ). record v { job = Some (record w { copied = at; read = count }); buffer = xs })
        (sym buffer);
  }
    where
      buffer : b.buffer ≡ a.buffer
      buffer = ap (λ (u : PlainVolume). u.buffer) noted

-- A READ FAILED
pub fails_read : (v a b : PlainVolume) → a ≡ record v { buffer = a.buffer } → length a.buffer ≡ length v.buffer
    → b ≡ record a { stopped = Some Why.Device } → FailsCopyRead v b
fails_read v a b read size stopped =
    let buffer : b.buffer ≡ a.buffer = ap (λ (u : PlainVolume). u.buffer) stopped in
    record {
      size = ap (λ (xs : List ℕ). length xs) buffer ∙ size;
      rest = stopped ∙ ap (λ (u : PlainVolume). record u { stopped = Some Why.Device }) read
          ∙ ap (λ (xs : List ℕ). record v { buffer = xs; stopped = Some Why.Device }) (sym buffer);
    }

-- A WRITE FAILED
module _ (v a : PlainVolume) (filled : a ≡ record v { buffer = a.buffer }) (size : length a.buffer ≡ length v.buffer)
  where
    pub fails_write : (b : PlainVolume) → b ≡ record a { since = next_count a.since; stopped = Some Why.Device }
        → FailsCopyWrite v b
    fails_write b stopped =
        let buffer : b.buffer ≡ a.buffer = ap (λ (u : PlainVolume). u.buffer) stopped in
        record {
          size = ap (λ (xs : List ℕ). length xs) buffer ∙ size;
          rest = stopped
              ∙ ap (λ (u : PlainVolume). record u { since = next_count u.since; stopped = Some Why.Device }) filled
              ∙ ap (λ (xs : List ℕ). record v {
                buffer = xs;
                since = next_count v.since;
                stopped = Some Why.Device;
              }) (sym buffer);
        }

    -- or it was done
    pub fixed_filled : IsFixed v → IsFixed a
    fixed_filled fixed = subst IsFixed (sym filled) (fixed_buffer v fixed a.buffer v.since v.stopped size)

    pub copied_filled : (b : PlainVolume) (w : Work) (zone count : ℕ) → WritesBlocksOn a b w zone count
        → WritesBlocksOn v b w zone count
    copied_filled b w zone count did =
        let here = subst (λ (u : PlainVolume). WritesBlocksOn u b w zone count) filled did in
        record { target = here.target; size = here.size ∙ size; classes = here.classes; rest = here.rest }
