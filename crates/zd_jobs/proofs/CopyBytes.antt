-- What a job writes next: so many whole blocks, and where they are valid in its source what was there last.
use Rattle.std.proofs.Common.{◌≡◌, ℕ, ◌+◌, ◌-◌, ◌*◌, ◌<◌, ◌≤◌, true, List, length, take, Some, inl, inr}
use Rattle.std.proofs.Common.{sym, ap, ◌∙◌, subst, arith, length-take}
use Rattle.std.proofs.lemmas.Bool.{false≢true}
use Rattle.std.proofs.lemmas.List.{length-replicate}
use Rattle.zd_model.specs.Image.{Image}
use Rattle.zd_model.specs.Safe.{last_at}
use Rattle.zd_model.specs.Tables.{entry_of, is_valid}
use Rattle.zd_model.proofs.FaultLaws.{some_is}
use Rattle.zd_disk.specs.Steps.{count_of, piece}
use Rattle.zd_disk.proofs.StepLaws.{piece-take}
use Rattle.zd_volume.specs.Flights.{tables_now}
use Rattle.zd_volume.specs.Jobs.{sector_of_chunk, source_of}
use Rattle.zd_volume.specs.Volumes.{IsFixed, IsNow, PlainVolume}
use Rattle.zd_volume.specs.declared.work.Work.{Work}
use Rattle.zd_jobs.specs.JobSteps.{WritesCopy}
use Rattle.zd_jobs.proofs.WorkLaws.{copies_of, job_of}

-- whole blocks, at least one
pub record AreWholeBlocks (count : ℕ) (bytes : List ℕ) : Type 0 where
  pub some : 0 < count
  pub size : length bytes ≡ 4096 * count

pub sectors_of_blocks : (count : ℕ) (bytes : List ℕ) → AreWholeBlocks count bytes → count_of bytes ≡ 8 * count
sectors_of_blocks count bytes are = (let size = are.size in omega (arith, size))

module _ (v : PlainVolume) (w : Work) (fixed : IsFixed v) (is : v.job ≡ Some w) (count : ℕ) (bytes : List ℕ) where
  pub copy_blocks : WritesCopy v w count bytes → AreWholeBlocks count bytes
  copy_blocks (inl read) =
      let some = read.0 in
      let same = read.1 in
      let room = fixed.room in
      let few = (job_of v w fixed is).few in
      let taken = length-take (4096 * count) v.buffer in
      record {
        some = omega (arith, some, same);
        size = ap (λ (xs : List ℕ). length xs) read.2
            ∙ (let whole : length (take (4096 * count) v.buffer) ≡ 4096 * count =
            omega (arith, taken, room, few, same) in whole);
      }
  copy_blocks (inr gap) =
      let behind = gap.1.3.3 in
      let same = gap.1.4 in
      record {
        some = omega (arith, behind, same);
        size = ap (λ (xs : List ℕ). length xs) gap.1.5 ∙ length-replicate (4096 * count) 0;
      }

  -- they are blocks of the target
  pub copy_inside : WritesCopy v w count bytes → w.copied + count ≤ v.geometry.zone_blocks
  copy_inside (inl read) =
      let same = read.1 in
      let inside = (job_of v w fixed is).inside in
      omega (arith, same, inside)
  copy_inside (inr gap) =
      let same = gap.1.4 in
      let end = gap.1.2.inside in
      let behind = gap.1.3.3 in
      omega (arith, same, end, behind)

  -- IN EACH VALID BLOCK there is what was there last
  pub copy_last : WritesCopy v w count bytes → (base : List (List ℕ)) (r : Image) → IsNow v base r → (y x j : ℕ)
      → source_of w.job.kind (entry_of (tables_now v) w.job.chunk) ≡ Some y → w.copied ≤ x → x < w.copied + count
      → is_valid (tables_now v) y x ≡ true → j < 8
      → piece bytes (8 * (x - w.copied) + j)
      ≡ last_at base v.history (sector_of_chunk v.geometry w.job.chunk x j)
  copy_last (inl read) base r now y x j source low high valid few =
      let same = read.1 in
      ap (λ (xs : List ℕ). piece xs (8 * (x - w.copied) + j))
      (read.2
      ∙ ap (λ (n : ℕ). take n v.buffer) (let size : 4096 * count ≡ 512 * (8 * count) = omega arith in size))
      ∙ piece-take (8 * count) (8 * (x - w.copied) + j) v.buffer (omega (arith, low, high, few))
      ∙ (copies_of v w fixed is base r now).read x j low (omega (arith, high, same)) few
  copy_last (inr gap) base r now y x j source low high valid few =
      let same = gap.1.4 in
      let behind = gap.1.3.3 in
      absurd (false≢true (sym (gap.1.2.first x low (omega (arith, high, same, behind)))
      ∙ subst (λ (z : ℕ). is_valid (tables_now v) z x ≡ true) (some_is y gap.1.2.zone (sym source ∙ gap.1.2.from))
      valid))
