-- A COPY PUTS WHAT IS THERE LAST: in a sequential target no table has a sector at or above the pointer; in a buffer the
-- new tables have none of these blocks, since they are valid in the chunk's zone, and the committed ones those of the
-- same chunk alone.
use Rattle.std.proofs.Common.{◌≡◌, ℕ, ◌+◌, ◌-◌, ◌*◌, ◌/◌, ◌%◌, ◌<◌, ◌≤◌, true, List, Option, Some, IsSomeAnd}
use Rattle.std.proofs.Common.{inl, inr, refl, sym, ap, ◌∙◌, subst, arith}
use Rattle.std.proofs.lemmas.Bool.{cases_lt, false≢true}
use Rattle.zd_model.specs.Image.{Image}
use Rattle.zd_model.specs.Places.{spot, zone_at}
use Rattle.zd_model.specs.Safe.{last_at}
use Rattle.zd_model.specs.Tables.{MapFollowsRules, Tables, entry_of, is_valid}
use Rattle.zd_model.specs.declared.metadata.MapEntry.{MapEntry}
use Rattle.zd_model.proofs.FaultLaws.{none_some, some_is}
use Rattle.zd_disk.specs.OfGeometry.{IsImageOf}
use Rattle.zd_disk.specs.Steps.{count_of, piece}
use Rattle.zd_tables.specs.Rules.{AreBelow}
use Rattle.zd_volume.specs.Flights.{tables_now}
use Rattle.zd_volume.specs.Jobs.{FitsEntry, HasTarget, sector_of_chunk, source_of}
use Rattle.zd_volume.specs.Sets.{old_tables}
use Rattle.zd_volume.specs.Volumes.{IsFixed, IsNow, MayBe, PlainVolume, sets_of}
use Rattle.zd_volume.specs.declared.work.JobKind.{JobKind}
use Rattle.zd_volume.specs.declared.work.JobKind.TheVariants.{Empty, Move, Append, Merge}
use Rattle.zd_volume.specs.declared.work.Work.{Work}
use Rattle.zd_volume.proofs.Choices.{some_blocks}
use Rattle.zd_volume.proofs.DataSteps.{PutsLast}
use Rattle.zd_volume.proofs.PlaceLaws.{cases_place, held_place, named_place}
use Rattle.zd_jobs.specs.JobSteps.{WritesCopy}
use Rattle.zd_jobs.proofs.ChunkSectors.{as_chunk_sector}
use Rattle.zd_jobs.proofs.CopyBytes.{copy_blocks, copy_last, sectors_of_blocks}
use Rattle.zd_jobs.proofs.WorkLaws.{job_of, copied_at_pointer}

module _ (v : PlainVolume) (w : Work) (fixed : IsFixed v) (is : v.job ≡ Some w) (zone : ℕ)
    (target : w.target ≡ Some zone) (count : ℕ) (bytes : List ℕ) (copy : WritesCopy v w count bytes)
    (base : List (List ℕ)) (r : Image) (of : IsImageOf v.geometry r) (now : IsNow v base r) where
  abbrev b : ℕ
  b = v.geometry.zone_blocks

  abbrev e : MapEntry
  e = entry_of (tables_now v) w.job.chunk

  -- AT OR ABOVE THE POINTER there is no sector
  none_above : v.geometry.conv ≤ zone → (t : Tables) → MapFollowsRules v.geometry v.head.layout t.entries
      → AreBelow v.geometry r.held t → (n j : ℕ) → zone_at v.geometry.zone_blocks t n ≡ Some zone
      → spot v.geometry.zone_blocks n ≡ 8 * w.copied + j → ⊥
  none_above high t rules below n j stands at =
      let held = held_place v.geometry v.head.layout (some_blocks (sets_of v) fixed.sets) t rules r of below n zone
      stands in
      let start = copied_at_pointer v w fixed is base r now zone target high in
      omega (arith, held, start, at)

  -- A CONVENTIONAL TARGET is a buffer, into which a Merge copies what is valid in its chunk's zone
  buffered : zone < v.geometry.conv
      → (w.job.kind ≡ Merge) × ((entry_of (tables_now v) w.job.chunk).buffer ≡ Some zone)
  buffered low = by w.job.kind refl (job_of v w fixed is).entry (job_of v w fixed is).target
    where
      by : (kind : JobKind) → w.job.kind ≡ kind → FitsEntry v.geometry kind (entry_of (tables_now v) w.job.chunk)
          → HasTarget v.geometry (old_tables (sets_of v)) (tables_now v) kind (entry_of (tables_now v) w.job.chunk)
          w.target
          → (w.job.kind ≡ Merge) × ((entry_of (tables_now v) w.job.chunk).buffer ≡ Some zone)
      by Empty kind fits has = absurd (none_some zone (sym has ∙ target))
      by Move kind fits has =
          let same = some_is has.0 zone (sym has.1 ∙ target) in
          let high = has.2 in
          absurd (let f : ⊥ = omega (arith, low, same, high) in f)
      by Append kind fits has = elim (cases_place e.buffer) [
        | inl none ↦ absurd (fits.1 none)
        | inr at ↦
            let high : v.geometry.conv ≤ zone =
            subst (λ (o : Option ℕ). IsSomeAnd o (λ z. v.geometry.conv ≤ z)) (sym has ∙ target)
            (fixed.sets.new_rules.map.buffers w.job.chunk at.0 at.1).1 in
            absurd (let f : ⊥ = omega (arith, low, high) in f)
      ]
      by Merge kind fits has = (kind, sym has ∙ target)

  -- its source is the chunk's zone
  merged_from : w.job.kind ≡ Merge
      → (y : ℕ) × ((entry_of (tables_now v) w.job.chunk).zone ≡ Some y)
      × (source_of w.job.kind (entry_of (tables_now v) w.job.chunk) ≡ Some y)
  merged_from kind = elim (cases_place e.zone) [
    | inl none ↦
        absurd ((subst (λ (k : JobKind). FitsEntry v.geometry k (entry_of (tables_now v) w.job.chunk)) kind
        (job_of v w fixed is).entry).0 none)
    | inr at ↦ (at.0, at.1, ap (λ (k : JobKind). source_of k e) kind ∙ at.1)
  ]

  -- what is written there was read, and isn't zeros
  read_ahead : zone < v.geometry.conv → (0 < w.read) × (count ≡ w.read)
  read_ahead low = by copy
    where
      by : WritesCopy v w count bytes → (0 < w.read) × (count ≡ w.read)
      by (inl read) = (read.0, read.1)
      by (inr gap) =
          let same = some_is gap.1.3.0 zone (sym gap.1.3.1 ∙ target) in
          let high = gap.1.3.2 in
          absurd (let f : ⊥ = omega (arith, low, same, high) in f)

  -- each of its blocks is valid in the source
  valid_there : zone < v.geometry.conv → (y x : ℕ)
      → source_of w.job.kind (entry_of (tables_now v) w.job.chunk) ≡ Some y → w.copied ≤ x → x < w.copied + count
      → is_valid (tables_now v) y x ≡ true
  valid_there low y x source from below =
      let read = (read_ahead low).1 in
      (job_of v w fixed is).run y x source from (omega (arith, below, read))

  -- THE NEW TABLES have none of these blocks
  pub none_new : (n j : ℕ) → zone_at v.geometry.zone_blocks (tables_now v) n ≡ Some zone → j < count_of bytes
      → spot v.geometry.zone_blocks n ≡ 8 * w.copied + j → ⊥
  none_new n j stands few at = elim (cases_lt zone v.geometry.conv) [
    | inr high ↦ none_above high (tables_now v) fixed.sets.new_rules.map now.read.below n j stands at
    | inl low ↦
        let named = named_place v.geometry v.head.layout (some_blocks (sets_of v) fixed.sets) (tables_now v)
        fixed.sets.new_rules.map n zone stands in
        let merge = buffered low in
        let source = merged_from merge.0 in
        let whole = sectors_of_blocks count bytes (copy_blocks v w fixed is count bytes copy) in
        let some = some_blocks (sets_of v) fixed.sets in
        let inside : n / 8 % b < b = omega (arith, some) in
        let valid = valid_there low source.0 (n / 8 % b) source.2 (omega (arith, at))
        (omega (arith, at, few, whole)) in
        let clear = fixed.sets.new_rules.bits.one_place w.job.chunk source.0 zone (n / 8 % b) source.1 merge.1 inside
        valid in
        false≢true (sym clear ∙ named.1)
  ]

  -- THE COMMITTED ONES have those of the same chunk, which are right
  last_old : AreBelow v.geometry r.held (old_tables (sets_of v)) → (n j : ℕ)
      → zone_at v.geometry.zone_blocks (old_tables (sets_of v)) n ≡ Some zone → j < count_of bytes
      → spot v.geometry.zone_blocks n ≡ 8 * w.copied + j → piece bytes j ≡ last_at base v.history n
  last_old below n j stands few at = elim (cases_lt zone v.geometry.conv) [
    | inr high ↦
        absurd (none_above high (old_tables (sets_of v)) fixed.sets.old_rules.map below n j stands at)
    | inl low ↦
        let named = named_place v.geometry v.head.layout (some_blocks (sets_of v) fixed.sets)
        (old_tables (sets_of v)) fixed.sets.old_rules.map n zone stands in
        let merge = buffered low in
        let source = merged_from merge.0 in
        let chunk : n / 8 / b ≡ w.job.chunk =
        fixed.sets.limbo (n / 8 / b) w.job.chunk zone named.0 (inr merge.1) in
        let whole = sectors_of_blocks count bytes (copy_blocks v w fixed is count bytes copy) in
        let from : w.copied ≤ n / 8 % b = omega (arith, at) in
        let end : n / 8 % b < w.copied + count = omega (arith, at, few, whole) in
        let place : j ≡ 8 * (n / 8 % b - w.copied) + n % 8 = omega (arith, at, from) in
        ap (piece bytes) place
        ∙ copy_last v w fixed is count bytes copy base r now source.0 (n / 8 % b) (n % 8) source.2 from end
        (valid_there low source.0 (n / 8 % b) source.2 from end) (omega arith)
        ∙ ap (last_at base v.history)
        (ap (λ (c : ℕ). sector_of_chunk v.geometry c (n / 8 % b) (n % 8)) (sym chunk)
        ∙ sym (as_chunk_sector v.geometry n))
  ]

  pub copy_puts_last : MayBe v base r → PutsLast v base zone (8 * w.copied) bytes
  copy_puts_last may = record {
    old = λ takes n j low stands few at. last_old (may.below_old takes) n j stands few at;
    new = λ takes n j low stands few at. absurd (none_new n j stands few at);
  }
