-- A job that ends leaves fewer held conventional zones, or fewer zones and buffers that entries name.
use Rattle.std.proofs.Common.{◌≡◌, inl, inr, ℕ, ◌+◌, ◌<◌, ◌≤◌, Bool, true, false, cond, List, length, get_or, set, take}
use Rattle.std.proofs.Common.{None}
use Rattle.std.proofs.Common.{count_by, is_some, refl, ap, ap₂, ◌∙◌, arith}
use Rattle.std.proofs.Math.Seq.{take-set-lt}
use Rattle.std.proofs.lemmas.Bool.{cases_lt}
use Rattle.std.proofs.lemmas.List.{get_or-take, length-take-le, take-set-le}
use Rattle.std.proofs.lemmas.List.Sums.{sum_by-set}
use Rattle.zd_base.specs.declared.geometry.Kind.TheVariants.{Conventional}
use Rattle.zd_alloc.specs.Zones.{use_after_release, uses_of}
use Rattle.zd_alloc.specs.declared.uses.ZoneUse.{ZoneUse}
use Rattle.zd_alloc.specs.declared.uses.ZoneUse.TheVariants.{Meta}
use Rattle.zd_model.specs.Tables.{entry_in_map}
use Rattle.zd_model.specs.declared.metadata.MapEntry.{MapEntry}
use Rattle.zd_progress.specs.LoneRuns.{JobAhead}
use Rattle.zd_progress.specs.Measures.{EndsJob, is_held_use, jobs_ever}
use Rattle.zd_progress.specs.Stocks.{IsJobEnd, Stock}
use Rattle.zd_progress.specs.Stocks.IsJobEnd.{appends, empties, merges, moves}

abbrev one : Bool → ℕ
one b = cond b 1 0

not_held : (b : Bool) → is_held_use (use_after_release b) ≡ false
not_held true = refl
not_held false = refl

one_most : (b : Bool) → one b ≤ 1
one_most true = omega arith
one_most false = omega arith

module _ (w : JobAhead) (a b : Stock) (is : EndsJob w a b) where
  abbrev given : ZoneUse
  given = use_after_release is.by_commit

  abbrev uses : List ZoneUse
  uses = take a.division.conv a.division.zones

  same_uses : uses_of Conventional b.division ≡ take a.division.conv (set a.division.zones w.source given)
  same_uses = ap₂ (λ (n : ℕ) (us : List ZoneUse). take n us) is.conv is.zones

  abbrev held_in : Stock → ℕ
  held_in s = count_by is_held_use (uses_of Conventional s.division)

  -- a conventional zone is held no more; a sequential one wasn't counted
  held_low : w.source < a.division.conv → held_in b + 1 ≡ held_in a
  held_low low =
      let e : take a.division.conv (set a.division.zones w.source given) ≡ set uses w.source given =
      take-set-lt a.division.conv a.division.zones w.source given low in
      let inside : w.source < length uses =
      omega (arith, low, length-take-le a.division.conv a.division.zones is.kinds) in
      let was : one (is_held_use (get_or uses w.source Meta)) ≡ 1 =
      ap (λ (u : ZoneUse). one (is_held_use u))
      (get_or-take a.division.conv a.division.zones w.source Meta low ∙ is.held) in
      let now : one (is_held_use given) ≡ 0 = ap one (not_held is.by_commit) in
      let sums : count_by is_held_use (set uses w.source given) + one (is_held_use (get_or uses w.source Meta))
      ≡ count_by is_held_use uses + one (is_held_use given) =
      sum_by-set (λ (u : ZoneUse). one (is_held_use u)) uses w.source given Meta inside in
      let moved : held_in b ≡ count_by is_held_use (set uses w.source given) =
      ap (count_by is_held_use) (same_uses ∙ e) in
      omega (arith, sums, was, now, moved)

  held_high : a.division.conv ≤ w.source → held_in b ≡ held_in a
  held_high high = ap (count_by is_held_use)
      (same_uses ∙ take-set-le a.division.conv a.division.zones w.source given high)

  held_most : held_in b ≤ held_in a
  held_most = elim (cases_lt w.source a.division.conv) [
    | inl low ↦ omega (arith, held_low low)
    | inr high ↦ omega (arith, held_high high)
  ]

  abbrev entry : MapEntry
  entry = entry_in_map a.entries w.chunk

  -- a test of entries counts as before, but for this entry
  counted : (test : MapEntry → Bool)
      → count_by test b.entries + one (test entry) ≡ count_by test a.entries + one (test w.result)
  counted test =
      let nothing : MapEntry = record { zone = None; buffer = None } in
      let sums : count_by test (set a.entries w.chunk w.result) + one (test (get_or a.entries w.chunk nothing))
      ≡ count_by test a.entries + one (test w.result) =
      sum_by-set (λ (e : MapEntry). one (test e)) a.entries w.chunk w.result nothing is.inside in
      let moved : count_by test b.entries ≡ count_by test (set a.entries w.chunk w.result) =
      ap (count_by test) is.entries in
      omega (arith, sums, moved)

  abbrev has_zone : MapEntry → Bool
  has_zone e = is_some e.zone

  abbrev has_buffer : MapEntry → Bool
  has_buffer e = is_some e.buffer

  by_entry : IsJobEnd a.division.conv w.source entry w.result → jobs_ever b < jobs_ever a
  by_entry (empties zone result) =
      let z : one (has_zone entry) ≡ 1 = ap (λ (o : _). one (is_some o)) zone in
      let no_zone : one (has_zone w.result) ≡ 0 = ap (λ (e : MapEntry). one (has_zone e)) result in
      let no_buffer : one (has_buffer w.result) ≡ 0 = ap (λ (e : MapEntry). one (has_buffer e)) result in
      omega (arith, held_most, counted has_zone, counted has_buffer, z, no_zone, no_buffer)
  by_entry (moves low zone buffer) =
      let z : one (has_zone entry) ≡ 1 = ap (λ (o : _). one (is_some o)) zone in
      let no_buffer : one (has_buffer w.result) ≡ 0 = ap (λ (o : _). one (is_some o)) buffer in
      omega (arith, held_low low, counted has_zone, counted has_buffer, z, one_most (has_zone w.result), no_buffer)
  by_entry (appends low buffer result) =
      let same : one (has_zone w.result) ≡ one (has_zone entry) =
      ap (λ (e : MapEntry). one (has_zone e)) result in
      let no_buffer : one (has_buffer w.result) ≡ 0 = ap (λ (e : MapEntry). one (has_buffer e)) result in
      omega (arith, held_low low, counted has_zone, counted has_buffer, same, no_buffer)
  by_entry (merges y zone buffer result) =
      let z : one (has_zone entry) ≡ 1 = ap (λ (o : _). one (is_some o)) zone in
      let some : one (has_buffer entry) ≡ 1 = ap (λ (o : _). one (is_some o)) buffer in
      let no_buffer : one (has_buffer w.result) ≡ 0 = ap (λ (e : MapEntry). one (has_buffer e)) result in
      omega (
        arith,
        held_most,
        counted has_zone,
        counted has_buffer,
        z,
        one_most (has_zone w.result),
        some,
        no_buffer,
      )

  pub fewer_jobs : jobs_ever b < jobs_ever a
  fewer_jobs = by_entry is.entry
