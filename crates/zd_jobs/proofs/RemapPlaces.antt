-- WHERE A JOB ENDS each sector of the device is as it was: what stood in the zone that is given back stands at the
-- target, all others stand where they stood.
use Rattle.std.proofs.Common.{◌≡◌, ◌≢◌, ℕ, ◌/◌, ◌%◌, ◌<◌, Bool, true, false, ◌||◌, List, Some}
use Rattle.std.proofs.Common.{None, inl, inr, refl, sym, ap, ◌∙◌, subst, arith}
use Rattle.std.proofs.lemmas.Bool.{cases_Bool, cases_eq, cases_lt, false≢true, or_cases}
use Rattle.zd_model.specs.Image.{Image}
use Rattle.zd_model.specs.Places.{place_in, zone_at}
use Rattle.zd_model.specs.Safe.{last_at}
use Rattle.zd_model.specs.Tables.{NamesZone, Tables, entry_of, is_valid}
use Rattle.zd_model.specs.declared.metadata.MapEntry.{MapEntry}
use Rattle.zd_model.proofs.FaultLaws.{none_some, or_right, some_is}
use Rattle.zd_model.proofs.ServedLaws.{placed}
use Rattle.zd_tables.specs.Rules.{AreBelow}
use Rattle.zd_volume.specs.Flights.{tables_now}
use Rattle.zd_volume.specs.Jobs.{IsJob, sector_of_chunk, source_of}
use Rattle.zd_volume.specs.Sets.{Sets, device_sectors, sector_by}
use Rattle.zd_volume.specs.Volumes.{IsFixed, IsNow, PlainVolume, sets_of}
use Rattle.zd_volume.specs.declared.work.Work.{Work}
use Rattle.zd_volume.proofs.Choices.{some_blocks}
use Rattle.zd_volume.proofs.DropPlaces.{place_none, place_same, sector_same}
use Rattle.zd_volume.proofs.DropTables.{some_or}
use Rattle.zd_volume.proofs.PlaceLaws.{cases_place}
use Rattle.zd_routes.proofs.WritePlaces.{place_zone}
use Rattle.zd_jobs.specs.NextSteps.{IsCopied}
use Rattle.zd_jobs.specs.Remaps.{RemapsChunk, leaving}
use Rattle.zd_jobs.proofs.ChunkSectors.{as_chunk_sector, own_place}
use Rattle.zd_jobs.proofs.EndZones.{leaving_source, leaving_there, target_or_leaving, target_own_or_bare}
use Rattle.zd_jobs.proofs.RemapTables.{bits_beside}
use Rattle.zd_jobs.proofs.WorkLaws.{copies_of, job_of, target_low}

either_false : (a b : Bool) → b ≡ false → (a || b) ≡ a
either_false true b none = refl
either_false false b none = none

module _ (from to : PlainVolume) (w : Work) (fixed : IsFixed from) (is : from.job ≡ Some w)
    (did : RemapsChunk from to w) (copied : IsCopied from w) where
  abbrev s : Sets
  s = sets_of from

  abbrev b : ℕ
  b = from.geometry.zone_blocks

  abbrev t : Tables
  t = tables_now from

  abbrev u : Tables
  u = tables_now (record from { fresh = to.fresh })

  abbrev e : MapEntry
  e = entry_of (tables_now from) w.job.chunk

  abbrev entry : MapEntry
  entry = record { zone = w.target; buffer = None }

  job : IsJob (sets_of from) from.pointers w
  job = job_of from w fixed is

  abbrev Leaves : ℕ → Type 0
  Leaves y = leaving w.job.kind (entry_of (tables_now from) w.job.chunk) ≡ Some y

  -- A BLOCK THAT IS VALID in the zone that is given back was copied, to the target
  was_copied : (y x : ℕ) → Leaves y → x < from.geometry.zone_blocks → is_valid (tables_now from) y x ≡ true
      → (source_of w.job.kind (entry_of (tables_now from) w.job.chunk) ≡ Some y) × (x < w.copied)
      × ((z : ℕ) × (w.target ≡ Some z))
  was_copied y x left inside valid = elim (leaving_source s fixed.sets from.pointers w job y left) [
    | inr empty ↦ absurd (false≢true (sym (job.emptied y x empty.0 empty.1 inside) ∙ valid))
    | inl source ↦ elim (cases_lt x w.copied) [
      | inl below ↦ (source.0, below, source.1)
      | inr later ↦ absurd (false≢true (sym (copied y x source.0 later inside) ∙ valid))
    ]
  ]

  -- a block that was valid at the target before is one of the chunk's
  target_own : (z x : ℕ) → w.target ≡ Some z → x < from.geometry.zone_blocks → is_valid (tables_now from) z x ≡ true
      → NamesZone (entry_of (tables_now from) w.job.chunk) z
  target_own z x target inside valid = elim (target_own_or_bare s fixed.sets from.pointers w job z target) [
    | inl own ↦ own
    | inr bare ↦
        absurd (bare.1 (fixed.sets.new_rules.bits.named z x (target_low from w fixed is z target) inside valid))
  ]

  module _ (y : ℕ) (left : leaving w.job.kind (entry_of (tables_now from) w.job.chunk) ≡ Some y) (x : ℕ)
      (inside : x < from.geometry.zone_blocks) where
    joined : (z : ℕ) → w.target ≡ Some z
        → is_valid (tables_now (record from { fresh = to.fresh })) z x
        ≡ (is_valid (tables_now from) z x || is_valid (tables_now from) y x)
    joined z target = did.bits.joined z y x target left inside

    -- its place then
    at_target : (z : ℕ) → w.target ≡ Some z → is_valid (tables_now from) y x ≡ true
        → place_in (tables_now (record from { fresh = to.fresh })) (record { zone = w.target; buffer = None }) x
        ≡ Some z
    at_target z target valid =
        place_zone u x entry z target
        (joined z target ∙ ap (λ (c : Bool). is_valid t z x || c) valid ∙ or_right (is_valid t z x))

    -- ANOTHER BLOCK of the chunk stands where it stood
    stays_put : is_valid (tables_now from) y x ≡ false
        → place_in (tables_now (record from { fresh = to.fresh })) (record { zone = w.target; buffer = None }) x
        ≡ place_in (tables_now from) (entry_of (tables_now from) w.job.chunk) x
    stays_put bare = elim (cases_place w.target) [
      | inl none ↦
          place_none u x entry (λ z n. elim n [
            | inl target ↦ absurd (none_some z (sym none ∙ target))
            | inr buffer ↦ absurd (none_some z buffer)
          ])
          ∙ sym (place_none t x e (λ z own. elim (target_or_leaving s fixed.sets from.pointers w job z own) [
            | inl target ↦ absurd (none_some z (sym none ∙ target))
            | inr leaves ↦ subst (λ (k : ℕ). is_valid t k x ≡ false) (some_is y z (sym left ∙ leaves)) bare
          ]))
      | inr to_zone ↦ elim (cases_Bool (is_valid t to_zone.0 x)) [
        | inl valid ↦
            place_zone u x entry to_zone.0 to_zone.1
            (joined to_zone.0 to_zone.1 ∙ either_false (is_valid t to_zone.0 x) (is_valid t y x) bare ∙ valid)
            ∙ sym (own_place s fixed.sets w.job.chunk to_zone.0 x (target_own to_zone.0 x to_zone.1 inside valid)
            inside valid)
        | inr not_valid ↦
            place_none u x entry (λ z n. elim n [
              | inl target ↦
                  subst (λ (k : ℕ). is_valid u k x ≡ false) (some_is to_zone.0 z (sym to_zone.1 ∙ target))
                  (joined to_zone.0 to_zone.1 ∙ either_false (is_valid t to_zone.0 x) (is_valid t y x) bare
                  ∙ not_valid)
              | inr buffer ↦ absurd (none_some z buffer)
            ])
            ∙ sym (place_none t x e (λ z own. elim (target_or_leaving s fixed.sets from.pointers w job z own) [
              | inl target ↦
                  subst (λ (k : ℕ). is_valid t k x ≡ false) (some_is to_zone.0 z (sym to_zone.1 ∙ target)) not_valid
              | inr leaves ↦ subst (λ (k : ℕ). is_valid t k x ≡ false) (some_is y z (sym left ∙ leaves)) bare
            ]))
      ]
    ]

  -- a sector of the chunk, by its place then
  in_chunk : (n : ℕ) → n / 8 / from.geometry.zone_blocks ≡ w.job.chunk
      → zone_at from.geometry.zone_blocks (tables_now (record from { fresh = to.fresh })) n
      ≡ place_in (tables_now (record from { fresh = to.fresh })) (record { zone = w.target; buffer = None })
      (n / 8 % from.geometry.zone_blocks)
  in_chunk n here =
      ap (λ (c : ℕ). place_in u (entry_of u c) (n / 8 % b)) here
      ∙ ap (λ (f : MapEntry). place_in u f (n / 8 % b)) did.here

  beside : (n : ℕ) → n / 8 / from.geometry.zone_blocks ≢ w.job.chunk
      → zone_at from.geometry.zone_blocks (tables_now (record from { fresh = to.fresh })) n
      ≡ zone_at from.geometry.zone_blocks (tables_now from) n
  beside n off =
      ap (λ (f : MapEntry). place_in u f (n / 8 % b)) (did.others (n / 8 / b) off)
      ∙ place_same u (n / 8 % b) t (entry_of t (n / 8 / b))
      (λ z named. bits_beside from to w fixed is did (n / 8 / b) z (n / 8 % b) off named)

  -- A BLOCK that is valid stays so
  pub remap_stays : (n : ℕ) → zone_at from.geometry.zone_blocks (tables_now from) n ≢ None
      → zone_at from.geometry.zone_blocks (tables_now (record from { fresh = to.fresh })) n ≢ None
  remap_stays n valid = elim (cases_eq (n / 8 / b) w.job.chunk) [
    | inr off ↦ λ none. valid (sym (beside n off) ∙ none)
    | inl here ↦
        let left = leaving_there s fixed.sets from.pointers w job in
        let some = some_blocks (sets_of from) fixed.sets in
        let inside : n / 8 % b < b = omega (arith, some) in
        elim (cases_Bool (is_valid t left.0 (n / 8 % b))) [
          | inr bare ↦ λ none. valid (
              ap (λ (c : ℕ). place_in t (entry_of t c) (n / 8 % b)) here
              ∙ sym (in_chunk n here ∙ stays_put left.0 left.1 (n / 8 % b) inside bare) ∙ none)
          | inl was ↦
              let did_copy = was_copied left.0 (n / 8 % b) left.1 inside was in
              λ none. none_some did_copy.2.0 (sym none ∙ in_chunk n here
              ∙ at_target left.0 left.1 (n / 8 % b) inside did_copy.2.0 did_copy.2.1 was)
        ]
  ]

  module _ (base : List (List ℕ)) (r : Image) (now : IsNow from base r) where
    abbrev y : ℕ
    y = (leaving_there s fixed.sets from.pointers w job).0

    left : leaving w.job.kind (entry_of (tables_now from) w.job.chunk) ≡ Some y
    left = (leaving_there s fixed.sets from.pointers w job).1

    -- THE CONTENT STAYS
    pub remap_serves : (n : ℕ) → n < device_sectors (sets_of from)
        → sector_by (sets_of from) (tables_now (record from { fresh = to.fresh })) r n ≡ last_at base from.history n
    remap_serves n low = elim (cases_eq (n / 8 / b) w.job.chunk) [
      | inr off ↦ sector_same b t u r.sector n (beside n off) ∙ now.read.served n low
      | inl here ↦ elim (cases_Bool (is_valid t y (n / 8 % b))) [
        | inr bare ↦
            sector_same b t u r.sector n
            (in_chunk n here ∙ stays_put y left (n / 8 % b) inside bare
            ∙ ap (λ (c : ℕ). place_in t (entry_of t c) (n / 8 % b)) (sym here))
            ∙ now.read.served n low
        | inl valid ↦
            let did_copy = was_copied y (n / 8 % b) left inside valid in
            placed b u r.sector n did_copy.2.0
            (in_chunk n here ∙ at_target y left (n / 8 % b) inside did_copy.2.0 did_copy.2.1 valid)
            ∙ ((copies_of from w fixed is base r now).copied y did_copy.2.0 (n / 8 % b) (n % 8) did_copy.0 did_copy.2.1
            did_copy.1 valid (omega arith)).1
            ∙ ap (last_at base from.history)
            (ap (λ (c : ℕ). sector_of_chunk from.geometry c (n / 8 % b) (n % 8)) (sym here)
            ∙ sym (as_chunk_sector from.geometry n))
      ]
    ]
      where
        inside : n / 8 % from.geometry.zone_blocks < from.geometry.zone_blocks
        inside = (let some = some_blocks (sets_of from) fixed.sets in omega (arith, some))

    -- VALID BLOCKS are below pointers
    pub below_remapped : AreBelow from.geometry r.held (tables_now (record from { fresh = to.fresh }))
    below_remapped z x seq low inside valid = elim (some_or w.target z) [
      | inl target ↦
          elim (or_cases (is_valid t z x) (is_valid t y x) (sym (joined y left x inside z target) ∙ valid)) [
            | inl was ↦ now.read.below z x seq low inside was
            | inr copy ↦
                let did_copy = was_copied y x left inside copy in
                ((copies_of from w fixed is base r now).copied y z x 0 did_copy.0 target did_copy.1 copy
                (omega arith)).0
          ]
      | inr apart ↦ elim (some_or (leaving w.job.kind (entry_of (tables_now from) w.job.chunk)) z) [
        | inl given ↦ absurd (false≢true (sym (did.bits.cleared z x given inside) ∙ valid))
        | inr stays ↦ now.read.below z x seq low inside (sym (did.bits.others z x apart stays) ∙ valid)
      ]
    ]
