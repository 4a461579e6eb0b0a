-- A job begins, by the steps of its code.
use Rattle.std.proofs.Common.{◌≡◌, ℕ, ◌<◌, length, set, slice_index, Option, Some, None, Ok, Err, IfNone, IfSome, inl, inr}
use Rattle.std.proofs.Common.{refl, sym, ap, ◌∙◌, subst, arith}
use Rattle.std.proofs.lemmas.Bool.{cases_lt}
use Rattle.zd_base.specs.declared.geometry.Kind.TheVariants.{Sequential}
use Rattle.zd_alloc.specs.Zones.{Division, HasNoFree, IsLeastOf, TakesLeast}
use Rattle.zd_model.specs.Tables.{entry_of}
use Rattle.zd_model.specs.declared.metadata.MapEntry.{MapEntry}
use Rattle.zd_model.proofs.FaultLaws.{some_is}
use Rattle.zd_disk.specs.Steps.{ResetLeaves, ResetStep, WasReset}
use Rattle.zd_disk.specs.Told.{next_count}
use Rattle.zd_disk.specs.View.{Calls, HasFailed, Turns, View}
use Rattle.zd_volume.specs.Flights.{tables_now}
use Rattle.zd_volume.specs.Volumes.{IsFixed, PlainVolume}
use Rattle.zd_volume.specs.declared.work.JobKind.{JobKind}
use Rattle.zd_volume.specs.declared.work.Job.{Job}
use Rattle.zd_volume.specs.declared.work.JobKind.TheVariants.{Append, Empty, Merge, Move}
use Rattle.zd_volume.specs.declared.work.Work.{Work}
use Rattle.zd_jobs.specs.JobSteps.{BeginsBy, BeginsJob, BeginsWithReset, NeedsReset}
use Rattle.zd_jobs.specs.Possible.{IsPossible}
use Rattle.zd_state.specs.JobCalls.{HasToReset, ResetsZone, StartsWork}

-- A MOVE takes a zone, since one is free
pub move_begins : (v : PlainVolume) (chunk : ℕ) (e : MapEntry) (found : Option ℕ) (d : Division)
    → IsPossible v chunk Move → IfSome found (λ zone. TakesLeast Sequential v.division d zone)
    → IfNone found (HasNoFree Sequential v.division) → BeginsBy v Move e found 0 d
move_begins v chunk e None d possible takes none =
    let free = possible.free refl in
    absurd (none free.0 free.1 free.2)
move_begins v chunk e (Some zone) d possible takes none = (zone, refl, refl, takes)

-- THE ZONE of a chunk has a pointer
pub zone_pointer : (v : PlainVolume) → IsFixed v → (chunk : ℕ) (e : MapEntry) → e ≡ entry_of (tables_now v) chunk
    → (zone : ℕ) → e.zone ≡ Some zone → zone < length v.pointers
zone_pointer v fixed chunk e names zone is =
    let low =
    (fixed.sets.new_rules.map.data_zones chunk zone (inl (ap (λ (m : MapEntry). m.zone) (sym names) ∙ is))).1 in
    let size = fixed.pointers in
    omega (arith, low, size)

-- AN APPEND goes on at that pointer
pub append_begins : (v : PlainVolume) (chunk : ℕ) (e : MapEntry) → e ≡ entry_of (tables_now v) chunk
    → (zone copied : ℕ) → e.zone ≡ Some zone → copied ≡ slice_index v.pointers zone
    → BeginsBy v Append (entry_of (tables_now v) chunk) (Some zone) copied v.division
append_begins v chunk e names zone copied is at =
    (zone, ap (λ (m : MapEntry). m.zone) (sym names) ∙ is, refl, at, refl)

-- ONE ZONE ALONE is the least free one
pub least_one : (d : Division) (a b : ℕ) → IsLeastOf Sequential d a → IsLeastOf Sequential d b → a ≡ b
least_one d a b one other = elim (cases_lt a b) [
  | inl before ↦ absurd (other.least a one.of_kind before one.free)
  | inr from ↦ elim (cases_lt b a) [
    | inl before ↦ absurd (one.least b other.of_kind before other.free)
    | inr same ↦ omega (arith, from, same)
  ]
]

pub one_to_reset : (v : PlainVolume) (kind : JobKind) (a b : ℕ) → HasToReset v kind a → HasToReset v kind b → a ≡ b
one_to_reset v kind a b one other = least_one v.division a b one.1 other.1

-- its reset failed, or was done
module _ {T E : Type 0} (v : PlainVolume) (kind : JobKind) (a b : ℕ) (one : HasToReset v kind a)
    (other : HasToReset v kind b) (u x : View) (call : Calls (λ _. ResetStep a) (λ _ j. ResetLeaves j a) u x) where
  pub reset_failed : (e : E) → Turns (ResetStep a) u x → HasFailed u x → ResetsZone {T = T} {E = E} b (Err e) u x
  reset_failed e turns failed =
      subst (λ (z : ℕ). ResetsZone {T = T} {E = E} z (Err e) u x) (one_to_reset v kind a b one other)
      (record { call = call; ok = tt; err = turns; cause = failed })

  pub reset_done : (y : T) → Turns (WasReset a) u x → ResetsZone {T = T} {E = E} b (Ok y) u x
  reset_done y turns =
      subst (λ (z : ℕ). ResetsZone {T = T} {E = E} z (Ok y) u x) (one_to_reset v kind a b one other)
      (record { call = call; ok = turns; err = tt; cause = tt })

-- a target that has to be reset
needs_one : (v : PlainVolume) (kind : JobKind) (e : MapEntry) (target : Option ℕ) (copied : ℕ) (d : Division)
    → BeginsBy v kind e target copied d → NeedsReset v kind target → (zone : ℕ) × HasToReset v kind zone
needs_one v Empty e target copied d begins needs = absurd needs
needs_one v Move e target copied d begins needs = (
  begins.0,
  (
    refl,
    begins.3.least,
    subst (λ (z : ℕ). 0 < slice_index v.pointers z) (some_is needs.0 begins.0 (sym needs.1 ∙ begins.1)) needs.2,
  ),
)
needs_one v Append e target copied d begins needs = absurd needs
needs_one v Merge e target copied d begins needs = absurd needs

module _ (v a : PlainVolume) (job : Job) (w : Work) (starts : StartsWork v a job w) where
  -- NO ZONE has to be reset
  pub begins_still : ((zone : ℕ) → HasToReset v job.kind zone → ⊥) → BeginsJob v a job w
  begins_still none = record {
    job_is = starts.job_is;
    read = starts.read;
    begins = starts.begins;
    bare = λ needs.
        let one = needs_one v job.kind (entry_of (tables_now v) job.chunk) w.target w.copied a.division starts.begins
        needs in
        none one.0 one.1;
    rest = starts.rest;
  }

  -- ONE was reset
  module _ (zone : ℕ) (has : HasToReset v job.kind zone) (c : PlainVolume)
      (counted : c ≡ record a { pointers = set a.pointers zone 0; since = next_count a.since }) where
    moved : BeginsBy v Move (entry_of (tables_now v) job.chunk) w.target w.copied a.division
    moved =
        subst (λ (kind : JobKind). BeginsBy v kind (entry_of (tables_now v) job.chunk) w.target w.copied a.division)
        has.0 starts.begins

    same : moved.0 ≡ zone
    same = least_one v.division moved.0 zone moved.3.least has.1

    division_is : c.division ≡ a.division
    division_is = ap (λ (b : PlainVolume). b.division) counted

    pub begins_reset : BeginsWithReset v c job w zone
    begins_reset = record {
      job_is = starts.job_is;
      kind = has.0;
      target = moved.1 ∙ ap (λ (z : ℕ). Some z) same;
      read = starts.read;
      copied = moved.2;
      takes = subst (λ (d : Division). TakesLeast Sequential v.division d zone) (sym division_is)
          (subst (λ (z : ℕ). TakesLeast Sequential v.division a.division z) same moved.3);
      needs = has.2;
      rest = counted
          ∙ ap (λ (b : PlainVolume). record b { pointers = set b.pointers zone 0; since = next_count b.since })
          starts.rest
          ∙ ap (λ (d : Division). record v {
            division = d;
            pointers = set v.pointers zone 0;
            job = Some w;
            since = next_count v.since;
          }) (sym division_is);
    }
