-- Where the job on a chunk is given up, the place and the edges of a write stay.
use Rattle.std.proofs.Common.{◌≡◌, ◌⊎◌, ℕ, ◌<◌, ◌≤◌, List, length, set, get_or-set_other, Option, Some, None}
use Rattle.std.proofs.Common.{inl, inr, refl, sym, ap, ◌∙◌, subst, arith}
use Rattle.std.proofs.lemmas.Bool.{cases_eq}
use Rattle.std.proofs.lemmas.List.{length-set}
use Rattle.zd_alloc.specs.Zones.{IsLeastOf, use_at}
use Rattle.zd_alloc.specs.declared.uses.ZoneUse.{ZoneUse}
use Rattle.zd_alloc.specs.declared.uses.ZoneUse.TheVariants.{Meta}
use Rattle.zd_base.specs.declared.geometry.Kind.TheVariants.{Conventional}
use Rattle.zd_model.specs.Image.{Image}
use Rattle.zd_model.specs.Tables.{entry_of}
use Rattle.zd_model.specs.declared.metadata.MapEntry.{MapEntry}
use Rattle.zd_model.specs.declared.requests.What.{What}
use Rattle.zd_routes.specs.Edges.{AreEdges}
use Rattle.zd_routes.specs.Routes.{GoesTo, HasPlace, IsGoal, entry_touched}
use Rattle.zd_routes.specs.declared.edges.Edges.{Edges}
use Rattle.zd_volume.specs.Abandons.{IsAbandoned}
use Rattle.zd_volume.specs.Discards.{NoJobOn, range_first}
use Rattle.zd_volume.specs.Jobs.{HasTarget, IsJobOrNone}
use Rattle.zd_volume.specs.Sets.{Sets, new_tables, old_tables}
use Rattle.zd_volume.specs.Uses.{IsMoved}
use Rattle.zd_volume.specs.Volumes.{IsFixed, PlainVolume, sets_of}
use Rattle.zd_volume.specs.declared.work.JobKind.{JobKind}
use Rattle.zd_volume.specs.declared.work.JobKind.TheVariants.{Empty, Move, Append, Merge}
use Rattle.zd_volume.specs.declared.work.Place.{Place}
use Rattle.zd_volume.specs.declared.work.Place.TheVariants.{Buffer, Main, NewBuffer, NewMain}
use Rattle.zd_volume.specs.declared.work.Work.{Work}
use Rattle.zd_write.specs.Tries.{GivesUpOn}

pub on_or_not : (job : Option Work) (chunk : ℕ) → NoJobOn job chunk ⊎ (NoJobOn job chunk → ⊥)
on_or_not None chunk = inl tt
on_or_not (Some w) chunk = elim (cases_eq w.job.chunk chunk) [
  | inl same ↦ inr (λ off. off same)
  | inr off ↦ inl off
]

-- a Move copies to a sequential zone, or no zone is taken so
moved_sequential : (s : Sets) (pointers : List ℕ) (job : Option Work) → IsJobOrNone s pointers job
    → ((z : ℕ) × IsMoved job z × (s.geometry.conv ≤ z)) ⊎ ((z : ℕ) → IsMoved job z → ⊥)
moved_sequential s pointers None is = inr (λ z moved. moved)
moved_sequential s pointers (Some w) is = by w.job.kind refl is.target
  where
    by : (kind : JobKind) → w.job.kind ≡ kind
        → HasTarget s.geometry (old_tables s) (new_tables s) kind (entry_of (new_tables s) w.job.chunk) w.target
        → ((z : ℕ) × IsMoved (Some w) z × (s.geometry.conv ≤ z)) ⊎ ((z : ℕ) → IsMoved (Some w) z → ⊥)
    by Empty same has = inr (λ z moved. let no : Empty ≡ Move = sym same ∙ moved.0 in cc)
    by Move same has = inl (has.0, (same, has.1), has.2)
    by Append same has = inr (λ z moved. let no : Append ≡ Move = sym same ∙ moved.0 in cc)
    by Merge same has = inr (λ z moved. let no : Merge ≡ Move = sym same ∙ moved.0 in cc)

-- zones below this one are used as they were
record SameUsesBelow (end : ℕ) (old new : List ZoneUse) : Type 0 where
  size : length new ≡ length old
  at : (z : ℕ) → z < end → use_at new z ≡ use_at old z

same_uses : (end : ℕ) (old new : List ZoneUse) → new ≡ old → SameUsesBelow end old new
same_uses end old new is = record {
  size = ap (λ (uses : List ZoneUse). length uses) is;
  at = λ z low. ap (λ (uses : List ZoneUse). use_at uses z) is;
}

used_above : (end y : ℕ) (u : ZoneUse) (old new : List ZoneUse) → end ≤ y → new ≡ set old y u
    → SameUsesBelow end old new
used_above end y u old new above is = record {
  size = ap (λ (uses : List ZoneUse). length uses) is ∙ length-set old y u;
  at = λ z low.
      ap (λ (uses : List ZoneUse). use_at uses z) is
      ∙ get_or-set_other old y z u Meta (λ same. omega (arith, same, low, above));
}

abandoned_uses : (from to : PlainVolume) → IsFixed from → IsAbandoned from to
    → SameUsesBelow from.geometry.conv from.division.zones to.division.zones
abandoned_uses from to fixed did =
    elim (moved_sequential (sets_of from) from.pointers from.job fixed.job) [
      | inl moved ↦
          used_above from.geometry.conv moved.0 _ from.division.zones to.division.zones moved.2
          (did.taken moved.0 moved.1)
      | inr none ↦
          same_uses from.geometry.conv from.division.zones to.division.zones (did.others none)
    ]

-- GIVING UP THE JOB ON A CHUNK
module _ (from to : PlainVolume) (chunk : ℕ) (gives : GivesUpOn from to chunk) where
  pub given_rest : to ≡ record from { job = to.job; division = to.division }
  given_rest = elim (on_or_not from.job chunk) [
    | inl off ↦
        subst (λ (w : PlainVolume). w ≡ record from { job = w.job; division = w.division })
        (sym (gives.off off)) refl
    | inr on ↦
        subst (λ (j : Option Work). to ≡ record from { job = j; division = to.division })
        (sym (ap (λ (w : PlainVolume). w.job) (gives.on on).rest)) (gives.on on).rest
  ]

  module _ (fixed : IsFixed from) where
    given_conv : to.division.conv ≡ from.division.conv
    given_conv = elim (on_or_not from.job chunk) [
      | inl off ↦ ap (λ (w : PlainVolume). w.division.conv) (gives.off off)
      | inr on ↦ (gives.on on).conv
    ]

    given_uses : SameUsesBelow from.division.conv from.division.zones to.division.zones
    given_uses = elim (on_or_not from.job chunk) [
      | inl off ↦ same_uses _ _ _ (ap (λ (w : PlainVolume). w.division.zones) (gives.off off))
      | inr on ↦ rw fixed.uses.conv (abandoned_uses from to fixed (gives.on on))
    ]

    -- the least free conventional zone stays
    least_given : (z : ℕ) → IsLeastOf Conventional from.division z → IsLeastOf Conventional to.division z
    least_given z is = record {
      inside = (let size = given_uses.size in let low = is.inside in omega (arith, size, low));
      of_kind = rw given_conv is.of_kind;
      free = given_uses.at z is.of_kind ∙ is.free;
      least = λ y kind below free.
          let low = rw given_conv at kind in
          is.least y low below (sym (given_uses.at y low) ∙ free);
    }

    goal_given : (e : MapEntry) (place : Place) (z : ℕ) → IsGoal e from.division place z
        → IsGoal e to.division place z
    goal_given e Main z is = is
    goal_given e NewMain z is = least_given z is
    goal_given e Buffer z is = is
    goal_given e NewBuffer z is = least_given z is

    -- THE PLACE of a write
    pub place_given : (what : What) (place : Place) → HasPlace from what place → HasPlace to what place
    place_given what place has = (
      has.0,
      record {
        goes = subst (λ (w : PlainVolume). GoesTo w.geometry w.pointers (entry_touched w what)
            (range_first w.geometry.zone_blocks what) place) (sym given_rest) has.1.goes;
        goal = subst (λ (w : PlainVolume). IsGoal (entry_touched w what) to.division place has.0)
            (sym given_rest) (goal_given (entry_touched from what) place has.0 has.1.goal);
      },
    )

  -- THE EDGES of a write
  pub edges_given : (told : Option Image) (what : What) (e : Edges) → AreEdges from told what e
      → AreEdges to told what e
  edges_given told what e are =
      subst (λ (w : PlainVolume). AreEdges w told what e) (sym given_rest)
      (record {
        needed = λ edge needs.
            let holds = are.needed edge (record { has = needs.has; valid = needs.valid }) in
            record { size = holds.size; value = holds.value };
        others = λ edge none. are.others edge (λ needs. none (record { has = needs.has; valid = needs.valid }));
      })
