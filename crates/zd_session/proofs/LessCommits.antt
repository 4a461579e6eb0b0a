-- The next call of a commit lessens what is left of it, and touches no job and no entry.
use Rattle.std.proofs.Common.{◌≡◌, ◌⊎◌, inl, inr, ℕ, ◌+◌, ◌*◌, ◌<◌, ◌≤◌, Bool, true, false, cond, not, ◌&&◌}
use Rattle.std.proofs.Common.{List, [], ◌∷◌, None, length, map, replicate, take, count_by, is_some, nat_eq}
use Rattle.std.proofs.Common.{refl, sym, ap, ap₂}
use Rattle.std.proofs.Common.{◌∙◌, arith}
use Rattle.std.proofs.lemmas.Bool.{and_from, and_left, and_parts, and_right, cases_Bool, cond-false, cond-true}
use Rattle.std.proofs.lemmas.Bool.{eq-eqb}
use Rattle.std.proofs.lemmas.Bool.{false_from_ne_true, false≢true, ne_eqb, not-true, or_from}
use Rattle.std.proofs.lemmas.List.{get_or-replicate, length-replicate, take-map}
use Rattle.std.proofs.lemmas.List.Sums.{sum_by-cons}
use Rattle.std.specs.List.{list_any}
use Rattle.zd_alloc.specs.Zones.{after_limbo, is_limbo, uses_of}
use Rattle.zd_alloc.specs.declared.uses.ZoneUse.{ZoneUse}
use Rattle.zd_alloc.specs.declared.uses.ZoneUse.TheVariants.{Free, Held, Limbo, Meta}
use Rattle.zd_base.specs.declared.geometry.Kind.TheVariants.{Conventional}
use Rattle.zd_model.specs.declared.metadata.MapEntry.{MapEntry}
use Rattle.zd_model.specs.declared.requests.Piece.{Piece}
use Rattle.zd_progress.specs.Measures.{is_held_use, jobs_ever}
use Rattle.zd_volume.specs.Commits.{Advances, EndsCommit, IsPhaseAfter, calls_left}
use Rattle.zd_volume.specs.Flights.{tables_now}
use Rattle.zd_volume.specs.Phases.{IsNextDirty}
use Rattle.zd_volume.specs.Uses.{dirty_from}
use Rattle.zd_volume.specs.Volumes.{IsFixed, PlainVolume}
use Rattle.zd_volume.specs.declared.phase.Phase.{Phase}
use Rattle.zd_volume.specs.declared.phase.Phase.TheVariants.{Idle, InPlace, InPlaceFlush, InPlaceSuper}
use Rattle.zd_volume.specs.declared.phase.Phase.TheVariants.{InPlaceSuperFlush}
use Rattle.zd_volume.specs.declared.phase.Phase.TheVariants.{Log, LogFlush, LogSuper, LogSuperFlush}
use Rattle.zd_volume.proofs.CallsLeft.{dirty_more, dirty_next, dirty_none}
use Rattle.zd_commit.specs.Closed.{calls_to_finish}
use Rattle.zd_commit.proofs.RunLaws.{fewer_left}
use Rattle.zd_session.specs.LoneStates.{commit_rest, stock_of}
use Rattle.zd_session.specs.Standings.{is_under_way}
use Rattle.zd_session.proofs.LessLimits.{commit_most}

-- a commit that would begin has a call to make, and so has one that is under way
pub some_calls : (dirty : List Bool) (p : Phase) → 0 < calls_left dirty p
some_calls dirty Idle = by (nat_eq (dirty_from dirty 1) 0)
  where
    by : (b : Bool) → 0 < cond b 1 (2 * dirty_from dirty 1 + 6)
    by true = omega arith
    by false = omega arith
some_calls dirty (Log k) = omega arith
some_calls dirty LogFlush = omega arith
some_calls dirty LogSuper = omega arith
some_calls dirty LogSuperFlush = omega arith
some_calls dirty (InPlace k) = omega arith
some_calls dirty InPlaceFlush = omega arith
some_calls dirty InPlaceSuper = omega arith
some_calls dirty InPlaceSuperFlush = omega arith

-- no commit is under way, nothing is dirty, and no zone is in limbo
abbrev pub is_settled : List Bool → Phase → List ZoneUse → Bool
is_settled dirty p zones =
    nat_eq (calls_to_finish dirty p) 0 && nat_eq (dirty_from dirty 1) 0 && not (list_any is_limbo zones)

abbrev settled_on : PlainVolume → Bool
settled_on v = is_settled v.dirty v.phase v.division.zones

-- else all calls of a commit are left
all_left : (v : PlainVolume) → settled_on v ≡ false → commit_rest v ≡ calls_left v.dirty v.phase
all_left v is = cond-false (settled_on v) 0 (calls_left v.dirty v.phase) is

-- WHERE A COMMIT IS UNDER WAY
under_way : (dirty : List Bool) (p : Phase) (zones : List ZoneUse) → is_under_way p ≡ true
    → is_settled dirty p zones ≡ false
under_way dirty p zones is =
    and_left (nat_eq (calls_to_finish dirty p) 0 && nat_eq (dirty_from dirty 1) 0) (not (list_any is_limbo zones))
    (and_left (nat_eq (calls_to_finish dirty p) 0) (nat_eq (dirty_from dirty 1) 0) (by p is))
  where
    some : (n : ℕ) → 0 < n → nat_eq n 0 ≡ false
    some n is = ne_eqb n 0 (λ none. omega (arith, is, none))

    by : (q : Phase) → is_under_way q ≡ true → nat_eq (calls_to_finish dirty q) 0 ≡ false
    by Idle is = absurd (let f : ⊥ = cc in f)
    by (Log k) is = some (calls_left dirty (Log k)) (some_calls dirty (Log k))
    by LogFlush is = some (calls_left dirty LogFlush) (some_calls dirty LogFlush)
    by LogSuper is = some (calls_left dirty LogSuper) (some_calls dirty LogSuper)
    by LogSuperFlush is = some (calls_left dirty LogSuperFlush) (some_calls dirty LogSuperFlush)
    by (InPlace k) is = some (calls_left dirty (InPlace k)) (some_calls dirty (InPlace k))
    by InPlaceFlush is = refl
    by InPlaceSuper is = refl
    by InPlaceSuperFlush is = refl

-- or something is dirty, or a zone is in limbo
some_dirty : (dirty : List Bool) (p : Phase) (zones : List ZoneUse) → 0 < dirty_from dirty 1
    → is_settled dirty p zones ≡ false
some_dirty dirty p zones some =
    and_left (nat_eq (calls_to_finish dirty p) 0 && nat_eq (dirty_from dirty 1) 0) (not (list_any is_limbo zones))
    (and_right (nat_eq (calls_to_finish dirty p) 0) (nat_eq (dirty_from dirty 1) 0)
    (ne_eqb (dirty_from dirty 1) 0 (λ none. omega (arith, some, none))))

some_limbo : (dirty : List Bool) (p : Phase) (zones : List ZoneUse) → list_any is_limbo zones ≡ true
    → is_settled dirty p zones ≡ false
some_limbo dirty p zones is =
    and_right (nat_eq (calls_to_finish dirty p) 0 && nat_eq (dirty_from dirty 1) 0) (not (list_any is_limbo zones))
    (ap not is)

-- calls are left of a commit that is under way or due
pub commit_some : (v : PlainVolume) → (is_under_way v.phase ≡ true) ⊎ (list_any is_limbo v.division.zones ≡ true)
    → 0 < commit_rest v
commit_some v (inl is) =
    let all = all_left v (under_way v.dirty v.phase v.division.zones is) in
    let some = some_calls v.dirty v.phase in
    omega (arith, all, some)
commit_some v (inr is) =
    let all = all_left v (some_limbo v.dirty v.phase v.division.zones is) in
    let some = some_calls v.dirty v.phase in
    omega (arith, all, some)

-- A CALL that isn't the last
pub commit_more : (v w : PlainVolume) → IsFixed v → Advances v w → commit_rest w < commit_rest v
commit_more v w fixed step =
    let less = fewer_left v w fixed step in
    let most = commit_most w in
    let all = all_left v (by v.phase step.phase) in
    omega (arith, less, most, all)
  where
    by : (p : Phase) → IsPhaseAfter v.dirty p w.phase → is_settled v.dirty p v.division.zones ≡ false
    by Idle after =
        let same = dirty_next v.dirty 1 after.0 after.2 in
        let more = dirty_more v.dirty after.0 after.2.0 after.2.3 in
        some_dirty v.dirty Idle v.division.zones (omega (arith, same, more))
    by p after = under_way v.dirty p v.division.zones refl

-- NO MORE IS LEFT where no block gets dirty, and no zone in limbo
settled_still : (dirty : List Bool) (p : Phase) (old new : List ZoneUse)
    → (list_any is_limbo new ≡ true → list_any is_limbo old ≡ true) → is_settled dirty p old ≡ true
    → is_settled dirty p new ≡ true
settled_still dirty p old new limbo is =
    let parts =
    and_parts (nat_eq (calls_to_finish dirty p) 0 && nat_eq (dirty_from dirty 1) 0) (not (list_any is_limbo old)) is in
    and_from (nat_eq (calls_to_finish dirty p) 0 && nat_eq (dirty_from dirty 1) 0) (not (list_any is_limbo new)) parts.0
    (ap not (false_from_ne_true (list_any is_limbo new)
    (λ some. false≢true (sym (not-true (list_any is_limbo old) parts.1) ∙ limbo some))))

pub commit_no_more : (v w : PlainVolume) → w.dirty ≡ v.dirty → w.phase ≡ v.phase
    → (list_any is_limbo w.division.zones ≡ true → list_any is_limbo v.division.zones ≡ true)
    → commit_rest w ≤ commit_rest v
commit_no_more v w dirty phase limbo =
    let calls : calls_left w.dirty w.phase ≡ calls_left v.dirty v.phase =
    ap₂ (λ (d : List Bool) (p : Phase). calls_left d p) dirty phase in
    let most = commit_most w in
    elim (cases_Bool (settled_on v)) [
      | inl is ↦
          let same : settled_on w ≡ is_settled v.dirty v.phase w.division.zones =
          ap₂ (λ (d : List Bool) (p : Phase). is_settled d p w.division.zones) dirty phase in
          let still = settled_still v.dirty v.phase v.division.zones w.division.zones limbo is in
          let none : commit_rest w ≡ 0 =
          cond-true (settled_on w) 0 (calls_left w.dirty w.phase) (same ∙ still) in
          omega (arith, none)
      | inr off ↦ (let all = all_left v off in omega (arith, all, calls, most))
    ]

-- THE LAST ONE leaves nothing dirty, and no zone in limbo
none_dirty : (n : ℕ) → dirty_from (replicate n false) 1 ≡ 0
none_dirty n = dirty_none (replicate n false) 1 none
  where
    none : IsNextDirty (replicate n false) 1 None
    none j low above = get_or-replicate n j false true (let size = length-replicate n false in omega (arith, size, low))

none_in_limbo : (zones : List ZoneUse) → list_any is_limbo (map after_limbo zones) ≡ false
none_in_limbo [] = refl
none_in_limbo (u ∷ zones) =
    or_from (is_limbo (after_limbo u)) (list_any is_limbo (map after_limbo zones)) (by u) (none_in_limbo zones)
  where
    by : (u : ZoneUse) → is_limbo (after_limbo u) ≡ false
    by Meta = refl
    by Free = refl
    by Held = refl
    by Limbo = refl

pub commit_ended : (v w : PlainVolume) (flushes : List Piece) → EndsCommit v w flushes → commit_rest w ≡ 0
commit_ended v w flushes step =
    cond-true (settled_on w) 0 (calls_left w.dirty w.phase) (same ∙ settled)
  where
    n : ℕ
    n = length v.dirty

    same : settled_on w ≡ is_settled (replicate (length v.dirty) false) Idle (map after_limbo v.division.zones)
    same =
        ap₂ (λ (dirty : List Bool) (p : Phase). is_settled dirty p w.division.zones)
        (ap (λ (x : PlainVolume). x.dirty) step.rest) (ap (λ (x : PlainVolume). x.phase) step.rest)
        ∙ ap (λ (zones : List ZoneUse). is_settled (replicate (length v.dirty) false) Idle zones) step.limbo.zones

    settled : is_settled (replicate (length v.dirty) false) Idle (map after_limbo v.division.zones) ≡ true
    settled =
        and_from (true && nat_eq (dirty_from (replicate (length v.dirty) false) 1) 0)
        (not (list_any is_limbo (map after_limbo v.division.zones)))
        (eq-eqb (dirty_from (replicate (length v.dirty) false) 1) 0 (none_dirty (length v.dirty)))
        (ap not (none_in_limbo v.division.zones))

-- THE JOBS THAT MAY EVER END are as many where entries and conventional zones are the same
pub jobs_same : (v w : PlainVolume) → (tables_now w).entries ≡ (tables_now v).entries
    → count_by is_held_use (uses_of Conventional w.division) ≡ count_by is_held_use (uses_of Conventional v.division)
    → jobs_ever (stock_of w) ≡ jobs_ever (stock_of v)
jobs_same v w entries held =
    let main = ap (λ (es : List MapEntry). count_by (λ (e : MapEntry). is_some e.zone) es) entries in
    let beside = ap (λ (es : List MapEntry). count_by (λ (e : MapEntry). is_some e.buffer) es) entries in
    omega (arith, held, main, beside)

abbrev one : ZoneUse → ℕ
one u = cond (is_held_use u) 1 0

held_after : (zones : List ZoneUse) → count_by is_held_use (map after_limbo zones) ≡ count_by is_held_use zones
held_after [] = refl
held_after (u ∷ zones) =
    let here = by u in
    let rest = held_after zones in
    let after = sum_by-cons one (after_limbo u) (map after_limbo zones) in
    let before = sum_by-cons one u zones in
    omega (arith, here, rest, after, before)
  where
    by : (u : ZoneUse) → one (after_limbo u) ≡ one u
    by Meta = refl
    by Free = refl
    by Held = refl
    by Limbo = refl

pub ended_jobs : (v w : PlainVolume) (flushes : List Piece) → EndsCommit v w flushes
    → jobs_ever (stock_of w) ≡ jobs_ever (stock_of v)
ended_jobs v w flushes step =
    jobs_same v w (ap (λ (x : PlainVolume). (tables_now x).entries) step.rest)
    (ap (count_by is_held_use)
    (ap₂ (λ (n : ℕ) (zones : List ZoneUse). take n zones) step.limbo.conv step.limbo.zones
    ∙ take-map after_limbo v.division.conv v.division.zones)
    ∙ held_after (take v.division.conv v.division.zones))

pub more_jobs : (v w : PlainVolume) → Advances v w → jobs_ever (stock_of w) ≡ jobs_ever (stock_of v)
more_jobs v w step = ap (λ (x : PlainVolume). jobs_ever (stock_of x)) step.rest
