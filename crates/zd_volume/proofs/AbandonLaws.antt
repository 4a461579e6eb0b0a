-- GIVING UP THE JOB under way keeps a volume: the zone that a Move has taken is free, and no table names it.
use Rattle.std.proofs.Common.{◌≡◌, ◌≢◌, ◌⊎◌, ℕ, ◌<◌, List, length, set, get_or-set_other, get_or-set_same, Option, Some}
use Rattle.std.proofs.Common.{None, inl, inr, refl, sym, ap, ◌∙◌, subst}
use Rattle.std.proofs.lemmas.Bool.{cases_eq, cases_lt}
use Rattle.std.proofs.lemmas.List.{get_or_past, length-set}
use Rattle.zd_alloc.specs.Zones.{Division, use_at}
use Rattle.zd_alloc.specs.declared.uses.ZoneUse.{ZoneUse}
use Rattle.zd_alloc.specs.declared.uses.ZoneUse.TheVariants.{Free, Held, Limbo, Meta}
use Rattle.zd_disk.specs.View.{View}
use Rattle.zd_disk.proofs.ToldLaws.{Some-same}
use Rattle.zd_model.specs.Tables.{entry_of}
use Rattle.zd_volume.specs.Abandons.{IsAbandoned}
use Rattle.zd_volume.specs.Jobs.{HasTarget, IsJobOrNone, IsNamed, IsTarget}
use Rattle.zd_volume.specs.Sets.{Sets, new_tables, old_tables}
use Rattle.zd_volume.specs.Uses.{AreCandidates, AreUsed, IsMoved}
use Rattle.zd_volume.specs.Volumes.{IsKeptVolume, PlainVolume, sets_of}
use Rattle.zd_volume.specs.declared.work.JobKind.{JobKind}
use Rattle.zd_volume.specs.declared.work.JobKind.TheVariants.{Empty, Move, Append, Merge}
use Rattle.zd_volume.specs.declared.work.Work.{Work}
use Rattle.zd_volume.proofs.EndUses.{moved_bare, target_is}
use Rattle.zd_volume.proofs.Still.{kept_still, only_nothing}

module _ (s : Sets) (pointers : List ℕ) where
  -- a Move has taken a zone, or no zone is taken so
  moved_or_not : (job : Option Work) → IsJobOrNone s pointers job
      → ((z : ℕ) × IsMoved job z) ⊎ ((z : ℕ) → IsMoved job z → ⊥)
  moved_or_not None is = inr (λ z moved. moved)
  moved_or_not (Some w) is = by w.job.kind refl is.target
    where
      by : (kind : JobKind) → w.job.kind ≡ kind
          → HasTarget s.geometry (old_tables s) (new_tables s) kind (entry_of (new_tables s) w.job.chunk) w.target
          → ((z : ℕ) × IsMoved (Some w) z) ⊎ ((z : ℕ) → IsMoved (Some w) z → ⊥)
      by Empty same has = inr (λ z moved. let no : Empty ≡ Move = sym same ∙ moved.0 in cc)
      by Move same has = inl (has.0, (same, has.1))
      by Append same has = inr (λ z moved. let no : Append ≡ Move = sym same ∙ moved.0 in cc)
      by Merge same has = inr (λ z moved. let no : Merge ≡ Move = sym same ∙ moved.0 in cc)

  -- a job that copies to a zone that a Move has taken copies to no other one
  one_target : (job : Option Work) (y z : ℕ) → IsMoved job z → IsTarget job y → y ≡ z
  one_target None y z moved target = absurd moved
  one_target (Some w) y z moved target = Some-same y z (sym target ∙ moved.1)

  moved_target : (job : Option Work) (z : ℕ) → IsMoved job z → IsTarget job z
  moved_target None z moved = absurd moved
  moved_target (Some w) z moved = moved.1

  module _ (job : Option Work) (is : IsJobOrNone s pointers job) (d e : Division) (was : AreUsed s job d)
      (conv : e.conv ≡ d.conv) (order : e.order ≡ d.order) where
    order_count : length e.order ≡ s.head.layout.chunks
    order_count = ap (λ (xs : List ℕ). length xs) order ∙ was.order

    -- no Move has taken a zone: all zones are used as before
    used_other : ((z : ℕ) → IsMoved job z → ⊥) → e.zones ≡ d.zones → AreUsed s None e
    used_other none zones = record {
      count = ap (λ (uses : List ZoneUse). length uses) zones ∙ was.count;
      conv = conv ∙ was.conv;
      order = order_count;
      meta = λ z low. (
        (λ is_meta. (was.meta z low).0 (sym (at z) ∙ is_meta)),
        (λ below. at z ∙ (was.meta z low).1 below),
      );
      free = λ z is_free. (let bare = was.free z (sym (at z) ∙ is_free) in (bare.0, bare.1, λ t. t));
      limbo = λ z is_limbo. (let bare = was.limbo z (sym (at z) ∙ is_limbo) in (bare.0, bare.1, λ t. t));
      held = λ z is_held. elim (was.held z (sym (at z) ∙ is_held)) [
        | inl named ↦ inl named
        | inr target ↦ inl (target_is s pointers job z is target (none z))
      ];
      named = λ z n. at z ∙ was.named z n;
      target = λ z t. absurd t;
    }
      where
        at : (z : ℕ) → use_at e.zones z ≡ use_at d.zones z
        at z = ap (λ (uses : List ZoneUse). use_at uses z) zones

    -- the zone that a Move has taken is free now
    used_given : (z : ℕ) → IsMoved job z → e.zones ≡ set d.zones z Free → AreUsed s None e
    used_given z moved zones = record {
      count = ap (λ (uses : List ZoneUse). length uses) zones ∙ length-set d.zones z Free ∙ was.count;
      conv = conv ∙ was.conv;
      order = order_count;
      meta = λ y low. (
        (λ is_meta. (was.meta y low).0 (before y Meta (λ x. cc) is_meta)),
        (λ below. after y Meta (λ x. cc) ((was.meta y low).1 below)),
      );
      free = λ y is_free. elim (cases_eq y z) [
        | inl same ↦ (
          (λ n. bare.0 (subst (IsNamed (old_tables s)) same n)),
          (λ n. bare.1 (subst (IsNamed (new_tables s)) same n)),
          λ t. t,
        )
        | inr off ↦ (let none = was.free y (sym (others y off) ∙ is_free) in (none.0, none.1, λ t. t))
      ];
      limbo = λ y is_limbo. (let old = was.limbo y (before y Limbo (λ x. cc) is_limbo) in (old.0, old.1, λ t. t));
      held = λ y is_held. elim (was.held y (before y Held (λ x. cc) is_held)) [
        | inl named ↦ inl named
        | inr target ↦
            absurd (let same = one_target job y z moved target in
            let no : Free ≡ Held = sym here ∙ subst (λ (n : ℕ). use_at e.zones n ≡ Held) same is_held in
            let f : ⊥ = cc in f)
      ];
      named = λ y n. elim (cases_eq y z) [
        | inl same ↦ absurd (bare.1 (subst (IsNamed (new_tables s)) same n))
        | inr off ↦ others y off ∙ was.named y n
      ];
      target = λ y t. absurd t;
    }
      where
        bare : (IsNamed (old_tables s) z → ⊥) × (IsNamed (new_tables s) z → ⊥)
        bare = moved_bare s pointers job z is moved

        held : use_at d.zones z ≡ Held
        held = was.target z (moved_target job z moved)

        inside : z < length d.zones
        inside = elim (cases_lt z (length d.zones)) [
          | inl low ↦ low
          | inr past ↦
              absurd (let no : Meta ≡ Held = sym (get_or_past d.zones z Meta past) ∙ held in let f : ⊥ = cc in f)
        ]

        here : use_at e.zones z ≡ Free
        here = ap (λ (uses : List ZoneUse). use_at uses z) zones ∙ get_or-set_same d.zones z Free Meta inside

        others : (y : ℕ) → y ≢ z → use_at e.zones y ≡ use_at d.zones y
        others y off = ap (λ (uses : List ZoneUse). use_at uses y) zones ∙ get_or-set_other d.zones z y Free Meta off

        -- a zone that isn't free is used as before
        before : (y : ℕ) (u : ZoneUse) → Free ≢ u → use_at e.zones y ≡ u → use_at d.zones y ≡ u
        before y u busy so = elim (cases_eq y z) [
          | inl same ↦ absurd (busy (sym here ∙ subst (λ (n : ℕ). use_at e.zones n ≡ u) same so))
          | inr off ↦ sym (others y off) ∙ so
        ]

        -- and one that wasn't held is used so still
        after : (y : ℕ) (u : ZoneUse) → Held ≢ u → use_at d.zones y ≡ u → use_at e.zones y ≡ u
        after y u other so = elim (cases_eq y z) [
          | inl same ↦ absurd (other (sym held ∙ subst (λ (n : ℕ). use_at d.zones n ≡ u) same so))
          | inr off ↦ others y off ∙ so
        ]

-- THE USES OF ZONES ARE KEPT
pub used_abandoned : (from to : PlainVolume) → IsAbandoned from to
    → IsJobOrNone (sets_of from) from.pointers from.job → AreUsed (sets_of from) from.job from.division
    → AreUsed (sets_of from) None to.division
used_abandoned from to did is was = elim (moved_or_not (sets_of from) from.pointers from.job is) [
  | inl moved ↦
      used_given (sets_of from) from.pointers from.job is from.division to.division was did.conv did.order moved.0
      moved.1 (did.taken moved.0 moved.1)
  | inr none ↦
      used_other (sets_of from) from.pointers from.job is from.division to.division was did.conv did.order none
      (did.others none)
]

-- THE VOLUME IS KEPT
pub kept_abandon : (from to : PlainVolume) (opening now : View) → IsKeptVolume from opening now → IsAbandoned from to
    → IsKeptVolume to opening now
kept_abandon from to opening now was did =
    subst (λ (v : PlainVolume). IsKeptVolume v opening now) (sym did.rest)
    (kept_still from (record from { job = None; division = to.division }) opening now now
    (record { geometry = refl; head = refl; since = refl; opening = refl; runs = λ r. r }) (only_nothing now) was
    (record {
      fixed = record {
        sets = was.fixed.sets;
        flags = was.fixed.flags;
        under_way = was.fixed.under_way;
        uses = used_abandoned from to did was.fixed.job was.fixed.uses;
        named = was.fixed.named;
        pointers = was.fixed.pointers;
        in_zones = was.fixed.in_zones;
        candidates = subst
            (λ (order : List ℕ). AreCandidates (sets_of from) from.pointers order from.standings)
            (sym did.order) was.fixed.candidates;
        job = tt;
        room = was.fixed.room;
      };
      by_now = was.counted.by_now;
      faulted = was.faulted;
      calm = was.calm;
      legal = λ r t l. l;
      more = λ k n y m. m;
      reads = λ _ r t is_now. record {
        read = is_now.read;
        pointers = is_now.pointers;
        whole = record {
          at = λ z seq held. is_now.whole.at z seq
              (elim ((used_abandoned from to did was.fixed.job was.fixed.uses).held z held) [
                | inl n ↦ was.fixed.uses.named z n
                | inr t ↦ absurd t
              ]);
        };
        copies = tt;
      };
      stops = λ _ r c t may. may;
    }))
