-- AT THE END OF A COMMIT: what the zones are used for, the job under way, and the flags of the zones that the committed
-- map names. The new tables are the committed ones, and limbo has ended.
use Rattle.std.proofs.Common.{◌≡◌, ◌⊎◌, ℕ, ◌<◌, Bool, List, length, map, Option, Some, None}
use Rattle.std.proofs.Common.{inl, inr, refl, sym, ap, ◌∙◌, subst, arith}
use Rattle.std.proofs.lemmas.List.{length-map}
use Rattle.std.proofs.Math.ListN.{get_or-map}
use Rattle.zd_alloc.specs.Zones.{Division, after_limbo, use_at}
use Rattle.zd_alloc.specs.declared.uses.ZoneUse.{ZoneUse}
use Rattle.zd_alloc.specs.declared.uses.ZoneUse.TheVariants.{Free, Held, Limbo, Meta}
use Rattle.zd_base.specs.Geometry.{Shape, zone_count}
use Rattle.zd_model.specs.Tables.{NamesZone, Tables, entry_of}
use Rattle.zd_model.specs.declared.metadata.MapEntry.{MapEntry}
use Rattle.zd_disk.proofs.ToldLaws.{Some-same}
use Rattle.zd_volume.specs.Jobs.{HasTarget, IsJobOrNone, IsNamed, IsTarget}
use Rattle.zd_volume.specs.Phases.{with_generation}
use Rattle.zd_volume.specs.Sets.{Sets, new_tables, old_tables}
use Rattle.zd_volume.specs.Uses.{AreUsed, FlagNamed, IsMoved, IsNamedFlags}
use Rattle.zd_volume.specs.declared.work.JobKind.{JobKind}
use Rattle.zd_volume.specs.declared.work.JobKind.TheVariants.{Empty, Move, Append, Merge}
use Rattle.zd_volume.specs.declared.work.Work.{Work}

-- THE USE of a zone before limbo ended
free_before : (u : ZoneUse) → after_limbo u ≡ Free → (u ≡ Free) ⊎ (u ≡ Limbo)
free_before Meta is = absurd (let f : ⊥ = cc in f)
free_before Free is = inl refl
free_before Held is = absurd (let f : ⊥ = cc in f)
free_before Limbo is = inr refl

no_limbo : (u : ZoneUse) → after_limbo u ≡ Limbo → ⊥
no_limbo Meta is = cc
no_limbo Free is = cc
no_limbo Held is = cc
no_limbo Limbo is = cc

held_before : (u : ZoneUse) → after_limbo u ≡ Held → u ≡ Held
held_before Meta is = absurd (let f : ⊥ = cc in f)
held_before Free is = absurd (let f : ⊥ = cc in f)
held_before Held is = refl
held_before Limbo is = absurd (let f : ⊥ = cc in f)

meta_before : (u : ZoneUse) → after_limbo u ≡ Meta → u ≡ Meta
meta_before Meta is = refl
meta_before Free is = absurd (let f : ⊥ = cc in f)
meta_before Held is = absurd (let f : ⊥ = cc in f)
meta_before Limbo is = absurd (let f : ⊥ = cc in f)

-- the sets after a commit: another generation, or the same one where its only call was a flush
abbrev pub ended_sets : ℕ → Sets → Sets
ended_sets generation s = record s { head = with_generation generation s.head; old = s.new }

pub used_ended : (s : Sets) (generation : ℕ) (job : Option Work) (from to : Division)
    → to.zones ≡ map after_limbo from.zones → to.conv ≡ from.conv → to.order ≡ from.order
    → AreUsed s job from → AreUsed (ended_sets generation s) job to
used_ended s generation job from to zones conv order was = record {
  count = ap (λ (zs : List ZoneUse). length zs) zones ∙ length-map from.zones after_limbo ∙ was.count;
  conv = conv ∙ was.conv;
  order = ap (λ (xs : List ℕ). length xs) order ∙ was.order;
  meta = λ z low. (
    (λ is. (was.meta z low).0 (meta_before (use_at from.zones z) (sym (at z) ∙ is))),
    (λ below. after z Meta ((was.meta z low).1 below)),
  );
  free = λ z is. elim (free_before (use_at from.zones z) (sym (at z) ∙ is)) [
    | inl free ↦ (let none = was.free z free in (none.1, none.1, none.2))
    | inr limbo ↦ (let none = was.limbo z limbo in (none.1, none.1, none.2))
  ];
  limbo = λ z is. absurd (no_limbo (use_at from.zones z) (sym (at z) ∙ is));
  held = λ z is. was.held z (held_before (use_at from.zones z) (sym (at z) ∙ is));
  named = λ z n. after z Held (was.named z n);
  target = λ z t. after z Held (was.target z t);
}
  where
    at : (z : ℕ) → use_at to.zones z ≡ after_limbo (use_at from.zones z)
    at z = ap (λ (zs : List ZoneUse). use_at zs z) zones ∙ get_or-map after_limbo from.zones z Meta

    after : (z : ℕ) (u : ZoneUse) → use_at from.zones z ≡ u → use_at to.zones z ≡ after_limbo u
    after z u is = at z ∙ ap after_limbo is

-- THE JOB under way: its target is named by no table still
target_ended : (g : Shape) (old new : Tables) (kind : JobKind) (e : MapEntry) (target : Option ℕ)
    → HasTarget g old new kind e target → HasTarget g new new kind e target
target_ended g old new Empty e target has = has
target_ended g old new Move e target has = (has.0, has.1, has.2, has.3, has.5, has.5)
target_ended g old new Append e target has = has
target_ended g old new Merge e target has = has

pub job_ended : (s : Sets) (generation : ℕ) (pointers : List ℕ) (job : Option Work) → IsJobOrNone s pointers job
    → IsJobOrNone (ended_sets generation s) pointers job
job_ended s generation pointers None is = tt
job_ended s generation pointers (Some w) is = record {
  chunk = is.chunk;
  entry = is.entry;
  target = target_ended s.geometry (old_tables s) (new_tables s) w.job.kind (entry_of (new_tables s) w.job.chunk)
      w.target is.target;
  emptied = is.emptied;
  inside = is.inside;
  few = is.few;
  unread = is.unread;
  run = is.run;
  pointer = is.pointer;
}

-- FLAGS: a target that no Move has taken is one of its chunk's zones
target_named : (g : Shape) (old new : Tables) (kind : JobKind) (e : MapEntry) (target : Option ℕ) (z : ℕ)
    → HasTarget g old new kind e target → target ≡ Some z → (kind ≡ Move → ⊥) → NamesZone e z
target_named g old new Empty e target z has is other =
    absurd (let none : None ≡ Some z = sym has ∙ is in let f : ⊥ = cc in f)
target_named g old new Move e target z has is other = absurd (other refl)
target_named g old new Append e target z has is other = inl (sym has ∙ is)
target_named g old new Merge e target z has is other = inr (sym has ∙ is)

module _ (s : Sets) (pointers : List ℕ) where
  -- a zone that a Move has taken is named by no entry, committed or not
  pub moved_bare : (job : Option Work) (z : ℕ) → IsJobOrNone s pointers job → IsMoved job z
      → (IsNamed (old_tables s) z → ⊥) × (IsNamed (new_tables s) z → ⊥)
  moved_bare None z is moved = absurd moved
  moved_bare (Some w) z is moved =
      let has = subst (λ (k : JobKind). HasTarget s.geometry (old_tables s) (new_tables s) k
      (entry_of (new_tables s) w.job.chunk) w.target) moved.0 is.target in
      let same : z ≡ has.0 = sym (Some-same has.0 z (sym has.1 ∙ moved.1)) in (
        (λ named. has.4 (subst (IsNamed (old_tables s)) same named)),
        (λ named. has.5 (subst (IsNamed (new_tables s)) same named)),
      )

  -- another target is named
  pub target_is : (job : Option Work) (z : ℕ) → IsJobOrNone s pointers job → IsTarget job z → (IsMoved job z → ⊥)
      → IsNamed (new_tables s) z
  target_is None z is target other = absurd target
  target_is (Some w) z is target other = (
    w.job.chunk,
    target_named s.geometry (old_tables s) (new_tables s) w.job.kind (entry_of (new_tables s) w.job.chunk) w.target z
        is.target target (λ kind. other (kind, target)),
  )

  -- THE FLAGS MADE ANEW are those of the new tables
  pub flags_named : (job : Option Work) (d : Division) (flags : List Bool) → AreUsed s job d
      → IsJobOrNone s pointers job → IsNamedFlags d job flags → FlagNamed s.geometry (new_tables s) flags
  flags_named job d flags used is made = record {
    size = made.size ∙ used.count;
    each = λ z low. (
      (λ flag.
          let held = (made.each z (inside z low)).0 flag in
          elim (used.held z held.0) [
            | inl named ↦ named
            | inr target ↦ target_is job z is target held.1
          ]),
      (λ named. (made.each z (inside z low)).1 (used.named z named, λ moved. (moved_bare job z is moved).1 named)),
    );
  }
    where
      inside : (z : ℕ) → z < zone_count s.geometry → z < length d.zones
      inside z low = (let n = used.count in omega (arith, n, low))
