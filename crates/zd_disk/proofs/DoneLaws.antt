-- What a write or a reset did, by what the disk reads as after it.
use Rattle.std.proofs.Common.{◌≡◌, ◌⊎◌, ℕ, ◌+◌, ◌*◌, ◌≤◌, Bool, true, false, List, [], length, take}
use Rattle.std.proofs.Common.{Option, Some, None, IsSomeAnd, refl, sym, ◌∙◌, subst, inl, inr, arith}
use Rattle.std.proofs.lemmas.Bool.{cases_eq, cases_lt}
use Rattle.std.proofs.lemmas.List.{take_all}
use Rattle.zd_base.specs.Geometry.{Shape, zone_sectors}
use Rattle.zd_model.specs.Image.{Image, IsImage, SameZone}
use Rattle.zd_model.specs.Left.{Event, replay}
use Rattle.zd_disk.specs.Growth.{puts}
use Rattle.zd_disk.specs.Lives.{AResetDoesAllOrNothing, AWriteDoesSome, CallsReset, CallsWrite}
use Rattle.zd_disk.specs.Lives.{ResetDid}
use Rattle.zd_disk.specs.Lives.{WriteDid, IsResetBy, IsWrite, LeadsBy, PutsOwn}
use Rattle.zd_disk.specs.Steps.{ResetStep, WasReset, WriteStep, Wrote, count_of}
use Rattle.zd_disk.specs.Told.{Both, IsInside, IsSequentialZone}
use Rattle.zd_disk.specs.View.{Turns, View}
use Rattle.zd_disk.specs.Within.{IsDoneBy}
use Rattle.zd_disk.proofs.BeforeCalls.{on_puts}
use Rattle.zd_disk.proofs.ChosenPuts.{choose, chosen_leads, on_none}
use Rattle.zd_disk.proofs.PutLaws.{IsPut-puts, wrote_front}
use Rattle.zd_disk.proofs.SameSteps.{Same-trans, wrote_same}
use Rattle.zd_disk.proofs.ToldLaws.{Both-by, IsSomeAnd-get, Some-same}
use Rattle.zd_disk.proofs.TurnLaws.{turned}

-- what two images turn into each other by, where both are told
turns_at : {P : Image → Image → Type 0} {u v : View} (i j : Image) → u.zones ≡ Some i → v.zones ≡ Some j → P i j
    → Turns P u v
turns_at {P} {u} {v} i j e f p = record {
  reads = subst (λ (o : Option Image). Both o v.zones P) (sym e)
      (subst (λ (n : Option Image). Both (Some i) n P) (sym f) p);
}

-- where nothing is told, nothing is said
untold : {P Q : Image → Image → Type 0} {u v : View} → u.zones ≡ None → Turns P u v → Turns Q u v
untold {P} {Q} {u} {v} none h = record {
  reads = Both-by u.zones v.zones P Q
      (λ i j e n p. absurd (let f : ◌≡◌ {A = Option Image} None (Some i) = sym none ∙ e in cc)) h.reads;
}

told_or_not : (o : Option Image) → (o ≡ None) ⊎ ((i : Image) × (o ≡ Some i))
told_or_not None = inl refl
told_or_not (Some i) = inr (i, refl)

-- ONE WRITE between two images
module _ (z start : ℕ) (bytes : List ℕ) (old new : Image) (image : IsImage old)
    (whole : length bytes ≡ 512 * count_of bytes) (inside : start + count_of bytes ≤ zone_sectors old.geometry)
    (pointer : old.geometry.conv ≤ z → start ≡ old.held z) where
  -- what it did, as a write of these bytes may
  record DidSome : Type 0 where
    done : List Event
    own : PutsOwn z start bytes done
    by : IsDoneBy old.geometry.conv z start bytes done
    did : LeadsBy done old new

  at : start ≤ old.held z
  at = elim (cases_lt z old.geometry.conv) [
    | inl below ↦ (let full = image.conventional z below in omega arith)
    | inr above ↦ (let here = pointer above in omega arith)
  ]

  own_puts : (n : ℕ) → n ≤ count_of bytes → PutsOwn z start bytes (puts z start bytes 0 n)
  own_puts n few y i v put =
      let is = IsPut-puts z start bytes 0 n y i v put in
      (0 + is.0, omega (arith, is.1, few), sym is.2, is.3, is.4)

  by_front : (n : ℕ) → n ≤ count_of bytes → IsDoneBy old.geometry.conv z start bytes (puts z start bytes 0 n)
  by_front n few = record { on = on_puts z start bytes n; sequential = λ above. (n, few, refl) }

  front_did : (n : ℕ) → n ≤ count_of bytes → Wrote z start (take (512 * n) bytes) old new → DidSome
  front_did n few wrote = record {
    done = puts z start bytes 0 n;
    own = own_puts n few;
    by = by_front n few;
    did = λ k same. (
        let low : start ≤ k.held z = omega (arith, at, (same.zones z).held) in
        wrote_same z start (take (512 * n) bytes) k (replay k (puts z start bytes 0 n)) old new same
        (wrote_front k z start bytes n (omega (arith, few, whole)) low) wrote low);
  }

  -- where it answered Ok
  all_did : Wrote z start bytes old new → DidSome
  all_did wrote =
      let all : take (512 * count_of bytes) bytes ≡ bytes =
      take_all (512 * count_of bytes) bytes (omega (arith, whole)) in
      front_did (count_of bytes) (omega arith) (subst (λ (b : List ℕ). Wrote z start b old new) (sym all) wrote)

  -- where it failed
  some_did : WriteStep old z start bytes old new → DidSome
  some_did step = elim (cases_lt z old.geometry.conv) [
    | inl below ↦
        let full = image.conventional z below in
        let fits : start + count_of bytes ≤ old.held z = omega (arith, full, inside) in
        let one = choose z start bytes old new fits (step.conventional below) (count_of bytes) (omega arith) in
        record {
          done = one.0;
          own = one.1.own;
          by = record { on = one.1.on; sequential = λ above. absurd (omega (arith, above, below)) };
          did = chosen_leads z start bytes old new fits (step.conventional below) one.0 one.1 step.geometry step.others;
        }
    | inr above ↦ elim (step.sequential above) [
      | inl same ↦ record {
        done = [];
        own = λ y i v put. absurd put;
        by = record { on = on_none z; sequential = λ _. (0, omega arith, refl) };
        did = λ k from. Same-trans k old new from (record {
          geometry = step.geometry;
          zones = λ y. elim (cases_eq y z) [
            | inl here ↦ subst (λ (n : ℕ). SameZone old new n) (sym here) same
            | inr there ↦ step.others y there
          ];
        });
      }
      | inr part ↦ front_did part.0 part.1 (record { geometry = step.geometry; others = step.others; zone = part.2 })
    ]
  ]

  did_some : Wrote z start bytes old new ⊎ WriteStep old z start bytes old new → DidSome
  did_some (inl wrote) = all_did wrote
  did_some (inr step) = some_did step

-- the views of a write
module _ (u v : View) (z start : ℕ) (bytes : List ℕ) (is : IsWrite z start bytes u)
    (call : CallsWrite z start bytes u v) where
  abbrev Some_did : Type 0
  Some_did = (done : List Event) × PutsOwn z start bytes done × WriteDid z start bytes done u v

  did_told : (i j : Image) → u.zones ≡ Some i → v.zones ≡ Some j
      → Wrote z start bytes i j ⊎ WriteStep i z start bytes i j → Some_did
  did_told i j e f how =
      let there = IsSomeAnd-get u.told (IsInside z start (count_of bytes)) is.inside in
      let shape : there.0 ≡ i.geometry = Some-same there.0 i.geometry (sym there.1 ∙ u.agrees i e) in
      let inside = subst (λ (g : Shape). start + count_of bytes ≤ zone_sectors g) shape there.2.1 in
      let some = did_some z start bytes i j (u.shaped i e) is.whole inside (is.pointer i e) how in (
        some.done,
        some.own,
        record {
          is = is;
          by = λ k g. subst (λ (a : Image). IsDoneBy a.geometry.conv z start bytes some.done)
              (Some-same i k (sym e ∙ g)) some.by;
          did = turns_at i j e f some.did;
          call = call;
        },
      )

  did_untold : {P : Image → Image → Type 0} → u.zones ≡ None → Turns P u v → Some_did
  did_untold none h = (
    [],
    (λ y i v put. absurd put),
    record {
      is = is;
      by = λ k g. absurd (let f : ◌≡◌ {A = Option Image} None (Some k) = sym none ∙ g in cc);
      did = untold none h;
      call = call;
    },
  )

  did_write : Turns (Wrote z start bytes) u v ⊎ Turns (λ i. WriteStep i z start bytes i) u v → Some_did
  did_write how = elim (told_or_not u.zones) [
    | inl none ↦ elim how [ inl ok ↦ did_untold none ok | inr err ↦ did_untold none err ]
    | inr some ↦ elim how [
      | inl ok ↦ (let next = turned ok some.0 some.1 in did_told some.0 next.0 some.1 next.1 (inl next.2))
      | inr err ↦ (let next = turned err some.0 some.1 in did_told some.0 next.0 some.1 next.1 (inr next.2))
    ]
  ]

pub a_write_does_some : {D : Type 0} (view : D → View) → AWriteDoesSome view
a_write_does_some view old new z start bytes is call how = did_write (view old) (view new) z start bytes is call how

-- the views of a reset
module _ (u v : View) (z : ℕ) (inside : IsSomeAnd u.told (IsSequentialZone z)) (call : CallsReset z u v) where
  abbrev Did_or_not : Type 0
  Did_or_not = (done : Bool) × ResetDid z done u v

  reset_by : (done : Bool) → Turns (IsResetBy z done) u v → Did_or_not
  reset_by done did = (done, record { inside = inside; did = did; call = call })

  reset_step : (i j : Image) → u.zones ≡ Some i → v.zones ≡ Some j → ResetStep z i j → Did_or_not
  reset_step i j e f step = elim step.zone [
    | inl same ↦ reset_by false (turns_at i j e f (record {
      geometry = step.geometry;
      zones = λ y. elim (cases_eq y z) [
        | inl here ↦ subst (λ (n : ℕ). SameZone i j n) (sym here) same
        | inr there ↦ step.others y there
      ];
    }))
    | inr empty ↦ reset_by true
        (turns_at i j e f (record { geometry = step.geometry; others = step.others; zone = empty }))
  ]

  did_reset : Turns (WasReset z) u v ⊎ Turns (ResetStep z) u v → Did_or_not
  did_reset how = elim how [
    | inl ok ↦ reset_by true ok
    | inr err ↦ elim (told_or_not u.zones) [
      | inl none ↦ reset_by false (untold none err)
      | inr some ↦ (let next = turned err some.0 some.1 in reset_step some.0 next.0 some.1 next.1 next.2)
    ]
  ]

pub a_reset_does_all_or_nothing : {D : Type 0} (view : D → View) → AResetDoesAllOrNothing view
a_reset_does_all_or_nothing view old new z inside call how = did_reset (view old) (view new) z inside call how
