-- Pads, one call after another.
use Rattle.std.proofs.Common.{◌≡◌, ◌≢◌, ℕ, zero, suc, ◌+◌, ◌-◌, ◌^◌, ◌<◌, ◌≤◌, Bool, true, false, cond, not, ◌&&◌, ◌%◌, List, [], ◌∷◌, Some, get_or, length, ap₂, refl, sym, ap, ◌∙◌, subst, inl, inr, arith}
use Rattle.std.proofs.lemmas.Bool.{cases_eq, cases_lt, false≢true, le-ltb}
use borrow.Author.Tests.{eq-eqb, eqb-true, lt-ltb}
use Rattle.std.proofs.Math.ListN.{get_or-eq_default, set}
use Rattle.std.proofs.lemmas.List.{get_or-set_other, get_or-set_same, length-set}
use Rattle.std.proofs.lemmas.List.Sums.{sum_by-append}
use Rattle.zd_disk.proofs.RunLaws.{count_none, count_then}
use Rattle.std.specs.Prelude.{◌==◌, Result, Ok, Err, OnErr, count_by, slice_index, slice_index_or}
use Rattle.std.specs.List.{range_with_len}
use Rattle.zd_base.specs.Geometry.{Shape, is_conventional, zone_count}
use Rattle.zd_model.specs.Image.{Image, Same}
use Rattle.zd_model.proofs.EventLaws.{SameZone-refl, SameZone-trans}
use Rattle.zd_disk.specs.Growth.{Grows}
use Rattle.zd_disk.specs.Told.{WhereTold}
use Rattle.zd_disk.specs.View.{View, Calls, IsDurable, MadeOf, ReachesBy, Turns}
use Rattle.zd_disk.proofs.ViewLaws.{IsReadAs, by_then, read_as, told_is, turned, turned_back, turns_as, turns_here, turns_with}
use Rattle.zd_disk.proofs.SameSteps.{Same-refl}
use Rattle.zd_disk.proofs.ToldLaws.{Some-same}
use Rattle.zd_examine.specs.Examined.{ArePointers}
use Rattle.zd_examine.specs.Padded.{AreRoundedUp, HasPartOfPads, block_end, is_cut, IsPadStep, IsPadded, PadsAscending, PadsZone, needs_pad, pads_before}
use Rattle.zd_examine.proofs.PadLaws.{padded_more, padded_skip, padded_step, part_same, parts_more}

-- counts

before_more : (named : List Bool) (i : Image) (z n : ℕ) → cond (needs_pad named i z) 1 0 ≡ n
    → pads_before named i (z + 1) ≡ pads_before named i z + n
before_more named i z n is =
    ap (λ (k : ℕ). count_by (needs_pad named i) (range_with_len 0 k)) (let e : z + 1 ≡ z + 1 - 0 = omega arith in e)
    ∙ count_then (needs_pad named i) 0 z (z + 1) (omega arith) (omega arith)
    ∙ ap₂ (λ (x y : ℕ). count_by (needs_pad named i) (range_with_len 0 x) + count_by (needs_pad named i)
    (range_with_len z y))
    (let e : z - 0 ≡ z = omega arith in e) (let e : z + 1 - z ≡ 1 = omega arith in e)
    ∙ (let e : 0 + cond (needs_pad named i z) 1 0 ≡ n = omega (arith, is) in
    ap (λ (m : ℕ). pads_before named i z + m) e)

-- no conventional zone needs a pad
pub conventional_uncut : (g : Shape) (named : List Bool) (z pointer : ℕ) → z < g.conv
    → is_cut g named z pointer ≡ false
conventional_uncut g named z pointer low = let here : is_conventional g z ≡ true = lt-ltb z g.conv low in rw here refl

-- a sequential zone does where the map names it and its pointer stands inside a block
module _ (g : Shape) (named : List Bool) (z p q : ℕ) (seq : g.conv ≤ z) (same : q ≡ p) where
  sequential : is_conventional g z ≡ false
  sequential = le-ltb z g.conv seq

  not_equal : (n : ℕ) → (n ≡ 0 → ⊥) → (n == 0) ≡ false
  not_equal n other = by_test (n == 0) refl
    where
      by_test : (b : Bool) → (n == 0) ≡ b → (n == 0) ≡ false
      by_test true e = absurd (other (eqb-true n 0 e))
      by_test false e = e

  pub cut_by : slice_index_or named z false ≡ true → (q % 8 ≡ 0 → ⊥) → is_cut g named z p ≡ true
  cut_by flag inside =
      let cut : (p % 8 == 0) ≡ false = not_equal (p % 8) (λ e. inside (ap (λ n. n % 8) same ∙ e)) in
      rw (sequential, flag, cut) refl

  pub uncut_by : slice_index_or named z false ≡ false → is_cut g named z p ≡ false
  uncut_by flag = rw (sequential, flag) refl

  pub whole_by : q % 8 ≡ 0 → is_cut g named z p ≡ false
  whole_by whole =
      let none : (p % 8 == 0) ≡ true = eq-eqb (p % 8) 0 (ap (λ n. n % 8) (sym same) ∙ whole) in
      rw (sequential, none) (and_no (slice_index_or named z false))
    where
      and_no : (b : Bool) → (b && false) ≡ false
      and_no true = refl
      and_no false = refl

pub conventional_none : (named : List Bool) (i : Image) (z : ℕ) → z < i.geometry.conv → needs_pad named i z ≡ false
conventional_none named i z low = conventional_uncut i.geometry named z (i.held z) low

-- nor one behind all flags
pub past_none : (named : List Bool) (i : Image) (z : ℕ) → length named ≤ z → needs_pad named i z ≡ false
past_none named i z past = rw (get_or-eq_default named false past) (and_no (not (is_conventional i.geometry z)))
  where
    and_no : (b : Bool) → (b && false) ≡ false
    and_no true = refl
    and_no false = refl

pub none_before : (named : List Bool) (i : Image) (n : ℕ) → ((z : ℕ) → z < n → needs_pad named i z ≡ false)
    → pads_before named i n ≡ 0
none_before named i n none = count_none (needs_pad named i) 0 n (λ z above low. none z (omega arith))

-- and where none of so many zones needs one, each of them needs none
none_of : (p : ℕ → Bool) (a n k : ℕ) → count_by p (range_with_len a n) ≡ 0 → k < n → p (a + k) ≡ false
none_of p a zero k none low = absurd (let wrong : ⊥ = omega arith in wrong)
none_of p a (suc n) k none low =
    let split = sum_by-append (λ j. cond (p j) 1 0) (a ∷ []) (range_with_len (a + 1) n) in
    let rest : count_by p (range_with_len (a + 1) n) ≡ 0 = omega (arith, none, split) in
    elim (cases_lt 0 k) [
      | inl later ↦ (let at : a + k ≡ a + 1 + (k - 1) = omega arith in
          ap p at ∙ none_of p (a + 1) n (k - 1) rest (omega arith))
      | inr first ↦ (let at : a + k ≡ a = omega arith in ap p at ∙ no_one (p a) (omega (arith, none, split)))
    ]
  where
    one : Bool → ℕ
    one b = cond b 1 0

    no_one : (b : Bool) → one b ≡ 0 → b ≡ false
    no_one false e = refl
    no_one true e = absurd (let wrong : ⊥ = omega (arith, e) in wrong)

pub none_needed : (named : List Bool) (i : Image) (n z : ℕ) → pads_before named i n ≡ 0 → z < n
    → needs_pad named i z ≡ false
none_needed named i n z none low =
    let at : z ≡ 0 + z = omega arith in
    ap (needs_pad named i) at ∙ none_of (needs_pad named i) 0 n z none low

-- Calls in other words

pub calls_as : {b e : Image → Image → Image → Type 0} {begun : Image → Image → Image → Type 0}
    {ended : Image → Image → Image → Image → Type 0} {u v : View} {g : Shape}
    → u.told ≡ Some g → ((r a c : Image) → IsReadAs g u r → a.geometry ≡ g → begun r a c → b r a c)
    → ((r n a c : Image) → IsReadAs g u r → a.geometry ≡ g → ended r n a c → e r a c)
    → Calls begun ended u v → Calls b (λ r _. e r) u v
calls_as {b} {e} {begun} {ended} {u} {v} {g} told first second call = record {
  stays = call.stays;
  calls = call.calls;
  read_calls = call.read_calls;
  left = λ low. (turns_as {R = λ r n. Grows u.calls u.left v.left (b r) (e r)} {u = u} {v = v} told
      (λ r n is after grows. record {
        only = grows.only;
        kept = grows.kept;
        under_way = λ c can. (
            let here = grows.under_way c can in
            (here.0, here.1, first r here.0 c is (told_is u told u.calls here.0 (omega arith) here.1) here.2));
        returned = λ c can. (
            let here = grows.returned c can in
            (here.0, here.1, second r n here.0 c is (told_is u told u.calls here.0 (omega arith) here.1) here.2));
      }) (record { reads = call.left low })).reads;
}

-- one call that makes of an image the same, under way and returned, is one step of that way
by_call : {R : Image → Image → Image → Type 0} {u v : View} → Turns (λ i. R i i) u v → Calls R (λ i _. R i) u v
    → ReachesBy R u v
by_call {R} {u} {v} turns call = record {
  stays = call.stays;
  order = omega (arith, call.calls);
  reads = turns;
  left = λ low i e. (
      let grows = (turned {P = λ r n. Grows u.calls u.left v.left (R r) (R r)} {u = u} {v = v}
      (record { reads = call.left low }) i e).2 in
      let one : v.calls ≡ u.calls + 1 = omega (arith, call.calls, low) in
      record {
        earlier = λ k c under can. grows.only k c under can;
        each = λ k c above below can. elim (cases_lt u.calls k) [
          | inl over ↦ grows.returned c
              (subst (λ (n : ℕ). v.left n c) (let f : k ≡ u.calls + 1 = omega (arith, one) in f) can)
          | inr under ↦ grows.under_way c (subst (λ (n : ℕ). v.left n c) (let f : k ≡ u.calls = omega arith in f) can)
        ];
      });
}

-- the zones below z have their pads, by calls from a moment on at which a stop left what the disk read as
pub record HasPaddedTo (named : List Bool) (z : ℕ) (u v : View) : Type 0 where
  pub padded : Turns (IsPadded named z) u v
  pub way : ReachesBy (λ i _. HasPartOfPads named i) u v
  pub ascending : PadsAscending named u v
  pub counted : MadeOf (λ i. pads_before named i z) u v

-- what holds the same has no pads
same_parts : {named : List Bool} (i a : Image) → Same i a → HasPartOfPads named i a
same_parts i a same = record {
  geometry = same.geometry;
  pads = λ z need. part_same (same.zones z);
  others = λ z none. same.zones z;
}

-- whether a zone needs a pad is told by the pointers
pub need_is : (named : List Bool) {g : Shape} (u : View) (pointers : List ℕ) (z : ℕ) (b : Bool) → u.told ≡ Some g
    → WhereTold u.zones (λ i. ArePointers i pointers) → g.conv ≤ z → z < zone_count g
    → is_cut g named z (slice_index pointers z) ≡ b
    → WhereTold u.zones (λ i. needs_pad named i z ≡ b)
need_is named {g} u pointers z b told are seq low is i e =
    let same = (read_as {v = u} told i e).geometry in
    let conv = ap (λ (h : Shape). h.conv) same in
    let count = ap (λ (h : Shape). zone_count h) same in
    ap₂ (λ (h : Shape) (p : ℕ). is_cut h named z p) same
    (sym ((are i e).sequential z (omega (arith, seq, conv)) (omega (arith, low, count)))) ∙ is

-- the pointer of a zone that isn't padded yet
pub pointer_is : {named : List Bool} {g : Shape} {u v : View} (pointers : List ℕ) (z : ℕ) → u.told ≡ Some g
    → WhereTold u.zones (λ i. ArePointers i pointers) → g.conv ≤ z → z < zone_count g → HasPaddedTo named z u v
    → WhereTold v.zones (λ j. j.held z ≡ slice_index pointers z)
pointer_is {named} {g} {u} {v} pointers z told are seq low h j e =
    let there = turned_back h.padded j e in
    let same = (read_as {v = u} told there.0 there.1).geometry in
    let conv = ap (λ (h : Shape). h.conv) same in
    let count = ap (λ (h : Shape). zone_count h) same in
    (there.2.later z (omega arith)).held
    ∙ sym ((are there.0 there.1).sequential z (omega (arith, seq, conv)) (omega (arith, low, count)))

-- pointers

pub rounded_none : {g : Shape} {named : List Bool} (n : ℕ) (p : List ℕ) → n ≡ g.conv → AreRoundedUp g named n p p
rounded_none {g} {named} n p first = record {
  count = refl;
  pads = λ z low cut. absurd
      (false≢true (sym (conventional_uncut g named z (slice_index p z) (omega (arith, low, first))) ∙ cut));
  later = λ z high. refl;
  others = λ z none. refl;
}

pub rounded_skip : {g : Shape} {named : List Bool} {z : ℕ} {p q : List ℕ} → AreRoundedUp g named z p q
    → is_cut g named z (slice_index p z) ≡ false
    → AreRoundedUp g named (z + 1) p q
rounded_skip {g} {named} {z} {p} {q} h none = record {
  count = h.count;
  pads = λ y low cut. elim (cases_lt y z) [
    | inl under ↦ h.pads y under cut
    | inr at ↦ (let here : y ≡ z = omega arith in
        absurd (false≢true (sym none ∙ ap (λ n. is_cut g named n (slice_index p n)) (sym here) ∙ cut)))
  ];
  later = λ y high. h.later y (omega arith);
  others = h.others;
}

pub rounded_more : {g : Shape} {named : List Bool} {z : ℕ} {p q : List ℕ} (n : ℕ) → AreRoundedUp g named z p q
    → z < length q
    → is_cut g named z (slice_index p z) ≡ true → n ≡ block_end (slice_index p z)
    → AreRoundedUp g named (z + 1) p (set q z n)
rounded_more {g} {named} {z} {p} {q} n h low cut is = record {
  count = length-set q z n ∙ h.count;
  pads = λ y under some. elim (cases_eq y z) [
    | inl here ↦ ap (λ k. get_or (set q z n) k 0) here ∙ get_or-set_same q z n 0 low ∙ is
        ∙ ap (λ k. block_end (slice_index p k)) (sym here)
    | inr other ↦ get_or-set_other q z y n 0 other ∙ h.pads y (omega (arith, under, other)) some
  ];
  later = λ y high. get_or-set_other q z y n 0 (omega arith) ∙ h.later y (omega arith);
  others = λ y none. get_or-set_other q z y n 0
      (λ e. false≢true (sym none ∙ ap (λ k. is_cut g named k (slice_index p k)) e ∙ cut)) ∙ h.others y none;
}

module _ {named : List Bool} {g : Shape} {u : View} (told : u.told ≡ Some g) where
  -- no call yet
  pub padded_none : (n : ℕ) → n ≡ g.conv → IsDurable u → HasPaddedTo named n u u
  padded_none n first durable = record {
    padded = turns_here (λ i e. (let conv = ap (λ (h : Shape). h.conv) (read_as {v = u} told i e).geometry in record {
      geometry = refl;
      pads = λ z low need. absurd
          (false≢true (sym (conventional_none named i z (omega (arith, low, conv, first))) ∙ need));
      later = λ z high. SameZone-refl i z;
      others = λ z none. SameZone-refl i z;
    }));
    way = record {
      stays = record { told = λ h e. e; later = omega arith; read_calls = omega arith };
      order = omega arith;
      reads = turns_here (λ i e. same_parts i i (Same-refl i));
      left = λ low i e. record {
        earlier = λ k a under can. can;
        each = λ k a above below can.
            (let at : k ≡ u.calls = omega arith in let here = subst (λ (m : ℕ). u.left m a) at can in
            (a, here, same_parts i a (durable.left low i e a here)));
      };
    };
    ascending = record {
      left = λ low i e k z a above below can under.
          (durable.left low i e a
          (subst (λ (n : ℕ). u.left n a) (let f : k ≡ u.calls = omega arith in f) can)).zones z;
    };
    counted = record {
      number_is =
          λ low i e. (let conv = ap (λ (h : Shape). h.conv) (read_as {v = u} told i e).geometry in
          omega (
            arith,
            none_before named i n
                (λ z under. conventional_none named i z (omega (arith, under, conv, first))),
          ));
    };
  }

  module _ {z : ℕ} {v : View} (h : HasPaddedTo named z u v) where
    -- zone z needs none
    pub padded_past : WhereTold u.zones (λ i. needs_pad named i z ≡ false) → HasPaddedTo named (z + 1) u v
    padded_past none = record {
      padded = turns_as told (λ a b is after k. padded_skip k (none a is.is)) h.padded;
      way = h.way;
      ascending = h.ascending;
      counted = record {
        number_is = λ low i e. h.counted.number_is low i e
            ∙ ap (λ n. u.calls + n)
            (let f : pads_before named i z ≡ pads_before named i (z + 1) =
            omega (arith, before_more named i z 0 (ap (λ b. cond b 1 0) (none i e))) in f);
      };
    }

    -- it gets one
    module _ {w : View} (need : WhereTold u.zones (λ i. needs_pad named i z ≡ true))
        (call : Calls (λ r. IsPadStep r z) (λ r _. IsPadStep r z) v w) where
      pub way_next : Turns (λ i. IsPadStep i z i) v w → ReachesBy (λ i _. HasPartOfPads named i) u w
      way_next turns = by_then (λ i a b k. k) (λ i j a b c e m is before k step.
          let there = turned h.padded i e in
          let padded = subst (IsPadded named z i) (Some-same there.0 j (sym there.1 ∙ m)) there.2 in
          parts_more padded (need i e) k step) h.way (by_call turns call)

      pub ascending_next : PadsAscending named u w
      ascending_next = record {
        left = λ low i e k y a above below can under. (
            let there = (turned h.padded i e) in
            let grows = (turned {P = λ r n. Grows v.calls v.left w.left (IsPadStep r z) (IsPadStep r z)} {u = v}
            {v = w} (record { reads = call.left low }) there.0 there.1).2 in
            let one : w.calls ≡ v.calls + 1 = omega (arith, call.calls, low) in
            let fewer : v.calls < 2 ^ 64 - 1 = omega (arith, one, low) in
            let number = h.counted.number_is fewer i e in
            let order = h.way.order in
            elim (cases_lt k v.calls) [
              | inl early ↦ h.ascending.left fewer i e k y a above (omega (arith, early))
                  (grows.only k a early can) under
              | inr late ↦
                  let other : y ≢ z = λ f.
                  (let same = ap (λ n. pads_before named i n) f in omega (arith, same, under, late, number)) in
                  let step : (d : Image) × v.left v.calls d × IsPadStep there.0 z d a = elim (cases_lt v.calls k) [
                    | inl over ↦ grows.returned a
                        (subst (λ (n : ℕ). w.left n a)
                        (let f : k ≡ v.calls + 1 = omega (arith, over, below, one) in f) can)
                    | inr at ↦ grows.under_way a
                        (subst (λ (n : ℕ). w.left n a) (let f : k ≡ v.calls = omega (arith, at, late) in f) can)
                  ] in
                  SameZone-trans i step.0 a y
                  (h.ascending.left fewer i e v.calls y step.0 order (omega arith) step.1
                  (omega (arith, late, under)))
                  (step.2.others y other)
            ]);
      }

      pub padded_next : Turns (PadsZone z) v w → HasPaddedTo named (z + 1) u w
      padded_next done = record {
        padded = turns_with (λ a b c e m is k pad. padded_more k (need a e) pad) h.padded done;
        way = way_next (turns_as (h.way.stays.told g told) (λ a b is after k. padded_step k) done);
        ascending = ascending_next;
        counted = record {
          number_is = λ low i e. (
              let one : w.calls ≡ v.calls + 1 = omega (arith, call.calls, low) in
              let number = h.counted.number_is (omega (arith, one, low)) i e in
              let more = before_more named i z 1 (ap (λ b. cond b 1 0) (need i e)) in
              omega (arith, one, number, more));
        };
      }

pub err_anyway : {T E : Type 0} {P : Type 0} (r : Result T E) → P → OnErr r P
err_anyway (Ok x) p = tt
err_anyway (Err e) p = p
