-- What a stop may leave after any number of calls, one after another.
use Rattle.std.proofs.Common.{◌≡◌, Some, ℕ, ◌+◌, ◌-◌, ◌^◌, ◌<◌, ◌≤◌, inl, inr, sym, ◌∙◌, subst}
use Rattle.std.proofs.Common.{arith}
use Rattle.std.proofs.lemmas.Bool.{cases_lt}
use Rattle.zd_base.specs.Geometry.{Shape}
use Rattle.zd_model.specs.Image.{Image, IsImage, Same}
use Rattle.zd_disk.specs.View.{View, Calls, Holds, IsDurable, Keeps, OnlyReads, Reaches, ReachesBy}
use Rattle.zd_disk.specs.View.{Turns}
use Rattle.zd_disk.proofs.SameSteps.{Same-refl}
use Rattle.zd_disk.proofs.ToldLaws.{Both-by, Both-get, Both-join, Some-same}
pub use Rattle.zd_disk.proofs.TurnLaws.{IsReadAs, read_as, turned, turned_back, turns_as}
pub use Rattle.zd_disk.proofs.TurnLaws.{turns_then, turns_with, turns_here, read_turns, turns_read}
pub use Rattle.zd_disk.proofs.TurnLaws.{Then, turns_both, reads_then, stays_then, called, made_then}
pub use Rattle.zd_disk.proofs.TurnLaws.{read_once, reads_between, durable_read, holds_durable}
pub use Rattle.zd_disk.proofs.TurnLaws.{holds_as}

-- a way in which images of a geometry change: to hold the same is one, and one after another
pub record IsWay (g : Shape) (R : Image → Image → Type 0) : Type 0 where
  pub same : (a b : Image) → IsImage a → a.geometry ≡ g → Same a b → R a b
  pub then : (a b c : Image) → R a b → R b c → R a c

-- Reaches

pub told_is : {g : Shape} (v : View) → v.told ≡ Some g → (k : ℕ) (i : Image) → k ≤ v.calls → v.left k i → i.geometry ≡ g
told_is {g} v told k i low can = Some-same i.geometry g (sym (v.leaves k i low can).1 ∙ told)

-- in other words, where this holds of the images before
pub reaches_where : {P R : Image → Image → Type 0} {A : Image → Type 0} {u v : View} {g : Shape}
    → u.told ≡ Some g → Holds A u
    → ((a b : Image) → A a → a.geometry ≡ g → IsImage a → IsImage b → P a b → R a b)
    → Reaches P u v → Reaches R u v
reaches_where {P} {R} {A} {u} {v} told holds f h = record {
  stays = h.stays;
  order = h.order;
  reads = record {
    reads = Both-by u.zones v.zones P R (λ a b e n p. (
        let is = read_as {v = u} told a e in
        f a b (holds.now a e) is.geometry is.image (v.shaped b n) p)) h.reads.reads;
  };
  left = λ low i e. (
      let leaves = h.left low i e in
      let under : u.calls < 2 ^ 64 - 1 = omega (arith, h.order) in
      record {
        earlier = leaves.earlier;
        each = λ k b above below can. let one = leaves.each k b above below can in (
          one.0,
          one.1,
          f one.0 b (holds.left under one.0 one.1) (told_is u told u.calls one.0 (omega arith) one.1)
              (u.leaves u.calls one.0 (omega arith) one.1).0 (v.leaves k b below can).0 one.2,
        );
      });
}

pub reaches_as : {P R : Image → Image → Type 0} {u v : View} {g : Shape} → u.told ≡ Some g
    → ((a b : Image) → a.geometry ≡ g → IsImage a → IsImage b → P a b → R a b) → Reaches P u v → Reaches R u v
reaches_as told f h =
    reaches_where {A = λ _. Unit {0}} told (record { now = λ _ _. tt; left = λ _ _ _. tt })
    (λ a b _ shape image after p. f a b shape image after p) h

-- one after another
pub reaches_then : {P Q R : Image → Image → Type 0} {u v w : View} → ((a b : Image) → P a b → R a b)
    → ((a b c : Image) → P a b → Q b c → R a c)
    → Reaches P u v → Reaches Q v w → Reaches R u w
reaches_then {P} {Q} {R} {u} {v} {w} first join h k = record {
  stays = stays_then h.stays k.stays;
  order = let a = h.order in let b = k.order in omega arith;
  reads = record {
    reads = Both-join u.zones v.zones w.zones P Q R (λ a b c e m n p q. join a b c p q) h.reads.reads
        k.reads.reads;
  };
  left = λ low i e. (
      let there = Both-get u.zones v.zones P i h.reads.reads e in
      let one = h.left (omega (arith, low, k.order)) i e in
      let two = k.left low there.0 there.1 in
      record {
        earlier = λ n b under can. one.earlier n b under (two.earlier n b (omega (arith, under, h.order)) can);
        each = λ n b above below can. elim (cases_lt n v.calls) [
          | inl early ↦
              let here = one.each n b above (omega (arith, early)) (two.earlier n b early can) in
              (here.0, here.1, first here.0 b here.2)
          | inr late ↦
              let here = two.each n b late below can in
              let before = one.each v.calls here.0 h.order (omega arith) here.1 in
              (before.0, before.1, join before.0 here.0 b before.2 here.2)
        ];
      });
}

-- behind and before calls that only read
pub read_reaches : {Q : Image → Image → Image → Type 0} {u v w : View}
    → OnlyReads u v → ReachesBy Q v w → ReachesBy Q u w
read_reaches {Q} {u} {v} {w} reads h = record {
  stays = stays_then reads.stays h.stays;
  order = omega (arith, reads.calls, h.order);
  reads = read_turns reads h.reads;
  left = λ low i e. (
      let leaves = h.left low i (reads.zones ∙ e) in
      record {
        earlier = λ k b under can. reads.left.only k b (leaves.earlier k b (omega (arith, under, reads.calls)) can);
        each = λ k b above below can. let one = leaves.each k b (omega (arith, above, reads.calls)) below can in
            (one.0, subst (λ (n : ℕ). u.left n one.0) reads.calls (reads.left.only v.calls one.0 one.1), one.2);
      });
}

pub reaches_read : {P : Image → Image → Image → Type 0} {u v w : View}
    → ReachesBy P u v → OnlyReads v w → ReachesBy P u w
reaches_read {P} {u} {v} {w} h reads = record {
  stays = stays_then h.stays reads.stays;
  order = omega (arith, reads.calls, h.order);
  reads = turns_read h.reads reads;
  left = λ low i e. (
      let leaves = h.left (omega (arith, low, reads.calls)) i e in
      record {
        earlier = λ k b under can. leaves.earlier k b under (reads.left.only k b can);
        each = λ k b above below can.
            leaves.each k b above (omega (arith, below, reads.calls)) (reads.left.only k b can);
      });
}

-- one writing call
pub reaches_call : {R : Image → Image → Type 0} {u v : View} {begun : Image → Image → Image → Type 0}
    {ended : Image → Image → Image → Image → Type 0} {g : Shape}
    → u.told ≡ Some g → Calls begun ended u v → Turns R u v
    → ((old a b : Image) → a.geometry ≡ g → IsImage a → IsImage b → begun old a b → R a b)
    → ((old now a b : Image) → a.geometry ≡ g → IsImage a → IsImage b → ended old now a b → R a b) → Reaches R u v
reaches_call {R} {u} {v} {begun} {ended} {g} told call turns first second = record {
  stays = call.stays;
  order = omega (arith, call.calls);
  reads = turns;
  left = λ low i e. (
      let now = Both-get u.zones v.zones _ i (call.left low) e in
      let one : v.calls ≡ u.calls + 1 = omega (arith, call.calls, low) in
      let is : (a : Image) → u.left u.calls a → IsImage a = λ a can. (u.leaves u.calls a (omega arith) can).0 in
      record {
        earlier = λ k b under can. now.2.only k b under can;
        each = λ k b above below can. elim (cases_lt u.calls k) [
          | inl over ↦
              let at = subst (λ (n : ℕ). v.left n b) (let f : k ≡ u.calls + 1 = omega arith in f) can in
              let here = now.2.returned b at in (
                here.0,
                here.1,
                second i now.0 here.0 b (told_is u told u.calls here.0 (omega arith) here.1)
                    (is here.0 here.1) (v.leaves k b below can).0 here.2,
              )
          | inr under ↦
              let at = subst (λ (n : ℕ). v.left n b) (let f : k ≡ u.calls = omega arith in f) can in
              let here = now.2.under_way b at in (
                here.0,
                here.1,
                first i here.0 b (told_is u told u.calls here.0 (omega arith) here.1)
                    (is here.0 here.1) (v.leaves k b below can).0 here.2,
              )
        ];
      });
}

pub reaches_flush : {u v : View} → Turns Same u v → Calls (λ _. Same) (λ _ _. Same) u v → Reaches Same u v
reaches_flush {u} {v} same call = record {
  stays = call.stays;
  order = omega (arith, call.calls);
  reads = same;
  left = λ low i e. (
      let now = Both-get u.zones v.zones _ i (call.left low) e in
      let one : v.calls ≡ u.calls + 1 = omega (arith, call.calls, low) in
      record {
        earlier = λ k b under can. now.2.only k b under can;
        each = λ k b above below can. elim (cases_lt u.calls k) [
          | inl over ↦ now.2.returned b (subst (λ (n : ℕ). v.left n b) (let f : k ≡ u.calls + 1 = omega arith in f) can)
          | inr under ↦ now.2.under_way b (subst (λ (n : ℕ). v.left n b) (let f : k ≡ u.calls = omega arith in f) can)
        ];
      });
}

module _ {R : Image → Image → Type 0} {g : Shape} (way : IsWay g R) where
  -- calls, and a flush
  pub way_then : {u v w : View} → Reaches R u v → Reaches R v w → Reaches R u w
  way_then h k = reaches_then (λ a b p. p) way.then h k

  pub way_flush : {u v w : View} → u.told ≡ Some g → Reaches R u v → Turns Same v w
      → Calls (λ _. Same) (λ _ _. Same) v w → Reaches R u w
  way_flush {u} {v} {w} told h same call =
      way_then h (reaches_as (h.stays.told g told) (λ a b shape image after p. way.same a b image shape p)
      (reaches_flush same call))

  -- and from what the disk reads as, where a stop would have left that alone
  pub from_durable : {u v : View} → Reaches R u v → IsDurable u → v.calls < 2 ^ 64 - 1 → (a : Image) → IsReadAs g u a
      → (k : ℕ) (i : Image) → u.calls ≤ k → k ≤ v.calls → v.left k i → R a i
  from_durable {u} {v} h durable low a is k i above below can =
      let one = (h.left low a is.is).each k i above below can in
      way.then a one.0 i
      (way.same a one.0 is.image is.geometry (durable.left (omega (arith, low, h.order)) a is.is one.0 one.1)) one.2

  pub keeps_first : {u v : View} {P : Image → Image → Type 0} → u.told ≡ Some g
      → ((a b : Image) → IsReadAs g u a → IsImage b → R a b → P a b)
      → Reaches R u v → Keeps P u v
  keeps_first {u} {v} {P} told f h = record {
    reads = turns_as told f h.reads;
    left = λ low durable a e k i above below can. (
        let is = read_as told a e in
        f a i is (v.leaves k i below can).0 (from_durable h durable low a is k i above below can));
  }

  -- behind others, after which a stop leaves what the disk reads as
  pub keeps_then : {u v : View} {P M : Image → Image → Type 0} {o : View} → u.told ≡ Some g
      → o.told ≡ Some g → Keeps P o u → Turns M o u → o.calls ≤ u.calls
      → (IsDurable o → IsDurable u) → ((a b c : Image) → IsReadAs g o a → IsImage c → M a b → R b c → P a c)
      → Reaches R u v → Keeps P o v
  keeps_then {u} {v} {P} {M} {o} told first before turns order durable f h = record {
    reads = turns_then first (λ a b c is middle after m r. f a b c is after m r) turns h.reads;
    left = λ low was a e k i above below can. (
        let there = turned turns a e in
        elim (cases_lt k u.calls) [
          | inl early ↦ before.left (omega (arith, low, h.order)) was a e k i above (omega (arith, early))
              ((h.left low there.0 there.1).earlier k i early can)
          | inr late ↦ f a there.0 i (read_as first a e) (v.leaves k i below can).0 there.2
              (from_durable h (durable was) low there.0 (read_as told there.0 there.1) k i late below can)
        ]);
  }

-- Ways that depend on what the disk first read as

pub by_as : {P R : Image → Image → Image → Type 0} {u v : View} → ((i a b : Image) → P i a b → R i a b)
    → ReachesBy P u v → ReachesBy R u v
by_as {P} {R} {u} {v} f h = record {
  stays = h.stays;
  order = h.order;
  reads = record { reads = Both-by u.zones v.zones (λ i. P i i) (λ i. R i i) (λ a b e n p. f a a b p) h.reads.reads };
  left = λ low i e. record {
    earlier = (h.left low i e).earlier;
    each = λ k b above below can.
        let one = (h.left low i e).each k b above below can in (one.0, one.1, f i one.0 b one.2);
  };
}

pub by_then : {P Q R : Image → Image → Image → Type 0} {u v w : View} → ((i a b : Image) → P i a b → R i a b)
    → ((i j a b c : Image) → u.zones ≡ Some i → v.zones ≡ Some j → IsImage c → P i i j → P i a b → Q j b c → R i a c)
    → ReachesBy P u v → ReachesBy Q v w → ReachesBy R u w
by_then {P} {Q} {R} {u} {v} {w} first join h k = record {
  stays = stays_then h.stays k.stays;
  order = let a = h.order in let b = k.order in omega arith;
  reads = record {
    reads = Both-join u.zones v.zones w.zones (λ i. P i i) (λ j. Q j j) (λ i. R i i)
        (λ a b c e m n p q. join a b a b c e m (w.shaped c n) p p q) h.reads.reads k.reads.reads;
  };
  left = λ low i e. (
      let there = Both-get u.zones v.zones (λ a. P a a) i h.reads.reads e in
      let one = h.left (omega (arith, low, k.order)) i e in
      let two = k.left low there.0 there.1 in
      record {
        earlier = λ n b under can. one.earlier n b under (two.earlier n b (omega (arith, under, h.order)) can);
        each = λ n b above below can. elim (cases_lt n v.calls) [
          | inl early ↦
              let here = one.each n b above (omega (arith, early)) (two.earlier n b early can) in
              (here.0, here.1, first i here.0 b here.2)
          | inr late ↦
              let here = two.each n b late below can in
              let before = one.each v.calls here.0 h.order (omega arith) here.1 in (
                before.0,
                before.1,
                join i there.0 before.0 here.0 b e there.1 (w.leaves n b below can).0 there.2
                    before.2 here.2,
              )
        ];
      });
}

-- what keeps what the disk reads as, where a stop would have left that alone, leaves nothing else
pub by_kept : {P R : Image → Image → Type 0} {u v : View} → IsDurable u → Keeps P u v → Reaches R u v
    → ReachesBy (λ i _ b. P i b) u v
by_kept {P} {R} {u} {v} durable kept h = record {
  stays = h.stays;
  order = h.order;
  reads = kept.reads;
  left = λ low i e. record {
    earlier = (h.left low i e).earlier;
    each = λ k b above below can.
        (i, u.reads i (omega (arith, low, h.order)) e, kept.left low durable i e k b above below can);
  };
}

-- and the other way round
pub kept_by : {R : Image → Image → Image → Type 0} {P : Image → Image → Type 0} {u v : View}
    → ((i a b : Image) → u.zones ≡ Some i → Same i a → R i a b → P i b) → ReachesBy R u v → Keeps P u v
kept_by {R} {P} {u} {v} f h = record {
  reads = record {
    reads = Both-by u.zones v.zones (λ i. R i i) P (λ a b e n p. f a a b e (Same-refl a) p) h.reads.reads;
  };
  left = λ low durable i e k b above below can. (
      let one = (h.left low i e).each k b above below can in
      f i one.0 b e (durable.left (omega (arith, low, h.order)) i e one.0 one.1) one.2);
}

pub keeps_read : {P : Image → Image → Type 0} {u v w : View} → Keeps P u v → OnlyReads v w → Keeps P u w
keeps_read {P} {u} {v} {w} h reads = record {
  reads = turns_read h.reads reads;
  left = λ low durable i e k b above below can. h.left (omega (arith, low, reads.calls)) durable i e k b above
      (omega (arith, below, reads.calls)) (reads.left.only k b can);
}

-- no call at all
pub by_none : {R : Image → Image → Image → Type 0} {u : View} → ((i a : Image) → R i a a) → ReachesBy R u u
by_none {R} {u} f = record {
  stays = record { told = λ g e. e; later = omega arith; read_calls = omega arith };
  order = omega arith;
  reads = turns_here (λ i e. f i i);
  left = λ low i e. record {
    earlier = λ k b under can. can;
    each = λ k b above below can.
        (b, subst (λ (n : ℕ). u.left n b) (let at : k ≡ u.calls = omega arith in at) can, f i b);
  };
}
