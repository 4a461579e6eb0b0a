-- What a disk reads as after its calls, one after another; calls that only read, and counts of
-- calls.
use Rattle.std.proofs.Common.{◌≡◌, Option, Some, None, IsSome, ℕ, ◌+◌, ◌≤◌, refl, sym, ◌∙◌}
use Rattle.std.proofs.Common.{subst, arith}
use Rattle.zd_base.specs.Geometry.{Shape}
use Rattle.zd_model.specs.Image.{Image, IsImage, Same}
use Rattle.zd_disk.specs.Told.{Both, WhereTold}
use Rattle.zd_disk.specs.View.{View, Calls, Holds, IsDurable, Made, MadeReads, OnlyReads, ReadsNone}
use Rattle.zd_disk.specs.View.{ReadsOnce}
use Rattle.zd_disk.specs.View.{Stays, Turns}
use Rattle.zd_disk.proofs.ToldLaws.{Both-at-once, Both-by, Both-get, Both-join, Both-new, Some-same}

-- a disk of this geometry reads as this image
pub record IsReadAs (g : Shape) (v : View) (i : Image) : Type 0 where
  pub is : v.zones ≡ Some i
  pub image : IsImage i
  pub geometry : i.geometry ≡ g

pub read_as : {g : Shape} {v : View} → v.told ≡ Some g → (i : Image) → v.zones ≡ Some i → IsReadAs g v i
read_as {g} {v} told i e = record {
  is = e;
  image = v.shaped i e;
  geometry = Some-same i.geometry g (sym (v.agrees i e) ∙ told);
}

-- Turns

pub turned : {P : Image → Image → Type 0} {u v : View} → Turns P u v → (i : Image) → u.zones ≡ Some i
    → (j : Image) × (v.zones ≡ Some j) × P i j
turned {P} {u} {v} h i e = Both-get u.zones v.zones P i h.reads e

pub turned_back : {P : Image → Image → Type 0} {u v : View} → Turns P u v → (j : Image) → v.zones ≡ Some j
    → (i : Image) × (u.zones ≡ Some i) × P i j
turned_back {P} {u} {v} h j e = Both-new u.zones v.zones P j h.reads e

pub turns_as : {P R : Image → Image → Type 0} {u v : View} {g : Shape} → u.told ≡ Some g
    → ((a b : Image) → IsReadAs g u a → IsImage b → P a b → R a b)
    → Turns P u v → Turns R u v
turns_as {P} {R} {u} {v} told f h = record {
  reads = Both-by u.zones v.zones P R (λ a b e n p. f a b (read_as told a e) (v.shaped b n) p) h.reads;
}

pub turns_then : {P Q R : Image → Image → Type 0} {u v w : View} {g : Shape} → u.told ≡ Some g
    → ((a b c : Image) → IsReadAs g u a → IsImage b → IsImage c → P a b → Q b c → R a c)
    → Turns P u v → Turns Q v w → Turns R u w
turns_then {P} {Q} {R} {u} {v} {w} told f h k = record {
  reads = Both-join u.zones v.zones w.zones P Q R
      (λ a b c e m n p q. f a b c (read_as told a e) (v.shaped b m) (w.shaped c n) p q) h.reads k.reads;
}

pub turns_with : {P Q R : Image → Image → Type 0} {u v w : View}
    → ((a b c : Image) → u.zones ≡ Some a → v.zones ≡ Some b → IsImage c → P a b → Q b c → R a c)
    → Turns P u v → Turns Q v w → Turns R u w
turns_with {P} {Q} {R} {u} {v} {w} f h k = record {
  reads = Both-join u.zones v.zones w.zones P Q R (λ a b c e m n p q. f a b c e m (w.shaped c n) p q) h.reads k.reads;
}

-- no call, on a disk that reads so already
pub turns_here : {R : Image → Image → Type 0} {u : View} → ((i : Image) → u.zones ≡ Some i → R i i) → Turns R u u
turns_here {R} {u} f = record { reads = Both-at-once u.zones R f }

-- behind and before calls that only read
pub read_turns : {Q : Image → Image → Type 0} {u v w : View} → OnlyReads u v → Turns Q v w → Turns Q u w
read_turns {Q} {u} {v} {w} reads h =
    record { reads = subst (λ (o : Option Image). Both o w.zones Q) reads.zones h.reads }

pub turns_read : {P : Image → Image → Type 0} {u v w : View} → Turns P u v → OnlyReads v w → Turns P u w
turns_read {P} {u} {v} {w} h reads =
    record { reads = subst (λ (o : Option Image). Both u.zones o P) (sym reads.zones) h.reads }

-- one change after another, with the image between them
abbrev pub Then : (Image → Image → Type 0) → (Image → Image → Type 0) → Image → Image → Type 0
Then P Q a c = (b : Image) × P a b × Q b c

pub turns_both : {P Q : Image → Image → Type 0} {u v w : View} → Turns P u v → Turns Q v w → Turns (Then P Q) u w
turns_both {P} {Q} {u} {v} {w} h k = record {
  reads = Both-join u.zones v.zones w.zones P Q (Then P Q) (λ a b c e m n p q. (b, p, q)) h.reads k.reads;
}

-- OnlyReads

pub reads_then : {u v w : View} → OnlyReads u v → OnlyReads v w → OnlyReads u w
reads_then h k = record {
  stays = record {
    told = λ g e. k.stays.told g (h.stays.told g e);
    later = let a = h.stays.later in let b = k.stays.later in omega arith;
    read_calls = let a = h.stays.read_calls in let b = k.stays.read_calls in omega arith;
  };
  zones = k.zones ∙ h.zones;
  calls = k.calls ∙ h.calls;
  left = record {
    only = λ n i can. h.left.only n i (k.left.only n i can);
    kept = λ n i can. k.left.kept n i (h.left.kept n i can);
  };
}

pub stays_then : {u v w : View} → Stays u v → Stays v w → Stays u w
stays_then h k = record {
  told = λ g e. k.told g (h.told g e);
  later = let a = h.later in let b = k.later in omega arith;
  read_calls = let a = h.read_calls in let b = k.read_calls in omega arith;
}

-- counts of writing calls

pub called : {begun : Image → Image → Image → Type 0} {ended : Image → Image → Image → Image → Type 0} {u v : View}
    → Calls begun ended u v → Made 1 u v
called call = record { number_is = λ low. omega (arith, low, call.calls) }

pub made_then : {m n : ℕ} {u v w : View} → v.calls ≤ w.calls → Made m u v → Made n v w → Made (m + n) u w
made_then {m} {n} {u} {v} {w} order h k = record {
  number_is = λ low. omega (arith, low, order, h.number_is (omega (arith, low, order)), k.number_is low);
}

-- counts of reading calls

-- one more
pub read_once : {u v w : View} {m n : ℕ} → m ≡ n + 1 → MadeReads n u v → ReadsOnce v w → MadeReads m u w
read_once e made once =
    record { number_is = λ low. omega (arith, e, low, once, made.number_is (omega (arith, once, low))) }

-- those of other calls before and after
pub reads_between : {s t u v : View} {n : ℕ} → ReadsNone s t → MadeReads n t u → ReadsNone u v → MadeReads n s v
reads_between before made after = record {
  number_is = λ low. omega (arith, before, after, made.number_is (omega (arith, after, low)));
}

-- what reads leave durable is
pub durable_read : {u v : View} → OnlyReads u v → IsDurable u → IsDurable v
durable_read {u} {v} reads durable = record {
  left = λ low i e other can. durable.left (omega (arith, low, reads.calls)) i (sym reads.zones ∙ e) other
      (subst (λ (n : ℕ). u.left n other) reads.calls (reads.left.only v.calls other can));
}

Some-get : {X : Type 0} (o : Option X) → IsSome o → (x : X) × (o ≡ Some x)
Some-get None h = absurd (let f : ⊥ = cc in f)
Some-get (Some x) h = (x, refl)

-- what holds of what the disk reads as holds of what a stop leaves, where that is the same
pub holds_durable : {P : Image → Type 0} {v : View} {g : Shape} → v.told ≡ Some g → IsDurable v
    → ((a b : Image) → a.geometry ≡ g → IsImage a → Same a b → P a → P b) → WhereTold v.zones P → Holds P v
holds_durable {P} {v} told durable f now = record {
  now = now;
  left = λ low b can. (
      let there = Some-get v.zones (v.leaves v.calls b (omega arith) can).2 in
      let is = read_as {v = v} told there.0 there.1 in
      f there.0 b is.geometry is.image (durable.left low there.0 there.1 b can) (now there.0 there.1));
}

-- in other words
pub holds_as : {P Q : Image → Type 0} {v : View} → ((i : Image) → P i → Q i) → Holds P v → Holds Q v
holds_as f h = record { now = λ i e. f i (h.now i e); left = λ low i can. f i (h.left low i can) }
