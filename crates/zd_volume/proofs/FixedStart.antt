-- WHAT A VOLUME STARTS AS keeps its own laws: both tables are those that the blocks hold, nothing is dirty, and a data
-- zone is held where an entry names it.
use Rattle.std.proofs.Common.{◌≡◌, ◌≢◌, ℕ, ◌*◌, ◌<◌, ◌≤◌, Bool, true, false, cond, List, length, get_or, replicate}
use Rattle.std.proofs.Common.{None, inl, inr, refl, sym, ap, ◌∙◌, arith}
use Rattle.std.proofs.lemmas.Bool.{cases_lt, false≢true, le-ltb, lt-ltb}
use Rattle.std.proofs.lemmas.List.{get_or-replicate, get_or_past, length-replicate}
use Rattle.std.proofs.lemmas.List.FromFn.{length-range_with_len}
use Rattle.zd_alloc.specs.Candidates.{Standings}
use Rattle.zd_alloc.specs.Zones.{Division, IsStart, use_at}
use Rattle.zd_alloc.specs.declared.uses.ZoneUse.{ZoneUse}
use Rattle.zd_alloc.specs.declared.uses.ZoneUse.TheVariants.{Free, Held, Limbo, Meta}
use Rattle.zd_base.specs.Geometry.{IsShape, Shape, zone_count}
use Rattle.zd_base.specs.Layout.{Fits, first_data_zone, used_blocks}
use Rattle.zd_model.specs.Super.{HasBlock}
use Rattle.zd_model.specs.declared.metadata.Super.{Super}
use Rattle.zd_tables.specs.Rules.{FollowRules}
use Rattle.zd_tables.specs.Tables.{tables_in}
use Rattle.zd_volume.specs.Jobs.{IsNamed}
use Rattle.zd_volume.specs.Sets.{AreSets, Sets}
use Rattle.zd_volume.specs.Starts.{started}
use Rattle.zd_volume.specs.Uses.{AreCandidates, AreFlags, AreUsed, FlagNamed}
use Rattle.zd_volume.specs.Volumes.{IsFixed, StandInZones}

-- sets with the same blocks in both
abbrev pub same_sets : Shape → Super → List ℕ → Sets
same_sets g head bytes = record { geometry = g; head = head; old = bytes; new = bytes }

-- a data zone at the start
not_meta : (named : Bool) → cond named Held Free ≡ Meta → ⊥
not_meta true is = cc
not_meta false is = cc

not_limbo : (named : Bool) → cond named Held Free ≡ Limbo → ⊥
not_limbo true is = cc
not_limbo false is = cc

is_named : (named : Bool) → cond named Held Free ≡ Held → named ≡ true
is_named true is = refl
is_named false is = absurd (let f : ⊥ = cc in f)

not_named : (named : Bool) → cond named Held Free ≡ Free → named ≡ true → ⊥
not_named true is same = cc
not_named false is same = false≢true same

module _ (g : Shape) (head : Super) (bytes : List ℕ) where
  abbrev first : ℕ
  first = first_data_zone g head.layout

  pub sets_start : IsShape g → Fits g head.layout → HasBlock head → FollowRules g head.layout bytes
      → length bytes ≡ 4096 * used_blocks g head.layout → AreSets (same_sets g head bytes)
  sets_start shape fits sizes rules size = record {
    shape = shape;
    fits = fits;
    sizes = sizes;
    old_rules = rules;
    new_rules = rules;
    old_size = size;
    new_size = size;
    limbo = rules.map.named_once;
  }

  pub flags_start : AreFlags (same_sets g head bytes) (replicate (used_blocks g head.layout) false)
  flags_start = record {
    size = length-replicate (used_blocks g head.layout) false;
    front = get_or-replicate (used_blocks g head.layout) 0 false true (omega arith);
    clean = λ k low off. refl;
  }

  module _ (rules : FollowRules g head.layout bytes) (division : Division) (named : List Bool)
      (start : IsStart g head.layout named division) (flags : FlagNamed g (tables_in g head.layout bytes) named) where
    abbrev flag : ℕ → Bool
    flag z = get_or named z false

    -- a zone that isn't metadata is there, and is a data zone
    data_zone : (z : ℕ) → use_at division.zones z ≢ Meta → (first ≤ z) × (z < zone_count g)
    data_zone z off = elim (cases_lt z (zone_count g)) [
      | inr past ↦
          absurd (off (get_or_past division.zones z Meta (let n = start.count in omega (arith, n, past))))
      | inl low ↦
          elim (cases_lt z first) [
            | inl below ↦
                absurd (off (start.uses z low
                ∙ ap (λ (b : Bool). cond b Meta (cond (flag z) Held Free)) (lt-ltb z first below)))
            | inr data_is ↦ (data_is, low)
          ]
    ]

    used_as : (z : ℕ) → first ≤ z → z < zone_count g → use_at division.zones z ≡ cond (flag z) Held Free
    used_as z data_is low =
        start.uses z low ∙ ap (λ (b : Bool). cond b Meta (cond (flag z) Held Free)) (le-ltb z first data_is)

    -- what it is used for, where that isn't metadata
    used_so : (z : ℕ) (u : ZoneUse) → u ≢ Meta → use_at division.zones z ≡ u
        → (z < zone_count g) × (cond (flag z) Held Free ≡ u)
    used_so z u off is =
        let at = data_zone z (λ same. off (sym is ∙ same)) in
        (at.1, sym (used_as z at.0 at.1) ∙ is)

    named_zone : (z : ℕ) → IsNamed (tables_in g head.layout bytes) z → (first ≤ z) × (z < zone_count g)
    named_zone z n = rules.map.data_zones n.0 z n.1

    held_is : (z : ℕ) → IsNamed (tables_in g head.layout bytes) z → use_at division.zones z ≡ Held
    held_is z n =
        let at = named_zone z n in
        used_as z at.0 at.1
        ∙ ap (λ (b : Bool). cond b Held Free) ((flags.each z at.1).1 n)

    pub used_start : AreUsed (same_sets g head bytes) None division
    used_start = record {
      count = start.count;
      conv = start.conv;
      order = ap (λ (xs : List ℕ). length xs) start.order ∙ length-range_with_len 0 head.layout.chunks;
      meta = λ z low. (
        (λ is. elim (cases_lt z first) [
          | inl below ↦ below
          | inr data_is ↦ absurd (not_meta (flag z) (sym (used_as z data_is low) ∙ is))
        ]),
        (λ below.
            start.uses z low
            ∙ ap (λ (b : Bool). cond b Meta (cond (flag z) Held Free)) (lt-ltb z first below)),
      );
      free = λ z is.
          let at = used_so z Free (λ x. cc) is in
          let bare : IsNamed (tables_in g head.layout bytes) z → ⊥ =
          λ n. not_named (flag z) at.1 ((flags.each z at.0).1 n) in
          (bare, bare, λ t. t);
      limbo = λ z is. absurd (not_limbo (flag z) (used_so z Limbo (λ x. cc) is).1);
      held = λ z is.
          let at = used_so z Held (λ x. cc) is in
          inl ((flags.each z at.0).0 (is_named (flag z) at.1));
      named = λ z n. held_is z n;
      target = λ z t. absurd t;
    }

  -- THE START
  pub fixed_start : (division : Division) (named : List Bool) (pointers : List ℕ) (standings : Standings)
      (buffer : List ℕ) → IsShape g → Fits g head.layout → HasBlock head → FollowRules g head.layout bytes
      → length bytes ≡ 4096 * used_blocks g head.layout → IsStart g head.layout named division
      → FlagNamed g (tables_in g head.layout bytes) named → length pointers ≡ zone_count g
      → StandInZones g pointers → AreCandidates (same_sets g head bytes) pointers division.order standings → length buffer ≡ 4096 * 32
      → IsFixed (started g head bytes (replicate (used_blocks g head.layout) false) division named pointers standings
      buffer)
  fixed_start division named pointers standings buffer shape fits sizes rules size start flags count in_zones candidates room =
      record {
        sets = sets_start shape fits sizes rules size;
        flags = flags_start;
        under_way = tt;
        uses = used_start rules division named start flags;
        named = flags;
        pointers = count;
        in_zones = in_zones;
        candidates = candidates;
        job = tt;
        room = room;
      }
