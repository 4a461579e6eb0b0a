-- Which bits of a zone are set against a rule, by what the map has the zone do.
use Rattle.std.proofs.Common.{◌≡◌, ℕ, zero, suc, ◌+◌, ◌*◌, ◌<◌, ◌≤◌, Bool, true, false, not, ◌&&◌, ◌||◌, List, [], map, Option, Some, None, refl, sym, ap, ◌∙◌, subst, inl, inr, arith, eqb, leb}
use Rattle.std.proofs.lemmas.List.FromFn.{get_or-map-range_with_len}
use Rattle.std.proofs.lemmas.Bool.{cases_lt, false≢true}
use borrow.Author.Tests.{eq-eqb, eqb-true, lt-ltb, le-ltb}
use Rattle.std.specs.Prelude.{IsSomeAnd}
use Rattle.std.specs.List.{list_all, range_with_len}
use Rattle.std.specs.Option.{option_map_or}
use Rattle.zd_base.specs.Geometry.{Shape, zone_count, is_conventional}
use Rattle.zd_base.specs.declared.layout.Layout.{Layout}
use Rattle.zd_model.specs.Faults.{has, is_twice}
use Rattle.zd_model.specs.Tables.{MapFollowsRules, NamesZone, Tables, entry_in_map, is_set, is_valid, named_zones}
use Rattle.zd_model.specs.declared.metadata.MapEntry.{MapEntry}
use Rattle.zd_examine.specs.Bits.{is_bad}
use Rattle.zd_tables.specs.Tables.{bits_in_blocks, entries_in, entry_in_blocks, tables_in}

-- a test that all of some numbers pass, and one that one doesn't
all_pass : {X : Type 0} (q : X → Bool) (f : ℕ → X) (a n : ℕ) → ((i : ℕ) → a ≤ i → i < a + n → q (f i) ≡ true) → list_all q (map f (range_with_len a n)) ≡ true
all_pass q f a zero pass = refl
all_pass q f a (suc n) pass = rw (pass a (omega arith) (omega arith)) (all_pass q f (a + 1) n (λ i low high. pass i (omega arith) (omega arith)))

one_fails : {X : Type 0} (q : X → Bool) (f : ℕ → X) (a n i : ℕ) → a ≤ i → i < a + n → q (f i) ≡ false → list_all q (map f (range_with_len a n)) ≡ false
one_fails q f a zero i low high fails = absurd (let wrong : ⊥ = omega arith in wrong)
one_fails q f a (suc n) i low high fails = elim (cases_lt a i) [
  | inl later ↦ ap (λ (b : Bool). q (f a) && b) (one_fails q f (a + 1) n i (omega arith) (omega arith) fails) ∙ and_no (q (f a))
  | inr late ↦ (let here : i ≡ a = omega arith in rw (sym (ap (λ k. q (f k)) here) ∙ fails) refl)
]
  where
    and_no : (x : Bool) → (x && false) ≡ false
    and_no true = refl
    and_no false = refl

module _ (g : Shape) (l : Layout) (bytes : List ℕ) (pointer : ℕ → ℕ) (rules : MapFollowsRules g l (entries_in l bytes)) where
  abbrev t : Tables
  t = tables_in g l bytes

  abbrev entry : ℕ → MapEntry
  entry = entry_in_blocks bytes

  entry_at : (c : ℕ) → c < l.chunks → entry_in_map (entries_in l bytes) c ≡ entry c
  entry_at c low = get_or-map-range_with_len entry 0 l.chunks c c _ low (omega arith)

  -- the bitmaps
  pub valid_is : (z x : ℕ) → z < zone_count g → is_valid t z x ≡ is_set (bits_in_blocks g l bytes z) x
  valid_is z x low = ap (λ (bits : List ℕ). is_set bits x) (get_or-map-range_with_len (bits_in_blocks g l bytes) 0 (zone_count g) z z [] low (omega arith))

  -- an entry whose buffer is this zone
  buffer_is : (z x : ℕ) (e : MapEntry) → is_twice t (z, x) e ≡ true → e.buffer ≡ Some z
  buffer_is z x e h = by_buffer e.buffer refl
    where
      left : (a b : Bool) → (a && b) ≡ true → a ≡ true
      left true b k = refl
      left false b k = k

      test : option_map_or (λ b. eqb b z) e.buffer false ≡ true
      test = left (option_map_or (λ b. eqb b z) e.buffer false) (option_map_or (λ y. is_valid t y x) e.zone false) h

      by_buffer : (o : Option ℕ) → e.buffer ≡ o → e.buffer ≡ Some z
      by_buffer None is = absurd (false≢true (sym (ap (λ (o : Option ℕ). option_map_or (λ b. eqb b z) o false) is) ∙ test))
      by_buffer (Some b) is = is ∙ ap Some (eqb-true b z (sym (ap (λ (o : Option ℕ). option_map_or (λ i. eqb i z) o false) is) ∙ test))

  -- a zone that a chunk names is one of the disk
  pub is_zone : (c z : ℕ) → c < l.chunks → NamesZone (entry c) z → z < zone_count g
  is_zone c z low named = (rules.data_zones c z (subst (λ (e : MapEntry). NamesZone e z) (sym (entry_at c low)) named)).1

  -- one chunk names a zone
  same_chunk : (c d z : ℕ) → c < l.chunks → d < l.chunks → NamesZone (entry c) z → NamesZone (entry d) z → c ≡ d
  same_chunk c d z low high first second =
      rules.named_once c d z (subst (λ (e : MapEntry). NamesZone e z) (sym (entry_at c low)) first) (subst (λ (e : MapEntry). NamesZone e z) (sym (entry_at d high)) second)

  -- a buffer is conventional, and its chunk's zone is not
  beside : (c b : ℕ) → c < l.chunks → (entry c).buffer ≡ Some b → (b < g.conv) × IsSomeAnd (entry c).zone (λ y. g.conv ≤ y)
  beside c b low is =
      let rule = rules.buffers c b (ap (λ (e : MapEntry). e.buffer) (entry_at c low) ∙ is) in
      (rule.0, subst (λ (e : MapEntry). IsSomeAnd e.zone (λ y. g.conv ≤ y)) (entry_at c low) rule.1)

  untwice : (z x : ℕ) → Bool
  untwice z x = list_all (λ e. not (is_twice t (z, x) e)) t.entries

  parts : (z x : ℕ) (named place twice : Bool) → has (named_zones t) z ≡ named → (is_conventional g z || leb (8 * x + 8) (pointer z)) ≡ place → list_all (λ e. not (is_twice t (z, x) e)) t.entries ≡ twice
      → is_bad g pointer t z x ≡ (is_valid t z x && not ((named && place) && twice))
  parts z x named place twice a b c = rw (a, b, c) refl

  -- no chunk names the zone: each valid bit is bad
  pub unnamed_bad : (z x : ℕ) → has (named_zones t) z ≡ false → is_bad g pointer t z x ≡ is_valid t z x
  unnamed_bad z x none = parts z x false _ _ none refl refl ∙ and_yes (is_valid t z x)
    where
      and_yes : (b : Bool) → (b && true) ≡ b
      and_yes true = refl
      and_yes false = refl

  -- the zone is that of a chunk, and so nobody's buffer
  no_twice : (z x c : ℕ) → c < l.chunks → (entry c).zone ≡ Some z → list_all (λ e. not (is_twice t (z, x) e)) t.entries ≡ true
  no_twice z x c low main = all_pass (λ e. not (is_twice t (z, x) e)) entry 0 l.chunks (λ d from high. by_test d (omega arith) (is_twice t (z, x) (entry d)) refl)
    where
      main_conventional : (d : ℕ) → d ≡ c → (z < g.conv) × IsSomeAnd (entry d).zone (λ y. g.conv ≤ y) → ⊥
      main_conventional d same rule =
          let zone : IsSomeAnd (Some z) (λ y. g.conv ≤ y) = subst (λ (o : Option ℕ). IsSomeAnd o (λ y. g.conv ≤ y)) (ap (λ i. (entry i).zone) same ∙ main) rule.1 in
          let low = rule.0 in omega arith

      by_test : (d : ℕ) → d < l.chunks → (b : Bool) → is_twice t (z, x) (entry d) ≡ b → not (is_twice t (z, x) (entry d)) ≡ true
      by_test d high false is = ap not is
      by_test d high true is =
          let buffer = buffer_is z x (entry d) is in
          absurd (main_conventional d (same_chunk d c z high low (inr buffer) (inl main)) (beside d z high buffer))

  pub conventional_bad : (z x c : ℕ) → has (named_zones t) z ≡ true → c < l.chunks → (entry c).zone ≡ Some z → z < g.conv → is_bad g pointer t z x ≡ false
  conventional_bad z x c named low main conv =
      parts z x true true true named (ap (λ (b : Bool). b || leb (8 * x + 8) (pointer z)) (lt-ltb z g.conv conv)) (no_twice z x c low main) ∙ and_no (is_valid t z x)
    where
      and_no : (b : Bool) → (b && false) ≡ false
      and_no true = refl
      and_no false = refl

  pub sequential_bad : (z x c : ℕ) → has (named_zones t) z ≡ true → c < l.chunks → (entry c).zone ≡ Some z → g.conv ≤ z
      → is_bad g pointer t z x ≡ (is_valid t z x && not (leb (8 * x + 8) (pointer z)))
  sequential_bad z x c named low main seq =
      parts z x true (leb (8 * x + 8) (pointer z)) true named (ap (λ (b : Bool). b || leb (8 * x + 8) (pointer z)) (le-ltb z g.conv seq)) (no_twice z x c low main)
      ∙ ap (λ (b : Bool). is_valid t z x && not b) (and_yes (leb (8 * x + 8) (pointer z)))
    where
      and_yes : (b : Bool) → ((true && b) && true) ≡ b
      and_yes true = refl
      and_yes false = refl

  -- the zone is the buffer beside this one
  pub buffer_bad : (z x main c : ℕ) → has (named_zones t) z ≡ true → c < l.chunks → (entry c).zone ≡ Some main → (entry c).buffer ≡ Some z
      → is_bad g pointer t z x ≡ (is_valid t z x && is_valid t main x)
  buffer_bad z x main c named low zone buffer = by_main (is_valid t main x) refl
    where
      conv : (is_conventional g z || leb (8 * x + 8) (pointer z)) ≡ true
      conv = ap (λ (b : Bool). b || leb (8 * x + 8) (pointer z)) (lt-ltb z g.conv (beside c z low buffer).0)

      twice_here : (e : MapEntry) → e.zone ≡ Some main → e.buffer ≡ Some z → is_twice t (z, x) e ≡ is_valid t main x
      twice_here e first second = rw (first, second, eq-eqb z z refl) refl

      untwiced : is_valid t main x ≡ false → (d : ℕ) → d < l.chunks → (b : Bool) → is_twice t (z, x) (entry d) ≡ b → not (is_twice t (z, x) (entry d)) ≡ true
      untwiced invalid d high false is = ap not is
      untwiced invalid d high true is =
          let same : d ≡ c = same_chunk d c z high low (inr (buffer_is z x (entry d) is)) (inr buffer) in
          absurd (false≢true (sym invalid ∙ sym (twice_here (entry c) zone buffer) ∙ ap (λ i. is_twice t (z, x) (entry i)) (sym same) ∙ is))

      by_main : (b : Bool) → is_valid t main x ≡ b → is_bad g pointer t z x ≡ (is_valid t z x && is_valid t main x)
      by_main true valid =
          parts z x true true false named conv (one_fails (λ e. not (is_twice t (z, x) e)) entry 0 l.chunks c (omega arith) (omega arith) (ap not (twice_here (entry c) zone buffer ∙ valid)))
          ∙ ap (λ (b : Bool). is_valid t z x && b) (sym valid)
      by_main false valid =
          parts z x true true true named conv (all_pass (λ e. not (is_twice t (z, x) e)) entry 0 l.chunks (λ d from high. untwiced valid d (omega arith) (is_twice t (z, x) (entry d)) refl))
          ∙ ap (λ (b : Bool). is_valid t z x && b) (sym valid)
