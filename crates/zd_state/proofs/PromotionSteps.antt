-- A promotion, by the steps of its code.
use Rattle.std.proofs.Common.{◌≡◌, ◌↔◌, ℕ, zero, suc, ◌+◌, ◌-◌, ◌^◌, ◌<◌, ◌≤◌, Bool, true, false, cond, List, set, get_or}
use Rattle.std.proofs.Common.{Option, Some, None, IfNone, IfSome, IsSome, IsTrue, inl, inr, refl, sym, ap, ap₂, ◌∙◌, subst, arith}
use Rattle.std.proofs.lemmas.Bool.{cases_eq, false≢true}
use Rattle.std.specs.List.{find, range_with_len}
use Rattle.std.specs.Option.{is_some}
use Rattle.zd_base.specs.Geometry.{zone_count}
use Rattle.zd_alloc.specs.Candidates.{GivesClass}
use Rattle.zd_alloc.specs.Zones.{use_after_release}
use Rattle.zd_model.specs.Tables.{entry_of, is_valid}
use Rattle.zd_model.specs.declared.metadata.MapEntry.{MapEntry}
use Rattle.zd_model.proofs.FaultLaws.{some_is}
use Rattle.zd_tables.specs.Changes.{SetsEntry, entry_block}
use Rattle.zd_tables.specs.Held.{first_valid_block}
use Rattle.zd_tables.specs.Rules.{FollowRules}
use Rattle.zd_tables.specs.Tables.{tables_in}
use Rattle.zd_volume.specs.Flights.{tables_now}
use Rattle.zd_volume.specs.Jobs.{class_in}
use Rattle.zd_volume.specs.Volumes.{IsFixed, PlainVolume}
use Rattle.zd_routes.specs.Promotions.{IsBare, PromotesChunk}
use Rattle.zd_routes.proofs.FixedPromotions.{promoted_sets}
use Rattle.zd_routes.proofs.RouteBlocks.{promoted_entry}
use Rattle.zd_routes.proofs.RouteSteps.{promotes_by}

-- no number passes the test where none is found, and the other way round
none_from : (p : ℕ → Bool) (a n : ℕ) (b : Bool) → p a ≡ b → is_some (find p (range_with_len a (suc n))) ≡ false
    → (x : ℕ) → a ≤ x
    → (is_some (find p (range_with_len (a + 1) n)) ≡ false → a + 1 ≤ x → p x ≡ false) → p x ≡ false
none_from p a n true is none x from rest =
    absurd (false≢true (sym none
    ∙ ap (λ (c : Bool). is_some (cond c (Some a) (find p (range_with_len (a + 1) n)))) is))
none_from p a n false is none x from rest = elim (cases_eq x a) [
  | inl same ↦ ap p same ∙ is
  | inr off ↦
      rest (sym (ap (λ (c : Bool). is_some (cond c (Some a) (find p (range_with_len (a + 1) n)))) is) ∙ none)
      (omega (arith, from, off))
]

find_none : (p : ℕ → Bool) (a n : ℕ) → is_some (find p (range_with_len a n)) ≡ false
    → (x : ℕ) → a ≤ x → x < a + n → p x ≡ false
find_none p a zero none x from below = absurd (omega (arith, from, below))
find_none p a (suc n) none x from below =
    none_from p a n (p a) refl none x from (λ rest after. find_none p (a + 1) n rest x after (omega (arith, below)))

find_some : (p : ℕ → Bool) (a n : ℕ) → is_some (find p (range_with_len a n)) ≡ true
    → ((x : ℕ) → a ≤ x → x < a + n → p x ≡ false) → ⊥
find_some p a zero some none = false≢true some
find_some p a (suc n) some none =
    find_some p (a + 1) n
    (sym (ap (λ (c : Bool). is_some (cond c (Some a) (find p (range_with_len (a + 1) n))))
    (none a (omega arith) (omega arith))) ∙ some)
    (λ x from below. none x (omega (arith, from)) (omega (arith, below)))

module _ (v : PlainVolume) (fixed : IsFixed v) (chunk zone buffer : ℕ) (is : IsBare v chunk zone buffer) where
  -- both zones are zones of the disk
  pub zone_low : zone < zone_count v.geometry
  zone_low = (fixed.sets.new_rules.map.data_zones chunk zone (inl (ap (λ (e : MapEntry). e.zone) is.entry))).1

  pub buffer_field : buffer < 2 ^ 32 - 1
  buffer_field =
      let low = (fixed.sets.new_rules.map.data_zones chunk buffer (inr (ap (λ (e : MapEntry). e.buffer) is.entry))).1 in
      let count = fixed.sets.shape.count in
      omega (arith, low, count)

  -- THE STEPS: the entry is set, the zone is released, the chunk has its class
  module _ (a : PlainVolume) (entered : a ≡ record v { fresh = a.fresh; dirty = a.dirty })
      (sets : SetsEntry chunk (record { zone = Some buffer; buffer = None }) v.fresh a.fresh)
      (marked : a.dirty ≡ set v.dirty (entry_block chunk) true)
      (b : PlainVolume) (released : b ≡ record a { division = b.division }) where
    so_far : b ≡ record v { fresh = a.fresh; dirty = set v.dirty (entry_block chunk) true; division = b.division }
    so_far =
        released
        ∙ ap (λ (w : PlainVolume). record w { division = b.division }) entered
        ∙ ap (λ (m : List Bool). record v { fresh = a.fresh; dirty = m; division = b.division }) marked

    pub rules_promoted : FollowRules b.geometry b.head.layout b.fresh
    rules_promoted =
        let has = promoted_entry v chunk zone buffer a.fresh fixed.sets is sets in
        subst (λ (w : PlainVolume). FollowRules w.geometry w.head.layout w.fresh) (sym so_far)
        (promoted_sets v chunk zone buffer fixed is a.fresh has.tables has.only.size).new_rules

    pub promotes_in_steps : (c : PlainVolume)
        → c ≡ record b { standings = record b.standings { classes = c.standings.classes } }
        → b.division.zones ≡ set a.division.zones zone (use_after_release (get_or a.named zone false))
        → b.division.conv ≡ a.division.conv → b.division.order ≡ a.division.order
        → GivesClass chunk (class_in b.geometry b.pointers (tables_in b.geometry b.head.layout b.fresh) chunk)
        b.standings.classes c.standings.classes
        → PromotesChunk v c chunk zone buffer
    promotes_in_steps c classed zones conv order gives =
        subst (λ (w : PlainVolume). PromotesChunk v w chunk zone buffer) (sym all)
        (promotes_by v chunk zone buffer a.fresh b.division c.standings.classes fixed.sets is sets
        (zones ∙ ap (λ (w : PlainVolume). set w.division.zones zone (use_after_release (get_or w.named zone false)))
        entered)
        (conv ∙ ap (λ (w : PlainVolume). w.division.conv) entered)
        (order ∙ ap (λ (w : PlainVolume). w.division.order) entered)
        (subst (λ (w : PlainVolume). GivesClass chunk (class_in w.geometry w.pointers
        (tables_in w.geometry w.head.layout w.fresh) chunk) w.standings.classes c.standings.classes) so_far gives))
      where
        all : c ≡ record v {
          fresh = a.fresh;
          dirty = set v.dirty (entry_block chunk) true;
          division = b.division;
          standings = record v.standings { classes = c.standings.classes };
        }
        all =
            classed
            ∙ ap (λ (w : PlainVolume). record w { standings = record w.standings { classes = c.standings.classes } })
            so_far

-- A chunk's zones, of which the first has no valid block
module _ (v : PlainVolume) (fixed : IsFixed v) (chunk : ℕ) (low : chunk < v.head.layout.chunks) (e : MapEntry)
    (names : e ≡ entry_of (tables_now v) chunk) (zone buffer : ℕ) (has : e.zone ≡ Some zone) where
  pub own_low : zone < zone_count v.geometry
  own_low =
      (fixed.sets.new_rules.map.data_zones chunk zone
      (inl (ap (λ (m : MapEntry). m.zone) (sym names) ∙ has))).1

  pub bare_by : e.buffer ≡ Some buffer → is_some (first_valid_block v.geometry.zone_blocks (tables_now v) zone) ≡ false
      → IsBare v chunk zone buffer
  bare_by buffered none = record {
    there = low;
    entry = sym names ∙ ap₂ (λ (z b : Option ℕ). record { zone = z; buffer = b }) has buffered;
    bare = λ x within.
        find_none (is_valid (tables_now v) zone) 0 v.geometry.zone_blocks none x (omega arith) (omega (arith, within));
  }

  pub not_bare_by : is_some (first_valid_block v.geometry.zone_blocks (tables_now v) zone) ≡ true
      → (z b : ℕ) → IsBare v chunk z b → ⊥
  not_bare_by some z b is =
      let same : zone ≡ z =
      some_is zone z (sym has ∙ ap (λ (m : MapEntry). m.zone) names ∙ ap (λ (m : MapEntry). m.zone) is.entry) in
      find_some (is_valid (tables_now v) zone) 0 v.geometry.zone_blocks some
      (λ x _ within. subst (λ (n : ℕ). is_valid (tables_now v) n x ≡ false) (sym same)
      (is.bare x (omega (arith, within))))

-- what is found says whether it is so
pub bare_or_not : (v : PlainVolume) (chunk : ℕ) (found : Option (ℕ × ℕ)) → IfSome found (λ z. IsBare v chunk z.0 z.1)
    → IfNone found ((z b : ℕ) → IsBare v chunk z b → ⊥)
    → IsTrue (is_some found) ↔ ((z : ℕ) × (b : ℕ) × IsBare v chunk z b)
bare_or_not v chunk None some none = ((λ t. absurd (false≢true t)), (λ bare. absurd (none bare.0 bare.1 bare.2)))
bare_or_not v chunk (Some z) some none = ((λ t. (z.0, z.1, some)), (λ bare. refl))

pub found_bare : (v : PlainVolume) (chunk : ℕ) (found : Option (ℕ × ℕ))
    → IfNone found ((z b : ℕ) → IsBare v chunk z b → ⊥) → (z b : ℕ) → IsBare v chunk z b → IsSome found
found_bare v chunk None none z b is = absurd (none z b is)
found_bare v chunk (Some found) none z b is = refl

pub bare_found : (v : PlainVolume) (chunk : ℕ) (found : Option (ℕ × ℕ)) (zones : ℕ × ℕ) → found ≡ Some zones
    → IfSome found (λ z. IsBare v chunk z.0 z.1) → IsBare v chunk zones.0 zones.1
bare_found v chunk found zones is some = subst (λ (o : Option (ℕ × ℕ)). IfSome o (λ z. IsBare v chunk z.0 z.1)) is some
