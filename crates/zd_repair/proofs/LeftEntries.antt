-- What is left of an entry is right, beside what earlier chunks name.
use Rattle.std.proofs.Common.{◌≡◌, ℕ, ◌<◌, Bool, true, false, cond, not, ◌&&◌, List, Option, Some, None, refl, sym, ap, ◌∙◌, subst, arith, leb, ltb}
use borrow.Author.Tests.{ltb-true}
use Rattle.std.specs.Option.{option_map_or}
use Rattle.zd_base.specs.Geometry.{IsShape, Shape, zone_count}
use Rattle.zd_base.specs.Layout.{first_data_zone}
use Rattle.zd_base.specs.declared.layout.Layout.{Layout}
use Rattle.zd_map.specs.Numbers.{NamesZones, unmapped}
use Rattle.zd_model.specs.Faults.{has, is_new_zone, is_right_buffer, is_right_entry}
use Rattle.zd_model.specs.declared.metadata.MapEntry.{MapEntry}
use Rattle.zd_model.specs.Tables.{entry_of}
use Rattle.zd_model.proofs.FaultLaws.{both}
use Rattle.zd_tables.specs.Tables.{entry_in_blocks, tables_in}
use Rattle.std.proofs.lemmas.List.FromFn.{get_or-map-range_with_len}
use Rattle.zd_examine.proofs.EntryLaws.{entry_is_right}
use Rattle.zd_repair.specs.Repaired.{left_of}

module _ (g : Shape) (l : Layout) (earlier : List ℕ) (e : MapEntry) where
  abbrev zone_new : Bool
  zone_new = option_map_or (is_new_zone g l earlier) e.zone true

  abbrev buffer_new : Bool
  buffer_new = option_map_or (is_new_zone g l earlier) e.buffer true

  abbrev beside : Bool
  beside = option_map_or (is_right_buffer g e.zone) e.buffer true

  abbrev right : Bool
  right = is_right_entry g l earlier e

  by_buffer : zone_new ≡ true → is_right_entry g l earlier e ≡ (buffer_new && beside)
  by_buffer new = entry_is_right g l earlier e ∙ ap (λ (b : Bool). (b && buffer_new) && beside) new

  -- a right entry, one whose buffer is wrong, and one whose zone is
  pub nothing_wrong : zone_new ≡ true → (buffer_new && beside) ≡ true
      → ◌≡◌ {A = Option MapEntry} None (cond (is_right_entry g l earlier e) None (Some (left_of g l earlier e)))
  nothing_wrong new fine = ap (λ (b : Bool). cond b None (Some (left_of g l earlier e))) (sym (by_buffer new ∙ fine))

  pub wrong_buffer : zone_new ≡ true → (buffer_new && beside) ≡ false
      → ◌≡◌ {A = Option MapEntry} (Some (record { zone = e.zone; buffer = None }))
      (cond (is_right_entry g l earlier e) None (Some (left_of g l earlier e)))
  wrong_buffer new wrong = rw (by_buffer new ∙ wrong, new) refl

  pub wrong_zone : zone_new ≡ false
      → ◌≡◌ {A = Option MapEntry} (Some unmapped) (cond (is_right_entry g l earlier e) None (Some (left_of g l earlier e)))
  wrong_zone old =
      let wrong : is_right_entry g l earlier e ≡ false = entry_is_right g l earlier e ∙ ap (λ (b : Bool). (b && buffer_new) && beside) old in
      rw (wrong, old) refl

  pub left_if_right : is_right_entry g l earlier e ≡ true → left_of g l earlier e ≡ e
  left_if_right fine = rw fine refl

  -- what is left is right
  zone_alone : zone_new ≡ true → is_right_entry g l earlier (record { zone = e.zone; buffer = None }) ≡ true
  zone_alone new = entry_is_right g l earlier (record { zone = e.zone; buffer = None }) ∙ rw new refl

  pub left_right : is_right_entry g l earlier (left_of g l earlier e) ≡ true
  left_right = by_right (is_right_entry g l earlier e) refl
    where
      by_zone : (a : Bool) → zone_new ≡ a
          → is_right_entry g l earlier (cond a (record { zone = e.zone; buffer = None }) unmapped) ≡ true
      by_zone true new = zone_alone new
      by_zone false old = refl

      by_right : (b : Bool) → is_right_entry g l earlier e ≡ b
          → is_right_entry g l earlier (cond b e (cond zone_new (record { zone = e.zone; buffer = None }) unmapped)) ≡ true
      by_right true fine = fine
      by_right false wrong = by_zone zone_new refl

  -- and its zones have numbers
  new_low : IsShape g → (z : ℕ) → is_new_zone g l earlier z ≡ true → z < 0xFFFFFFFF
  new_low shape z new =
      let within = both (leb (first_data_zone g l) z && ltb z (zone_count g)) (not (has earlier z)) new in
      let low = ltb-true z (zone_count g) (both (leb (first_data_zone g l) z) (ltb z (zone_count g)) within.0).1 in
      let most = shape.count.most in
      omega (arith, low, most)

  pub left_names : IsShape g → is_right_entry g l earlier e ≡ false → NamesZones (left_of g l earlier e)
  left_names shape wrong = rw wrong (by_zone e.zone zone_new refl refl)
    where
      by_zone : (o : Option ℕ) (a : Bool) → e.zone ≡ o → zone_new ≡ a → NamesZones (cond a (record { zone = e.zone; buffer = None }) unmapped)
      by_zone o false is old = (tt, tt)
      by_zone None true is new = rw is (tt, tt)
      by_zone (Some z) true is new =
          rw is (new_low shape z (sym (ap (λ (o : Option ℕ). option_map_or (is_new_zone g l earlier) o true) is) ∙ new), tt)

-- what the correction of an entry tells
module _ (g : Shape) (l : Layout) (earlier : List ℕ) (e : MapEntry) (o : Option MapEntry)
    (is : o ≡ cond (is_right_entry g l earlier e) None (Some (left_of g l earlier e))) where
  by_test : (b : Bool) → is_right_entry g l earlier e ≡ b → o ≡ cond b None (Some (left_of g l earlier e))
  by_test b test = is ∙ ap (λ (t : Bool). cond t None (Some (left_of g l earlier e))) test

  pub corrected_none : o ≡ None → is_right_entry g l earlier e ≡ true
  corrected_none none = go (is_right_entry g l earlier e) refl
    where
      go : (b : Bool) → is_right_entry g l earlier e ≡ b → is_right_entry g l earlier e ≡ true
      go true fine = fine
      go false wrong = absurd (let no = sym (by_test false wrong) ∙ none in cc)

  pub corrected_some : (left : MapEntry) → o ≡ Some left → (is_right_entry g l earlier e ≡ false) × (left ≡ left_of g l earlier e)
  corrected_some left some = go (is_right_entry g l earlier e) refl
    where
      go : (b : Bool) → is_right_entry g l earlier e ≡ b → (is_right_entry g l earlier e ≡ false) × (left ≡ left_of g l earlier e)
      go true fine = absurd (let no = sym (by_test true fine) ∙ some in cc)
      go false wrong = (wrong, (let same = sym some ∙ by_test false wrong in cc))

-- the entry of a chunk
pub held_entry : (g : Shape) (l : Layout) (bytes : List ℕ) (c : ℕ) → c < l.chunks
    → entry_of (tables_in g l bytes) c ≡ entry_in_blocks bytes c
held_entry g l bytes c low = get_or-map-range_with_len (entry_in_blocks bytes) 0 l.chunks c c _ low (omega arith)

-- by values that were read
pub corrected_as : {g s : Shape} {l m : Layout} {e f : MapEntry} (earlier : List ℕ) (o : Option MapEntry) → g ≡ s → l ≡ m → e ≡ f
    → o ≡ cond (is_right_entry g l earlier e) None (Some (left_of g l earlier e))
    → o ≡ cond (is_right_entry s m earlier f) None (Some (left_of s m earlier f))
corrected_as {g} {s} {l} {m} {e} {f} earlier o same_g same_l same_e is =
    subst (λ (h : Shape). o ≡ cond (is_right_entry h m earlier f) None (Some (left_of h m earlier f))) same_g
    (subst (λ (n : Layout). o ≡ cond (is_right_entry g n earlier f) None (Some (left_of g n earlier f))) same_l
    (subst (λ (x : MapEntry). o ≡ cond (is_right_entry g l earlier x) None (Some (left_of g l earlier x))) same_e is))
