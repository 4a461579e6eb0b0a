-- EACH CHUNK HAS ITS CLASS where one chunk has got it anew, and the numbers rise along the use order.
use Rattle.std.proofs.Common.{◌≡◌, ◌≢◌, ℕ, ◌<◌, List, Option, Some, None, slice_index, inl, inr, refl, sym, ap, ◌∙◌}
use Rattle.std.proofs.Common.{subst}
use Rattle.std.proofs.lemmas.Bool.{cases_eq}
use Rattle.zd_base.specs.Geometry.{Shape}
use Rattle.zd_alloc.specs.Candidates.{Follows, GivesClass, IsInOrder, Standings, class_of}
use Rattle.zd_alloc.specs.Order.{PutsLast}
use Rattle.zd_model.specs.Tables.{NamesZone, Tables, entry_of, is_valid}
use Rattle.zd_tables.specs.Held.{first_valid_block}
use Rattle.zd_tables.specs.Tables.{tables_in}
use Rattle.zd_volume.specs.Jobs.{class_buffered, class_by, class_in}
use Rattle.zd_volume.specs.Sets.{Sets, new_tables}
use Rattle.zd_volume.specs.Uses.{AreCandidates}
use Rattle.zd_volume.proofs.DropUses.{class_stays}

-- of the pointers, a class depends on that of the chunk's zone
class_moved : (g : Shape) (pointers moved : List ℕ) (t : Tables) (zone buffer : Option ℕ)
    → ((z : ℕ) → zone ≡ Some z → slice_index moved z ≡ slice_index pointers z)
    → class_by g moved t zone buffer ≡ class_by g pointers t zone buffer
class_moved g pointers moved t None buffer same = refl
class_moved g pointers moved t (Some z) None same = refl
class_moved g pointers moved t (Some z) (Some b) same =
    ap (class_buffered (first_valid_block g.zone_blocks t b)) (same z refl)

module _ (s : Sets) (chunk : ℕ) (bytes pointers moved order : List ℕ) (old new : Standings)
    (was : AreCandidates s pointers order old)
    (gives : GivesClass chunk (class_in s.geometry moved (tables_in s.geometry s.head.layout bytes) chunk)
    old.classes new.classes)
    (entries : (c : ℕ) → c ≢ chunk
    → entry_of (tables_in s.geometry s.head.layout bytes) c ≡ entry_of (new_tables s) c)
    (bits : (c z x : ℕ) → c ≢ chunk → NamesZone (entry_of (new_tables s) c) z
    → is_valid (tables_in s.geometry s.head.layout bytes) z x ≡ is_valid (new_tables s) z x)
    (stays : (c z : ℕ) → c ≢ chunk → NamesZone (entry_of (new_tables s) c) z
    → slice_index moved z ≡ slice_index pointers z) where
  abbrev u : Tables
  u = tables_in s.geometry s.head.layout bytes

  class_there : (c : ℕ) → c ≢ chunk
      → class_in s.geometry moved (tables_in s.geometry s.head.layout bytes) c
      ≡ class_in s.geometry pointers (new_tables s) c
  class_there c off =
      class_stays s.geometry moved (new_tables s) u c (entries c off) (λ z x n. bits c z x off n)
      ∙ class_moved s.geometry pointers moved (new_tables s) (entry_of (new_tables s) c).zone
      (entry_of (new_tables s) c).buffer (λ z is. stays c z off (inl is))

  each_class : (c : ℕ) → c < s.head.layout.chunks
      → class_of new.classes c ≡ class_in s.geometry moved (tables_in s.geometry s.head.layout bytes) c
  each_class c low = elim (cases_eq c chunk) [
    | inl here ↦ subst (λ (k : ℕ). class_of new.classes k ≡ class_in s.geometry moved u k) (sym here) gives.there
    | inr off ↦ gives.others c off ∙ was.each c low ∙ sym (class_there c off)
  ]

  -- in the order that they had
  pub candidates_changed : new.numbers ≡ old.numbers → AreCandidates (record s { new = bytes }) moved order new
  candidates_changed numbers = record {
    count = gives.count ∙ was.count;
    in_order = subst (IsInOrder order) (sym numbers) was.in_order;
    each = each_class;
  }

  -- with the chunk put last
  pub candidates_put_last : (next : List ℕ) → PutsLast chunk order next → Follows chunk old.numbers new.numbers
      → AreCandidates (record s { new = bytes }) moved next new
  candidates_put_last next puts follows = record {
    count = gives.count ∙ was.count;
    in_order = follows order next was.in_order puts;
    each = each_class;
  }
