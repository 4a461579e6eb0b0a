-- THE RULES ARE KEPT where one chunk gets an entry that it may have.
use Rattle.std.proofs.Common.{◌≡◌, ◌≢◌, ◌⊎◌, ℕ, ◌<◌, ◌≤◌, false, List, length, Some, IsSomeAnd, inl, inr}
use Rattle.std.proofs.Common.{sym, ap, ◌∙◌, subst, arith}
use Rattle.std.proofs.lemmas.Bool.{cases_eq, false≢true}
use Rattle.std.specs.Prelude.{IsTrue}
use Rattle.zd_base.specs.Geometry.{zone_sectors}
use Rattle.zd_model.specs.Tables.{BitsFollowRules, MapFollowsRules, NamesZone, Tables, entry_of, is_valid}
use Rattle.zd_model.specs.declared.metadata.MapEntry.{MapEntry}
use Rattle.zd_tables.specs.Tables.{entries_in, tables_in}
use Rattle.zd_volume.specs.Jobs.{IsNamed}
use Rattle.zd_volume.specs.Sets.{AreSets, Sets, new_tables}
use Rattle.zd_volume.proofs.DropTables.{names_or}
use Rattle.zd_routes.specs.Changes.{ChangesChunk, MayHave}

module _ (s : Sets) (are : AreSets s) (chunk : ℕ) (entry : MapEntry) (bytes : List ℕ) (may : MayHave s chunk entry)
    (did : ChangesChunk s.geometry chunk entry (new_tables s) (tables_in s.geometry s.head.layout bytes)) where
  abbrev t : Tables
  t = new_tables s

  abbrev u : Tables
  u = tables_in s.geometry s.head.layout bytes

  -- what is named now is named by the chunk's entry, or by another chunk's as before
  pub named_by : (c z : ℕ) → NamesZone (entry_of (tables_in s.geometry s.head.layout bytes) c) z
      → ((c ≡ chunk) × NamesZone entry z) ⊎ ((c ≢ chunk) × NamesZone (entry_of (new_tables s) c) z)
  named_by c z n = elim (cases_eq c chunk) [
    | inl here ↦ inl (here, subst (λ (e : MapEntry). NamesZone e z) (ap (entry_of u) here ∙ did.here) n)
    | inr off ↦ inr (off, subst (λ (e : MapEntry). NamesZone e z) (did.others c off) n)
  ]

  -- a zone of the chunk is named
  pub named_here : (z : ℕ) → NamesZone entry z → IsNamed (tables_in s.geometry s.head.layout bytes) z
  named_here z n = (chunk, subst (λ (e : MapEntry). NamesZone e z) (sym did.here) n)

  -- a zone that was named is so still, unless the chunk has given it up
  pub named_still : (z : ℕ) → (NamesZone (entry_of (new_tables s) chunk) z → NamesZone entry z)
      → IsNamed (new_tables s) z → IsNamed (tables_in s.geometry s.head.layout bytes) z
  named_still z keeps n = elim (cases_eq n.0 chunk) [
    | inl here ↦ named_here z (keeps (subst (λ (c : ℕ). NamesZone (entry_of t c) z) here n.1))
    | inr off ↦ (n.0, subst (λ (e : MapEntry). NamesZone e z) (sym (did.others n.0 off)) n.1)
  ]

  -- the zones of other chunks are as they were
  pub others_kept : (c z x : ℕ) → c ≢ chunk → NamesZone (entry_of (new_tables s) c) z → x < s.geometry.zone_blocks
      → is_valid (tables_in s.geometry s.head.layout bytes) z x ≡ is_valid (new_tables s) z x
  others_kept c z x off n within =
      did.rest z x within (λ m. off (may.only c z n m)) (λ m. off (are.new_rules.map.named_once c chunk z n m))

  abbrev BufferRule : ℕ → MapEntry → Type 0
  BufferRule b e = e.buffer ≡ Some b → (b < s.geometry.conv) × IsSomeAnd e.zone (λ z. s.geometry.conv ≤ z)

  map_kept : MapFollowsRules s.geometry s.head.layout (entries_in s.head.layout bytes)
  map_kept = record {
    data_zones = λ c z n. elim (named_by c z n) [
      | inl h ↦ may.data_zones z h.1
      | inr h ↦ are.new_rules.map.data_zones c z h.1
    ];
    named_once = λ c d z n m. elim (named_by c z n) [
      | inl h ↦ elim (named_by d z m) [
        | inl k ↦ h.0 ∙ sym k.0
        | inr k ↦ absurd (k.0 (may.only d z k.1 h.1))
      ]
      | inr h ↦ elim (named_by d z m) [
        | inl k ↦ absurd (h.0 (may.only c z h.1 k.1))
        | inr k ↦ are.new_rules.map.named_once c d z h.1 k.1
      ]
    ];
    buffers = λ c b. elim (cases_eq c chunk) [
      | inl here ↦ subst (BufferRule b) (sym (ap (entry_of u) here ∙ did.here)) (may.buffers b)
      | inr off ↦ subst (BufferRule b) (sym (did.others c off)) (are.new_rules.map.buffers c b)
    ];
  }

  abbrev PlaceRule : ℕ → ℕ → ℕ → MapEntry → Type 0
  PlaceRule z b x e = e.zone ≡ Some z → e.buffer ≡ Some b → x < s.geometry.zone_blocks
      → IsTrue (is_valid u z x) → is_valid u b x ≡ false

  bits_kept : BitsFollowRules s.geometry (λ _. zone_sectors s.geometry) (tables_in s.geometry s.head.layout bytes)
  bits_kept = record {
    named = λ z x low within valid. elim (names_or entry z) [
      | inl n ↦ named_here z n
      | inr none ↦ elim (names_or (entry_of t chunk) z) [
        | inl was ↦ absurd (false≢true (sym (did.left z x within was none) ∙ valid))
        | inr other ↦
            named_still z (λ n. absurd (other n))
            (are.new_rules.bits.named z x low within (sym (did.rest z x within none other) ∙ valid))
      ]
    ];
    below = λ z x high low within valid. omega (arith, within);
    one_place = λ c z b x. elim (cases_eq c chunk) [
      | inl here ↦ subst (PlaceRule z b x) (sym (ap (entry_of u) here ∙ did.here)) (did.one_place z b x)
      | inr off ↦
          subst (PlaceRule z b x) (sym (did.others c off))
          (λ zone buffer within valid.
          others_kept c b x off (inr buffer) within
          ∙ are.new_rules.bits.one_place c z b x zone buffer within
          (sym (others_kept c z x off (inl zone) within) ∙ valid))
    ];
  }

  pub sets_changed : length bytes ≡ length s.new → AreSets (record s { new = bytes })
  sets_changed size = record {
    shape = are.shape;
    fits = are.fits;
    sizes = are.sizes;
    old_rules = are.old_rules;
    new_rules = record { map = map_kept; bits = bits_kept };
    old_size = are.old_size;
    new_size = size ∙ are.new_size;
    limbo = λ c d z n m. elim (named_by d z m) [
      | inl h ↦ may.limbo c z n h.1 ∙ sym h.0
      | inr h ↦ are.limbo c d z n h.1
    ];
  }
