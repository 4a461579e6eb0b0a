-- After a promotion each sector stands where it stood, and all that is said of what the disk reads as holds on.
use Rattle.std.proofs.Common.{◌≡◌, ◌≢◌, ℕ, ◌/◌, ◌%◌, ◌<◌, Bool, true, false, cond, List, length, Option, Some}
use Rattle.std.proofs.Common.{None, inl, inr, refl, sym, ap, ◌∙◌, subst, arith}
use Rattle.std.proofs.lemmas.Bool.{cases_eq}
use Rattle.std.proofs.lemmas.List.{get_or-set_other, get_or-set_same}
use Rattle.std.specs.Option.{option_or}
use Rattle.std.specs.Prelude.{set}
use Rattle.zd_base.specs.Geometry.{Shape}
use Rattle.zd_alloc.specs.Zones.{use_after_release, use_at}
use Rattle.zd_alloc.specs.declared.uses.ZoneUse.{ZoneUse}
use Rattle.zd_alloc.specs.declared.uses.ZoneUse.TheVariants.{Free, Held, Limbo, Meta}
use Rattle.zd_model.specs.History.{HistoryEntry}
use Rattle.zd_model.specs.Image.{Image}
use Rattle.zd_model.specs.Places.{place_in, zone_at}
use Rattle.zd_model.specs.Tables.{Tables, entry_of, is_valid, where_valid}
use Rattle.zd_model.specs.declared.metadata.MapEntry.{MapEntry}
use Rattle.zd_tables.specs.Changes.{ChangesEntry}
use Rattle.zd_tables.specs.Tables.{tables_in}
use Rattle.zd_volume.specs.Discards.{NoJobOn}
use Rattle.zd_volume.specs.Jobs.{HasCopies, source_of}
use Rattle.zd_volume.specs.LeftImages.{ReadsAs}
use Rattle.zd_volume.specs.Sets.{Sets, new_tables}
use Rattle.zd_volume.specs.Volumes.{IsWhole}
use Rattle.zd_volume.specs.declared.phase.Phase.TheVariants.{Idle}
use Rattle.zd_volume.specs.declared.work.Work.{Work}
use Rattle.zd_volume.proofs.DropPlaces.{place_same, sector_same}

-- a place or none, and nothing besides
one_place : (b : Bool) (z : ℕ) → option_or (cond b (Some z) None) None ≡ cond b (Some z) None
one_place true z = refl
one_place false z = refl

-- A BLOCK of the chunk stands in its buffer or nowhere, before and after
module _ (t u : Tables) (zone buffer x : ℕ) (same : is_valid u buffer x ≡ is_valid t buffer x)
    (bare : is_valid t zone x ≡ false) where
  place_raised : place_in u (record { zone = Some buffer; buffer = None }) x
      ≡ place_in t (record { zone = Some zone; buffer = Some buffer }) x
  place_raised =
      one_place (is_valid u buffer x) buffer
      ∙ ap (λ (b : Bool). cond b (Some buffer) None) same
      ∙ sym (ap (λ (b : Bool). option_or (cond b (Some zone) None) (where_valid t x (Some buffer))) bare)

-- a zone that is given back isn't held
released : (named : Bool) → use_after_release named ≢ Held
released true is = (let no : Limbo ≡ Held = is in let f : ⊥ = cc in f)
released false is = (let no : Free ≡ Held = is in let f : ⊥ = cc in f)

pub whole_released : (g : Shape) (uses : List ZoneUse) (zone : ℕ) (named : Bool) (i : Image) → zone < length uses
    → IsWhole g uses i → IsWhole g (set uses zone (use_after_release named)) i
whole_released g uses zone named i inside whole = record {
  at = λ z seq held. elim (cases_eq z zone) [
    | inr off ↦ whole.at z seq (sym (get_or-set_other uses zone z (use_after_release named) Meta off) ∙ held)
    | inl here ↦ absurd (released named
        (sym (get_or-set_same uses zone (use_after_release named) Meta inside)
        ∙ subst (λ (y : ℕ). use_at (set uses zone (use_after_release named)) y ≡ Held) here held))
  ];
}

module _ (s : Sets) (some : 0 < s.geometry.zone_blocks) (chunk zone buffer : ℕ) (bytes : List ℕ)
    (entry : entry_of (new_tables s) chunk ≡ record { zone = Some zone; buffer = Some buffer })
    (bare : (x : ℕ) → x < s.geometry.zone_blocks → is_valid (new_tables s) zone x ≡ false)
    (did : ChangesEntry chunk (record { zone = Some buffer; buffer = None }) (new_tables s)
    (tables_in s.geometry s.head.layout bytes)) where
  abbrev t : Tables
  t = new_tables s

  abbrev u : Tables
  u = tables_in s.geometry s.head.layout bytes

  in_chunk : (c x : ℕ) → x < s.geometry.zone_blocks → c ≡ chunk
      → place_in (tables_in s.geometry s.head.layout bytes)
      (entry_of (tables_in s.geometry s.head.layout bytes) c) x
      ≡ place_in (new_tables s) (entry_of (new_tables s) c) x
  in_chunk c x inside here =
      ap (λ (k : ℕ). place_in u (entry_of u k) x) here
      ∙ ap (λ (e : MapEntry). place_in u e x) did.here
      ∙ place_raised t u zone buffer x (did.bits buffer x) (bare x inside)
      ∙ sym (ap (λ (e : MapEntry). place_in t e x) entry)
      ∙ ap (λ (k : ℕ). place_in t (entry_of t k) x) (sym here)

  -- EACH SECTOR stands where it stood
  pub promotion_stays : (n : ℕ) → zone_at s.geometry.zone_blocks (tables_in s.geometry s.head.layout bytes) n
      ≡ zone_at s.geometry.zone_blocks (new_tables s) n
  promotion_stays n = elim (cases_eq (n / 8 / s.geometry.zone_blocks) chunk) [
    | inl here ↦
        in_chunk (n / 8 / s.geometry.zone_blocks) (n / 8 % s.geometry.zone_blocks) (omega (arith, some)) here
    | inr other ↦
        ap (λ (e : MapEntry). place_in u e (n / 8 % s.geometry.zone_blocks))
        (did.others (n / 8 / s.geometry.zone_blocks) other)
        ∙ place_same u (n / 8 % s.geometry.zone_blocks) t (entry_of t (n / 8 / s.geometry.zone_blocks))
        (λ z _. did.bits z (n / 8 % s.geometry.zone_blocks))
  ]

  module _ (base : List (List ℕ)) (h : List HistoryEntry) (r : Image) where
    pub reads_promoted : ReadsAs Idle s base h r → ReadsAs Idle (record s { new = bytes }) base h r
    reads_promoted reads = record {
      first = record {
        super = reads.first.super;
        below = λ k j _ _ none. absurd (let f : ⊥ = omega (arith, none) in f);
        from = reads.first.from;
      };
      second = record {
        super = reads.second.super;
        below = λ k j _ _ none. absurd (let f : ⊥ = omega (arith, none) in f);
        from = reads.second.from;
      };
      below = λ z x seq low inside valid. reads.below z x seq low inside (sym (did.bits z x) ∙ valid);
      served = λ n low.
          sector_same s.geometry.zone_blocks t u r.sector n (promotion_stays n) ∙ reads.served n low;
    }

    -- a job on another chunk
    pub copies_promoted : (job : Option Work) (copied : List ℕ) → NoJobOn job chunk → HasCopies s copied job base h r
        → HasCopies (record s { new = bytes }) copied job base h r
    copies_promoted None copied off copies = tt
    copies_promoted (Some w) copied off copies = record {
      copied = λ y z x j source to low valid few.
          copies.copied y z x j (sym (ap (source_of w.job.kind) (did.others w.job.chunk off)) ∙ source) to low
          (sym (did.bits y x) ∙ valid) few;
      read = copies.read;
    }
