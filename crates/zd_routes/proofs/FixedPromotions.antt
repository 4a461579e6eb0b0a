-- WHAT IS TRUE OF A VOLUME'S OWN VALUES stays true after a promotion, beside a job on another chunk.
use Rattle.std.proofs.Common.{◌≡◌, ◌≢◌, ◌⊎◌, ℕ, ◌<◌, false, List, length, get_or, get_or-set_other, get_or-set_same}
use Rattle.std.proofs.Common.{length-set, Some, None, inl, inr, refl, sym, ap, ◌∙◌, subst, arith}
use Rattle.zd_alloc.specs.Zones.{use_after_release, use_at}
use Rattle.zd_alloc.specs.declared.uses.ZoneUse.{ZoneUse}
use Rattle.zd_alloc.specs.declared.uses.ZoneUse.TheVariants.{Meta}
use Rattle.zd_model.specs.Tables.{NamesZone, entry_of, is_valid}
use Rattle.zd_model.specs.declared.metadata.MapEntry.{MapEntry}
use Rattle.zd_model.proofs.FaultLaws.{none_some, some_is}
use Rattle.zd_tables.specs.Changes.{ChangesEntry}
use Rattle.zd_volume.specs.Discards.{NoJobOn}
use Rattle.zd_volume.specs.Flights.{tables_now}
use Rattle.zd_volume.specs.Jobs.{IsNamed}
use Rattle.zd_volume.specs.Sets.{AreSets, Sets}
use Rattle.zd_volume.specs.Uses.{AreCandidates, AreUsed, IsPhase}
use Rattle.zd_volume.specs.Volumes.{IsFixed, PlainVolume, sets_of}
use Rattle.zd_volume.specs.declared.phase.Phase.{Phase}
use Rattle.zd_volume.specs.declared.phase.Phase.TheVariants.{Idle}
use Rattle.zd_volume.proofs.DropTables.{flags_marked}
use Rattle.zd_routes.specs.Changes.{ChangesChunk, MayHave}
use Rattle.zd_routes.specs.Promotions.{IsBare, PromotesChunk}
use Rattle.zd_routes.proofs.ChunkClasses.{candidates_changed}
use Rattle.zd_routes.proofs.ChunkJobs.{jobs_changed}
use Rattle.zd_routes.proofs.ChunkSets.{named_by, named_still, sets_changed}
use Rattle.zd_routes.proofs.ChunkUses.{IsUsedAs, used_released, uses_but_one}
use Rattle.zd_routes.proofs.GoalLaws.{own_no_target, zones_apart}

-- THE TABLES, with the chunk's buffer for its zone
module _ (from : PlainVolume) (chunk zone buffer : ℕ) (fixed : IsFixed from) (is : IsBare from chunk zone buffer)
    (bytes : List ℕ) (tables : ChangesEntry chunk (record { zone = Some buffer; buffer = None }) (tables_now from)
    (tables_now (record from { fresh = bytes }))) (size : length bytes ≡ length from.fresh) where
  abbrev s : Sets
  s = sets_of from

  abbrev old : MapEntry
  old = entry_of (tables_now from) chunk

  abbrev entry : MapEntry
  entry = record { zone = Some buffer; buffer = None }

  pub zone_is : (entry_of (tables_now from) chunk).zone ≡ Some zone
  zone_is = ap (λ (e : MapEntry). e.zone) is.entry

  buffer_is : (entry_of (tables_now from) chunk).buffer ≡ Some buffer
  buffer_is = ap (λ (e : MapEntry). e.buffer) is.entry

  -- the chunk has its buffer alone
  pub own_of : (z : ℕ) → NamesZone entry z → NamesZone (entry_of (tables_now from) chunk) z
  own_of z n = elim n [
    | inl h ↦ inr (buffer_is ∙ h)
    | inr h ↦ absurd (none_some z h)
  ]

  -- and had the zone besides
  kept_or_left : (z : ℕ) → NamesZone (entry_of (tables_now from) chunk) z → (z ≡ zone) ⊎ NamesZone entry z
  kept_or_left z own = elim own [
    | inl h ↦ inl (sym (some_is zone z (sym zone_is ∙ h)))
    | inr h ↦ inr (inl (sym buffer_is ∙ h))
  ]

  -- the zone isn't the chunk's any longer
  zone_left : NamesZone entry zone → ⊥
  zone_left n = elim n [
    | inl h ↦ zones_apart s fixed.sets chunk zone zone_is (buffer_is ∙ h)
    | inr h ↦ none_some zone h
  ]

  pub may_promote : MayHave s chunk entry
  may_promote = record {
    data_zones = λ z n. fixed.sets.new_rules.map.data_zones chunk z (own_of z n);
    buffers = λ b h. absurd (none_some b h);
    only = λ d z named n. fixed.sets.new_rules.map.named_once d chunk z named (own_of z n);
    limbo = λ d z named n. fixed.sets.limbo d chunk z named (own_of z n);
  }

  -- THE CHANGE of the tables
  pub promoted_changes : ChangesChunk from.geometry chunk (record { zone = Some buffer; buffer = None })
      (tables_now from) (tables_now (record from { fresh = bytes }))
  promoted_changes = record {
    here = tables.here;
    others = tables.others;
    rest = λ z x _ _ _. tables.bits z x;
    left = λ z x within own none. elim (kept_or_left z own) [
      | inl same ↦
          tables.bits z x
          ∙ subst (λ (n : ℕ). is_valid (tables_now from) n x ≡ false) (sym same) (is.bare x within)
      | inr kept ↦ absurd (none kept)
    ];
    one_place = λ z b x at buffered within valid. absurd (none_some b buffered);
  }

  -- THE RULES ARE KEPT
  pub promoted_sets : AreSets (record (sets_of from) { new = bytes })
  promoted_sets = sets_changed s fixed.sets chunk entry bytes may_promote promoted_changes size

  pub named_then : (y : ℕ) → y ≢ zone → IsNamed (tables_now from) y
      → IsNamed (tables_now (record from { fresh = bytes })) y
  named_then y off n =
      named_still s fixed.sets chunk entry bytes may_promote promoted_changes y
      (λ own. elim (kept_or_left y own) [ inl same ↦ absurd (off same) | inr kept ↦ kept ]) n

  pub named_before : (y : ℕ) → IsNamed (tables_now (record from { fresh = bytes })) y → IsNamed (tables_now from) y
  named_before y n =
      elim (named_by s fixed.sets chunk entry bytes may_promote promoted_changes n.0 y n.1) [
        | inl here ↦ (chunk, own_of y here.1)
        | inr there ↦ (n.0, there.1)
      ]

  -- no table of now names the zone
  pub bare_now : IsNamed (tables_now (record from { fresh = bytes })) zone → ⊥
  bare_now n = elim (named_by s fixed.sets chunk entry bytes may_promote promoted_changes n.0 zone n.1) [
    | inl here ↦ zone_left here.1
    | inr there ↦ there.0 (fixed.sets.new_rules.map.named_once n.0 chunk zone there.1 (inl zone_is))
  ]

module _ (from to : PlainVolume) (chunk zone buffer : ℕ) (fixed : IsFixed from) (is : IsBare from chunk zone buffer)
    (did : PromotesChunk from to chunk zone buffer) where
  -- THE ZONES are used right: the old one is released
  pub uses_promoted : NoJobOn from.job chunk → AreUsed (record (sets_of from) { new = to.fresh }) from.job to.division
  uses_promoted off =
      let at = fixed.sets.new_rules.map.data_zones chunk zone (inl (zone_is from chunk zone buffer fixed is to.fresh did.tables did.size)) in
      let inside : zone < length from.division.zones = (let count = fixed.uses.count in omega (arith, count, at.1)) in
      uses_but_one (sets_of from) to.fresh from.job from.division to.division fixed.uses did.conv
      (ap (λ (order : List ℕ). length order) did.order)
      (ap (λ (uses : List ZoneUse). length uses) did.zones ∙ length-set from.division.zones zone given) zone
      (λ y other.
      ap (λ (uses : List ZoneUse). use_at uses y) did.zones
      ∙ get_or-set_other from.division.zones zone y given Meta other)
      (named_then from chunk zone buffer fixed is to.fresh did.tables did.size)
      (λ y _. named_before from chunk zone buffer fixed is to.fresh did.tables did.size y)
      (subst (IsUsedAs (record (sets_of from) { new = to.fresh }) from.job zone)
      (sym (ap (λ (uses : List ZoneUse). use_at uses zone) did.zones
      ∙ get_or-set_same from.division.zones zone given Meta inside))
      (used_released (record (sets_of from) { new = to.fresh }) from.job from.named zone fixed.named at.0 at.1
      (bare_now from chunk zone buffer fixed is to.fresh did.tables did.size)
      (own_no_target (sets_of from) fixed.sets chunk zone (inl (zone_is from chunk zone buffer fixed is to.fresh did.tables did.size)) from.pointers from.job fixed.job off)))
    where
      given : ZoneUse
      given = use_after_release (get_or from.named zone false)

  candidates_promoted : AreCandidates (record (sets_of from) { new = to.fresh }) from.pointers from.division.order
      (record from.standings { classes = to.standings.classes })
  candidates_promoted =
      candidates_changed (sets_of from) chunk to.fresh from.pointers from.pointers from.division.order from.standings
      (record from.standings { classes = to.standings.classes }) fixed.candidates did.classes did.tables.others
      (λ c z x _ _. did.tables.bits z x) (λ c z _ _. refl) refl

  pub fixed_promoted : from.phase ≡ Idle → NoJobOn from.job chunk → IsFixed to
  fixed_promoted idle off = subst (λ (v : PlainVolume). IsFixed v) (sym did.rest) (record {
    sets = promoted_sets from chunk zone buffer fixed is to.fresh did.tables did.size;
    flags = flags_marked (sets_of from) from.dirty to.dirty to.fresh fixed.flags (omega arith) did.dirty did.front;
    under_way = subst (λ (q : Phase). IsPhase q to.dirty from.head.generation) (sym idle) tt;
    uses = uses_promoted off;
    named = fixed.named;
    pointers = fixed.pointers;
    in_zones = fixed.in_zones;
    candidates = subst (λ (order : List ℕ). AreCandidates (record (sets_of from) { new = to.fresh }) from.pointers order
        (record from.standings { classes = to.standings.classes })) (sym did.order) candidates_promoted;
    job = jobs_changed (sets_of from) fixed.sets chunk (record { zone = Some buffer; buffer = None }) to.fresh
        (may_promote from chunk zone buffer fixed is to.fresh did.tables did.size)
        (promoted_changes from chunk zone buffer fixed is to.fresh did.tables did.size) from.pointers from.pointers
        from.job off (λ z n. inl (own_of from chunk zone buffer fixed is to.fresh did.tables did.size z n)) (λ z _. refl) fixed.job;
    room = fixed.room;
  })
