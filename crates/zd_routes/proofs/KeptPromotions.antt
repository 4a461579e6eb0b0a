-- A PROMOTION KEEPS A VOLUME: in Idle, beside a job on another chunk. It makes no call.
use Rattle.std.proofs.Common.{◌≡◌, ℕ, ◌<◌, false, List, length, None, inl, refl, sym, ap, subst, arith}
use Rattle.std.specs.Prelude.{get_or}
use Rattle.zd_alloc.specs.declared.uses.ZoneUse.{ZoneUse}
use Rattle.zd_model.specs.Image.{Image}
use Rattle.zd_model.specs.Safe.{base_at}
use Rattle.zd_model.specs.declared.metadata.MapEntry.{MapEntry}
use Rattle.zd_disk.specs.View.{View}
use Rattle.zd_volume.specs.Discards.{NoJobOn}
use Rattle.zd_volume.specs.LeftImages.{MayBeLeft, ReadsAs}
use Rattle.zd_volume.specs.Volumes.{IsFixed, IsKeptVolume, IsNow, IsWhole, PlainVolume, sets_of}
use Rattle.zd_volume.specs.declared.phase.Phase.{Phase}
use Rattle.zd_volume.specs.declared.phase.Phase.TheVariants.{Idle}
use Rattle.zd_volume.proofs.Choices.{some_blocks}
use Rattle.zd_volume.proofs.Images.{left_idle}
use Rattle.zd_volume.proofs.Still.{kept_still, only_nothing}
use Rattle.zd_routes.specs.Promotions.{IsBare, PromotesChunk}
use Rattle.zd_routes.proofs.FixedPromotions.{fixed_promoted}
use Rattle.zd_routes.proofs.PromotedPlaces.{copies_promoted, reads_promoted, whole_released}

module _ (from to : PlainVolume) (chunk zone buffer : ℕ) (opening now : View) (runs : from.stopped ≡ None)
    (was : IsKeptVolume from opening now) (idle : from.phase ≡ Idle) (off : NoJobOn from.job chunk)
    (is : IsBare from chunk zone buffer) (did : PromotesChunk from to chunk zone buffer) where
  abbrev base : List (List ℕ)
  base = base_at opening.zones

  abbrev after : PlainVolume
  after = record from {
    fresh = to.fresh;
    dirty = to.dirty;
    division = to.division;
    standings = record from.standings { classes = to.standings.classes };
  }

  inside : zone < length from.division.zones
  inside =
      let low = (was.fixed.sets.new_rules.map.data_zones chunk zone (inl (ap (λ (e : MapEntry). e.zone) is.entry))).1 in
      let count = was.fixed.uses.count in
      omega (arith, low, count)

  now_promoted : (r : Image) → IsNow from (base_at opening.zones) r → IsNow after (base_at opening.zones) r
  now_promoted r now = record {
    read = subst (λ (q : Phase). ReadsAs q (sets_of after) base from.history r) (sym idle)
        (reads_promoted (sets_of from) (some_blocks (sets_of from) was.fixed.sets) chunk zone buffer to.fresh is.entry
        is.bare did.tables base from.history r
        (subst (λ (q : Phase). ReadsAs q (sets_of from) base from.history r) idle now.read));
    pointers = now.pointers;
    whole = subst (λ (uses : List ZoneUse). IsWhole from.geometry uses r) (sym did.zones)
        (whole_released from.geometry from.division.zones zone (get_or from.named zone false) r inside now.whole);
    copies = copies_promoted (sets_of from) (some_blocks (sets_of from) was.fixed.sets) chunk zone buffer to.fresh
        is.entry is.bare did.tables base from.history r from.job from.buffer off now.copies;
  }

  left_promoted : (i : Image) → MayBeLeft from.phase (sets_of from) (base_at opening.zones) from.history from.since i
      → MayBeLeft from.phase (sets_of after) (base_at opening.zones) from.history from.since i
  left_promoted i may =
      subst (λ (q : Phase). MayBeLeft q (sets_of after) base from.history from.since i) (sym idle)
      (left_idle (sets_of from) to.fresh base from.history from.history from.since i (λ n y m. m)
      (subst (λ (q : Phase). MayBeLeft q (sets_of from) base from.history from.since i) idle may))

  kept_after : IsKeptVolume after opening now
  kept_after =
      kept_still from after opening now now
      (record { geometry = refl; head = refl; since = refl; opening = refl; runs = λ r. r }) (only_nothing now) was
      (record {
        fixed = subst (λ (w : PlainVolume). IsFixed w) did.rest
            (fixed_promoted from to chunk zone buffer was.fixed is did idle off);
        by_now = was.counted.by_now;
        faulted = was.faulted;
        calm = was.calm;
        legal = λ r t l. l;
        more = λ k n y m. m;
        reads = λ _ r t reads. now_promoted r reads;
        stops = λ _ r i t may. left_promoted i may;
      })

  pub kept_promoted : IsKeptVolume to opening now
  kept_promoted = subst (λ (w : PlainVolume). IsKeptVolume w opening now) (sym did.rest) kept_after
