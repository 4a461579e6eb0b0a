-- A DISCARD KEEPS A VOLUME: in Idle, beside a job on another chunk. It makes no call.
use Rattle.std.proofs.Common.{◌≡◌, ℕ, ◌+◌, ◌≤◌, Bool, false, cond, List, [], ◌∷◌, ◌++◌, length, Option, Some, None}
use Rattle.std.proofs.Common.{refl, sym, ap, ap₂, ◌∙◌, subst, arith}
use Rattle.std.specs.List.{AllByRecursion, concat}
use Rattle.std.specs.Prelude.{slice_range}
use Rattle.zd_alloc.specs.Candidates.{GivesClass}
use Rattle.zd_alloc.specs.declared.job_class.JobClass.{JobClass}
use Rattle.zd_model.specs.History.{HistoryEntry, IsLegal, last_array}
use Rattle.zd_model.specs.Image.{Image}
use Rattle.zd_model.specs.Plain.{Answer, answer_in_range, ends_past, reply_to, Answer as answers}
use Rattle.zd_model.specs.Plain.Answer.{Done, Fault}
use Rattle.zd_model.specs.Requests.{Operation, first_sector, operation_of, sector_count}
use Rattle.zd_model.specs.Requests.Operation.{Discarding, Writing}
use Rattle.zd_model.specs.Safe.{base_at}
use Rattle.zd_model.specs.Stops.{AreBy}
use Rattle.zd_model.specs.Tables.{entry_of}
use Rattle.zd_model.specs.declared.requests.Piece.{Piece}
use Rattle.zd_model.proofs.ArrayLaws.{length-last_array}
use Rattle.zd_model.proofs.HeldLaws.{AreBy-push}
use Rattle.zd_disk.specs.View.{View}
use Rattle.zd_tables.specs.Tables.{tables_in}
use Rattle.zd_volume.specs.Discards.{ClearsRange, DiscardsBlocks, DropsRange, NoJobOn, after_drop, chunk_touched, range_end}
use Rattle.zd_volume.specs.Discards.{range_first}
use Rattle.zd_volume.specs.Flights.{answered}
use Rattle.zd_volume.specs.FaultCounts.{AreCalm}
use Rattle.zd_volume.specs.Jobs.{class_in}
use Rattle.zd_volume.specs.LeftImages.{MayBeLeft, ReadsAs}
use Rattle.zd_volume.specs.Marks.{GivesBitsIn, MarksChanged}
use Rattle.zd_volume.specs.Sets.{AreSets, new_tables}
use Rattle.zd_volume.specs.Uses.{IsPhase}
use Rattle.zd_volume.specs.Volumes.{IsFixed, IsKeptVolume, IsNow, PlainVolume, sets_of}
use Rattle.zd_volume.specs.declared.phase.Phase.{Phase}
use Rattle.zd_volume.specs.declared.phase.Phase.TheVariants.{Idle}
use Rattle.zd_volume.proofs.DropBlocks.{range_cleared, range_marked}
use Rattle.zd_volume.proofs.DropCopies.{copies_dropped}
use Rattle.zd_volume.proofs.DropPlaces.{in_range}
use Rattle.zd_volume.proofs.DropServes.{discard_holds, left_dropped, reads_dropped}
use Rattle.zd_volume.proofs.DropTables.{flags_marked, sets_dropped}
use Rattle.zd_volume.proofs.DropUses.{candidates_dropped, jobs_dropped, uses_dropped}
use Rattle.zd_volume.proofs.FaultEntries.{TellsNone, calm_more, faults_none, none_calm}
use Rattle.zd_volume.proofs.LegalEntries.{legal_plain}
use Rattle.zd_volume.proofs.Still.{kept_still, only_nothing}

-- THE HISTORY stays legal
pub legal_discard : (base : List (List ℕ)) (now : ℕ) (h : List HistoryEntry) (e : HistoryEntry) → IsLegal base h
    → AreBy now h → AreCalm h → operation_of e.what ≡ Discarding → ends_past (length base) e.what ≡ false
    → e.reply ≡ Done → now ≤ e.at → IsLegal base (h ++ e ∷ [])
legal_discard base now h e was by calm is fits done later =
    legal_plain base now h e was by calm (done ∙ sym reply)
    (later, λ writes. absurd (let no : Discarding ≡ Writing = sym is ∙ writes in let f : ⊥ = cc in f))
  where
    reply : reply_to (last_array base h) e.what ≡ Done
    reply =
        ap₂ (λ (past : Bool) (o : Operation).
        cond past Answer.Range (answer_in_range o
        (concat (slice_range (last_array base h) (first_sector e.what) (first_sector e.what + sector_count e.what)))))
        (ap (λ (n : ℕ). ends_past n e.what) (length-last_array base h) ∙ fits) is

-- what was done tells no fault
done_tells : (e : HistoryEntry) → e.reply ≡ Done → AllByRecursion TellsNone (e ∷ [])
done_tells e done =
    (record { reply = λ fault. (let no : Done ≡ Fault = sym done ∙ fault in let f : ⊥ = cc in f) }, tt)

module _ (v : PlainVolume) (opening now : View) (runs : v.stopped ≡ None) (was : IsKeptVolume v opening now)
    (idle : v.phase ≡ Idle) (e : HistoryEntry) (is : DiscardsBlocks (sets_of v) e.what) (done : e.reply ≡ Done)
    (at : e.at ≡ v.since) (off : NoJobOn v.job (chunk_touched v.geometry.zone_blocks e.what))
    (bytes : List ℕ) (dirty : List Bool) (classes : List (Option JobClass))
    (did : ClearsRange (sets_of v) (chunk_touched v.geometry.zone_blocks e.what)
    (range_first v.geometry.zone_blocks e.what)
    (range_end v.geometry.zone_blocks e.what) bytes)
    (marks : MarksChanged v.fresh bytes v.dirty dirty)
    (gives : GivesClass (chunk_touched v.geometry.zone_blocks e.what)
    (class_in v.geometry v.pointers (tables_in v.geometry v.head.layout bytes)
    (chunk_touched v.geometry.zone_blocks e.what))
    v.standings.classes classes) where
  abbrev c : ℕ
  c = chunk_touched v.geometry.zone_blocks e.what

  abbrev first : ℕ
  first = range_first v.geometry.zone_blocks e.what

  abbrev end : ℕ
  end = range_end v.geometry.zone_blocks e.what

  -- what is true of the values alone
  fixed_dropped : IsFixed (after_drop v bytes dirty classes e)
  fixed_dropped = record {
    sets = sets_dropped (sets_of v) was.fixed.sets c first end bytes did;
    flags = flags_marked (sets_of v) v.dirty dirty bytes was.fixed.flags (omega arith) marks
        (did.front 0 (omega arith));
    under_way = subst (λ (p : Phase). IsPhase p dirty v.head.generation) (sym idle) tt;
    uses = uses_dropped (sets_of v) was.fixed.sets c first end bytes did v.job v.division was.fixed.uses;
    named = was.fixed.named;
    pointers = was.fixed.pointers;
    in_zones = was.fixed.in_zones;
    candidates = candidates_dropped (sets_of v) was.fixed.sets c first end bytes did v.pointers v.division.order
        v.standings classes gives was.fixed.candidates;
    job = jobs_dropped (sets_of v) was.fixed.sets c first end bytes did v.job v.pointers off was.fixed.job;
    room = was.fixed.room;
  }

  now_dropped : (r : Image) → now.zones ≡ Some r → IsNow v (base_at opening.zones) r
      → IsNow (after_drop v bytes dirty classes e) (base_at opening.zones) r
  now_dropped r t reads = record {
    read = subst (λ (p : Phase). ReadsAs p (sets_of (after_drop v bytes dirty classes e)) (base_at opening.zones)
        (v.history ++ e ∷ []) r) (sym idle)
        (reads_dropped (sets_of v) (base_at opening.zones) (was.based r t) v.history e is done was.fixed.sets bytes
        did r
        (subst (λ (p : Phase). ReadsAs p (sets_of v) (base_at opening.zones) v.history r) idle reads.read));
    pointers = reads.pointers;
    whole = reads.whole;
    copies = copies_dropped (sets_of v) was.fixed.sets (base_at opening.zones) (was.based r t) v.history e is done
        bytes did v.job v.pointers v.buffer r off was.fixed.job reads.copies;
  }

  kept_after : IsKeptVolume (after_drop v bytes dirty classes e) opening now
  kept_after =
      kept_still v (after_drop v bytes dirty classes e) opening now now
      (record { geometry = refl; head = refl; since = refl; opening = refl; runs = λ r. r }) (only_nothing now) was
      (record {
        fixed = fixed_dropped;
        by_now = AreBy-push v.since v.since v.history e (omega arith) was.counted.by_now (omega (arith, at));
        faulted = faults_none v.history (e ∷ []) (done_tells e done) v.stopped opening.faults now.faults was.faulted;
        calm = λ _. calm_more v.history (e ∷ []) (was.calm runs) (none_calm (e ∷ []) (done_tells e done));
        legal = λ r t l.
            legal_discard (base_at opening.zones) v.since v.history e l was.counted.by_now (was.calm runs) is.discards
            (ap (λ (n : ℕ). ends_past n e.what) (was.based r t) ∙ in_range (sets_of v) e.what is) done
            (omega (arith, at));
        more = λ k n y m. discard_holds (base_at opening.zones) v.history e k n y is.discards m;
        reads = λ _ r t reads. now_dropped r t reads;
        stops = λ _ r i t may.
            subst (λ (p : Phase). MayBeLeft p (sets_of (after_drop v bytes dirty classes e)) (base_at opening.zones)
            (v.history ++ e ∷ []) v.since i) (sym idle)
            (left_dropped (sets_of v) bytes (base_at opening.zones) v.history e v.since i is.discards
            (subst (λ (p : Phase). MayBeLeft p (sets_of v) (base_at opening.zones) v.history v.since i) idle may));
      })

-- THE DISCARD OF A PIECE, by what it does to the blocks of the set
pub drops_by : (v : PlainVolume) (p : Piece) (middle bytes : List ℕ) (half marked : List Bool)
    (classes : List (Option JobClass)) → AreSets (sets_of v) → DiscardsBlocks (sets_of v) p.what
    → GivesBitsIn false v.geometry v.head.layout
    (entry_of (new_tables (sets_of v)) (chunk_touched v.geometry.zone_blocks p.what)).zone
    (range_first v.geometry.zone_blocks p.what) (range_end v.geometry.zone_blocks p.what) v.fresh middle v.dirty half
    → GivesBitsIn false v.geometry v.head.layout
    (entry_of (new_tables (sets_of v)) (chunk_touched v.geometry.zone_blocks p.what)).buffer
    (range_first v.geometry.zone_blocks p.what) (range_end v.geometry.zone_blocks p.what) middle bytes half marked
    → GivesClass (chunk_touched v.geometry.zone_blocks p.what)
    (class_in v.geometry v.pointers (tables_in v.geometry v.head.layout bytes)
    (chunk_touched v.geometry.zone_blocks p.what)) v.standings.classes classes
    → DropsRange v (after_drop v bytes marked classes (answered p answers.Done v.since)) p
drops_by v p middle bytes half marked classes are is one two gives = record {
  range = range_cleared (sets_of v) are (chunk_touched v.geometry.zone_blocks p.what)
      (range_first v.geometry.zone_blocks p.what) (range_end v.geometry.zone_blocks p.what) is.inside middle bytes v.dirty
      half marked one two;
  dirty = range_marked (sets_of v) are (chunk_touched v.geometry.zone_blocks p.what)
      (range_first v.geometry.zone_blocks p.what) (range_end v.geometry.zone_blocks p.what) is.inside middle bytes v.dirty
      half marked one two;
  classes = gives;
  rest = refl;
}

-- it keeps the volume
pub kept_drop : (from to : PlainVolume) (p : Piece) (opening now : View) → from.stopped ≡ None
    → IsKeptVolume from opening now → from.phase ≡ Idle → DiscardsBlocks (sets_of from) p.what
    → NoJobOn from.job (chunk_touched from.geometry.zone_blocks p.what) → DropsRange from to p
    → IsKeptVolume to opening now
kept_drop from to p opening now runs was idle is off drops =
    subst (λ (w : PlainVolume). IsKeptVolume w opening now) (sym drops.rest)
    (kept_after from opening now runs was idle (answered p answers.Done from.since) is refl refl off to.fresh to.dirty
    to.standings.classes drops.range drops.dirty drops.classes)
