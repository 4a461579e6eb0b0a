-- The flush that ends a commit: the new tables are the committed ones.
use Rattle.std.proofs.Common.{◌≡◌, ℕ, ◌+◌, ◌-◌, ◌^◌, ◌<◌, ◌≤◌, Bool, true, false, List, [], ◌∷◌, ◌++◌, length, slice_index_or, Option, Some, None, refl, ap, sym, ◌∙◌, subst, arith, inl, inr}
use Rattle.std.specs.List.{AllByRecursion}
use Rattle.zd_alloc.specs.Zones.{Division}
use Rattle.zd_model.specs.Bytes.{zero_sector}
use Rattle.zd_model.specs.History.{HistoryEntry, IsLegal}
use Rattle.zd_model.specs.Image.{Image, Same}
use Rattle.zd_model.specs.Safe.{base_at, last_at}
use Rattle.zd_model.specs.Stops.{AreBy, IsFlushAt, MayHold}
use Rattle.zd_model.specs.Super.{HasBlock}
use Rattle.zd_model.proofs.HeldLaws.{AreBy-append}
use Rattle.zd_model.proofs.LastLaws.{flushes_reset, last_may, lasts_stay, pasts}
use Rattle.zd_model.proofs.SafeHistory.{safe_more}
use Rattle.zd_disk.specs.Told.{next_count}
use Rattle.zd_disk.specs.View.{Calls, IsDurable, Turns, View}
use Rattle.zd_disk.proofs.StepGrowth.{grows_by_flush}
use Rattle.zd_sets.specs.Stages.{HasSet, next_head}
use Rattle.zd_sets.proofs.StageLaws.{all_written}
use Rattle.zd_volume.specs.Commits.{after_end}
use Rattle.zd_volume.specs.Jobs.{HasCopies}
use Rattle.zd_volume.specs.LeftImages.{MayBeLeft, ReadsAs}
use Rattle.zd_volume.specs.Phases.{end_generation, end_phase, IsNextDirty, with_generation}
use Rattle.zd_volume.specs.Sets.{AreSets, new_tables, second, used}
use Rattle.zd_volume.specs.Uses.{AreCandidates, AreUsed, FlagNamed, IsPhase}
use Rattle.zd_volume.specs.Volumes.{IsKeptVolume, PlainVolume, sets_of}
use Rattle.zd_volume.specs.declared.phase.Phase.{Phase}
use Rattle.zd_volume.specs.declared.phase.Phase.TheVariants.{Idle}
use Rattle.zd_volume.specs.declared.work.Work.{Work}
use Rattle.zd_volume.proofs.EndUses.{job_ended}
use Rattle.zd_volume.proofs.FaultEntries.{calm_more, done_none, faults_later, faults_none, none_calm}
use Rattle.zd_volume.proofs.FlushPhases.{none_left, onward}
use Rattle.zd_volume.proofs.Flushes.{left_is_read}
use Rattle.zd_volume.proofs.Images.{safe_of}
use Rattle.zd_volume.proofs.InPhases.{both_at, by_next, left_same, read_same, safe_now}
use Rattle.zd_volume.proofs.Kept.{kept_call, told_after, told_before}

-- what is needed of the values that are made anew
pub record EndsAs (v : PlainVolume) (clean named : List Bool) (division : Division) : Type 0 where
  pub size : length clean ≡ used (sets_of v)
  pub front : slice_index_or clean 0 true ≡ false
  pub uses : AreUsed (record (sets_of v) { old = v.fresh }) v.job division
  pub names : FlagNamed v.geometry (new_tables (sets_of v)) named
  pub order : division.order ≡ v.division.order

-- the last flush is one in Idle with nothing dirty, or in the ninth phase
pub record IsAtEnd (v : PlainVolume) (alone : Bool) : Type 0 where
  pub phase : v.phase ≡ end_phase alone
  pub none : alone ≡ true → IsNextDirty v.dirty 1 None

module _ (v : PlainVolume) (opening d : View) (was : IsKeptVolume v opening d) (alone : Bool) (at_end : IsAtEnd v alone)
    (entries : List HistoryEntry) (clean named : List Bool) (division : Division) (ends : EndsAs v clean named division)
    (flushes : AllByRecursion (IsFlushAt (next_count v.since)) entries) where
  abbrev w : PlainVolume
  w = after_end v alone entries clean named division (next_count v.since)

  abbrev base : List (List ℕ)
  base = base_at opening.zones

  are : AreSets (sets_of v)
  are = was.fixed.sets

  small : (alone : Bool) → v.phase ≡ end_phase alone → end_generation alone v.head.generation < 2 ^ 64
  small true is = are.sizes.generation
  small false is =
      let g : v.head.generation < 2 ^ 64 - 1 =
      subst (λ (p : Phase). IsPhase p v.dirty v.head.generation) is was.fixed.under_way in
      omega (arith, g)

  sizes : HasBlock (with_generation (end_generation alone v.head.generation) v.head)
  sizes = record {
    generation = small alone at_end.phase;
    own = are.sizes.own;
    meta_blocks = are.sizes.meta_blocks;
    reserved = are.sizes.reserved;
    chunks = are.sizes.chunks;
    map_blocks = are.sizes.map_blocks;
    bitmap_blocks = are.sizes.bitmap_blocks;
    label = are.sizes.label;
    volume = are.sizes.volume;
    device = are.sizes.device;
    fits = record {
      version = are.sizes.fits.version;
      label = are.sizes.fits.label;
      volume = are.sizes.fits.volume;
      device = are.sizes.fits.device;
    };
  }

  are_sets : AreSets (sets_of w)
  are_sets = record {
    shape = are.shape;
    fits = are.fits;
    sizes = sizes;
    old_rules = are.new_rules;
    new_rules = are.new_rules;
    old_size = are.new_size;
    new_size = are.new_size;
    limbo = λ c d z m n. are.new_rules.map.named_once c d z m n;
  }

  are_used : AreUsed (sets_of w) v.job division
  are_used = record {
    count = ends.uses.count;
    conv = ends.uses.conv;
    order = ends.uses.order;
    meta = ends.uses.meta;
    free = ends.uses.free;
    limbo = ends.uses.limbo;
    held = ends.uses.held;
    named = ends.uses.named;
    target = ends.uses.target;
  }

  candidates : AreCandidates (sets_of w) v.pointers division.order v.standings
  candidates =
      subst (λ (o : List ℕ). AreCandidates (sets_of w) v.pointers o v.standings) (sym ends.order)
      (record {
        count = was.fixed.candidates.count;
        in_order = was.fixed.candidates.in_order;
        each = was.fixed.candidates.each;
      })

  risen : (alone : Bool) → next_count v.since ≡ v.since + 1 → v.head.generation ≤ v.opening_generation + v.since
      → end_generation alone v.head.generation ≤ v.opening_generation + next_count v.since
  risen true one g = omega (arith, one, g)
  risen false one g = omega (arith, one, g)

  -- the history with the flushes
  all_by : (es : List HistoryEntry) → AllByRecursion (IsFlushAt (next_count v.since)) es → AreBy (next_count v.since) es
  all_by [] all = tt
  all_by (f ∷ es) all = (omega (arith, all.0.when), all_by es all.1)

  older : (k m : ℕ) (x : List ℕ) → k < next_count v.since → MayHold base v.history k m x
      → MayHold base (v.history ++ entries) k m x
  older k m x l may = pasts base (next_count v.since) k m x v.history entries flushes l may

  stays : (n : ℕ) → last_at base (v.history ++ entries) n ≡ last_at base v.history n
  stays n =
      ap (λ (a : List (List ℕ)). slice_index_or a n zero_sector)
      (lasts_stay base (next_count v.since) v.history entries flushes)

  may : (n : ℕ) → MayHold base (v.history ++ entries) (next_count v.since) n (last_at base v.history n)
  may n =
      flushes_reset base (next_count v.since) n v.history entries flushes
      (last_may base v.history (next_count v.since) n (by_next v opening d was))

  copies : (job : Option Work) (j : Image) → HasCopies (sets_of v) v.buffer job base v.history j
      → HasCopies (sets_of w) v.buffer job base (v.history ++ entries) j
  copies None j c = tt
  copies (Some work) j c = record {
    copied = λ y z x i from to low valid few.
        (let f = c.copied y z x i from to low valid few in (f.0, f.1 ∙ sym (stays _)));
    read = λ x i from low few. c.read x i from low few ∙ sym (stays _);
  }

  -- the sets as the last flush leaves them
  as_end : {c : Image} → ReadsAs v.phase (sets_of v) base v.history c
      → ReadsAs (end_phase alone) (sets_of v) base v.history c
  as_end {c} r = subst (λ (p : Phase). ReadsAs p (sets_of v) base v.history c) at_end.phase r

  abbrev HasNewSet : Bool → ℕ → Image → Type 0
  HasNewSet alone first c =
      HasSet v.geometry first (used (sets_of v))
      (with_generation (end_generation alone v.head.generation) v.head) v.fresh c

  sets : (alone : Bool) → (alone ≡ true → IsNextDirty v.dirty 1 None) → (c : Image)
      → ReadsAs (end_phase alone) (sets_of v) base v.history c
      → HasNewSet alone 0 c × HasNewSet alone (second (sets_of v)) c
  sets false none c read = (
    all_written v.geometry 0 (used (sets_of v)) (next_head v.head) v.committed v.fresh c read.first,
    all_written v.geometry (second (sets_of v)) (used (sets_of v)) (next_head v.head) v.committed v.fresh c read.second,
  )
  sets true none c read =
      let clean_all = none_left (sets_of v) are v.dirty was.fixed.flags (none refl) in (
        all_written v.geometry 0 (used (sets_of v)) v.head v.committed v.fresh c
            (onward (sets_of v) are v.dirty was.fixed.flags 0 v.head (used (sets_of v)) c
            (omega arith) clean_all read.first),
        all_written v.geometry (second (sets_of v)) (used (sets_of v)) v.head v.committed v.fresh c
            (onward (sets_of v) are v.dirty was.fixed.flags (second (sets_of v)) v.head (used (sets_of v)) c
            (omega arith) clean_all read.second),
      )

  left : (c : Image) → ReadsAs v.phase (sets_of v) base v.history c
      → MayBeLeft Idle (sets_of w) base (v.history ++ entries) (next_count v.since) c
  left c read =
      let is = as_end read in
      let st = sets alone at_end.none c is in
      record {
        first = st.0;
        second = st.1;
        by_old = λ _ n l.
            subst (λ (x : List ℕ). MayHold base (v.history ++ entries) (next_count v.since) n x) (sym (is.served n l))
            (may n);
        below_old = λ _. is.below;
        below_new = λ t. absurd t;
        by_new = λ t. absurd t;
      }

  read_end : (j : Image) → ReadsAs v.phase (sets_of v) base v.history j
      → ReadsAs Idle (sets_of w) base (v.history ++ entries) j
  read_end j read =
      let is = as_end read in
      let st = sets alone at_end.none j is in
      record {
        first = record {
          super = st.0.super;
          below = λ k i a b c f. st.0.each k i a b f;
          from = λ k i a b c f. st.0.each k i a b f;
        };
        second = record {
          super = st.1.super;
          below = λ k i a b c f. st.1.each k i a b f;
          from = λ k i a b c f. st.1.each k i a b f;
        };
        below = is.below;
        served = λ n l. is.served n l ∙ sym (stays n);
      }

  pub kept_end : (e : View) → v.stopped ≡ None
      → ((r : Image) → d.zones ≡ Some r → IsLegal (base_at opening.zones) v.history
      → IsLegal (base_at opening.zones) (v.history ++ entries))
      → Turns Same d e → Calls (λ _. Same) (λ _ _. Same) d e → IsDurable e
      → IsKeptVolume (after_end v alone entries clean named division (next_count v.since)) opening e
  kept_end e runs legal turns call durable =
      kept_call v w opening d e (λ r. Same) runs was
      (record {
        geometry = refl;
        layout = refl;
        opening = refl;
        since = refl;
        stays = call.stays;
        calls = call.calls;
        grows = grows_by_flush call;
        from = told_before d e Same turns;
        shows = told_after d e Same turns;
      })
      (record {
        fixed = record {
          sets = are_sets;
          flags = record { size = ends.size; front = ends.front; clean = λ k l c. refl };
          under_way = tt;
          uses = are_used;
          named = record { size = ends.names.size; each = ends.names.each };
          pointers = was.fixed.pointers;
          in_zones = was.fixed.in_zones;
          candidates = candidates;
          job = job_ended (sets_of v) (end_generation alone v.head.generation) v.pointers v.job was.fixed.job;
          room = was.fixed.room;
        };
        by_now = AreBy-append (next_count v.since) v.history entries (by_next v opening d was) (all_by entries flushes);
        generation = λ one g. risen alone one g;
        faulted = faults_none v.history entries (done_none (next_count v.since) entries flushes) v.stopped
            opening.faults
            e.faults (faults_later v.history v.stopped opening.faults d.faults e.faults was.faulted call.stays.later);
        calm = λ still. calm_more v.history entries (was.calm still)
            (none_calm entries (done_none (next_count v.since) entries flushes));
        legal = λ _. legal;
        past = λ k m x l may. older k m x (omega arith) may;
        reads = λ _ r j t u of_r of_j now.
            let new = read_same v opening d was r j of_r (both_at Same d.zones e.zones turns.reads r j t u) now in
            record {
              read = read_end j new.read;
              pointers = new.pointers;
              whole = record {
                at = λ z seq held. new.whole.at z seq (elim (are_used.held z held) [
                  | inl n ↦ was.fixed.uses.named z n
                  | inr t ↦ was.fixed.uses.target z t
                ]);
              };
              copies = copies v.job j new.copies;
            };
        before = λ r i c one known s t.
            safe_more base v.history (v.history ++ entries) v.since v.since c
            (λ m x may. older v.since m x (omega (arith, one)) may)
            (safe_now v opening d was v.phase v.since r c t (omega arith) known.new_of
            (left_same v opening d was i c v.since (omega arith) known.left_of s known.left_is));
        after = λ r i c one known s t small l.
            safe_of (sets_of w) Idle base (v.history ++ entries) (next_count v.since) c are_sets known.new_of
            (was.based r t)
            (λ x. absurd x)
            (left c (read_same v opening d was r c known.reads_of
            (left_is_read v opening d e runs was turns call durable r c t small l) known.reads).read);
        stops = λ _ r i c one known s t small l.
            left c (read_same v opening d was r c known.reads_of
            (left_is_read v opening d e runs was turns call durable r c t small l) known.reads).read;
      })
