-- WHAT A STEP LEAVES of chunks that it doesn't touch: their sectors have the last values that they had, and a block of
-- theirs that is valid stays so, whichever zone it then stands in.
use Rattle.std.proofs.Common.{◌≡◌, ◌≢◌, inl, inr, ℕ, ◌/◌, ◌<◌, List, [], ◌∷◌, ◌++◌, length, slice_index_or, Option, None, refl, sym, ap, ◌∙◌, subst, arith}
use Rattle.zd_base.specs.Geometry.{Shape}
use Rattle.zd_base.specs.declared.layout.Layout.{Layout}
use Rattle.zd_disk.specs.Told.{WhereTold, next_count}
use Rattle.zd_model.specs.Bytes.{zero_sector}
use Rattle.zd_model.specs.History.{HistoryEntry, entry_after, last_array}
use Rattle.zd_model.specs.Image.{Image}
use Rattle.zd_model.specs.Places.{zone_at}
use Rattle.zd_model.specs.Plain.{Answer}
use Rattle.zd_model.specs.Plain.Answer.{Done, Fault, Got, Range}
use Rattle.zd_model.specs.Safe.{base_at, last_at}
use Rattle.zd_model.specs.declared.requests.Piece.{Piece}
use Rattle.zd_model.specs.declared.requests.What.{What}
use Rattle.zd_model.specs.declared.requests.What.TheVariants.{Flush}
use Rattle.zd_model.proofs.ArrayLaws.{ends_inside}
use Rattle.zd_model.proofs.HistoryLaws.{last_array-push}
use Rattle.zd_model.proofs.LastLaws.{covers_cases, last_array-append, put_none}
use Rattle.zd_tables.specs.Tables.{tables_in}
use Rattle.zd_volume.specs.Abandons.{IsAbandoned}
use Rattle.zd_volume.specs.Commits.{AreFlushes, flush_entries}
use Rattle.zd_volume.specs.Discards.{DiscardsBlocks, DropsRange, chunk_touched, range_end, range_first}
use Rattle.zd_volume.specs.Flights.{answered, tables_now}
use Rattle.zd_volume.specs.Sets.{Sets, device_sectors}
use Rattle.zd_volume.specs.Uses.{AreCandidates}
use Rattle.zd_volume.specs.Volumes.{IsFixed, PlainVolume, sets_of}
use Rattle.zd_volume.specs.declared.work.Place.{Place}
use Rattle.zd_volume.proofs.AbandonLaws.{used_abandoned}
use Rattle.zd_volume.proofs.Choices.{some_blocks}
use Rattle.zd_volume.proofs.DropPlaces.{covers_within, outside_there}
use Rattle.zd_volume.proofs.DropServes.{last_outside}
use Rattle.zd_routes.specs.Routes.{WritesBlocks}
use Rattle.zd_routes.specs.Writes.{WritesPiece, with_failed_write}
use Rattle.zd_routes.proofs.PromotedPlaces.{promotion_stays}
use Rattle.zd_routes.proofs.WriteCovers.{touched_within}
use Rattle.zd_routes.proofs.WriteGoals.{goal_zone}
use Rattle.zd_routes.proofs.WriteLasts.{last_beside}
use Rattle.zd_routes.proofs.WritePlaces.{others_there}
use Rattle.zd_write.specs.Tries.{DiscardsPiece, EntersWrite, FailsWrite, GivesUpOn, Settles}
use Rattle.zd_write.proofs.GivenJobs.{given_rest, on_or_not}
use Rattle.zd_write.proofs.SettledRest.{bare_or_not, settled_rest}

-- the chunk of sector n of the device
abbrev pub chunk_at : PlainVolume → ℕ → ℕ
chunk_at v n = n / 8 / v.geometry.zone_blocks

-- sector n is of a block that is valid in some zone
abbrev pub IsValidAt : PlainVolume → ℕ → Type 0
IsValidAt v n = zone_at v.geometry.zone_blocks (tables_now v) n ≢ None

pub record Spares (told : Option Image) (Touched : ℕ → Type 0) (v w : PlainVolume) : Type 0 where
  pub geometry : w.geometry ≡ v.geometry
  pub layout : w.head.layout ≡ v.head.layout
  pub generation : w.opening_generation ≡ v.opening_generation
  pub last : WhereTold told (λ _. (n : ℕ) → (Touched (chunk_at v n) → ⊥) →
      last_at (base_at told) w.history n ≡ last_at (base_at told) v.history n)
  pub valid : (n : ℕ) → (Touched (chunk_at v n) → ⊥) → IsValidAt v n → IsValidAt w n

-- no chunk
abbrev pub Nowhere : ℕ → Type 0
Nowhere chunk = ⊥

module _ (told : Option Image) where
  pub spares_then : (Touched : ℕ → Type 0) (u v w : PlainVolume) → Spares told Touched u v → Spares told Touched v w
      → Spares told Touched u w
  spares_then Touched u v w one more =
      let same : (n : ℕ) → (Touched (chunk_at u n) → ⊥) → Touched (chunk_at v n) → ⊥ =
      λ n off. subst (λ (g : Shape). Touched (n / 8 / g.zone_blocks) → ⊥) (sym one.geometry) off in
      record {
        geometry = more.geometry ∙ one.geometry;
        layout = more.layout ∙ one.layout;
        generation = more.generation ∙ one.generation;
        last = λ i is n off. more.last i is n (same n off) ∙ one.last i is n off;
        valid = λ n off valid. more.valid n (same n off) (one.valid n off valid);
      }

  -- what touches no chunk touches none of these
  pub spares_more : (Touched : ℕ → Type 0) (v w : PlainVolume) → Spares told Nowhere v w → Spares told Touched v w
  spares_more Touched v w one = record {
    geometry = one.geometry;
    layout = one.layout;
    generation = one.generation;
    last = λ i is n off. one.last i is n (λ none. none);
    valid = λ n off valid. one.valid n (λ none. none) valid;
  }

  -- THE TABLES STAY, and so does what the history makes of the sectors
  pub spares_same : (v w : PlainVolume) → w.geometry ≡ v.geometry → w.head.layout ≡ v.head.layout → w.fresh ≡ v.fresh
      → w.opening_generation ≡ v.opening_generation
      → last_array (base_at told) w.history ≡ last_array (base_at told) v.history → Spares told Nowhere v w
  spares_same v w geometry layout fresh generation last = record {
    geometry = geometry;
    layout = layout;
    generation = generation;
    last = λ i is n off. ap (λ (a : List (List ℕ)). slice_index_or a n zero_sector) last;
    valid = λ n off valid.
        subst (λ (g : Shape). zone_at g.zone_blocks (tables_in g w.head.layout w.fresh) n ≢ None) (sym geometry)
        (subst (λ (l : Layout). zone_at v.geometry.zone_blocks (tables_in v.geometry l w.fresh) n ≢ None) (sym layout)
        (subst (λ (b : List ℕ). zone_at v.geometry.zone_blocks (tables_in v.geometry v.head.layout b) n ≢ None)
        (sym fresh) valid));
  }

  -- nothing changes
  pub spares_itself : (v w : PlainVolume) → w ≡ v → Spares told Nowhere v w
  spares_itself v w is =
      subst (λ (x : PlainVolume). Spares told Nowhere v x) (sym is) (spares_same v v refl refl refl refl refl)

-- an entry that isn't Done changes no sector
pub last_quiet : (base : List (List ℕ)) (h : List HistoryEntry) (e : HistoryEntry) → e.reply ≢ Done
    → last_array base (h ++ e ∷ []) ≡ last_array base h
last_quiet base h e quiet = last_array-push base h e ∙ by e.reply quiet
  where
    by : (reply : Answer) → reply ≢ Done → entry_after (last_array base h) e.what reply ≡ last_array base h
    by (Got bytes) quiet = refl
    by Done quiet = absurd (quiet refl)
    by Range quiet = refl
    by Fault quiet = refl

pub not_done : Fault ≢ Done
not_done is = cc

-- nor does a flush
flush_after : (array : List (List ℕ)) (what : What) (reply : Answer) → what ≡ Flush → entry_after array what reply ≡ array
flush_after array what reply is = subst (λ (w : What). entry_after array w reply ≡ array) (sym is) (by reply)
  where
    by : (reply : Answer) → entry_after array Flush reply ≡ array
    by (Got bytes) = refl
    by Done = put_none array Flush (ends_inside (length array) Flush (omega arith)) refl
    by Range = refl
    by Fault = refl

pub last_flushed : (base : List (List ℕ)) (h : List HistoryEntry) (reply : Answer) (at : ℕ) (flushes : List Piece)
    → AreFlushes flushes → last_array base (h ++ flush_entries reply at flushes) ≡ last_array base h
last_flushed base h reply at flushes are =
    last_array-append base h (flush_entries reply at flushes) ∙ each (last_array base h) flushes are
  where
    each : (array : List (List ℕ)) (ps : List Piece) → AreFlushes ps → last_array array (flush_entries reply at ps) ≡ array
    each array [] are = refl
    each array (p ∷ ps) are =
        ap (λ (a : List (List ℕ)). last_array a (flush_entries reply at ps)) (flush_after array p.what reply are.0)
        ∙ each array ps are.1

-- giving a job up leaves what is always true of the values
abandoned_fixed : (from to : PlainVolume) → IsFixed from → IsAbandoned from to → IsFixed to
abandoned_fixed from to fixed did =
    subst (λ (v : PlainVolume). IsFixed v) (sym did.rest) (record {
      sets = fixed.sets;
      flags = fixed.flags;
      under_way = fixed.under_way;
      uses = used_abandoned from to did fixed.job fixed.uses;
      named = fixed.named;
      pointers = fixed.pointers;
      in_zones = fixed.in_zones;
      candidates = subst (λ (order : List ℕ). AreCandidates (sets_of from) from.pointers order from.standings)
          (sym did.order) fixed.candidates;
      job = tt;
      room = fixed.room;
    })

pub given_fixed : (from to : PlainVolume) (chunk : ℕ) → IsFixed from → GivesUpOn from to chunk → IsFixed to
given_fixed from to chunk fixed gives = elim (on_or_not from.job chunk) [
  | inl off ↦ subst (λ (v : PlainVolume). IsFixed v) (sym (gives.off off)) fixed
  | inr on ↦ abandoned_fixed from to fixed (gives.on on)
]

module _ (told : Option Image) where
  given_spares : (from to : PlainVolume) (chunk : ℕ) → GivesUpOn from to chunk → Spares told Nowhere from to
  given_spares from to chunk gives =
      subst (λ (w : PlainVolume). Spares told Nowhere from w) (sym (given_rest from to chunk gives))
      (spares_same told from (record from { job = to.job; division = to.division }) refl refl refl refl refl)

  -- settling a chunk moves no sector
  settled_spares : (from to : PlainVolume) (chunk : ℕ) → 0 < from.geometry.zone_blocks → Settles from to chunk
      → Spares told Nowhere from to
  settled_spares from to chunk some settles = elim (bare_or_not from chunk) [
    | inr none ↦ spares_itself told from to (settles.others none)
    | inl bare ↦
        let did = settles.bare bare.0 bare.1 bare.2 in
        let rest = settled_rest from to chunk settles in
        subst (λ (w : PlainVolume). Spares told Nowhere from w) (sym rest) (record {
          geometry = refl;
          layout = refl;
          generation = refl;
          last = λ i is n off. refl;
          valid = λ n off valid none. valid (sym (promotion_stays (sets_of from) some chunk bare.0 bare.1 to.fresh
              bare.2.entry bare.2.bare did.tables n) ∙ none);
        })
  ]

  -- A WRITE touches its chunk alone
  abbrev On : PlainVolume → What → ℕ → Type 0
  On v what chunk = chunk ≡ chunk_touched v.geometry.zone_blocks what

  written_spares : (from to : PlainVolume) (p : Piece) (place : Place) (zone : ℕ) → IsFixed from
      → WritesBlocks (sets_of from) p.what
      → WhereTold told (λ _. length (base_at told) ≡ device_sectors (sets_of from))
      → WritesPiece from to p place zone → Spares told (On from p.what) from to
  written_spares from to p place zone fixed is based did =
      let goal = goal_zone from fixed p.what place zone did.route in
      let e : HistoryEntry = answered p Done (next_count from.since) in
      subst (λ (w : PlainVolume). Spares told (On from p.what) from w) (sym did.rest) (record {
        geometry = refl;
        layout = refl;
        generation = refl;
        last = λ i at n off. elim (covers_cases p.what n) [
          | inr out ↦ last_beside (sets_of from) (base_at told) (based i at) from.history e is refl n out
          | inl covers ↦ absurd (off (touched_within (sets_of from) p.what is n covers).0)
        ];
        valid = λ n off valid none. valid (sym (others_there (sets_of from) fixed.sets
            (chunk_touched from.geometry.zone_blocks p.what) (range_first from.geometry.zone_blocks p.what)
            (range_end from.geometry.zone_blocks p.what) place zone to.fresh goal.data_zone.1 goal.alone did.range
            (some_blocks (sets_of from) fixed.sets) goal.fits n (λ within. off within.0)) ∙ none);
      })

  -- the same chunk, of a volume with the same geometry
  on_same : (v w x y : PlainVolume) (what : What) → w.geometry ≡ v.geometry → Spares told (On w what) x y
      → Spares told (On v what) x y
  on_same v w x y what same spared =
      subst (λ (g : Shape). Spares told (λ (chunk : ℕ). chunk ≡ chunk_touched g.zone_blocks what) x y) same spared

  -- one step after another, of which the middle one touches the chunk, and the last settles it
  then_settled : (from given mid to : PlainVolume) (what : What) → 0 < from.geometry.zone_blocks
      → Spares told Nowhere from given → Spares told (On given what) given mid
      → Settles mid to (chunk_touched from.geometry.zone_blocks what) → Spares told (On from what) from to
  then_settled from given mid to what some gave touched settles =
      let first = spares_then told (On from what) from given mid (spares_more told (On from what) from given gave)
      (on_same from given given mid what gave.geometry touched) in
      spares_then told (On from what) from mid to first
      (spares_more told (On from what) mid to (settled_spares mid to (chunk_touched from.geometry.zone_blocks what)
      (subst (λ (g : Shape). 0 < g.zone_blocks) (sym first.geometry) some) settles))

  module _ (from : PlainVolume) (p : Piece) (fixed : IsFixed from)
      (based : WhereTold told (λ _. length (base_at told) ≡ device_sectors (sets_of from))) where
    abbrev c : ℕ
    c = chunk_touched from.geometry.zone_blocks p.what

    sets_given : (given : PlainVolume) → GivesUpOn from given c → sets_of given ≡ sets_of from
    sets_given given gives = ap sets_of (given_rest from given c gives)

    based_given : (given : PlainVolume) → GivesUpOn from given c
        → WhereTold told (λ _. length (base_at told) ≡ device_sectors (sets_of given))
    based_given given gives =
        subst (λ (s : Sets). WhereTold told (λ _. length (base_at told) ≡ device_sectors s))
        (sym (sets_given given gives)) based

    -- with the job that is given up, and the chunk that is settled
    pub write_spares : (to : PlainVolume) → WritesBlocks (sets_of from) p.what → EntersWrite from to p
        → Spares told (On from p.what) from to
    write_spares to is did =
        then_settled from did.given did.written to p.what (some_blocks (sets_of from) fixed.sets)
        (given_spares from did.given c did.gives)
        (written_spares did.given did.written p did.place did.zone (given_fixed from did.given c fixed did.gives)
        (subst (λ (s : Sets). WritesBlocks s p.what) (sym (sets_given did.given did.gives)) is)
        (based_given did.given did.gives) did.writes)
        did.settles

    -- one that failed touches none
    pub failed_spares : (to : PlainVolume) → FailsWrite from to p → Spares told Nowhere from to
    failed_spares to did =
        spares_then told Nowhere from did.given to (given_spares from did.given c did.gives)
        (subst (λ (w : PlainVolume). Spares told Nowhere did.given w) (sym did.fails)
        (spares_same told did.given (with_failed_write did.given p) refl refl refl refl
        (last_quiet (base_at told) did.given.history (answered p Fault (next_count did.given.since)) not_done)))

    -- A DISCARD touches its chunk alone
    dropped_spares : (given dropped : PlainVolume) → IsFixed given → DiscardsBlocks (sets_of given) p.what
        → WhereTold told (λ _. length (base_at told) ≡ device_sectors (sets_of given)) → DropsRange given dropped p
        → Spares told (On given p.what) given dropped
    dropped_spares given dropped right is size did =
        let e : HistoryEntry = answered p Done given.since in
        subst (λ (w : PlainVolume). Spares told (On given p.what) given w) (sym did.rest) (record {
          geometry = refl;
          layout = refl;
          generation = refl;
          last = λ i at n off. elim (covers_cases p.what n) [
            | inr out ↦ last_outside (sets_of given) (base_at told) (size i at) given.history e is refl n out
            | inl covers ↦ absurd (off (covers_within (sets_of given) p.what is n covers).0)
          ];
          valid = λ n off valid none. valid (sym (outside_there given.geometry.zone_blocks
              (chunk_touched given.geometry.zone_blocks p.what) (range_first given.geometry.zone_blocks p.what)
              (range_end given.geometry.zone_blocks p.what) (tables_now given)
              (tables_in given.geometry given.head.layout dropped.fresh) did.range.bits
              (λ d z other named own. other (right.sets.new_rules.map.named_once d
              (chunk_touched given.geometry.zone_blocks p.what) z named own))
              n (λ within. off within.0)) ∙ none);
        })

    pub discard_spares : (to : PlainVolume) → DiscardsBlocks (sets_of from) p.what → DiscardsPiece from to p
        → Spares told (On from p.what) from to
    discard_spares to is did =
        then_settled from did.given did.dropped to p.what (some_blocks (sets_of from) fixed.sets)
        (given_spares from did.given c did.gives)
        (dropped_spares did.given did.dropped (given_fixed from did.given c fixed did.gives)
        (subst (λ (s : Sets). DiscardsBlocks s p.what) (sym (sets_given did.given did.gives)) is)
        (based_given did.given did.gives) did.drops)
        did.settles
