-- What a discard makes of a volume's values: the bits of a range of a chunk's blocks are cleared.
use Rattle.std.specs.Prelude.{◌≡◌, ◌≢◌, ◌⊎◌, ℕ, ◌+◌, ◌/◌, ◌%◌, ◌<◌, ◌≤◌, Bool, false, List, [], ◌∷◌}
use Rattle.std.specs.Prelude.{◌++◌, length, Option, Some, None, ⊤}
use Rattle.zd_alloc.specs.Candidates.{GivesClass}
use Rattle.zd_alloc.specs.declared.job_class.JobClass.{JobClass}
use Rattle.zd_model.specs.History.{HistoryEntry}
use Rattle.zd_model.specs.Plain.{Answer as answers}
use Rattle.zd_model.specs.Requests.{block_count, first_block, operation_of}
use Rattle.zd_model.specs.Requests.Operation.{Discarding}
use Rattle.zd_model.specs.Tables.{NamesZone, Tables, entry_of, is_valid}
use Rattle.zd_model.specs.declared.metadata.MapEntry.{MapEntry}
use Rattle.zd_model.specs.declared.requests.Piece.{Piece}
use Rattle.zd_model.specs.declared.requests.What.{What}
use Rattle.zd_sets.specs.Blocks.{blocks_of}
use Rattle.zd_tables.specs.Tables.{tables_in}
use Rattle.zd_volume.specs.Flights.{answered}
use Rattle.zd_volume.specs.Jobs.{class_in}
use Rattle.zd_volume.specs.Marks.{MarksChanged}
use Rattle.zd_volume.specs.Sets.{Sets, new_tables}
use Rattle.zd_volume.specs.Volumes.{PlainVolume, sets_of}
use Rattle.zd_volume.specs.declared.work.Work.{Work}

-- the chunk of a piece, and its blocks of that chunk: the first, and the one behind the last. Zones
-- have b blocks
abbrev pub chunk_touched : ℕ → What → ℕ
chunk_touched b what = first_block what / b

abbrev pub range_first : ℕ → What → ℕ
range_first b what = first_block what % b

abbrev pub range_end : ℕ → What → ℕ
range_end b what = range_first b what + block_count what

-- it is a discard of blocks of one chunk of the device
pub record DiscardsBlocks (s : Sets) (what : What) : Type 0 where
  pub discards : operation_of what ≡ Discarding
  pub inside : range_end s.geometry.zone_blocks what ≤ s.geometry.zone_blocks
  pub there : chunk_touched s.geometry.zone_blocks what < s.head.layout.chunks

-- the blocks of a range are invalid in the zones of an entry now; all else of the tables is as it
-- was
pub record ClearsBits (e : MapEntry) (first end : ℕ) (old new : Tables) : Type 0 where
  pub inside : (z x : ℕ) → NamesZone e z → first ≤ x → x < end → is_valid new z x ≡ false
  pub outside : (z x : ℕ) → NamesZone e z → (x < first) ⊎ (end ≤ x) →
      is_valid new z x ≡ is_valid old z x
  pub others : (z x : ℕ) → (NamesZone e z → ⊥) → is_valid new z x ≡ is_valid old z x
  pub entries : (c : ℕ) → entry_of new c ≡ entry_of old c

-- the same of the blocks of a set: the super block and the map are as they were
pub record ClearsRange (s : Sets) (chunk first end : ℕ) (bytes : List ℕ) : Type 0 where
  pub bits : ClearsBits (entry_of (new_tables s) chunk) first end (new_tables s)
      (tables_in s.geometry s.head.layout bytes)
  pub front : (k : ℕ) → k < 1 + s.head.layout.map_blocks → blocks_of bytes k 1 ≡ blocks_of s.new k 1
  pub size : length bytes ≡ length s.new

-- no job is under way on this chunk
abbrev pub NoJobOn : Option Work → ℕ → Type 0
NoJobOn None chunk = ⊤
NoJobOn (Some w) chunk = w.job.chunk ≢ chunk

-- the tables, the flags and the classes are these, and an entry is added
abbrev pub after_drop : PlainVolume → List ℕ → List Bool → List (Option JobClass) → HistoryEntry
    → PlainVolume
after_drop v fresh dirty classes e = record v {
  fresh = fresh;
  dirty = dirty;
  standings = record v.standings { classes = classes };
  history = v.history ++ e ∷ [];
}

-- THE DISCARD OF A PIECE: its blocks are invalid in both zones of the chunk, the blocks of the set
-- that changed are dirty, the chunk has its class anew, and the piece is entered with Done
pub record DropsRange (from to : PlainVolume) (p : Piece) : Type 0 where
  pub range : ClearsRange (sets_of from) (chunk_touched from.geometry.zone_blocks p.what)
      (range_first from.geometry.zone_blocks p.what) (range_end from.geometry.zone_blocks p.what) to.fresh
  pub dirty : MarksChanged from.fresh to.fresh from.dirty to.dirty
  pub classes : GivesClass (chunk_touched from.geometry.zone_blocks p.what)
      (class_in from.geometry from.pointers (tables_in from.geometry from.head.layout to.fresh)
      (chunk_touched from.geometry.zone_blocks p.what))
      from.standings.classes to.standings.classes
  pub rest : to ≡ after_drop from to.fresh to.dirty to.standings.classes
      (answered p answers.Done from.since)
