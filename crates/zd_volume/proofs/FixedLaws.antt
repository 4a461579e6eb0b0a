-- What is true of a volume's own values stays true where phase, history, count of calls and cause of a stop change, and
-- what stands in the copy buffer.
use Rattle.std.proofs.Common.{◌≡◌, ℕ, List, length, ◌∙◌, Option, refl}
use Rattle.zd_base.specs.declared.numbers.Why.{Why}
use Rattle.zd_model.specs.History.{HistoryEntry}
use Rattle.zd_volume.specs.Uses.{IsPhase}
use Rattle.zd_volume.specs.Volumes.{IsFixed, PlainVolume}
use Rattle.zd_volume.specs.declared.phase.Phase.{Phase}

module _ (v : PlainVolume) (fixed : IsFixed v) where
  fixed_with : (phase : Phase) (history : List HistoryEntry) (buffer : List ℕ) (since : ℕ) (stopped : Option Why)
      → IsPhase phase v.dirty v.head.generation → length buffer ≡ length v.buffer
      → IsFixed (record v { phase = phase; history = history; buffer = buffer; since = since; stopped = stopped })
  fixed_with phase history buffer since stopped under_way size = record {
    sets = fixed.sets;
    flags = fixed.flags;
    under_way = under_way;
    uses = fixed.uses;
    named = fixed.named;
    pointers = fixed.pointers;
    in_zones = fixed.in_zones;
    candidates = fixed.candidates;
    job = fixed.job;
    room = size ∙ fixed.room;
  }

  -- all but the buffer
  pub fixed_beside : (phase : Phase) (history : List HistoryEntry) (since : ℕ) (stopped : Option Why)
      → IsPhase phase v.dirty v.head.generation
      → IsFixed (record v { phase = phase; history = history; since = since; stopped = stopped })
  fixed_beside phase history since stopped under_way =
      fixed_with phase history v.buffer since stopped under_way refl

  -- the buffer, and the count and the cause
  pub fixed_buffer : (buffer : List ℕ) (since : ℕ) (stopped : Option Why) → length buffer ≡ length v.buffer
      → IsFixed (record v { buffer = buffer; since = since; stopped = stopped })
  fixed_buffer buffer since stopped size =
      fixed_with v.phase v.history buffer since stopped fixed.under_way size
