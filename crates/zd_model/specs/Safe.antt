-- What a volume serves, and when what a stop leaves is safe.
use Rattle.std.specs.Prelude.{◌≡◌, ℕ, ◌<◌, List, [], length, slice_index_or, Option}
use Rattle.std.specs.Option.{option_map_or}
use Rattle.zd_model.specs.Bytes.{zero_sector}
use Rattle.zd_model.specs.History.{HistoryEntry, last_array}
use Rattle.zd_model.specs.Image.{Image}
use Rattle.zd_model.specs.Stops.{MayHold}
use Rattle.zd_model.specs.Volume.{Chosen, IsWellFormed, chosen, content}

-- the sectors that the chosen set serves; none where no set is chosen
abbrev pub base_of : Image → List (List ℕ)
base_of image = option_map_or (content image) (chosen image) []

-- the same of what a disk tells; none where it tells nothing
abbrev pub base_at : Option Image → List (List ℕ)
base_at told = option_map_or base_of told []

-- sector n after the last entry
abbrev pub last_at : List (List ℕ) → List HistoryEntry → ℕ → List ℕ
last_at base history n = slice_index_or (last_array base history) n zero_sector

-- The image is well-formed, and serves as many sectors as there were before the history. Each of them
-- has a value that it may hold where k calls had returned and the next may be under way.
pub record IsSafe (base : List (List ℕ)) (history : List HistoryEntry) (k : ℕ) (image : Image) : Type 0 where
  pub set : Chosen
  pub well_formed : IsWellFormed image set
  pub size : length (content image set) ≡ length base
  pub sectors : (n : ℕ) → n < length base →
      MayHold base history k n (slice_index_or (content image set) n zero_sector)
