-- THE HEADLINE, phrase by phrase. From a well-formed image, however workers, reclaim and flusher interleave, a run
-- reports a legal history of a plain block array with each caller's requests once, in its order; every write to a
-- sequential zone falls at its write pointer; and a stop before or within any device write leaves an image that opens,
-- each sector holding its value at the last acknowledged flush or from a later request.
use Rattle.std.specs.Prelude.{◌≡◌, ℕ, ◌-◌, ◌/◌, ◌^◌, ◌<◌, List, length, map}
use Rattle.zd_disk.specs.Moments.{AtEach}
use Rattle.zd_disk.specs.View.{View}
use Rattle.zd_model.specs.History.{HistoryEntry, IsLegal, IsOrdered, mark_of_entry, mark_of_piece, marks_of_caller}
use Rattle.zd_model.specs.Image.{Image}
use Rattle.zd_model.specs.Pieces.{pieces_of}
use Rattle.zd_model.specs.Safe.{IsSafe, base_of}
use Rattle.zd_model.specs.Stops.{AreBy}
use Rattle.zd_model.specs.declared.requests.Piece.{Piece}
use Rattle.zd_model.specs.declared.requests.Request.{Request}
use Rattle.zd_state.specs.ClosedImages.{IsClosedImage}
use Rattle.zd_volume.specs.FaultCounts.{AreCalm}

-- 'each caller's requests': the pieces of a plan, cut by the chunks of the volume that this image is
abbrev pub pieces_in : Image → List Request → List Piece
pieces_in image plan = pieces_of image.geometry.zone_blocks (length (base_of image) / 8) plan

-- What is promised of a history over the image that the disk read as, once that was opened: so many writing calls had
-- returned then (`opened`), and the disk tells this now. 'However they interleave': of any order of steps. What is said
-- of calls and stops is said while the count of writing calls is below its end.
pub record KeepsHeadline (image : Image) (plan : List Request) (history : List HistoryEntry) (opened : ℕ) (now : View)
    : Type 0 where
  -- 'a legal history of a plain block array': of the content of the image
  pub legal : now.calls < 2 ^ 64 - 1 → IsLegal (base_of image) history
  -- 'each caller's requests once, in its order': its entries are the first of its pieces
  pub ordered : IsOrdered image.geometry.zone_blocks (length (base_of image) / 8) plan history
  -- no entry is told of a moment that is still to come
  pub by_now : now.calls < 2 ^ 64 - 1 → AreBy (now.calls - opened) history
  -- 'a stop before or within any device write': at each moment since opening, with the next call under way, it
  -- 'leaves an image that opens' (`well_formed`), 'each sector holding its value at the last acknowledged flush or from
  -- a later request' (`sectors`)
  pub safe : now.calls < 2 ^ 64 - 1 → AtEach (IsSafe (base_of image) history) opened now.calls now.left

-- ALL IS DONE: each caller's pieces are entered, and nothing else; no write and no flush failed; and a stop then leaves
-- the last array alone, in both sets
pub record DoesAll (image : Image) (plan : List Request) (history : List HistoryEntry) (now : View) : Type 0 where
  pub all : (caller : ℕ) → marks_of_caller caller (map mark_of_entry history)
      ≡ marks_of_caller caller (map mark_of_piece (pieces_in image plan))
  pub calm : AreCalm history
  pub closed : now.calls < 2 ^ 64 - 1 → (i : Image) → now.left now.calls i → IsClosedImage (base_of image) history i

-- 'Every write to a sequential zone falls at its write pointer' is what `ZonedDisk::write` asks for: no call that is
-- proved can make another one. 'From a well-formed image' and 'reports' are `ends` and `tells` of a run (`Reports`).
