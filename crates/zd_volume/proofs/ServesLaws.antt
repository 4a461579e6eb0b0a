-- What a kept volume serves is the last array of its history, as a list.
use Rattle.std.proofs.Common.{◌≡◌, ℕ, ◌<◌, ◌≤◌, List, length, slice_index, None, Some, ◌∙◌, arith}
use Rattle.std.proofs.lemmas.List.{same_lists, get_or_default}
use Rattle.zd_base.specs.Geometry.{zone_count}
use Rattle.zd_base.specs.Layout.{rounded_up}
use Rattle.zd_model.specs.Bytes.{zero_sector}
use Rattle.zd_model.specs.History.{HistoryEntry, last_array}
use Rattle.zd_model.specs.Image.{Image}
use Rattle.zd_model.specs.Safe.{base_at}
use Rattle.zd_model.specs.Tables.{served}
use Rattle.zd_model.proofs.ArrayLaws.{length-last_array}
use Rattle.zd_model.proofs.ContentLaws.{length-served, served-at}
use Rattle.zd_disk.specs.View.{View}
use Rattle.zd_volume.specs.LeftImages.{ReadsAs}
use Rattle.zd_volume.specs.Sets.{Sets, device_sectors, new_tables}
use Rattle.zd_volume.specs.Volumes.{IsKeptVolume, PlainVolume, sets_of}
use Rattle.zd_volume.specs.declared.phase.Phase.{Phase}
use Rattle.zd_volume.proofs.Images.{length-device}

-- an image as which the disk reads
pub reads_list : (p : Phase) (s : Sets) (base : List (List ℕ)) (h : List HistoryEntry) (i : Image)
    → length base ≡ device_sectors s → ReadsAs p s base h i
    → served s.geometry.zone_blocks (new_tables s) i.sector ≡ last_array base h
reads_list p s base h i size reads =
    let b : ℕ = s.geometry.zone_blocks in
    let all = length-device s s.new i in
    let entries = length-served s.geometry.zone_blocks (new_tables s) i.sector in
    let last = length-last_array base h in
    same_lists (served s.geometry.zone_blocks (new_tables s) i.sector) (last_array base h)
    (omega (arith, all, last, size))
    (λ n d low.
    served-at s.geometry.zone_blocks (new_tables s) i.sector n d (omega (arith, low, entries))
    ∙ reads.served n (omega (arith, low, all))
    ∙ get_or_default (last_array base h) n zero_sector d (omega (arith, low, all, last, size)))

pub serves_last : (v : PlainVolume) (opening now : View) → IsKeptVolume v opening now → v.stopped ≡ None
    → (i : Image) → now.zones ≡ Some i
    → served v.geometry.zone_blocks (new_tables (sets_of v)) i.sector ≡ last_array (base_at opening.zones) v.history
serves_last v opening now kept runs i there =
    reads_list v.phase (sets_of v) (base_at opening.zones) v.history i (kept.based i there)
    (kept.reads runs i there).read

-- the pointer of a sequential zone is that of the disk, rounded up
pub pointer_held : (v : PlainVolume) (opening now : View) → IsKeptVolume v opening now → v.stopped ≡ None
    → (z : ℕ) → v.geometry.conv ≤ z → z < zone_count v.geometry → (i : Image) → now.zones ≡ Some i
    → slice_index v.pointers z ≡ rounded_up (i.held z) 8
pointer_held v opening now kept runs z sequential low i there = (kept.reads runs i there).pointers.at z sequential low
