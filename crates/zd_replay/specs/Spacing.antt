-- How many writing calls lie between the entries of a history, and how many generations a run needs.
use Rattle.std.specs.Prelude.{◌≡◌, ℕ, ◌+◌, ◌-◌, ◌*◌, ◌^◌, ◌<◌, List, Some}
use Rattle.zd_base.specs.Layout.{used_blocks}
use Rattle.zd_model.specs.History.{HistoryEntry}
use Rattle.zd_model.specs.Image.{Image}
use Rattle.zd_model.specs.Volume.{Chosen, chosen}
use Rattle.zd_progress.specs.Paces.{AreClose}
use Rattle.zd_session.specs.LoneSessions.{ats_of, most_between}

-- NEIGHBOURING ENTRIES ARE CLOSE, and so is the first one to opening's end, over the volume that this image is
abbrev pub IsSpaced : Image → List HistoryEntry → Type 0
IsSpaced image history = (set : Chosen) → chosen image ≡ Some set →
    AreClose (most_between image.geometry.zone_blocks (used_blocks image.geometry set.head.layout)) (ats_of history)

-- THE GENERATIONS DON'T SUFFICE for so many pieces, with three commits for each, and closing
abbrev pub LacksGenerations : Image → ℕ → Type 0
LacksGenerations image pieces = (set : Chosen) × (chosen image ≡ Some set)
    × (2 ^ 64 - 1 < set.head.generation + 3 * pieces + 2)
