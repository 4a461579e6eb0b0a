-- What is told of a run.
use Rattle.std.specs.Prelude.{ℕ, List, ◌++◌, codes}
use Rattle.uuid.specs.Text.{hyphenated_text, lower}
use Rattle.zd_model.specs.Report.{outcome_text}
use Rattle.zd_model.specs.Text.{hex, numeral}
use Rattle.zd_model.specs.declared.metadata.Super.{Super as Head}
use Rattle.zd_model.specs.declared.texts.NoVolume.{NoVolume as Kind}
use Rattle.zd_model.specs.declared.texts.NoVolume.TheVariants.{BadMap, BadBits}
use Rattle.zd_model.specs.declared.texts.Outcome.TheVariants as runs
use Rattle.zd_repair.specs.declared.tables.Repaired.{Repaired as Dropped}
use Rattle.zd_tell.specs.Telling.{Telling}
use Rattle.zd_admin.specs.declared.outcome.AdminWork.TheVariants.{Formatted, Checked, Repaired, Shown, Relabeled, Upgraded}
use Rattle.zd_admin.specs.declared.outcome.Difference.{Difference}
use Rattle.zd_admin.specs.declared.outcome.Difference.TheVariants.{Super, Block}
use Rattle.zd_admin.specs.declared.outcome.Outcome.{Outcome}
use Rattle.zd_admin.specs.declared.outcome.Outcome.TheVariants.{Done, Usage, NoVolume, Device, Memory, Generation, Differs, Unfit, Old, NotOld}
use Rattle.zd_admin.specs.declared.volume.VolumeStatus.{VolumeStatus}

-- the exit status of a run that ended so
abbrev pub admin_status : Outcome → ℕ
admin_status (Done work) = 0
admin_status Usage = 1
admin_status (NoVolume kind) = 3
admin_status Device = 4
admin_status Memory = 7
admin_status Generation = 8
admin_status (Differs difference) = 9
admin_status Unfit = 10
admin_status Old = 12
admin_status NotOld = 13

-- a word, and a number behind it
unfoldable pub number_after : List ℕ → ℕ → List ℕ
number_after word n = word ++ numeral n

-- a line of both
abbrev pub number_line : List ℕ → ℕ → List ℕ
number_line word n = number_after word n ++ codes "\n"

-- a line of a word and an identifier, and that of a label
unfoldable pub id_line : List ℕ → List ℕ → List ℕ
id_line word id = word ++ (hyphenated_text lower id ++ codes "\n")

unfoldable pub label_line : List ℕ → List ℕ
label_line label = codes "label " ++ (hex label ++ codes "\n")

-- the lines of what a super block says
unfoldable pub head_lines : Head → List ℕ
head_lines head = number_line (codes "version ") head.version ++ (label_line head.label
    ++ (id_line (codes "volume ") head.volume ++ (id_line (codes "device ") head.device
    ++ number_line (codes "generation ") head.generation)))

-- how many chunks there are, and how many of them have a zone and a buffer
unfoldable pub chunks_line : VolumeStatus → List ℕ
chunks_line status = number_after (codes "chunks ") status.head.layout.chunks
    ++ (number_after (codes " mapped ") status.mapped
    ++ (number_after (codes " buffered ") status.buffered ++ codes "\n"))

-- how many zones are free
unfoldable pub free_line : VolumeStatus → List ℕ
free_line status = number_after (codes "free ") status.free_conventional
    ++ (number_after (codes " conventional ") status.free_sequential ++ codes " sequential\n")

-- what is told of a disk that was formatted, of one that was repaired, and of a volume that is shown
abbrev pub formatted_text : ℕ → ℕ → List ℕ
formatted_text chunks zone_blocks = number_after (codes "formatted ") chunks
    ++ (number_after (codes " chunks of ") zone_blocks ++ codes " blocks\nend 0 ok\n")

abbrev pub repaired_text : Dropped → List ℕ
repaired_text dropped = number_after (codes "repaired ") dropped.entries
    ++ (number_after (codes " entries ") dropped.bits ++ codes " bits\nend 0 ok\n")

abbrev pub shown_text : VolumeStatus → List ℕ
shown_text status =
    head_lines status.head ++ (chunks_line status ++ (free_line status ++ codes "end 0 ok\n"))

-- the line that tells what differs first, and its number
abbrev pub differs_text : Difference → List ℕ
differs_text (Super set) = number_line (codes "end 9 differs super ") set
differs_text (Block block) = number_line (codes "end 9 differs block ") block

-- the line that tells why a disk is no volume, the same in every program
abbrev pub refused_text : Kind → List ℕ
refused_text kind = outcome_text (runs.NoVolume kind)

-- all that a run prints
abbrev pub admin_output : Outcome → List ℕ
admin_output (Done (Formatted chunks zone_blocks)) = formatted_text chunks zone_blocks
admin_output (Done Checked) = codes "end 0 ok\n"
admin_output (Done (Repaired dropped)) = repaired_text dropped
admin_output (Done (Shown status)) = shown_text status
admin_output (Done Relabeled) = codes "end 0 ok\n"
admin_output (Done Upgraded) = codes "end 0 ok\n"
admin_output Usage = codes "end 1 usage\n"
admin_output (NoVolume kind) = refused_text kind
admin_output Device = codes "end 4 device\n"
admin_output Memory = codes "end 7 memory\n"
admin_output Generation = codes "end 8 generation\n"
admin_output (Differs difference) = differs_text difference
admin_output Unfit = codes "end 10 unfit\n"
admin_output Old = codes "end 12 old-version\n"
admin_output NotOld = codes "end 13 not-old\n"

-- both
abbrev pub admin_telling : Outcome → Telling
admin_telling outcome = record { text = admin_output outcome; status = admin_status outcome }

-- its line tells no number, so no memory is needed for it
abbrev pub IsFixedOutput : Outcome → Type 0
IsFixedOutput (Done (Formatted chunks zone_blocks)) = ⊥
IsFixedOutput (Done (Repaired dropped)) = ⊥
IsFixedOutput (Done (Shown status)) = ⊥
IsFixedOutput (Differs difference) = ⊥
IsFixedOutput (NoVolume (BadMap chunk)) = ⊥
IsFixedOutput (NoVolume (BadBits zone block)) = ⊥
IsFixedOutput outcome = Unit {0}
