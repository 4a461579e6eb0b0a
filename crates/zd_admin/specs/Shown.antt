-- What is shown of a volume.
use Rattle.std.specs.Prelude.{◌≡◌, ℕ, ◌-◌, not, List, count_by}
use Rattle.std.specs.List.{range_with_len}
use Rattle.std.specs.Option.{is_some}
use Rattle.zd_base.specs.Geometry.{Shape, zone_count}
use Rattle.zd_base.specs.Layout.{first_data_zone}
use Rattle.zd_base.specs.declared.layout.Layout.{Layout}
use Rattle.zd_model.specs.Faults.{has}
use Rattle.zd_model.specs.Image.{Image}
use Rattle.zd_model.specs.Tables.{Tables, named_zones}
use Rattle.zd_model.specs.Volume.{Chosen, IsWellFormed, tables_of}
use Rattle.zd_model.specs.declared.metadata.MapEntry.{MapEntry}
use Rattle.zd_admin.specs.declared.volume.VolumeStatus.{VolumeStatus}

-- how many chunks of a map have a zone, and how many have a buffer
abbrev pub mapped_chunks : List MapEntry → ℕ
mapped_chunks entries = count_by (λ e. is_some e.zone) entries

abbrev pub buffered_chunks : List MapEntry → ℕ
buffered_chunks entries = count_by (λ e. is_some e.buffer) entries

-- how many zones no chunk names, of those from one zone on and before another
abbrev pub free_zones : Tables → ℕ → ℕ → ℕ
free_zones t from end = count_by (λ z. not (has (named_zones t) z)) (range_with_len from (end - from))

-- how much of a volume with these tables is in use: the chunks by what they have, and the data zones that are free
-- by their kind
pub record CountsUse (g : Shape) (l : Layout) (t : Tables) (status : VolumeStatus) : Type 0 where
  pub mapped : status.mapped ≡ mapped_chunks t.entries
  pub buffered : status.buffered ≡ buffered_chunks t.entries
  pub conventional : status.free_conventional ≡ free_zones t (first_data_zone g l) g.conv
  pub sequential : status.free_sequential ≡ free_zones t g.conv (zone_count g)

-- what is shown of a well-formed image: the head of its chosen set, and how much of it is in use
pub record IsStatus (image : Image) (status : VolumeStatus) : Type 0 where
  pub set : Chosen
  pub well_formed : IsWellFormed image set
  pub head : status.head ≡ set.head
  pub counts : CountsUse image.geometry set.head.layout (tables_of image set) status
