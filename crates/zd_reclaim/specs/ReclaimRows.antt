-- Worked rows: zones of 16 blocks, of which the first six are conventional.
use Rattle.std.specs.Prelude.{◌≡◌, ℕ, [], ◌∷◌, ◌++◌, replicate, Option, Some, None}
use Rattle.zd_base.specs.Geometry.{Shape}
use Rattle.zd_base.specs.declared.layout.Layout.{Layout}
use Rattle.zd_model.specs.Tables.{Tables}
use Rattle.zd_volume.specs.Volumes.{PlainVolume}
use Rattle.zd_volume.specs.declared.work.Job.{Job}
use Rattle.zd_volume.specs.declared.work.JobKind.{JobKind}
use Rattle.zd_jobs.specs.Possible.{kind_by, kind_on}

abbrev pub small_disk : Shape
small_disk = record { zone_blocks = 16; conv = 6; seq = 6 }

abbrev pub small_layout : Layout
small_layout = record {
  meta_blocks = 14;
  reserved = 2;
  chunks = 8;
  map_blocks = 1;
  bitmap_blocks = 12;
}

-- a disk of ordinary size, with zones of 256 MiB
abbrev pub ordinary_disk : Shape
ordinary_disk = record { zone_blocks = 65536; conv = 524; seq = 51632 }

abbrev pub ordinary_layout : Layout
ordinary_layout = record {
  meta_blocks = 104415;
  reserved = 2;
  chunks = 52150;
  map_blocks = 102;
  bitmap_blocks = 104312;
}

-- tables in which one zone alone has valid blocks, by the first byte of its bitmap
abbrev pub one_bitmap : ℕ → ℕ → Tables
one_bitmap zone byte = record { entries = []; bits = replicate zone [] ++ (byte ∷ []) ∷ [] }

-- the job on a chunk alone in a zone whose bitmap begins with this byte
abbrev pub kind_in : ℕ → ℕ → Option JobKind
kind_in zone byte = kind_by small_disk [] (one_bitmap zone byte) (Some zone) None

-- that on a chunk of zone 6, which is written up to this block, with buffer 2, whose bitmap begins with this byte
abbrev pub kind_beside : ℕ → ℕ → Option JobKind
kind_beside pointer byte =
    kind_by small_disk (replicate 6 0 ++ pointer ∷ []) (one_bitmap 2 byte) (Some 6) (Some 2)

abbrev pub job_of : JobKind → ℕ → Job
job_of kind chunk = record { kind = kind; chunk = chunk }

-- a volume of two chunks, in this use order, with these jobs on them
pub record HasTwoJobs (v : PlainVolume) (oldest other : ℕ) (on_0 on_1 : Option JobKind) : Type 0 where
  pub chunks : v.head.layout.chunks ≡ 2
  pub order : v.division.order ≡ oldest ∷ other ∷ []
  pub zero : kind_on v 0 ≡ on_0
  pub one : kind_on v 1 ≡ on_1
