-- Images of which only the first blocks of zones count, with super blocks that are cut short.
use Rattle.std.specs.Prelude.{ℕ, ◌*◌, ◌==◌, if◌then◌else◌, List, [], ◌∷◌, slice_index_or}
use Rattle.zd_base.specs.declared.layout.Layout.{Layout}
use Rattle.zd_model.specs.Bytes.{overwrite}
use Rattle.zd_model.specs.Image.{Image}
use Rattle.zd_model.specs.Volume.{Chosen}
use Rattle.zd_examples.specs.Blocks.{short_block}
use Rattle.zd_examples.specs.Fresh.{bare_head, fresh_layout, head, small}

-- the image whose zones begin with these blocks
abbrev pub beginning : List (List ℕ) → Image
beginning blocks = record {
  geometry = small;
  held = λ z. 128;
  sector = λ z i. if i == 0 then slice_index_or blocks z [] else [];
}

-- sets of two, of five and of six zones of 16 blocks, and of none
abbrev pub of_blocks : ℕ → Layout
of_blocks n = record fresh_layout { meta_blocks = n }

-- the super block of a set of so many blocks in a zone, with this generation
abbrev pub at_zone : ℕ → ℕ → ℕ → List ℕ
at_zone zone blocks generation = short_block (head generation (16 * zone) (of_blocks blocks))

-- the same with a byte changed in its magic, or behind it
abbrev pub without_magic : List ℕ → List ℕ
without_magic block = overwrite block 1 (0 ∷ [])

abbrev pub spoilt : List ℕ → List ℕ
spoilt block = overwrite block 50 (1 ∷ [])

-- set 0, and set 1 in this zone
abbrev pub first_of : ℕ → ℕ → ℕ → Chosen
first_of blocks generation other = record {
  set = 0;
  first = 0;
  other = other;
  head = head generation 0 (of_blocks blocks);
}

abbrev pub second_at : ℕ → ℕ → ℕ → Chosen
second_at zone blocks generation = record {
  set = 1;
  first = zone;
  other = 0;
  head = head generation (16 * zone) (of_blocks blocks);
}

-- set 1 in zone 1, in version 1
abbrev pub second_bare : ℕ → Chosen
second_bare generation = record { set = 1; first = 1; other = 0; head = bare_head generation 16 }
