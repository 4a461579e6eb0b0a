-- What a change of one chunk's entry, and of the bits of its zones, has to be.
use Rattle.std.specs.Prelude.{◌≡◌, ◌≢◌, ℕ, ◌<◌, ◌≤◌, false, Some, IsSomeAnd, IsTrue}
use Rattle.zd_base.specs.Geometry.{Shape, zone_count}
use Rattle.zd_base.specs.Layout.{first_data_zone}
use Rattle.zd_model.specs.Tables.{NamesZone, Tables, entry_of, is_valid}
use Rattle.zd_model.specs.declared.metadata.MapEntry.{MapEntry}
use Rattle.zd_volume.specs.Jobs.{IsNamed}
use Rattle.zd_volume.specs.Sets.{Sets, new_tables, old_tables}

-- an entry that a chunk may have: the zones are data zones that no other chunk has, nor had at the
-- last commit
pub record MayHave (s : Sets) (chunk : ℕ) (entry : MapEntry) : Type 0 where
  pub data_zones : (z : ℕ) → NamesZone entry z →
      (first_data_zone s.geometry s.head.layout ≤ z) × (z < zone_count s.geometry)
  pub buffers : (b : ℕ) → entry.buffer ≡ Some b →
      (b < s.geometry.conv) × IsSomeAnd entry.zone (λ z. s.geometry.conv ≤ z)
  pub only : (d z : ℕ) → NamesZone (entry_of (new_tables s) d) z → NamesZone entry z → d ≡ chunk
  pub limbo : (d z : ℕ) → NamesZone (entry_of (old_tables s) d) z → NamesZone entry z → d ≡ chunk

-- One chunk has this entry now, and the others have theirs. A zone that it gave up has no valid
-- block, no block is valid in both its zones, and zones of which it has neither are as they were.
pub record ChangesChunk (g : Shape) (chunk : ℕ) (entry : MapEntry) (old new : Tables) : Type 0 where
  pub here : entry_of new chunk ≡ entry
  pub others : (c : ℕ) → c ≢ chunk → entry_of new c ≡ entry_of old c
  pub rest : (z x : ℕ) → x < g.zone_blocks → (NamesZone entry z → ⊥) →
      (NamesZone (entry_of old chunk) z → ⊥) → is_valid new z x ≡ is_valid old z x
  pub left : (z x : ℕ) → x < g.zone_blocks → NamesZone (entry_of old chunk) z →
      (NamesZone entry z → ⊥) → is_valid new z x ≡ false
  pub one_place : (z b x : ℕ) → entry.zone ≡ Some z → entry.buffer ≡ Some b → x < g.zone_blocks →
      IsTrue (is_valid new z x) → is_valid new b x ≡ false

-- a zone that may be given to a chunk: a data zone that no tables name
pub record IsSpare (s : Sets) (z : ℕ) : Type 0 where
  pub data_zone : (first_data_zone s.geometry s.head.layout ≤ z) × (z < zone_count s.geometry)
  pub old : IsNamed (old_tables s) z → ⊥
  pub new : IsNamed (new_tables s) z → ⊥
