-- What calls make of tables that are held.
use Rattle.std.proofs.Common.{◌≡◌, ◌≢◌, ◌⊎◌, ℕ, ◌+◌, ◌*◌, ◌-◌, ◌%◌, ◌<◌, ◌≤◌, min, max, Bool, List, length, set, None, inl, inr, sym, ap, ap₂, ◌∙◌, subst, arith}
use Rattle.std.proofs.Common.{get_or-set_same, get_or-set_other, length-set}
use Rattle.std.proofs.lemmas.Bool.{cases_eq, cases_lt}
use Rattle.zd_base.specs.Geometry.{IsShape, Shape, per, zone_count}
use Rattle.zd_base.specs.Layout.{Fits}
use Rattle.zd_base.specs.declared.layout.Layout.{Layout}
use Rattle.zd_model.specs.Tables.{Tables, entry_at}
use Rattle.zd_model.specs.declared.metadata.MapEntry.{MapEntry}
use Rattle.zd_sets.specs.Blocks.{blocks_of}
use Rattle.zd_sets.specs.Lending.{with_bytes_at}
use Rattle.zd_tables.specs.Tables.{tables_in}
use Rattle.zd_tables.specs.Changes.{ChangesBits, SetsBits, SetsEntry, SetsPart, TellsParts, bits_block, entry_block}
use Rattle.zd_tables.specs.Counts.{AreHeld, IsCounted, count_at, part_blocks}
use Rattle.zd_tables.specs.Held.{HeldTables, SamePlace, tables_held}
use Rattle.zd_tables.specs.declared.part.PartCount.{PartCount}
use Rattle.zd_sets.proofs.LentLaws.{lent_blocks, only_blocks}
use Rattle.zd_tables.proofs.TableLaws.{range_changed}
use Rattle.zd_tables.proofs.ZoneParts.{bits_room, one_or_two}
use Rattle.zd_tables.proofs.GivenLaws.{sets_range, tells_parts}

other_than : (b k : ℕ) → k ≢ b → (k < b) ⊎ (b + 1 ≤ k)
other_than b k off = elim (cases_lt k b) [ inl low ↦ inl low | inr high ↦ inr (omega (arith, high, off)) ]

-- A BLOCK WAS LENT
module _ (g : Shape) (l : Layout) (old ws : List ℕ) (counts : List PartCount) (held : AreHeld g l old counts)
    (size : length ws ≡ 4096) where
  -- with bits, which are counted
  pub part_held : (part : ℕ) (count : PartCount) → part < zone_count g * per g → IsCounted ws (part_blocks g) count
      → AreHeld g l (with_bytes_at old (4096 * (1 + l.map_blocks + part)) ws) (set counts part count)
  part_held part count low counted =
      let fits : 4096 * (1 + l.map_blocks + part + 1) ≤ length old = omega (arith, held.size, low) in
      let only = only_blocks old ws (1 + l.map_blocks + part) 1 size fits in
      let lent : blocks_of (with_bytes_at old (4096 * (1 + l.map_blocks + part)) ws)
      (1 + l.map_blocks + part) 1 ≡ ws =
      lent_blocks old ws (1 + l.map_blocks + part) 1 size fits in
      record {
        fits = held.fits;
        size = only.size ∙ held.size;
        parts = length-set counts part count ∙ held.parts;
        each = λ k inside. elim (cases_eq k part) [
          | inl here ↦
              rw here
              (let there : count_at (set counts part count) part ≡ count =
              get_or-set_same counts part count (record { weight = 0; first = None })
              (omega (arith, held.parts, low)) in
              subst (λ (x : PartCount). IsCounted
              (blocks_of (with_bytes_at old (4096 * (1 + l.map_blocks + part)) ws)
              (1 + l.map_blocks + part) 1) (part_blocks g) x) (sym there)
              (subst (λ (bits : List ℕ). IsCounted bits (part_blocks g) count) (sym lent) counted))
          | inr off ↦
              let same = only.others (1 + l.map_blocks + k)
              (other_than (1 + l.map_blocks + part) (1 + l.map_blocks + k) (omega (arith, off))) in
              let there : count_at (set counts part count) k ≡ count_at counts k =
              get_or-set_other counts part k count (record { weight = 0; first = None }) off in
              subst (λ (x : PartCount). IsCounted
              (blocks_of (with_bytes_at old (4096 * (1 + l.map_blocks + part)) ws) (1 + l.map_blocks + k) 1)
              (part_blocks g) x) (sym there)
              (subst (λ (bits : List ℕ). IsCounted bits (part_blocks g) (count_at counts k)) (sym same)
              (held.each k inside))
        ];
      }

  -- with map entries
  module _ (chunk : ℕ) (low : chunk < l.chunks) where
    room : 4096 * (entry_block chunk + 1) ≤ length old
    room = (let map = held.fits.map in omega (arith, held.size, map, low))

    pub entry_held : AreHeld g l (with_bytes_at old (4096 * entry_block chunk) ws) counts
    entry_held =
        let only = only_blocks old ws (entry_block chunk) 1 size room in
        record {
          fits = held.fits;
          size = only.size ∙ held.size;
          parts = held.parts;
          each = λ k inside.
              let same = only.others (1 + l.map_blocks + k)
              (inr (let map = held.fits.map in omega (arith, map, low))) in
              subst (λ (bits : List ℕ). IsCounted bits (part_blocks g) (count_at counts k)) (sym same)
              (held.each k inside);
        }

    pub sets_entry : (entry : MapEntry) → entry_at ws (chunk % 512) ≡ entry
        → ((j : ℕ) → j ≢ chunk % 512 → entry_at ws j ≡ entry_at (blocks_of old (entry_block chunk) 1) j)
        → SetsEntry chunk entry old (with_bytes_at old (4096 * entry_block chunk) ws)
    sets_entry entry here others =
        let new : List ℕ = with_bytes_at old (4096 * entry_block chunk) ws in
        let only = only_blocks old ws (entry_block chunk) 1 size room in
        let block : blocks_of (with_bytes_at old (4096 * entry_block chunk) ws) (entry_block chunk) 1 ≡ ws =
        lent_blocks old ws (entry_block chunk) 1 size room in
        record {
          only = only;
          here = ap (λ (bytes : List ℕ). entry_at bytes (chunk % 512)) block ∙ here;
          others = λ c off. elim (cases_eq (entry_block c) (entry_block chunk)) [
            | inr there ↦ ap (λ (bytes : List ℕ). entry_at bytes (c % 512))
                (only.others (entry_block c) (other_than (entry_block chunk) (entry_block c) there))
            | inl same ↦
                ap (λ (k : ℕ). entry_at (blocks_of (with_bytes_at old (4096 * entry_block chunk) ws) k 1)
                (c % 512)) same
                ∙ ap (λ (bytes : List ℕ). entry_at bytes (c % 512)) block
                ∙ others (c % 512) (λ e. off (omega (arith, same, e)))
                ∙ ap (λ (k : ℕ). entry_at (blocks_of old k 1) (c % 512)) (sym same)
          ];
        }

-- the tables, where they stand in the same places
pub tables_there : (old new : HeldTables) → SamePlace old new
    → tables_held new ≡ tables_in old.geometry old.layout new.bytes
tables_there old new same = ap₂ (λ (g : Shape) (l : Layout). tables_in g l new.bytes) same.geometry same.layout

moved : (bit : Bool) (block block' from from' end end' : ℕ) (old new : List ℕ) (changed : Bool) → block ≡ block'
    → from ≡ from' → end ≡ end'
    → SetsPart bit block from end old new changed → SetsPart bit block' from' end' old new changed
moved bit block block' from from' end end' old new changed at low high sets =
    subst (λ (n : ℕ). SetsPart bit n from' end' old new changed) at
    (subst (λ (n : ℕ). SetsPart bit block n end' old new changed) low
    (subst (λ (n : ℕ). SetsPart bit block from n old new changed) high sets))

-- A RANGE WAS GIVEN a bit in both parts
module _ (bit : Bool) (zone from end part from_first end_first from_second end_second : ℕ)
    (old middle new : HeldTables) (first second : Bool)
    (shape : IsShape old.geometry) (fits : Fits old.geometry old.layout) (low : zone < zone_count old.geometry)
    (order : from ≤ end) (inside : end ≤ old.geometry.zone_blocks)
    (at : part ≡ zone * per old.geometry)
    (a : from_first ≡ min from 32768) (b : end_first ≡ min end 32768) (c : from_second ≡ max from 32768)
    (d : end_second ≡ max end 32768)
    (one : SetsPart bit (1 + old.layout.map_blocks + part) from_first end_first old.bytes middle.bytes first)
    (one_place : SamePlace old middle)
    (two : SetsPart bit (1 + middle.layout.map_blocks + (part + 1)) (from_second - 32768)
    (end_second - 32768) middle.bytes new.bytes second)
    (two_place : SamePlace middle new) where
  range_one : SetsPart bit (bits_block old.geometry old.layout zone) (min from 32768)
      (min end 32768) old.bytes middle.bytes first
  range_one =
      moved bit (1 + old.layout.map_blocks + part) (bits_block old.geometry old.layout zone) from_first
      (min from 32768) end_first (min end 32768) old.bytes middle.bytes first
      (ap (λ n. 1 + old.layout.map_blocks + n) at) a b one

  range_two : SetsPart bit (bits_block old.geometry old.layout zone + 1) (max from 32768 - 32768)
      (max end 32768 - 32768) middle.bytes new.bytes second
  range_two =
      let maps : middle.layout.map_blocks ≡ old.layout.map_blocks =
      ap (λ (l : Layout). l.map_blocks) one_place.layout in
      moved bit (1 + middle.layout.map_blocks + (part + 1)) (bits_block old.geometry old.layout zone + 1)
      (from_second - 32768) (max from 32768 - 32768) (end_second - 32768)
      (max end 32768 - 32768) middle.bytes new.bytes second
      (omega (arith, maps, at)) (ap (λ n. n - 32768) c) (ap (λ n. n - 32768) d) two

  few : per old.geometry ≤ 2
  few = elim (one_or_two old.geometry shape) [ inl one ↦ omega (arith, one.1) | inr two ↦ omega (arith, two.1) ]

  range_room : end ≤ 32768 * per old.geometry
  range_room = omega (arith, inside, bits_room old.geometry shape)

  same_place : SamePlace old new
  same_place = record {
    geometry = two_place.geometry ∙ one_place.geometry;
    layout = two_place.layout
        ∙ one_place.layout;
  }

  range_blocks : SetsBits bit old.geometry old.layout zone from end old.bytes new.bytes
  range_blocks =
      sets_range old.geometry old.layout zone bit from end old.bytes middle.bytes new.bytes first second
      order range_room few range_one range_two

  pub range_given : SetsBits bit old.geometry old.layout zone from end old.bytes new.bytes
      × ChangesBits bit zone from end (tables_held old) (tables_held new)
      × TellsParts bit old.geometry old.layout zone from end old.bytes new.bytes
      (record { first = first; second = second })
      × SamePlace old new
  range_given = (
    range_blocks,
    subst (λ (t : Tables). ChangesBits bit zone from end (tables_held old) t) (sym (tables_there old new same_place))
        (range_changed old.geometry old.layout old.bytes new.bytes bit zone from end range_room low fits.map
        range_blocks),
    tells_parts old.geometry old.layout zone bit from end old.bytes middle.bytes new.bytes first second
        order range_room few range_one range_two low,
    same_place,
  )
