-- AN ENTRY IS SET in the blocks of a set, and its block is marked; what comes after it in other blocks.
use Rattle.std.proofs.Common.{◌≡◌, ◌≢◌, ℕ, ◌+◌, ◌%◌, ◌<◌, ◌≤◌, Bool, true, List, length, get_or, set, inl}
use Rattle.std.proofs.Common.{inr, refl, sym, ap, ◌∙◌, subst, arith}
use Rattle.std.proofs.Common.{get_or-set_other, get_or-set_same, length-set}
use Rattle.std.proofs.lemmas.Bool.{cases_eq, cases_lt, false≢true}
use Rattle.zd_model.specs.Tables.{entry_at, entry_of}
use Rattle.zd_model.specs.declared.metadata.MapEntry.{MapEntry}
use Rattle.zd_sets.specs.Blocks.{blocks_of}
use Rattle.zd_sets.specs.Lending.{OnlyBlocks}
use Rattle.zd_tables.specs.Changes.{ChangesEntry, SetsEntry, bits_block, entry_block}
use Rattle.zd_tables.specs.Tables.{entry_in_blocks, tables_in}
use Rattle.zd_tables.proofs.TableLaws.{entry_changed, entry_is}
use Rattle.zd_volume.specs.Marks.{MarksChanged}
use Rattle.zd_volume.specs.Sets.{AreSets, Sets, new_tables}
use Rattle.zd_volume.proofs.DropTables.{in_or_out}
use Rattle.zd_volume.proofs.MarkLaws.{marks_none, marks_then}

-- what that makes of a set: the entry is so, and no other block has changed
pub record HasEntry (s : Sets) (chunk : ℕ) (entry : MapEntry) (bytes : List ℕ) (dirty marked : List Bool) : Type 0 where
  pub tables : ChangesEntry chunk entry (new_tables s) (tables_in s.geometry s.head.layout bytes)
  pub only : OnlyBlocks (entry_block chunk) (entry_block chunk + 1) s.new bytes
  pub marks : MarksChanged s.new bytes dirty marked

-- one change after another, where the blocks of the second were left alone by the first
pub marks_after : (a b c : List ℕ) (d e f : List Bool) (from end : ℕ) → MarksChanged a b d e → MarksChanged b c e f
    → OnlyBlocks from end b c → ((k : ℕ) → from ≤ k → k < end → blocks_of b k 1 ≡ blocks_of a k 1)
    → MarksChanged a c d f
marks_after a b c d e f from end first second only left =
    marks_then a b c d e f first second (λ k _. elim (in_or_out k from end) [
      | inl at ↦ inl (left k at.0 at.1)
      | inr out ↦ inr (only.others k out)
    ])

-- another entry makes another block
module _ (chunk : ℕ) (entry : MapEntry) (old new : List ℕ) (sets : SetsEntry chunk entry old new)
    (differs : entry_in_blocks old chunk ≢ entry) (dirty : List Bool) where
  marked_here : (k : ℕ) → k ≡ entry_block chunk → k < length dirty
      → get_or (set dirty (entry_block chunk) true) k true ≡ true
  marked_here k here low =
      ap (λ (n : ℕ). get_or (set dirty (entry_block chunk) true) n true) here
      ∙ get_or-set_same dirty (entry_block chunk) true true (omega (arith, here, low))

  block_differs : (k : ℕ) → k ≡ entry_block chunk → blocks_of new k 1 ≢ blocks_of old k 1
  block_differs k here same =
      differs (sym (ap (λ (block : List ℕ). entry_at block (chunk % 512))
      (subst (λ (n : ℕ). blocks_of new n 1 ≡ blocks_of old n 1) here same))
      ∙ sets.here)

  block_same : (k : ℕ) → k ≢ entry_block chunk → blocks_of new k 1 ≡ blocks_of old k 1
  block_same k off = sets.only.others k (elim (cases_lt k (entry_block chunk)) [
    | inl below ↦ inl below
    | inr above ↦ inr (omega (arith, above, off))
  ])

  pub marks_entry : MarksChanged old new dirty (set dirty (entry_block chunk) true)
  marks_entry = record {
    size = length-set dirty (entry_block chunk) true;
    clean = λ k low. elim (cases_eq k (entry_block chunk)) [
      | inl here ↦ (
        (λ clean. absurd (false≢true (sym clean ∙ marked_here k here low))),
        (λ both. absurd (block_differs k here both.1)),
      )
      | inr off ↦ (
        (λ clean. (sym (get_or-set_other dirty (entry_block chunk) k true true off) ∙ clean, block_same k off)),
        (λ both. get_or-set_other dirty (entry_block chunk) k true true off ∙ both.0),
      )
    ];
  }

module _ (s : Sets) (are : AreSets s) (chunk : ℕ) (low : chunk < s.head.layout.chunks) (entry : MapEntry) where
  -- its block stands before all bitmaps
  pub entry_before : (z : ℕ) → entry_block chunk + 1 ≤ bits_block s.geometry s.head.layout z
  entry_before z = let room = are.fits.map in omega (arith, room, low)

  -- it is set to another one
  pub entry_set : (bytes : List ℕ) (dirty : List Bool) → entry_of (new_tables s) chunk ≢ entry
      → SetsEntry chunk entry s.new bytes
      → HasEntry s chunk entry bytes dirty (set dirty (entry_block chunk) true)
  entry_set bytes dirty differs sets = record {
    tables = entry_changed s.geometry s.head.layout s.new bytes chunk entry are.fits.map low sets;
    only = sets.only;
    marks = marks_entry chunk entry s.new bytes sets
        (λ same. differs (entry_is s.geometry s.head.layout s.new chunk low ∙ same)) dirty;
  }

  -- or it is so already
  pub entry_stays : (bytes : List ℕ) (dirty marked : List Bool) → entry_of (new_tables s) chunk ≡ entry
      → bytes ≡ s.new → marked ≡ dirty → HasEntry s chunk entry bytes dirty marked
  entry_stays bytes dirty marked is bytes_stay flags_stay =
      subst (λ (b : List ℕ). HasEntry s chunk entry b dirty marked) (sym bytes_stay)
      (subst (λ (m : List Bool). HasEntry s chunk entry s.new dirty m) (sym flags_stay) (record {
        tables = record { here = is; others = λ c _. refl; bits = λ z x. refl };
        only = record { size = refl; others = λ k _. refl };
        marks = marks_none s.new dirty;
      }))
