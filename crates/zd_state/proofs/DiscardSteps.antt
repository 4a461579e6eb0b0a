-- A discard, by the steps of its code.
use Rattle.std.proofs.Common.{◌≡◌, ℕ, ◌+◌, ◌≤◌, ◌++◌, ◌∷◌, [], Bool, false, List, Option, Some, inl, inr, sym, ap, ◌∙◌}
use Rattle.std.proofs.Common.{subst, arith}
use Rattle.zd_base.specs.Geometry.{IsShape, Shape, per}
use Rattle.zd_base.specs.declared.layout.Layout.{Layout}
use Rattle.zd_alloc.specs.Candidates.{GivesClass}
use Rattle.zd_model.specs.Plain.{Answer as answers}
use Rattle.zd_model.specs.Requests.{block_count}
use Rattle.zd_model.specs.Tables.{Tables, entry_of}
use Rattle.zd_model.specs.declared.metadata.MapEntry.{MapEntry}
use Rattle.zd_model.specs.declared.requests.Piece.{Piece}
use Rattle.zd_tables.specs.Changes.{Differs, SetsBits, TellsParts, bits_block}
use Rattle.zd_tables.specs.Rules.{FollowRules}
use Rattle.zd_tables.specs.Tables.{tables_in}
use Rattle.zd_tables.specs.declared.part.ChangedParts.{ChangedParts}
use Rattle.zd_tables.proofs.ZoneParts.{one_or_two}
use Rattle.zd_volume.specs.Discards.{DiscardsBlocks, DropsRange, after_drop, chunk_touched, range_end, range_first}
use Rattle.zd_volume.specs.Flights.{answered}
use Rattle.zd_volume.specs.Jobs.{class_in}
use Rattle.zd_volume.specs.Marks.{GivesBitsIn, MarksParts}
use Rattle.zd_volume.specs.Sets.{new_tables}
use Rattle.zd_volume.specs.Volumes.{IsFixed, PlainVolume, sets_of}
use Rattle.zd_volume.proofs.DropBlocks.{range_cleared}
use Rattle.zd_volume.proofs.DropLaws.{drops_by}
use Rattle.zd_volume.proofs.DropTables.{sets_dropped}

-- a second part with a bit of a range is there
pub second_there : (g : Shape) → IsShape g → (bit : Bool) (t : Tables) (zone first end : ℕ) → end ≤ g.zone_blocks
    → Differs bit t zone first end 1 → per g ≡ 2
second_there g shape bit t zone first end inside d = elim (one_or_two g shape) [
  | inl one ↦ absurd (omega (arith, d.2, d.3, inside, one.0))
  | inr two ↦ two.1
]

-- the blocks of a zone's range have this bit, where there is a zone
pub gives_in : (bit : Bool) (g : Shape) (l : Layout) (o : Option ℕ) (z first end : ℕ) → o ≡ Some z → (old new : List ℕ)
    (dirty marked : List Bool) (changed : ChangedParts) → SetsBits bit g l z first end old new
    → TellsParts bit g l z first end old new changed → MarksParts (bits_block g l z) changed dirty marked
    → GivesBitsIn bit g l o first end old new dirty marked
gives_in bit g l o z first end is old new dirty marked changed bits tells marks =
    subst (λ (p : Option ℕ). GivesBitsIn bit g l p first end old new dirty marked) (sym is)
    (record { changed = changed; bits = bits; tells = tells; marks = marks })

-- THE STEPS OF A DISCARD: the chunk's zone, its buffer, its class, the entry
module _ (v : PlainVolume) (fixed : IsFixed v) (p : Piece) (is : DiscardsBlocks (sets_of v) p.what)
    (chunk first count : ℕ) (at : chunk ≡ chunk_touched v.geometry.zone_blocks p.what)
    (from : first ≡ range_first v.geometry.zone_blocks p.what) (many : count ≡ block_count p.what)
    (e : MapEntry) (names : e ≡ entry_of (new_tables (sets_of v)) chunk)
    (m : PlainVolume) (half : m ≡ record v { fresh = m.fresh; dirty = m.dirty })
    (one : GivesBitsIn false v.geometry v.head.layout e.zone first (first + count) v.fresh m.fresh v.dirty m.dirty)
    (n : PlainVolume) (whole : n ≡ record m { fresh = n.fresh; dirty = n.dirty })
    (two : GivesBitsIn false m.geometry m.head.layout e.buffer first (first + count) m.fresh n.fresh m.dirty
    n.dirty) where
  abbrev entry : MapEntry
  entry = entry_of (new_tables (sets_of v)) (chunk_touched v.geometry.zone_blocks p.what)

  entry_is : e ≡ entry
  entry_is = rw at at names

  of_zone : GivesBitsIn false v.geometry v.head.layout entry.zone (range_first v.geometry.zone_blocks p.what)
      (range_end v.geometry.zone_blocks p.what) v.fresh m.fresh v.dirty m.dirty
  of_zone = rw (entry_is, from, many) at one

  of_buffer : GivesBitsIn false v.geometry v.head.layout entry.buffer (range_first v.geometry.zone_blocks p.what)
      (range_end v.geometry.zone_blocks p.what) m.fresh n.fresh m.dirty n.dirty
  of_buffer =
      rw (entry_is, from, many) at
      (subst (λ (w : PlainVolume). GivesBitsIn false w.geometry w.head.layout e.buffer first (first + count) m.fresh
      n.fresh m.dirty n.dirty) half two)

  -- what stays of both
  both : n ≡ record v { fresh = n.fresh; dirty = n.dirty }
  both = whole ∙ ap (λ (w : PlainVolume). record w { fresh = n.fresh; dirty = n.dirty }) half

  pub rules_dropped : FollowRules n.geometry n.head.layout n.fresh
  rules_dropped =
      subst (λ (w : PlainVolume). FollowRules w.geometry w.head.layout n.fresh) (sym both)
      (sets_dropped (sets_of v) fixed.sets (chunk_touched v.geometry.zone_blocks p.what)
      (range_first v.geometry.zone_blocks p.what) (range_end v.geometry.zone_blocks p.what) n.fresh
      (range_cleared (sets_of v) fixed.sets (chunk_touched v.geometry.zone_blocks p.what)
      (range_first v.geometry.zone_blocks p.what) (range_end v.geometry.zone_blocks p.what) is.inside m.fresh n.fresh v.dirty
      m.dirty n.dirty of_zone of_buffer)).new_rules

  pub drops_in_steps : (o : PlainVolume)
      → o ≡ record n { standings = record n.standings { classes = o.standings.classes } }
      → GivesClass chunk (class_in n.geometry n.pointers (tables_in n.geometry n.head.layout n.fresh) chunk)
      n.standings.classes o.standings.classes
      → (q : PlainVolume) → q ≡ record o { history = o.history ++ answered p answers.Done o.since ∷ [] }
      → DropsRange v q p
  drops_in_steps o classed gives q entered =
      subst (λ (w : PlainVolume). DropsRange v w p) (sym all)
      (drops_by v p m.fresh n.fresh m.dirty n.dirty o.standings.classes fixed.sets is of_zone of_buffer
      (rw at at (subst (λ (w : PlainVolume). GivesClass chunk (class_in w.geometry w.pointers
      (tables_in w.geometry w.head.layout n.fresh) chunk) w.standings.classes o.standings.classes) both gives)))
    where
      all : q ≡ after_drop v n.fresh n.dirty o.standings.classes (answered p answers.Done v.since)
      all =
          entered
          ∙ ap (λ (w : PlainVolume). record w { history = w.history ++ answered p answers.Done w.since ∷ [] })
          (classed
          ∙ ap (λ (w : PlainVolume). record w { standings = record w.standings { classes = o.standings.classes } })
          both)
