-- A write that was done, by the steps of its code.
use Rattle.std.proofs.Common.{◌≡◌, ℕ, ◌++◌, ◌∷◌, [], List, Option, sym, ap, ◌∙◌, subst, refl}
use Rattle.zd_alloc.specs.Candidates.{Follows, GivesClass}
use Rattle.zd_alloc.specs.Order.{PutsLast}
use Rattle.zd_alloc.specs.declared.job_class.JobClass.{JobClass}
use Rattle.zd_disk.specs.Told.{next_count}
use Rattle.zd_model.specs.Plain.{Answer as answers}
use Rattle.zd_model.specs.declared.requests.Piece.{Piece}
use Rattle.zd_tables.specs.Rules.{FollowRules}
use Rattle.zd_tables.specs.Tables.{tables_in}
use Rattle.zd_volume.specs.Discards.{chunk_touched, range_end, range_first}
use Rattle.zd_volume.specs.Flights.{answered}
use Rattle.zd_volume.specs.Jobs.{class_in}
use Rattle.zd_volume.specs.Marks.{MarksChanged}
use Rattle.zd_volume.specs.Volumes.{IsFixed, PlainVolume, sets_of}
use Rattle.zd_volume.specs.declared.work.Place.{Place}
use Rattle.zd_routes.specs.Routes.{IsRoute, WritesRange, entry_touched, entry_with, other_zone, pointers_with, uses_with}
use Rattle.zd_routes.specs.Writes.{WritesPiece}
use Rattle.zd_routes.proofs.RouteTables.{written_sets}

-- THE STEPS: the blocks are mapped, a zone is taken, a pointer moves
module _ (v : PlainVolume) (fixed : IsFixed v) (p : Piece) (place : Place) (zone : ℕ) (route : IsRoute v p.what place zone)
    (chunk end : ℕ) (at : chunk ≡ chunk_touched v.geometry.zone_blocks p.what)
    (upto : end ≡ range_end v.geometry.zone_blocks p.what)
    (a : PlainVolume) (mapped : a ≡ record v { fresh = a.fresh; dirty = a.dirty })
    (range : WritesRange (sets_of v) (chunk_touched v.geometry.zone_blocks p.what)
    (range_first v.geometry.zone_blocks p.what) (range_end v.geometry.zone_blocks p.what)
    (entry_with (entry_touched v p.what) place zone) zone (other_zone (entry_touched v p.what) place) a.fresh)
    (marks : MarksChanged v.fresh a.fresh v.dirty a.dirty)
    (b : PlainVolume) (taken : b ≡ record a { division = b.division })
    (d : PlainVolume) (moved : d ≡ record b { pointers = pointers_with b.geometry b.pointers zone end }) where
  abbrev pointers : List ℕ
  pointers = pointers_with v.geometry v.pointers zone (range_end v.geometry.zone_blocks p.what)

  -- what has changed so far
  so_far : d ≡ record v { fresh = a.fresh; dirty = a.dirty; division = b.division; pointers = pointers }
  so_far =
      moved
      ∙ ap (λ (w : PlainVolume). record w { pointers = pointers_with w.geometry w.pointers zone end })
      (taken ∙ ap (λ (w : PlainVolume). record w { division = b.division }) mapped)
      ∙ ap (λ (n : ℕ). record v {
        fresh = a.fresh;
        dirty = a.dirty;
        division = b.division;
        pointers = pointers_with v.geometry v.pointers zone n;
      }) upto

  pub rules_written : FollowRules d.geometry d.head.layout d.fresh
  rules_written =
      subst (λ (w : PlainVolume). FollowRules w.geometry w.head.layout w.fresh) (sym so_far)
      (written_sets v fixed p.what place zone route (range_first v.geometry.zone_blocks p.what)
      (range_end v.geometry.zone_blocks p.what) a.fresh range).new_rules

  -- the chunk's class, the use order, the entry
  module _ (e : PlainVolume) (classed : e ≡ record d { standings = record d.standings { classes = e.standings.classes } })
      (f : PlainVolume) (touched : f ≡ record e { division = f.division; standings = f.standings })
      (g : PlainVolume)
      (entered : g ≡ record f {
        history = f.history ++ answered p answers.Done (next_count f.since) ∷ [];
        since = next_count f.since;
      }) where
    before : e ≡ record v {
      fresh = a.fresh;
      dirty = a.dirty;
      division = b.division;
      pointers = pointers;
      standings = record v.standings { classes = e.standings.classes };
    }
    before =
        classed
        ∙ ap (λ (w : PlainVolume). record w { standings = record w.standings { classes = e.standings.classes } }) so_far

    after : g ≡ record v {
      fresh = a.fresh;
      dirty = a.dirty;
      division = f.division;
      pointers = pointers;
      standings = f.standings;
      history = v.history ++ answered p answers.Done (next_count v.since) ∷ [];
      since = next_count v.since;
    }
    after =
        entered
        ∙ ap (λ (w : PlainVolume). record w {
          history = w.history ++ answered p answers.Done (next_count w.since) ∷ [];
          since = next_count w.since;
        })
        (touched ∙ ap (λ (w : PlainVolume). record w { division = f.division; standings = f.standings }) before)

    pub writes_in_steps : b.division.zones ≡ uses_with place zone a.division.zones
        → b.division.conv ≡ a.division.conv → b.division.order ≡ a.division.order
        → GivesClass chunk (class_in d.geometry d.pointers (tables_in d.geometry d.head.layout d.fresh) chunk)
        d.standings.classes e.standings.classes
        → PutsLast chunk e.division.order f.division.order → f.division.zones ≡ e.division.zones
        → f.division.conv ≡ e.division.conv → Follows chunk e.standings.numbers f.standings.numbers
        → f.standings.classes ≡ e.standings.classes
        → WritesPiece v g p place zone
    writes_in_steps zones conv order gives last same_zones same_conv numbers same_classes =
        subst (λ (w : PlainVolume). WritesPiece v w p place zone) (sym after) (record {
          route = route;
          range = range;
          dirty = marks;
          zones = same_zones ∙ ap (λ (w : PlainVolume). w.division.zones) before ∙ zones
              ∙ ap (λ (w : PlainVolume). uses_with place zone w.division.zones) mapped;
          conv = same_conv ∙ ap (λ (w : PlainVolume). w.division.conv) before ∙ conv
              ∙ ap (λ (w : PlainVolume). w.division.conv) mapped;
          order = subst (λ (c : ℕ). PutsLast c v.division.order f.division.order) at
              (subst (λ (old : List ℕ). PutsLast chunk old f.division.order)
              (ap (λ (w : PlainVolume). w.division.order) before ∙ order
              ∙ ap (λ (w : PlainVolume). w.division.order) mapped) last);
          classes = subst
              (λ (c : ℕ). GivesClass c (class_in v.geometry pointers (tables_in v.geometry v.head.layout a.fresh) c)
              v.standings.classes f.standings.classes) at
              (subst (λ (new : List (Option JobClass)). GivesClass chunk (class_in v.geometry pointers
              (tables_in v.geometry v.head.layout a.fresh) chunk) v.standings.classes new) (sym same_classes)
              (subst (λ (w : PlainVolume). GivesClass chunk (class_in w.geometry w.pointers
              (tables_in w.geometry w.head.layout w.fresh) chunk) w.standings.classes e.standings.classes) so_far gives));
          numbers = subst (λ (c : ℕ). Follows c v.standings.numbers f.standings.numbers) at
              (subst (λ (old : List ℕ). Follows chunk old f.standings.numbers)
              (ap (λ (w : PlainVolume). w.standings.numbers) before) numbers);
          rest = refl;
        })
