-- WHAT IS TRUE OF A VOLUME'S OWN VALUES stays true after a write, beside a job on another chunk.
use Rattle.std.proofs.Common.{◌≡◌, ◌≢◌, ℕ, List, length, set, slice_index, get_or-set_other, get_or-set_same}
use Rattle.std.proofs.Common.{◌≤◌, length-set, inl, inr, refl, sym, ap, ◌∙◌, subst, arith}
use Rattle.std.proofs.lemmas.Bool.{cases_eq}
use Rattle.std.specs.Prelude.{Bool, cond, false, nat_lt, true}
use Rattle.zd_base.specs.Geometry.{Shape, zone_count}
use Rattle.zd_model.specs.Tables.{NamesZone, entry_of}
use Rattle.zd_model.specs.declared.metadata.MapEntry.{MapEntry}
use Rattle.zd_model.specs.declared.requests.Piece.{Piece}
use Rattle.zd_volume.specs.Discards.{NoJobOn, chunk_touched, range_end, range_first}
use Rattle.zd_volume.specs.Flights.{tables_now}
use Rattle.zd_volume.specs.Jobs.{IsJobOrNone, IsTarget}
use Rattle.zd_volume.specs.Sets.{Sets}
use Rattle.zd_volume.specs.Uses.{AreCandidates, IsPhase}
use Rattle.zd_volume.specs.Volumes.{IsFixed, PlainVolume, StandInZones, sets_of}
use Rattle.zd_volume.specs.declared.phase.Phase.{Phase}
use Rattle.zd_volume.specs.declared.phase.Phase.TheVariants.{Idle}
use Rattle.zd_volume.specs.declared.work.Place.{Place}
use Rattle.zd_volume.proofs.DropTables.{flags_marked}
use Rattle.zd_routes.specs.Routes.{WritesBlocks, entry_touched, entry_with, pointers_with}
use Rattle.zd_routes.specs.Writes.{WritesPiece, with_write}
use Rattle.zd_routes.proofs.ChunkClasses.{candidates_put_last}
use Rattle.zd_routes.proofs.ChunkJobs.{jobs_changed}
use Rattle.zd_routes.proofs.GoalLaws.{goal_alone, goal_no_target}
use Rattle.zd_routes.proofs.RouteTables.{entry_from, may_write, other_named, written_changes, written_sets}
use Rattle.zd_routes.proofs.RouteUses.{uses_written}

-- the pointers of other zones are as they were
pub pointer_elsewhere : (g : Shape) (pointers : List ℕ) (zone end z : ℕ) → z ≢ zone
    → slice_index (pointers_with g pointers zone end) z ≡ slice_index pointers z
pointer_elsewhere g pointers zone end z off = by (nat_lt zone g.conv)
  where
    by : (low : Bool) → slice_index (cond low pointers (set pointers zone end)) z ≡ slice_index pointers z
    by true = refl
    by false = get_or-set_other pointers zone z end 0 off

pub length-pointers_with : (g : Shape) (pointers : List ℕ) (zone end : ℕ)
    → length (pointers_with g pointers zone end) ≡ length pointers
length-pointers_with g pointers zone end = by (nat_lt zone g.conv)
  where
    by : (low : Bool) → length (cond low pointers (set pointers zone end)) ≡ length pointers
    by true = refl
    by false = length-set pointers zone end

-- THEY STAND IN THEIR ZONES still, where one is set inside its zone
pub in_zones_set : (g : Shape) (pointers : List ℕ) (zone end : ℕ) → length pointers ≡ zone_count g
    → end ≤ g.zone_blocks → StandInZones g pointers → StandInZones g (set pointers zone end)
in_zones_set g pointers zone end count inside was = record {
  at = λ z conv low. elim (cases_eq z zone) [
    | inl here ↦
        let there : slice_index (set pointers zone end) z ≡ end =
        ap (λ (y : ℕ). slice_index (set pointers zone end) y) here
        ∙ get_or-set_same pointers zone end 0 (omega (arith, count, low, here)) in
        omega (arith, there, inside)
    | inr off ↦
        let same : slice_index (set pointers zone end) z ≡ slice_index pointers z =
        get_or-set_other pointers zone z end 0 off in
        let under = was.at z conv low in
        omega (arith, same, under)
  ];
}

pub in_zones_with : (g : Shape) (pointers : List ℕ) (zone end : ℕ) → length pointers ≡ zone_count g
    → end ≤ g.zone_blocks → StandInZones g pointers → StandInZones g (pointers_with g pointers zone end)
in_zones_with g pointers zone end count inside was = by (nat_lt zone g.conv)
  where
    by : (low : Bool) → StandInZones g (cond low pointers (set pointers zone end))
    by true = was
    by false = in_zones_set g pointers zone end count inside was

module _ (from to : PlainVolume) (p : Piece) (place : Place) (zone : ℕ) (fixed : IsFixed from)
    (is : WritesBlocks (sets_of from) p.what) (did : WritesPiece from to p place zone) where
  abbrev c : ℕ
  c = chunk_touched from.geometry.zone_blocks p.what

  abbrev first : ℕ
  first = range_first from.geometry.zone_blocks p.what

  abbrev end : ℕ
  end = range_end from.geometry.zone_blocks p.what

  abbrev entry : MapEntry
  entry = entry_with (entry_touched from p.what) place zone

  abbrev s : Sets
  s = sets_of from

  abbrev moved : List ℕ
  moved = pointers_with from.geometry from.pointers zone end

  -- a zone of another chunk isn't the one that is written
  not_goal : (d z : ℕ) → d ≢ chunk_touched from.geometry.zone_blocks p.what
      → NamesZone (entry_of (tables_now from) d) z → z ≢ zone
  not_goal d z off named same =
      off (goal_alone from fixed p.what place zone did.route d
      (subst (λ (n : ℕ). NamesZone (entry_of (tables_now from) d) n) same named))

  candidates_written : AreCandidates (sets_of (with_write from p moved to)) moved to.division.order to.standings
  candidates_written =
      candidates_put_last s c to.fresh from.pointers moved from.division.order from.standings to.standings
      fixed.candidates did.classes did.range.others
      (λ d z x off named. did.range.bits.others z x (not_goal d z off named)
      (λ is. off (fixed.sets.new_rules.map.named_once d c z named
      (other_named (entry_touched from p.what) place z is))))
      (λ d z off named. pointer_elsewhere from.geometry from.pointers zone end z (not_goal d z off named))
      to.division.order did.order did.numbers

  job_written : NoJobOn from.job (chunk_touched from.geometry.zone_blocks p.what)
      → IsJobOrNone (sets_of (with_write from p moved to)) moved from.job
  job_written off =
      jobs_changed s fixed.sets c entry to.fresh (may_write from fixed p.what place zone did.route)
      (written_changes from fixed p.what place zone did.route first end to.fresh did.range) from.pointers moved
      from.job off
      (λ z n. elim (entry_from (entry_touched from p.what) place zone z n) [
        | inl own ↦ inl own
        | inr same ↦ inr (no_goal z same)
      ])
      (λ z target. pointer_elsewhere from.geometry from.pointers zone end z (λ same. no_goal z same target))
      fixed.job
    where
      no_goal : (z : ℕ) → z ≡ zone → IsTarget from.job z → ⊥
      no_goal z same target =
          goal_no_target from fixed p.what place zone did.route off (subst (IsTarget from.job) same target)

  fixed_with : from.phase ≡ Idle → NoJobOn from.job (chunk_touched from.geometry.zone_blocks p.what)
      → IsFixed (with_write from p moved to)
  fixed_with idle off = record {
    sets = written_sets from fixed p.what place zone did.route first end to.fresh did.range;
    flags = flags_marked s from.dirty to.dirty to.fresh fixed.flags (omega arith) did.dirty did.range.front;
    under_way = subst (λ (q : Phase). IsPhase q to.dirty from.head.generation) (sym idle) tt;
    uses = uses_written from fixed p.what place zone did.route first end to.fresh did.range to.division did.zones
        did.conv did.order;
    named = fixed.named;
    pointers = length-pointers_with from.geometry from.pointers zone end ∙ fixed.pointers;
    in_zones = in_zones_with from.geometry from.pointers zone end fixed.pointers is.inside fixed.in_zones;
    candidates = candidates_written;
    job = job_written off;
    room = fixed.room;
  }

  pub fixed_written : from.phase ≡ Idle → NoJobOn from.job (chunk_touched from.geometry.zone_blocks p.what)
      → IsFixed to
  fixed_written idle off = subst (λ (v : PlainVolume). IsFixed v) (sym did.rest) (fixed_with idle off)
