-- A step of a read: the run that comes next, and the read after it.
use Rattle.std.proofs.Common.{◌≡◌, ℕ, ◌+◌, ◌-◌, ◌*◌, ◌/◌, ◌<◌, ◌≤◌, ◌++◌, length, Option, Some, refl, sym, ap, ◌∙◌, subst, arith}
use Rattle.std.specs.List.{concat, slice_range}
use Rattle.zd_base.specs.Geometry.{zone_count, zone_sectors}
use Rattle.zd_base.specs.Layout.{rounded_up}
use Rattle.zd_model.specs.Image.{Image, run_of}
use Rattle.zd_model.specs.Places.{IsPlacedRun, sector_in}
use Rattle.zd_model.specs.Requests.{block_count, first_sector}
use Rattle.zd_model.specs.Room.{ListWithRoom}
use Rattle.zd_model.specs.declared.requests.What.{What}
use Rattle.zd_disk.specs.OfGeometry.{IsImageOf}
use Rattle.zd_disk.specs.Told.{WhereTold}
use Rattle.zd_disk.specs.View.{View}
use Rattle.zd_tables.specs.Rules.{AreBelow}
use Rattle.zd_volume.specs.Flights.{IsFlight, IsRunOfRead, ReadsPlace, ReadsRun, chunk_of, first_in_chunk, end_sector, next_sector, place_now, sectors_within, serves, stop_sector, tables_now}
use Rattle.zd_volume.specs.Sets.{AreSets}
use Rattle.zd_volume.specs.Volumes.{PlainVolume, sets_of}
use Rattle.zd_volume.specs.declared.flight.Flight.{Flight}
use Rattle.zd_volume.proofs.FlightLaws.{ends_at, next_block, next_inside, run_ends, run_held, run_zone, served_on}

module _ (v : PlainVolume) (are : AreSets (sets_of v)) (told : Option Image) (f : Flight) (is : IsFlight v told f) where
  abbrev what : What
  what = f.piece.what

  pub block_is : next_sector v f / 8 ≡ first_in_chunk v f.piece.what / 8 + f.done
  block_is = next_block v.geometry.zone_blocks f.piece.what f.done is.more

  pub last_is : rounded_up (end_sector v f) 8 ≡ first_in_chunk v f.piece.what / 8 + block_count f.piece.what
  last_is = ends_at v.geometry.zone_blocks f.piece.what

  pub blocks_left : next_sector v f / 8 < rounded_up (end_sector v f) 8
  blocks_left = (let a = block_is in let b = last_is in let m = is.more in omega (arith, a, b, m))

  pub blocks_inside : rounded_up (end_sector v f) 8 ≤ v.geometry.zone_blocks
  blocks_inside = (let h = is.piece.chunk in omega (arith, h))

  module _ (zone : Option ℕ) (count : ℕ)
      (run : IsPlacedRun (place_now v (chunk_of v f.piece.what)) (next_sector v f / 8)
      (rounded_up (end_sector v f) 8) zone count) where
    pub run_is : IsRunOfRead v f zone count
    run_is =
        subst (λ (at : ℕ). IsPlacedRun (place_now v (chunk_of v f.piece.what)) at
        (first_in_chunk v f.piece.what / 8 + block_count f.piece.what) zone count) block_is
        (subst (λ (end : ℕ). IsPlacedRun (place_now v (chunk_of v f.piece.what)) (next_sector v f / 8) end zone count)
        last_is run)

    inside : f.done + count ≤ block_count f.piece.what
    inside = (let a = block_is in let b = last_is in let i = run.inside in omega (arith, a, b, i))

    stop_is : stop_sector v f count ≡ first_in_chunk v f.piece.what + sectors_within f.piece.what (f.done + count)
    stop_is =
        let a = block_is in
        let e = run_ends v.geometry.zone_blocks f.piece.what f.done count is.more run.some inside in
        omega (arith, a, e)

    pub some_sectors : next_sector v f < stop_sector v f count
    some_sectors =
        let s = run.some in
        let left = next_inside v.geometry.zone_blocks f.piece.what f.done is.piece.some is.more in
        omega (arith, s, left)

    pub stop_inside : stop_sector v f count ≤ zone_sectors v.geometry
    stop_inside = (let h = is.piece.chunk in omega (arith, h))

    pub has_room : 512 * (stop_sector v f count - next_sector v f) ≤ f.bytes.room
    has_room = (let room = is.read.room in let size = is.read.size in omega (arith, room, size))

    -- its zone holds it
    module _ (z : ℕ) (there : zone ≡ Some z) where
      pub zone_is : z < zone_count v.geometry
      zone_is =
          let s = run.some in
          run_zone v are (chunk_of v f.piece.what) (next_sector v f / 8) z
          (run.same (next_sector v f / 8) (omega arith) (omega (arith, s)) ∙ there)

      pub zone_holds : (i : Image) → IsImageOf v.geometry i → AreBelow v.geometry i.held (tables_now v)
          → stop_sector v f count ≤ i.held z
      zone_holds i of below =
          let s = run.some in
          let h = run.inside in
          let high = blocks_inside in
          let held = run_held v are (chunk_of v f.piece.what) (next_sector v f / 8 + count - 1) z
          (run.same (next_sector v f / 8 + count - 1) (omega (arith, s)) (omega (arith, s)) ∙ there)
          i of below (omega (arith, s, h, high)) in
          omega (arith, held, s)

    -- THE READ AFTER IT
    module _ (u x : View) (same : u.zones ≡ told) (calls : ReadsPlace zone u x) (bytes : ListWithRoom ℕ)
        (size : length bytes.items ≡ length f.bytes.items + 512 * (stop_sector v f count - next_sector v f))
        (room : f.bytes.room ≤ bytes.room + 512 * (stop_sector v f count - next_sector v f))
        (value : WhereTold told (λ i. bytes.items
        ≡ f.bytes.items ++ run_of (sector_in zone i) (next_sector v f) (stop_sector v f count - next_sector v f))) where
      abbrev after : Flight
      after = record { piece = f.piece; done = f.done + count; bytes = bytes }

      within_is : sectors_within f.piece.what (f.done + count)
          ≡ sectors_within f.piece.what f.done + (stop_sector v f count - next_sector v f)
      within_is = (let e = stop_is in let s = some_sectors in omega (arith, e, s))

      pub reads_run : ReadsRun v u x f (record { piece = f.piece; done = f.done + count; bytes = bytes })
      reads_run = record {
        zone = zone;
        count = count;
        run = run_is;
        calls = calls;
        piece = refl;
        done = refl;
        read = record {
          size = (let w = within_is in let s = is.read.size in omega (arith, w, s, size));
          bytes = λ i there.
              let here : told ≡ Some i = sym same ∙ there in
              let w = within_is in
              let ends = stop_inside in
              let more = some_sectors in
              value i here
              ∙ served_on v are f.piece.what is.piece.device i zone (sectors_within f.piece.what f.done)
              (stop_sector v f count - next_sector v f) (next_sector v f / 8) (next_sector v f / 8 + count)
              f.bytes.items
              (run_of (sector_in zone i) (next_sector v f) (stop_sector v f count - next_sector v f))
              (omega (arith, ends, more)) (omega arith) (omega (arith, more)) run.same (is.read.bytes i here) refl
              ∙ ap (λ (n : ℕ). concat (slice_range (serves v i) (first_sector f.piece.what)
              (first_sector f.piece.what + n)))
              (sym w);
          room = (let r = is.read.room in omega (arith, r, size, room));
        };
      }
