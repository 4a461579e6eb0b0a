use Rattle.std.proofs.Common.{◌≡◌, ◌+◌, ◌-◌, ◌++◌, ℕ, List, length, Option, IsSomeAnd, Result, Ok, Err, OnErr, refl}
use Rattle.std.proofs.Common.{sym, ap, ◌∙◌, subst, arith}
use Rattle.zd_base.specs.Geometry.{Shape}
use Rattle.zd_base.specs.Layout.{rounded_up}
use Rattle.zd_disk.specs.Told.{IsInside}
use Rattle.std.proofs.lemmas.List.{length-append, length-replicate}
use Rattle.zd_disk.proofs.ToldLaws.{IfSome-at, IfSome-each}
use Rattle.zd_disk.proofs.ViewLaws.{read_as}
use Rattle.zd_model.specs.Image.{run_of}
use Rattle.zd_model.specs.Places.{sector_in}
use Rattle.zd_model.proofs.ServedLaws.{zero_joined}
use Rattle.zd_volume.proofs.Still.{only_nothing}
use Rattle.zd_volume.specs.Flights.{IsRunOfRead, ReadsPlace, end_sector, next_sector, stop_sector}
use Rattle.zd_volume.proofs.FlightSteps.{reads_run, run_is, stop_inside, some_sectors, zone_holds, zone_is}
use Rattle.zd_state.proofs.reading.read_next.Goals as goal
use Rattle.zd_state.proofs.reading.read_next.Goals.{in-Some+in_ok-read_behind, in_default}

on_err : {T E : Type 0} (r : Result T E) (P : Type 0) → P → OnErr r P
on_err (Ok x) P p = tt
on_err (Err e) P p = p

pub read_behind-requires-clause-inside : goal.read_behind-requires-clause-inside
read_behind-requires-clause-inside g c =
    let v = c.args.state.now.plain in
    let f = c.args.flight.now in
    let told = (g.D.ZonedDisk.view c.args.disk.now).zones in
    let next = c.next_of-chunk.ensures.next in
    let ends = c.next_of-chunk.ensures.end in
    let bound : c.div_ceil.result ≡ rounded_up (end_sector c.args.state.now.plain c.args.flight.now) 8 = omega
    (arith, ends) in
    let run = rw (c.next_of-chunk.ensures.chunk, next, bound) at c.run_at-place.ensures in
    let stop : c.min-stop.result ≡ stop_sector c.args.state.now.plain c.args.flight.now c.run_at-place.result.1 =
    omega (arith, next, ends) in
    let low = zone_is v c.requires.sets told f c.requires.flight c.run_at-place.result.0 c.run_at-place.result.1 run
    c.in-Some.zone c.in-Some.is in
    let high = stop_inside v c.requires.sets told f c.requires.flight c.run_at-place.result.0 c.run_at-place.result.1
    run in
    let some = some_sectors v c.requires.sets told f c.requires.flight c.run_at-place.result.0
    c.run_at-place.result.1 run in
    subst (λ (o : Option Shape). IsSomeAnd o (IsInside c.in-Some.zone c.next_of-chunk.result.1
    (c.min-stop.result - c.next_of-chunk.result.1)))
    (sym c.requires.told) (low, omega (arith, high, some, stop, next))

pub read_behind-requires-clause-below : goal.read_behind-requires-clause-below
read_behind-requires-clause-below g c =
    let v = c.args.state.now.plain in
    let f = c.args.flight.now in
    let told = (g.D.ZonedDisk.view c.args.disk.now).zones in
    let next = c.next_of-chunk.ensures.next in
    let ends = c.next_of-chunk.ensures.end in
    let bound : c.div_ceil.result ≡ rounded_up (end_sector c.args.state.now.plain c.args.flight.now) 8 = omega
    (arith, ends) in
    let run = rw (c.next_of-chunk.ensures.chunk, next, bound) at c.run_at-place.ensures in
    let stop : c.min-stop.result ≡ stop_sector c.args.state.now.plain c.args.flight.now c.run_at-place.result.1 =
    omega (arith, next, ends) in
    let some = some_sectors v c.requires.sets told f c.requires.flight c.run_at-place.result.0
    c.run_at-place.result.1 run in
    IfSome-each (g.D.ZonedDisk.view c.args.disk.now).zones _
    (λ i there.
    let is = read_as {v = g.D.ZonedDisk.view c.args.disk.now} c.requires.told i there in
    let held = zone_holds v c.requires.sets told f c.requires.flight c.run_at-place.result.0 c.run_at-place.result.1 run
    c.in-Some.zone c.in-Some.is i (record { image = is.image; geometry = is.geometry }) (c.requires.below i there) in
    omega (arith, held, some, stop, next))

pub returns-in_err-read_behind-clause-err : goal.returns-in_err-read_behind-clause-err
returns-in_err-read_behind-clause-err g c =
    let v = c.args.state.now.plain in
    let f = c.args.flight.now in
    let told = (g.D.ZonedDisk.view c.args.disk.now).zones in
    let next = c.next_of-chunk.ensures.next in
    let ends = c.next_of-chunk.ensures.end in
    let bound : c.div_ceil.result ≡ rounded_up (end_sector c.args.state.now.plain c.args.flight.now) 8 = omega
    (arith, ends) in
    let run = rw (c.next_of-chunk.ensures.chunk, next, bound) at c.run_at-place.ensures in
    on_err c.from_residual.result _ (record {
      zone = c.in-Some.zone;
      count = c.run_at-place.result.1;
      run = subst (λ (o : Option ℕ). IsRunOfRead c.args.state.now.plain c.args.flight.now o c.run_at-place.result.1)
          c.in-Some.is
          (run_is v c.requires.sets told f c.requires.flight c.run_at-place.result.0 c.run_at-place.result.1 run);
      calls = c.read_behind.ensures.read_calls;
      failed = c.in_err-read_behind.ensures.cause;
      piece = refl;
    })

pub returns-clause-ok : goal.returns-clause-ok
returns-clause-ok g c =
    let v = c.args.state.now.plain in
    let f = c.args.flight.now in
    let u = g.D.ZonedDisk.view c.args.disk.now in
    let told = (g.D.ZonedDisk.view c.args.disk.now).zones in
    let next = c.next_of-chunk.ensures.next in
    let ends = c.next_of-chunk.ensures.end in
    let bound : c.div_ceil.result ≡ rounded_up (end_sector c.args.state.now.plain c.args.flight.now) 8 = omega
    (arith, ends) in
    let run = rw (c.next_of-chunk.ensures.chunk, next, bound) at c.run_at-place.ensures in
    let count : ℕ = c.run_at-place.result.1 in
    let stop : c.min-stop.result ≡ stop_sector c.args.state.now.plain c.args.flight.now c.run_at-place.result.1 =
    omega (arith, next, ends) in
    elim c.match-place.branch [
      | in-Some+in_ok-read_behind w ↦ (
          let value = rw (stop, next) at w.in_ok-read_behind.ensures.value in
          let size = rw (stop, next) at w.read_behind.ensures.size in
          let room = rw (stop, next) at w.read_behind.ensures.room in
          rw (w.flight-is, w.disk-is)
          (reads_run v c.requires.sets told f c.requires.flight c.run_at-place.result.0 c.run_at-place.result.1 run
          u (g.D.ZonedDisk.view w.read_behind.new.disk) refl
          (subst (λ (o : Option ℕ). ReadsPlace o (g.D.ZonedDisk.view c.args.disk.now)
          (g.D.ZonedDisk.view w.read_behind.new.disk))
          (sym w.in-Some.is) w.read_behind.ensures.read_calls)
          w.read_behind.new.into size room
          (λ i there. IfSome-at _ i _ there value
          ∙ ap (λ (o : Option ℕ). c.args.flight.now.bytes.items ++ run_of (sector_in o i)
          (next_sector c.args.state.now.plain c.args.flight.now)
          (stop_sector c.args.state.now.plain c.args.flight.now c.run_at-place.result.1 - next_sector
          c.args.state.now.plain c.args.flight.now))
          (sym w.in-Some.is))))
      | in_default w ↦ (
          let items = rw (stop, next) at w.add_zeros.ensures.items in
          let room = rw (stop, next) at w.add_zeros.ensures.room_left in
          let m : ℕ = stop_sector c.args.state.now.plain c.args.flight.now c.run_at-place.result.1 - next_sector
          c.args.state.now.plain c.args.flight.now in
          rw (w.flight-is, w.disk-is)
          (reads_run v c.requires.sets told f c.requires.flight c.run_at-place.result.0 c.run_at-place.result.1 run
          u u refl
          (subst (λ (o : Option ℕ). ReadsPlace o (g.D.ZonedDisk.view c.args.disk.now) (g.D.ZonedDisk.view c.args.disk.now))
          (sym w.in_default.is) refl)
          w.add_zeros.new.self
          (ap length items ∙ length-append c.args.flight.now.bytes.items _
          ∙ ap (λ (n : ℕ). length c.args.flight.now.bytes.items + n) (length-replicate {A = ℕ} _ 0))
          room
          (λ i there. items
          ∙ ap (λ (xs : List ℕ). c.args.flight.now.bytes.items ++ xs)
          (sym (zero_joined (next_sector c.args.state.now.plain c.args.flight.now) m))
          ∙ ap (λ (o : Option ℕ). c.args.flight.now.bytes.items ++ run_of (sector_in o i)
          (next_sector c.args.state.now.plain c.args.flight.now)
          (stop_sector c.args.state.now.plain c.args.flight.now c.run_at-place.result.1 - next_sector
          c.args.state.now.plain c.args.flight.now))
          (sym w.in_default.is))))
    ]

pub returns-clause-reads : goal.returns-clause-reads
returns-clause-reads g c =
    elim c.match-place.branch [
      | in-Some+in_ok-read_behind w ↦ rw w.disk-is w.read_behind.ensures.reads
      | in_default w ↦ rw w.disk-is (only_nothing (g.D.ZonedDisk.view c.args.disk.now))
    ]
