use Rattle.std.proofs.Common.{ℕ, List, ap₂, inl, inr, refl, sym, ap, ◌∙◌, subst, arith}
use Rattle.zd_disk.proofs.ToldLaws.{OnErr-at, OnOk-at}
use Rattle.zd_model.specs.Plain.Answer.{Fault, Got}
use Rattle.zd_model.specs.Room.{ListWithRoom}
use Rattle.zd_model.specs.declared.requests.Piece.{Piece}
use Rattle.zd_volume.specs.Flights.{with_entry}
use Rattle.zd_volume.specs.Volumes.{IsKeptVolume, PlainVolume}
use Rattle.zd_volume.proofs.EntryKeeps.{kept_fault, kept_got}
use Rattle.zd_volume.proofs.ReadEnds.{ends_read, goes_on, reply_all}
use Rattle.zd_volume.proofs.Still.{kept_read}
use Rattle.zd_state.proofs.volume.Volume.read_run.Goals as goal

pub read_next-requires-clause-below : goal.read_next-requires-clause-below
read_next-requires-clause-below g c i there =
    (c.self.invariant.reads (rw (← c.self.view_is) at c.requires.running) i there).read.below

pub read_next-requires-clause-flight : goal.read_next-requires-clause-flight
read_next-requires-clause-flight g c = rw (← c.self.view_is) at c.requires.flight

pub invariant_of-self : goal.invariant_of-self
invariant_of-self g c =
    let v = c.self.inside.state.plain in
    let running = rw (← c.self.view_is) at c.requires.running in
    let is = rw (← c.self.view_is) at c.requires.flight in
    let fails = OnErr-at c.read_next.result _ c.if-is_err.ensures.negation c.read_next.ensures.err in
    subst (λ (w : PlainVolume). IsKeptVolume w (g.D.ZonedDisk.view c.self.inside.opening.value)
    (g.D.ZonedDisk.view c.read_next.new.disk))
    (sym (c.enter.ensures.plain ∙ ap (λ (p : Piece). with_entry c.self.inside.state.plain p Fault) fails.piece))
    (kept_fault v (g.D.ZonedDisk.view c.self.inside.opening.value) (g.D.ZonedDisk.view c.self.inside.disk)
    (g.D.ZonedDisk.view c.read_next.new.disk) running c.read_next.ensures.reads c.self.invariant c.args.flight.now.piece
    is.reads is.piece fails.failed)

pub returns-then-is_err-clause-step : goal.returns-then-is_err-clause-step
returns-then-is_err-clause-step g c =
    let fails = OnErr-at c.read_next.result _ c.if-is_err.ensures.negation c.read_next.ensures.err in
    rw (← c.self.view_is) (inr (record {
      run = record {
        zone = fails.zone;
        count = fails.count;
        run = fails.run;
        calls = fails.calls;
        failed = fails.failed;
        piece = fails.piece;
      };
      volume = c.enter.ensures.plain ∙ ap (λ (p : Piece). with_entry c.self.inside.state.plain p Fault) fails.piece;
    }))

pub invariant_of-self-then-flight-blocks : goal.invariant_of-self-then-flight-blocks
invariant_of-self-then-flight-blocks g c =
    kept_read c.self.inside.state.plain (g.D.ZonedDisk.view c.self.inside.opening.value)
    (g.D.ZonedDisk.view c.self.inside.disk)
    (g.D.ZonedDisk.view c.read_next.new.disk) c.read_next.ensures.reads c.self.invariant

pub returns-then-flight-blocks-clause-step : goal.returns-then-flight-blocks-clause-step
returns-then-flight-blocks-clause-step g c =
    let v = c.self.inside.state.plain in
    let is = rw (← c.self.view_is) at c.requires.flight in
    let read = OnOk-at c.read_next.result _ c.if-is_err.ensures.negation c.read_next.ensures.ok in
    let more = c.if-flight-blocks.true in
    let blocks = c.cover-blocks.ensures.count in
    rw (← c.self.view_is) (record {
      run = read;
      flight = goes_on v (g.D.ZonedDisk.view c.self.inside.disk) (g.D.ZonedDisk.view c.read_next.new.disk)
          c.args.flight.now c.read_next.new.flight is read (omega (arith, more, blocks));
      volume = refl;
    })

pub invariant_of-self-2 : goal.invariant_of-self-2
invariant_of-self-2 g c =
    let v = c.self.inside.state.plain in
    let running = rw (← c.self.view_is) at c.requires.running in
    let is = rw (← c.self.view_is) at c.requires.flight in
    let read = OnOk-at c.read_next.result _ c.if-is_err.ensures.negation c.read_next.ensures.ok in
    let last = c.if-flight-blocks.false in
    let blocks = c.cover-blocks.ensures.count in
    let bytes = ap (λ (b : ListWithRoom ℕ). b.items) c.replace-bytes.ensures.value in
    subst (λ (w : PlainVolume). IsKeptVolume w (g.D.ZonedDisk.view c.self.inside.opening.value)
    (g.D.ZonedDisk.view c.read_next.new.disk))
    (sym (c.enter-2.ensures.plain
    ∙ ap₂ (λ (p : Piece) (xs : List ℕ). with_entry c.self.inside.state.plain p (Got xs)) read.piece bytes))
    (kept_got v (g.D.ZonedDisk.view c.self.inside.opening.value) (g.D.ZonedDisk.view c.self.inside.disk)
    (g.D.ZonedDisk.view c.read_next.new.disk) running c.read_next.ensures.reads c.self.invariant c.args.flight.now.piece
    is.reads is.piece c.read_next.new.flight.bytes.items
    (reply_all v (g.D.ZonedDisk.view c.self.inside.disk) (g.D.ZonedDisk.view c.read_next.new.disk)
    c.args.flight.now c.read_next.new.flight is read (omega (arith, last, blocks))))

pub returns-clause-step : goal.returns-clause-step
returns-clause-step g c =
    let v = c.self.inside.state.plain in
    let is = rw (← c.self.view_is) at c.requires.flight in
    let read = OnOk-at c.read_next.result _ c.if-is_err.ensures.negation c.read_next.ensures.ok in
    let last = c.if-flight-blocks.false in
    let blocks = c.cover-blocks.ensures.count in
    let bytes = ap (λ (b : ListWithRoom ℕ). b.items) c.replace-bytes.ensures.value in
    let given = ap (λ (b : ListWithRoom ℕ). b.items) c.replace-bytes.ensures.after ∙ c.no_bytes.ensures in
    rw (← c.self.view_is) (inl
    (ends_read v (g.D.ZonedDisk.view c.self.inside.disk) (g.D.ZonedDisk.view c.read_next.new.disk)
    c.args.flight.now c.read_next.new.flight is read (omega (arith, last, blocks)) c.enter-2.new.self.plain
    (record {
      piece = c.read_next.new.flight.piece;
      done = c.read_next.new.flight.done;
      bytes =
          c.replace-bytes.new.dest;
    })
    (c.enter-2.ensures.plain
    ∙ ap₂ (λ (p : Piece) (xs : List ℕ). with_entry c.self.inside.state.plain p (Got xs)) read.piece bytes)
    read.piece given))
