use Rattle.std.proofs.Common.{ℕ, ◌*◌, ◌++◌, List, sym, ap, ◌∙◌, arith}
use Rattle.std.proofs.lemmas.Result.{on_ok_weaker}
use Rattle.zd_disk.proofs.ToldLaws.{IfSome-at, IfSome-each}
use Rattle.zd_disk.proofs.ViewLaws.{read_as}
use Rattle.zd_model.specs.Image.{run_of}
use Rattle.zd_state.proofs.EdgeReads.{place_held, place_inside, read_served}
use Rattle.zd_state.proofs.merging.read_edge.Goals as goal

pub read_behind-read-requires-clause-inside : goal.read_behind-read-requires-clause-inside
read_behind-read-requires-clause-inside g c =
    let v = c.args.state.now.plain in
    let is = sym c.place_of-zone.ensures.zone ∙ c.unwrap.ensures in
    rw (c.requires.told, c.place_of-zone.ensures.place)
    (place_inside v c.requires.sets c.args.block c.unwrap.result is)

pub read_behind-read-requires-clause-below : goal.read_behind-read-requires-clause-below
read_behind-read-requires-clause-below g c =
    let v = c.args.state.now.plain in
    let is = sym c.place_of-zone.ensures.zone ∙ c.unwrap.ensures in
    let place = c.place_of-zone.ensures.place in
    IfSome-each (g.D.ZonedDisk.view c.args.disk.now).zones _
    (λ i there.
    let of = read_as {v = g.D.ZonedDisk.view c.args.disk.now} c.requires.told i there in
    let held = place_held v c.requires.sets c.args.block c.unwrap.result is i
    (record { image = of.image; geometry = of.geometry }) (c.requires.below i there) in
    omega (arith, held, place))

pub returns-else-is_err-clause-value : goal.returns-else-is_err-clause-value
returns-else-is_err-clause-value g c =
    let v = c.args.state.now.plain in
    let is = sym c.place_of-zone.ensures.zone ∙ c.unwrap.ensures in
    on_ok_weaker c.read_behind-read.result
    (λ value i there.
    IfSome-at _ i _ there value
    ∙ ap (λ (xs : List ℕ). xs ++ run_of (i.sector c.unwrap.result) (8 * c.place_of-zone.result.1) 8) c.requires.empty
    ∙ ap (λ (x : ℕ). run_of (i.sector c.unwrap.result) (8 * x) 8) c.place_of-zone.ensures.place
    ∙ read_served v c.requires.sets c.args.block c.unwrap.result is i)
    c.read_behind-read.ensures.value
