use Rattle.std.proofs.Common.{◌≡◌, ◌∙◌, List, Option, length, ap, None}
use Rattle.std.proofs.lemmas.List.{length-replicate}
use Rattle.zd_model.specs.declared.requests.Piece.{Piece}
use Rattle.bench_callers.proofs.step_volume.Goals as goal

pub make_steps-steps-requires : goal.make_steps-steps-requires
make_steps-steps-requires g c =
    ap (λ (flights : List (Option Piece)). length flights) c.in-Ok.ensures.begins.flights
    ∙ length-replicate {A = Option Piece} 64 None
