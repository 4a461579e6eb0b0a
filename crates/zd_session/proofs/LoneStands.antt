-- What a session tells of itself between steps.
use Rattle.std.proofs.Common.{ℕ, List, slice_get, ap, ◌∙◌}
use Rattle.zd_disk.specs.View.{View}
use Rattle.zd_model.specs.declared.requests.Piece.{Piece}
use Rattle.zd_model.specs.declared.requests.Request.{Request}
use Rattle.zd_state.specs.Seen.{Seen}
use Rattle.zd_steps.specs.Queues.{IsQueue}
use Rattle.zd_volume.specs.Volumes.{IsFixed}
use Rattle.zd_session.specs.LoneStates.{StandsSession}
use Rattle.zd_session.specs.Moving.{IsKeptSession, seen_by}
use Rattle.zd_session.specs.declared.progress.Progress.{Progress}
use Rattle.zd_session.proofs.StepLaws.{same_run}

pub stands_so : {D : Type 0} (look : D → View) (v : Seen D) (plan : List Request) (g : Progress) (list : ℕ)
    → IsKeptSession look v plan g list → IsFixed v.plain
    → IsQueue g.queue.chunk_blocks g.queue.callers g.queue.flights → StandsSession look (seen_by v plan g)
stands_so look v plan g list kept fixed is_queue =
    let progress = kept.session.progress in
    record {
      fixed = fixed;
      queue = g.queue;
      is_queue = is_queue;
      run = same_run v.plain plan g.queue progress.chunks kept.session.pieces;
      entered = progress.entered;
      can = λ i p at. progress.can i p (ap (λ (ps : List Piece). slice_get ps i) kept.session.pieces ∙ at);
      actors = progress.holds;
    }
