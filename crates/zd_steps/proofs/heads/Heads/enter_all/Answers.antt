use Rattle.std.proofs.Common.{◌≡◌, ℕ, List, [], ◌∷◌, ◌++◌, Some, map, take, get_or, slice_get, sym, ap, ◌∙◌, subst, arith}
use Rattle.std.proofs.lemmas.List.{append_assoc, map_more, take_all}
use Rattle.std.proofs.lemmas.Option.{slice_get-get_or}
use Rattle.zd_model.specs.History.{mark_of_piece}
use Rattle.zd_model.specs.declared.requests.Piece.{Piece}
use Rattle.zd_steps.specs.Queues.{HasEntered, first_of}
use Rattle.zd_steps.proofs.LinkLaws.{nobody}
use Rattle.zd_steps.proofs.KeptLaws.{not_back, same_first}
use Rattle.zd_steps.proofs.heads.Heads.enter_all.Goals as goal

pub loop-piece-preserved : goal.loop-piece-preserved
loop-piece-preserved c =
    let list : List Piece = c.args.list.now in
    let i : ℕ = c.loop-piece.piece-index in
    let low = c.loop-piece-test.true in
    let p : Piece = get_or list i nobody in
    let at : slice_get list i ≡ Some p = slice_get-get_or list i nobody low in
    let old = c.loop-piece.invariant in
    let first : first_of c.loop-piece.self p.caller ≡ Some p =
    old.others p.caller (λ k q below at_k. c.requires.firsts.apart k i q p below at_k at) ∙ c.requires.firsts.first i p at in
    record {
      pieces = c.enter.ensures.pieces ∙ old.pieces;
      heads = c.enter.ensures.heads;
      entered = λ marks before. subst (HasEntered c.enter.new.self)
          (append_assoc marks (map mark_of_piece (take i list)) (mark_of_piece p ∷ []) ∙ ap (λ ms. marks ++ ms) (sym (map_more mark_of_piece list i nobody low)))
          (c.enter.ensures.entered (marks ++ map mark_of_piece (take i list)) p (old.entered marks before) first);
      others = λ d none. same_first c.loop-piece.self c.enter.new.self d c.enter.ensures.pieces
          (c.enter.ensures.stays d (λ e. none i p (omega arith) at (sym e))) ∙ old.others d (λ k q below at_k. none k q (omega (arith, below)) at_k);
      later = λ d. (let was = old.later d in
          let now = not_back c.loop-piece.self c.enter.new.self p.caller c.enter.ensures.passes c.enter.ensures.stays d in
          omega (arith, was, now));
    }

pub returns-clause-entered : goal.returns-clause-entered
returns-clause-entered c marks before =
    let past = c.loop-piece-test.false in
    subst (λ (ps : List Piece). HasEntered c.loop-piece.self (marks ++ map mark_of_piece ps))
    (take_all c.loop-piece.piece-index c.args.list.now (omega (arith, past))) (c.loop-piece.invariant.entered marks before)
