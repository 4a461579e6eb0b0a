-- The least number of the class is that of its first chunk in use order.
use Rattle.std.proofs.Common.{◌∙◌}
use Rattle.zd_alloc.specs.Candidates.{has_class}
use Rattle.zd_alloc.proofs.OldestLaws.{oldest_is, none_is}
use Rattle.zd_alloc.proofs.candidates.Candidates.oldest.Goals as goal

pub returns-in_err-chunk-clause-value : goal.returns-in_err-chunk-clause-value
returns-in_err-chunk-clause-value c order is =
    let s = c.args.self.now in
    c.from_residual.ensures ∙ none_is (has_class s.classes c.args.class) s.numbers c.in_err-chunk.ensures.none order is

pub returns-clause-value : goal.returns-clause-value
returns-clause-value c =
    let s = c.args.self.now in
    oldest_is (has_class s.classes c.args.class) s.numbers c.in_ok-chunk.chunk c.in_ok-chunk.ensures.some
