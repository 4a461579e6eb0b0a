use Rattle.std.proofs.Common.{◌∙◌, sym}
use Rattle.std.proofs.lemmas.Bool.{false≢true}
use Rattle.zd_reclaim.proofs.PickedJobs.{append_found, giving_found, none_append, none_giving}
use Rattle.zd_reclaim.proofs.choice.oldest_giving.Goals as goal

pub returns-then-has_free_sequential-clause-some : goal.returns-then-has_free_sequential-clause-some
returns-then-has_free_sequential-clause-some g c =
    let found = c.oldest_of_either in
    giving_found c.args.v.now.plain c.sound.ensures c.candidates-candidates.result.now found.result
    c.candidates-candidates.ensures (c.has_free_sequential.ensures.0 c.if-has_free_sequential.true)
    (found.ensures.value, found.ensures.inside)

pub returns-then-has_free_sequential-clause-none : goal.returns-then-has_free_sequential-clause-none
returns-then-has_free_sequential-clause-none g c =
    let found = c.oldest_of_either in
    none_giving c.args.v.now.plain c.sound.ensures c.candidates-candidates.result.now found.result
    c.candidates-candidates.ensures (c.has_free_sequential.ensures.0 c.if-has_free_sequential.true)
    (found.ensures.value, found.ensures.inside)

pub returns-else-has_free_sequential-clause-some : goal.returns-else-has_free_sequential-clause-some
returns-else-has_free_sequential-clause-some g c =
    let found = c.oldest in
    append_found c.args.v.now.plain c.sound.ensures c.candidates-candidates.result.now found.result
    c.candidates-candidates.ensures
    (λ has. false≢true (sym c.if-has_free_sequential.false ∙ c.has_free_sequential.ensures.1 has))
    (found.ensures.value, found.ensures.inside)

pub returns-else-has_free_sequential-clause-none : goal.returns-else-has_free_sequential-clause-none
returns-else-has_free_sequential-clause-none g c =
    let found = c.oldest in
    none_append c.args.v.now.plain c.sound.ensures c.candidates-candidates.result.now found.result
    c.candidates-candidates.ensures
    (λ has. false≢true (sym c.if-has_free_sequential.false ∙ c.has_free_sequential.ensures.1 has))
    (found.ensures.value, found.ensures.inside)
