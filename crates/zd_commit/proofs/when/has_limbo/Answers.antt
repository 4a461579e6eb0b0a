use Rattle.std.proofs.lemmas.Bool.{lt-ltb}
use Rattle.zd_commit.proofs.LimboLaws.{first_limbo, limbo_last, second_limbo}
use Rattle.zd_commit.proofs.when.has_limbo.Goals as goal

pub returns-then-limbo-gt0 : goal.returns-then-limbo-gt0
returns-then-limbo-gt0 c =
    ((λ is. first_limbo c.args.alloc.now c.limbo.result c.limbo.ensures is), λ has. lt-ltb 0 c.limbo.result c.if-limbo-gt0.true)

pub returns-else-limbo-gt0 : goal.returns-else-limbo-gt0
returns-else-limbo-gt0 c =
    let n = c.limbo-else-limbo-gt0 in (
      (λ is. second_limbo c.args.alloc.now n.result n.ensures is),
      λ has. limbo_last c.args.alloc.now c.limbo.result n.result c.limbo.ensures n.ensures c.if-limbo-gt0.false has,
    )
