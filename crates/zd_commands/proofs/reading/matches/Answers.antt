use Rattle.std.proofs.Common.{rules, map}
use Rattle.std.specs.Prelude.{string_bytes}
use Rattle.clap.specs.Words.{app_of}
use Rattle.zd_commands.specs.Table.{texts}
use Rattle.zd_commands.proofs.Answering.{refused, taken}
use Rattle.zd_commands.proofs.reading.matches.Goals as goal

pub returns-in-Ok-try_get_matches_from-clause-some : goal.returns-in-Ok-try_get_matches_from-clause-some
returns-in-Ok-try_get_matches_from-clause-some c = taken (texts c.args.flags.now) (texts c.args.options.now) (texts c.args.places.now) (map string_bytes c.args.words.now)
    c.in-Ok-try_get_matches_from.found (app_of c.in-Ok.made) c.in-Ok.ensures c.in-Ok-try_get_matches_from.ensures.kinds c.in-Ok-try_get_matches_from.ensures.matches

pub returns-else-eq-clause-none : goal.returns-else-eq-clause-none
returns-else-eq-clause-none c = refused (texts c.args.flags.now) (texts c.args.options.now) (texts c.args.places.now) (map string_bytes c.args.words.now)
    c.in-Err-try_get_matches_from.error (app_of c.in-Ok.made) c.in-Ok.ensures c.in-Err-try_get_matches_from.ensures.kinds (search rules)
