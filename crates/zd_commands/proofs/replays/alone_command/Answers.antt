use Rattle.std.proofs.Common.{rules, ◌≡◌, map, List, ℕ, Some, [], refl}
use Rattle.std.specs.Prelude.{string_bytes}
use Rattle.clap.specs.Words.{found_of, rows_of}
use Rattle.zd_commands.specs.FoundReplays.{MakesReplay}
use Rattle.zd_commands.specs.Founds.{FindsRows, IsRead}
use Rattle.zd_commands.specs.Replays.{AsksAloneReplay, alone_options, replay_places}
use Rattle.zd_commands.proofs.ReplayLaws.{made_takes, takes_made}
use Rattle.zd_commands.proofs.WordLaws.{at_some, none_as, some_as}
use Rattle.zd_commands.proofs.replays.alone_command.Goals as goal

pub returns-clause-some : goal.returns-clause-some
returns-clause-some c =
    let words = map string_bytes c.args.words.now in
    let is : c.in-Ok-Some.field-0 ≡ Some c.in-Ok-Some.found = search rules in
    let read = at_some c.in-Ok-Some.field-0 c.in-Ok-Some.found
    (λ m. IsRead [] alone_options words 2 (FindsRows [] alone_options replay_places (rows_of (found_of m)))) is c.in-Ok-Some.ensures.some in
    some_as c.made_replay.result (λ made. MakesReplay c.replay_found-found.result made.task made.image.now) (λ made. AsksAloneReplay words made.task made.image.now)
    (λ made h. record {
      items = read.items;
      plain = read.plain;
      reading = read.reading;
      takes = made_takes alone_options words (rows_of (found_of c.in-Ok-Some.found)) c.replay_found-found.result read
          (λ items ws rows. c.replay_found-found.ensures alone_options items ws refl refl rows) made.task made.image.now h;
    }) c.made_replay.ensures.some

pub returns-clause-none : goal.returns-clause-none
returns-clause-none c =
    let words = map string_bytes c.args.words.now in
    let is : c.in-Ok-Some.field-0 ≡ Some c.in-Ok-Some.found = search rules in
    let read = at_some c.in-Ok-Some.field-0 c.in-Ok-Some.found
    (λ m. IsRead [] alone_options words 2 (FindsRows [] alone_options replay_places (rows_of (found_of m)))) is c.in-Ok-Some.ensures.some in
    none_as c.made_replay.result
    (λ none task image a. none task image (takes_made alone_options words (rows_of (found_of c.in-Ok-Some.found)) c.replay_found-found.result read
    (λ items ws rows. c.replay_found-found.ensures alone_options items ws refl refl rows) task image a.items a.plain a.reading a.takes))
    c.made_replay.ensures.none
