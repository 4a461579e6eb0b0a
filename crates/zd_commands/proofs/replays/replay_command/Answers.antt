use Rattle.std.proofs.Common.{rules, ◌≡◌, ◌∙◌, sym, subst, map, List, ℕ, Option, Some, [], refl, codes, true}
use Rattle.std.specs.Prelude.{string_bytes}
use Rattle.std.specs.Option.{option_copied}
use Rattle.clap.specs.Words.{found_of, rows_of}
use Rattle.zd_commands.specs.FoundReplays.{MakesReplay}
use Rattle.zd_commands.specs.Founds.{FindsRows, IsRead}
use Rattle.zd_commands.specs.Replays.{AsksReplay, GivesActors, replay_options, replay_places}
use Rattle.zd_commands.specs.Spelling.{value_of}
use Rattle.zd_commands.proofs.ReplayLaws.{made_takes, option_is, takes_made}
use Rattle.zd_commands.proofs.WordLaws.{at_some, none_as, some_as}
use Rattle.zd_commands.proofs.replays.replay_command.Goals as goal

pub returns-in_default-clause-none : goal.returns-in_default-clause-none
returns-in_default-clause-none c task image actors a =
    let words = map string_bytes c.args.words.now in
    let is : c.in-Ok-Some.field-0 ≡ Some c.in-Ok-Some.found = search rules in
    let read = at_some c.in-Ok-Some.field-0 c.in-Ok-Some.found
    (λ m. IsRead [] replay_options words 2 (FindsRows [] replay_options replay_places (rows_of (found_of m)))) is c.in-Ok-Some.ensures.some in
    let word : option_copied c.value.result ≡ value_of (codes "actors") a.items =
    option_is replay_options words (rows_of (found_of c.in-Ok-Some.found)) c.replay_found.result read
    (λ items ws rows. c.replay_found.ensures replay_options items ws refl refl rows) (codes "actors") (option_copied c.value.result)
    (λ items ws rows. c.value.ensures ∙ rows.option (codes "actors") refl) task image a.items a.plain a.reading a.takes in
    c.in_default.ensures.none actors (subst (λ (o : Option (List ℕ)). GivesActors o actors) (sym word) a.gives)

pub returns-in-Some-made_replay-clause-some : goal.returns-in-Some-made_replay-clause-some
returns-in-Some-made_replay-clause-some c =
    let words = map string_bytes c.args.words.now in
    let is : c.in-Ok-Some.field-0 ≡ Some c.in-Ok-Some.found = search rules in
    let read = at_some c.in-Ok-Some.field-0 c.in-Ok-Some.found
    (λ m. IsRead [] replay_options words 2 (FindsRows [] replay_options replay_places (rows_of (found_of m)))) is c.in-Ok-Some.ensures.some in
    let takes = made_takes replay_options words (rows_of (found_of c.in-Ok-Some.found)) c.replay_found.result read
    (λ items ws rows. c.replay_found.ensures replay_options items ws refl refl rows) c.in-Some-made_replay.field-0.task c.in-Some-made_replay.field-0.image.now c.in-Some-made_replay.ensures.some in
    record {
      items = read.items;
      plain = read.plain;
      reading = read.reading;
      takes = takes;
      gives = subst (λ (o : Option (List ℕ)). GivesActors o c.in-Some.actors)
          (option_is replay_options words (rows_of (found_of c.in-Ok-Some.found)) c.replay_found.result read
          (λ items ws rows. c.replay_found.ensures replay_options items ws refl refl rows) (codes "actors") (option_copied c.value.result)
          (λ items ws rows. c.value.ensures ∙ rows.option (codes "actors") refl) c.in-Some-made_replay.field-0.task c.in-Some-made_replay.field-0.image.now
          read.items read.plain read.reading takes) c.in-Some.ensures.some;
    }

pub returns-in-None-clause-none : goal.returns-in-None-clause-none
returns-in-None-clause-none c task image actors a =
    let words = map string_bytes c.args.words.now in
    let is : c.in-Ok-Some.field-0 ≡ Some c.in-Ok-Some.found = search rules in
    let read = at_some c.in-Ok-Some.field-0 c.in-Ok-Some.found
    (λ m. IsRead [] replay_options words 2 (FindsRows [] replay_options replay_places (rows_of (found_of m)))) is c.in-Ok-Some.ensures.some in
    c.in-None.ensures.none task image (takes_made replay_options words (rows_of (found_of c.in-Ok-Some.found)) c.replay_found.result read
    (λ items ws rows. c.replay_found.ensures replay_options items ws refl refl rows) task image a.items a.plain a.reading a.takes)
