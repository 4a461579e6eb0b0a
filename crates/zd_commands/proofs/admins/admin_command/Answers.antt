use Rattle.std.proofs.Common.{rules, ◌≡◌, map, List, ℕ, Some}
use Rattle.std.specs.Prelude.{string_bytes}
use Rattle.clap.specs.Words.{found_of, rows_of}
use Rattle.zd_commands.specs.Admins.{AsksAdmin, admin_flags, admin_options, admin_places}
use Rattle.zd_commands.specs.Founds.{FindsRows, IsRead, MakesCommand}
use Rattle.zd_commands.proofs.AdminLaws.{asks_made, made_asks, unread_asks}
use Rattle.zd_commands.proofs.WordLaws.{at_some, none_as, some_as}
use Rattle.zd_commands.proofs.admins.admin_command.Goals as goal

pub returns-in-Ok-None-clause-none : goal.returns-in-Ok-None-clause-none
returns-in-Ok-None-clause-none c = unread_asks (map string_bytes c.args.words.now) (search rules)

pub returns-clause-some : goal.returns-clause-some
returns-clause-some c =
    let words = map string_bytes c.args.words.now in
    let is : c.in-Ok-Some.field-0 ≡ Some c.in-Ok-Some.found = search rules in
    let read = at_some c.in-Ok-Some.field-0 c.in-Ok-Some.found
    (λ m. IsRead admin_flags admin_options words 1 (FindsRows admin_flags admin_options admin_places (rows_of (found_of m)))) is c.in-Ok-Some.ensures.some in
    some_as c.made_command.result (λ made. MakesCommand c.admin_found-found.result made.task made.image.now) (λ made. AsksAdmin words made.task made.image.now)
    (λ made. made_asks words (rows_of (found_of c.in-Ok-Some.found)) c.admin_found-found.result read c.admin_found-found.ensures made.task made.image.now)
    c.made_command.ensures.some

pub returns-clause-none : goal.returns-clause-none
returns-clause-none c =
    let words = map string_bytes c.args.words.now in
    let is : c.in-Ok-Some.field-0 ≡ Some c.in-Ok-Some.found = search rules in
    let read = at_some c.in-Ok-Some.field-0 c.in-Ok-Some.found
    (λ m. IsRead admin_flags admin_options words 1 (FindsRows admin_flags admin_options admin_places (rows_of (found_of m)))) is c.in-Ok-Some.ensures.some in
    none_as c.made_command.result
    (λ none asked image a. none asked image (asks_made words (rows_of (found_of c.in-Ok-Some.found)) c.admin_found-found.result read c.admin_found-found.ensures asked image a))
    c.made_command.ensures.none
