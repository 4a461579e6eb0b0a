use Rattle.std.proofs.Common.{rules, ◌≡◌, ◌∙◌, map, refl}
use Rattle.std.specs.Prelude.{string_bytes}
use Rattle.clap.specs.Words.{found_of, rows_of}
use Rattle.zd_commands.specs.Admins.{admin_flags, admin_options, admin_places}
use Rattle.zd_commands.proofs.AdminTable.{program, simple}
use Rattle.zd_commands.proofs.Programs.{reads_if, unread_if, utf8_words}
use Rattle.zd_commands.proofs.admins.admin_matches.Goals as goal

pub returns-clause-some : goal.returns-clause-some
returns-clause-some c = reads_if admin_flags admin_options admin_places program simple (map string_bytes c.args.words.now) (utf8_words c.args.words.now) _ _ _ _
    (search rules) (search rules) (search rules) c.matches.ensures.some

pub returns-clause-none : goal.returns-clause-none
returns-clause-none c = unread_if admin_flags admin_options admin_places program simple (map string_bytes c.args.words.now) _ _ _ _
    (search rules) (search rules) (search rules) c.matches.ensures.none
