use Rattle.std.proofs.Common.{rules, map, []}
use Rattle.std.specs.Prelude.{string_bytes}
use Rattle.zd_commands.specs.Replays.{alone_options, replay_places}
use Rattle.zd_commands.proofs.AloneTable.{program, simple}
use Rattle.zd_commands.proofs.Programs.{reads_if, unread_if, utf8_words}
use Rattle.zd_commands.proofs.replays.alone_matches.Goals as goal

pub returns-clause-some : goal.returns-clause-some
returns-clause-some c = reads_if [] alone_options replay_places program simple (map string_bytes c.args.words.now) (utf8_words c.args.words.now) _ _ _ _
    (search rules) (search rules) (search rules) c.matches.ensures.some

pub returns-clause-none : goal.returns-clause-none
returns-clause-none c = unread_if [] alone_options replay_places program simple (map string_bytes c.args.words.now) _ _ _ _
    (search rules) (search rules) (search rules) c.matches.ensures.none
