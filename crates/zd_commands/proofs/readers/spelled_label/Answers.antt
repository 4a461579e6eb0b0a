use Rattle.zd_commands.proofs.WordLaws.{is_label_word}
use Rattle.zd_commands.proofs.readers.spelled_label.Goals as goal

pub returns-clause-some : goal.returns-clause-some
returns-clause-some c =
    is_label_word c.args.word.now c.as_bytes-bytes.result.now c.copy_from_slice.new.self c.as_bytes-bytes.ensures.value
    (c.are_label.ensures.0 c.if-not-are_label.false) c.copy_from_slice.ensures.after
