use Rattle.std.proofs.Common.{◌∙◌}
use Rattle.uuid.specs.Text.{parsed}
use Rattle.zd_admin.proofs.WordLaws.{tried}
use Rattle.zd_admin.proofs.words.identifier.Goals as goal

pub returns : goal.returns
returns c = c.ok.ensures.value ∙ tried c.try_parse.result (parsed c.args.word.now) c.try_parse.ensures.ok c.try_parse.ensures.bytes
