use Rattle.zd_tell.proofs.TellLaws.{handed}
use Rattle.zd_tell.proofs.telling.hand_out.Goals as goal

pub returns : goal.returns
returns g c =
    handed c.write_all.result c.is_ok-told.result c.args.status.0 c.status_after.result.0 _ _ _ (g.K.Sink.held c.write_all.new.out) c.args.text.now
    c.requires c.is_ok-told.ensures.value c.status_after.ensures.answers c.status_after.ensures.done c.status_after.ensures.sink c.write_all.ensures.cause
    c.write_all.ensures.taken
