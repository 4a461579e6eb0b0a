use Rattle.zd_reclaim.proofs.NeverStuck.{picked_one}
use Rattle.zd_reclaim.proofs.choice.never_stuck.Goals as goal

pub returns : goal.returns
returns g c = λ none full empty.
    picked_one c.args.v.now.plain c.sound.ensures none (λ z is. empty (z, is)) full c.pick-job.result c.pick-job.ensures
