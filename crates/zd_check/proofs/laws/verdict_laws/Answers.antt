use Rattle.zd_check.proofs.VerdictLaws.{each_verdict, made_of, none_refused, one_verdict, same_of}
use Rattle.zd_check.proofs.laws.verdict_laws.Goals as goal

pub returns-clause-each : goal.returns-clause-each
returns-clause-each c image volume = each_verdict image volume.0 volume.1

pub returns-clause-one : goal.returns-clause-one
returns-clause-one c = one_verdict

pub returns-clause-refused : goal.returns-clause-refused
returns-clause-refused c = none_refused

pub returns-clause-same : goal.returns-clause-same
returns-clause-same c image choice = (made_of image choice, same_of image choice)
