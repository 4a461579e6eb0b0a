use Rattle.zd_examples.proofs.Chosen.{fresh_is, conventional_is, sequential_is, buffered_is, last_zone_is}
use Rattle.zd_examples.proofs.images.chosen_examples.Goals as goal

pub returns-clause-fresh : goal.returns-clause-fresh
returns-clause-fresh c = fresh_is

pub returns-clause-conventional : goal.returns-clause-conventional
returns-clause-conventional c = conventional_is

pub returns-clause-sequential : goal.returns-clause-sequential
returns-clause-sequential c = sequential_is 8

pub returns-clause-buffered : goal.returns-clause-buffered
returns-clause-buffered c = buffered_is

pub returns-clause-last_zone : goal.returns-clause-last_zone
returns-clause-last_zone c = last_zone_is 8
