use Rattle.zd_model.specs.Entries.{shown_entry}
use Rattle.zd_report.proofs.CountLaws.{counted_more}
use Rattle.zd_report.proofs.summaries.counts_of.Goals as goal

pub loop-i-preserved : goal.loop-i-preserved
loop-i-preserved c =
    counted_more c.args.history.now.items c.loop-i.i (shown_entry c.get.result.now) c.get.ensures c.loop-i.counts
    c.add.new.self c.loop-i.invariant c.add.ensures
