use Rattle.zd_report.proofs.CountLaws.{six_lines}
use Rattle.zd_report.proofs.summaries.with_counts.Goals as goal

pub returns : goal.returns
returns c =
    six_lines c.args.history.now.items c.args.made c.from.result c.counts_of-counts.result
    c.from.ensures c.counts_of-counts.ensures
    _ _ _ _ _ _ _ c.new-text.ensures.bytes c.in_ok-add_count.ensures c.in_ok-add_count-2.ensures
    c.in_ok-add_count-3.ensures c.in_ok-add_count-4.ensures c.in_ok-add_count-5.ensures c.in_ok-add_count-6.ensures
