use Rattle.std.proofs.Common.{refl, inl, inr, lit≤, lit<}
use Rattle.zd_examples.proofs.stops.held_examples.Goals as goal

pub returns-clause-flushed : goal.returns-clause-flushed
returns-clause-flushed c = inl refl

pub returns-clause-under_way : goal.returns-clause-under_way
returns-clause-under_way c = inr (inl (refl, ((lit≤ tt, inl refl), (lit≤ tt, lit< tt), refl)))

pub returns-clause-done : goal.returns-clause-done
returns-clause-done c = inr (inl (refl, ((lit≤ tt, inl refl), (lit≤ tt, lit< tt), refl)))

pub returns-clause-before_flush : goal.returns-clause-before_flush
returns-clause-before_flush c = inl refl

pub returns-clause-unflushed : goal.returns-clause-unflushed
returns-clause-unflushed c = inr (inl (refl, ((lit≤ tt, inl refl), (lit≤ tt, lit< tt), refl)))

pub returns-clause-begun : goal.returns-clause-begun
returns-clause-begun c = inr (inl (refl, ((lit≤ tt, inl refl), (lit≤ tt, lit< tt), refl)))

pub returns-clause-first_flush : goal.returns-clause-first_flush
returns-clause-first_flush c = inl refl

pub returns-clause-discarded : goal.returns-clause-discarded
returns-clause-discarded c = inr (inr (inl (refl, ((lit≤ tt, refl), (lit≤ tt, lit< tt), refl))))

pub returns-clause-other_block : goal.returns-clause-other_block
returns-clause-other_block c = inr (inl (refl, ((lit≤ tt, inl refl), (lit≤ tt, lit< tt), refl)))

pub returns-clause-failed_write : goal.returns-clause-failed_write
returns-clause-failed_write c = inr (inl (refl, ((lit≤ tt, inr refl), (lit≤ tt, lit< tt), refl)))

pub returns-clause-failed_flush : goal.returns-clause-failed_flush
returns-clause-failed_flush c = inl refl

pub returns-clause-sectors : goal.returns-clause-sectors
returns-clause-sectors c = inr (inl (refl, ((lit≤ tt, inl refl), (lit≤ tt, lit< tt), refl)))
