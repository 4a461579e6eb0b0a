use Rattle.std.proofs.Common.{refl, inl, inr, lit≤}
use Rattle.zd_model.specs.Bytes.{zero_sector}
use Rattle.zd_examples.proofs.histories.fault_examples.Goals as goal

pub returns-clause-reads : goal.returns-clause-reads
returns-clause-reads c = record {
  answers =
      (inl refl, (inr (refl, refl, tt), (inl refl, (inl refl, (inl refl, (inl refl, tt))))));
  in_time = (lit≤ tt, (lit≤ tt, (lit≤ tt, (lit≤ tt, (lit≤ tt, tt)))));
}

pub returns-clause-write : goal.returns-clause-write
unfolding zero_sector
returns-clause-write c = record {
  answers = (inl refl, (inr (refl, refl, refl), tt));
  in_time = (lit≤ tt, tt);
}

pub returns-clause-flushes : goal.returns-clause-flushes
returns-clause-flushes c = record {
  answers = (inr (refl, refl, ((refl, refl), tt)), (inr (refl, refl, tt), tt));
  in_time = (lit≤ tt, tt);
}
