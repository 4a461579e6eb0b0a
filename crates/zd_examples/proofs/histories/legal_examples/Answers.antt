use Rattle.std.proofs.Common.{refl, inl, lit≤}
use Rattle.zd_model.specs.Bytes.{zero_sector}
use Rattle.zd_model.specs.Plain.{pattern}
use Rattle.zd_examples.specs.Requests.{zero_volume}
use Rattle.zd_examples.proofs.histories.legal_examples.Goals as goal

pub returns-clause-nothing : goal.returns-clause-nothing
unfolding zero_volume zero_sector
returns-clause-nothing c = record { answers = (inl refl, tt); in_time = tt }

pub returns-clause-last : goal.returns-clause-last
unfolding zero_volume
returns-clause-last c = record {
  answers = (inl refl, (inl refl, (inl refl, tt)));
  in_time = (lit≤ tt, (lit≤ tt, tt));
}

pub returns-clause-two : goal.returns-clause-two
unfolding zero_volume
returns-clause-two c = record {
  answers = (inl refl, (inl refl, (inl refl, (inl refl, tt))));
  in_time = (lit≤ tt, (lit≤ tt, (lit≤ tt, tt)));
}

pub returns-clause-discard : goal.returns-clause-discard
unfolding zero_volume zero_sector pattern
returns-clause-discard c = record {
  answers = (inl refl, (inl refl, (inl refl, tt)));
  in_time = (lit≤ tt, (lit≤ tt, tt));
}

pub returns-clause-sectors : goal.returns-clause-sectors
unfolding zero_volume zero_sector pattern
returns-clause-sectors c =
    record { answers = (inl refl, (inl refl, tt)); in_time = (lit≤ tt, tt) }
