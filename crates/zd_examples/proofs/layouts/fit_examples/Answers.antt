use Rattle.std.proofs.Common.{lit≤, lit<}
use Rattle.zd_examples.proofs.layouts.fit_examples.Goals as goal

pub returns-clause-fresh : goal.returns-clause-fresh
returns-clause-fresh c = record {
  some_reserved = lit≤ tt;
  reserved_sequential = lit≤ tt;
  some_chunk = lit≤ tt;
  map = lit≤ tt;
  bitmaps = lit≤ tt;
  set = lit≤ tt;
  conventional_data = lit< tt;
  room = lit≤ tt;
}

pub returns-clause-large : goal.returns-clause-large
returns-clause-large c = record {
  some_reserved = lit≤ tt;
  reserved_sequential = lit≤ tt;
  some_chunk = lit≤ tt;
  map = lit≤ tt;
  bitmaps = lit≤ tt;
  set = lit≤ tt;
  conventional_data = lit< tt;
  room = lit≤ tt;
}

pub returns-clause-most_reserved : goal.returns-clause-most_reserved
returns-clause-most_reserved c = record {
  some_reserved = lit≤ tt;
  reserved_sequential = lit≤ tt;
  some_chunk = lit≤ tt;
  map = lit≤ tt;
  bitmaps = lit≤ tt;
  set = lit≤ tt;
  conventional_data = lit< tt;
  room = lit≤ tt;
}

pub returns-clause-spare : goal.returns-clause-spare
returns-clause-spare c = record {
  some_reserved = lit≤ tt;
  reserved_sequential = lit≤ tt;
  some_chunk = lit≤ tt;
  map = lit≤ tt;
  bitmaps = lit≤ tt;
  set = lit≤ tt;
  conventional_data = lit< tt;
  room = lit≤ tt;
}

pub returns-clause-one_data_zone : goal.returns-clause-one_data_zone
returns-clause-one_data_zone c = record {
  some_reserved = lit≤ tt;
  reserved_sequential = lit≤ tt;
  some_chunk = lit≤ tt;
  map = lit≤ tt;
  bitmaps = lit≤ tt;
  set = lit≤ tt;
  conventional_data = lit< tt;
  room = lit≤ tt;
}

pub returns-clause-two_maps : goal.returns-clause-two_maps
returns-clause-two_maps c = record {
  some_reserved = lit≤ tt;
  reserved_sequential = lit≤ tt;
  some_chunk = lit≤ tt;
  map = lit≤ tt;
  bitmaps = lit≤ tt;
  set = lit≤ tt;
  conventional_data = lit< tt;
  room = lit≤ tt;
}
