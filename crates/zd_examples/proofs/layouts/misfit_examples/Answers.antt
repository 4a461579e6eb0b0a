use Rattle.std.proofs.Common.{◌<◌, ◌≤◌, arith}
use Rattle.zd_examples.proofs.layouts.misfit_examples.Goals as goal

pub returns-clause-no_reserved : goal.returns-clause-no_reserved
returns-clause-no_reserved c h = let wrong : 1 ≤ 0 = h.some_reserved in omega arith

pub returns-clause-reserved : goal.returns-clause-reserved
returns-clause-reserved c h = let wrong : 7 ≤ 6 = h.reserved_sequential in omega arith

pub returns-clause-no_chunk : goal.returns-clause-no_chunk
returns-clause-no_chunk c h = let wrong : 1 ≤ 0 = h.some_chunk in omega arith

pub returns-clause-chunks : goal.returns-clause-chunks
returns-clause-chunks c h = let wrong : 13 ≤ 12 = h.room in omega arith

pub returns-clause-no_map : goal.returns-clause-no_map
returns-clause-no_map c h = let wrong : 8 ≤ 0 = h.map in omega arith

pub returns-clause-one_map : goal.returns-clause-one_map
returns-clause-one_map c h = let wrong : 513 ≤ 512 = h.map in omega arith

pub returns-clause-bitmaps : goal.returns-clause-bitmaps
returns-clause-bitmaps c h = let wrong : 12 ≤ 11 = h.bitmaps in omega arith

pub returns-clause-few_bitmaps : goal.returns-clause-few_bitmaps
returns-clause-few_bitmaps c h = let wrong : 104312 ≤ 52156 = h.bitmaps in omega arith

pub returns-clause-meta : goal.returns-clause-meta
returns-clause-meta c h = let wrong : 14 ≤ 13 = h.set in omega arith

pub returns-clause-no_data_zone : goal.returns-clause-no_data_zone
returns-clause-no_data_zone c h = let wrong : 2 < 2 = h.conventional_data in omega arith
