use Rattle.std.proofs.Common.{ap}
use Rattle.zd_state.specs.Seen.{KeptState}
use Rattle.zd_state.proofs.RemapBits.{target_apart, target_field}
use Rattle.zd_state.proofs.RemapSteps.{left_flag, left_in_use, left_inside, left_still, left_there, remaps_in_steps}
use Rattle.zd_state.proofs.RemapSteps.{rules_in_steps, target_there}
use Rattle.zd_state.proofs.state.VolumeState.end_job.Goals as goal

pub give_entry-requires-clause-zones : goal.give_entry-requires-clause-zones
give_entry-requires-clause-zones c = (
  target_field c.args.self.now.plain c.args.work.now c.requires.fixed c.requires.job c.zone_left-zone.result
      c.zone_left-zone.ensures,
  tt,
)

pub join_into-requires-clause-from : goal.join_into-requires-clause-from
join_into-requires-clause-from c =
    left_there c.args.self.now.plain c.args.work.now c.requires.fixed c.requires.job c.zone_left-zone.result
    c.zone_left-zone.ensures
    c.give_entry.new.self.plain (ap (λ (k : KeptState). k.plain) c.give_entry.ensures.rest) c.give_entry.ensures.sets
    c.give_entry.ensures.marks

pub join_into-requires-clause-to : goal.join_into-requires-clause-to
join_into-requires-clause-to c =
    target_there c.args.self.now.plain c.args.work.now c.requires.fixed c.requires.job c.zone_left-zone.result
    c.zone_left-zone.ensures
    c.give_entry.new.self.plain (ap (λ (k : KeptState). k.plain) c.give_entry.ensures.rest) c.give_entry.ensures.sets
    c.give_entry.ensures.marks

pub join_into-requires-clause-apart : goal.join_into-requires-clause-apart
join_into-requires-clause-apart c =
    target_apart c.args.self.now.plain c.args.work.now c.requires.fixed c.requires.job c.zone_left-zone.result
    c.zone_left-zone.ensures

pub give_blocks-requires-clause-zone : goal.give_blocks-requires-clause-zone
give_blocks-requires-clause-zone c =
    left_still c.args.self.now.plain c.args.work.now c.requires.fixed c.requires.job c.zone_left-zone.result
    c.zone_left-zone.ensures
    c.give_entry.new.self.plain (ap (λ (k : KeptState). k.plain) c.give_entry.ensures.rest) c.give_entry.ensures.sets
    c.give_entry.ensures.marks
    c.join_into.new.self.plain (ap (λ (k : KeptState). k.plain) c.join_into.ensures.rest) c.join_into.ensures.joins

pub release-requires-clause-flag : goal.release-requires-clause-flag
release-requires-clause-flag c =
    left_flag c.args.self.now.plain c.args.work.now c.requires.fixed c.requires.job c.zone_left-zone.result
    c.zone_left-zone.ensures
    c.give_entry.new.self.plain (ap (λ (k : KeptState). k.plain) c.give_entry.ensures.rest) c.give_entry.ensures.sets
    c.give_entry.ensures.marks
    c.join_into.new.self.plain (ap (λ (k : KeptState). k.plain) c.join_into.ensures.rest) c.join_into.ensures.joins
    c.zone_blocks-blocks.result (rw c.geometry.ensures at c.zone_blocks-blocks.ensures.value)
    c.give_blocks.new.self.plain
    (ap (λ (k : KeptState). k.plain) c.give_blocks.ensures.rest) c.give_blocks.ensures.gives

pub release-requires-clause-inside : goal.release-requires-clause-inside
release-requires-clause-inside c =
    left_inside c.args.self.now.plain c.args.work.now c.requires.fixed c.requires.job c.zone_left-zone.result
    c.zone_left-zone.ensures
    c.give_entry.new.self.plain (ap (λ (k : KeptState). k.plain) c.give_entry.ensures.rest) c.give_entry.ensures.sets
    c.give_entry.ensures.marks
    c.join_into.new.self.plain (ap (λ (k : KeptState). k.plain) c.join_into.ensures.rest) c.join_into.ensures.joins
    c.zone_blocks-blocks.result (rw c.geometry.ensures at c.zone_blocks-blocks.ensures.value)
    c.give_blocks.new.self.plain
    (ap (λ (k : KeptState). k.plain) c.give_blocks.ensures.rest) c.give_blocks.ensures.gives

pub release-requires-clause-held : goal.release-requires-clause-held
release-requires-clause-held c =
    left_in_use c.args.self.now.plain c.args.work.now c.requires.fixed c.requires.job c.zone_left-zone.result
    c.zone_left-zone.ensures
    c.give_entry.new.self.plain (ap (λ (k : KeptState). k.plain) c.give_entry.ensures.rest) c.give_entry.ensures.sets
    c.give_entry.ensures.marks
    c.join_into.new.self.plain (ap (λ (k : KeptState). k.plain) c.join_into.ensures.rest) c.join_into.ensures.joins
    c.zone_blocks-blocks.result (rw c.geometry.ensures at c.zone_blocks-blocks.ensures.value)
    c.give_blocks.new.self.plain
    (ap (λ (k : KeptState). k.plain) c.give_blocks.ensures.rest) c.give_blocks.ensures.gives

pub reclass-requires-clause-rules : goal.reclass-requires-clause-rules
reclass-requires-clause-rules c =
    rules_in_steps c.args.self.now.plain c.args.work.now c.requires.fixed c.requires.job c.zone_left-zone.result
    c.zone_left-zone.ensures
    c.give_entry.new.self.plain (ap (λ (k : KeptState). k.plain) c.give_entry.ensures.rest) c.give_entry.ensures.sets
    c.give_entry.ensures.marks
    c.join_into.new.self.plain (ap (λ (k : KeptState). k.plain) c.join_into.ensures.rest) c.join_into.ensures.joins
    c.zone_blocks-blocks.result (rw c.geometry.ensures at c.zone_blocks-blocks.ensures.value)
    c.give_blocks.new.self.plain
    (ap (λ (k : KeptState). k.plain) c.give_blocks.ensures.rest) c.give_blocks.ensures.gives
    c.release.new.self.plain (ap (λ (k : KeptState). k.plain) c.release.ensures.rest) c.drop_job.new.self.plain
    (ap (λ (k : KeptState). k.plain) c.drop_job.ensures)

pub returns-clause-remapped : goal.returns-clause-remapped
returns-clause-remapped c =
    remaps_in_steps c.args.self.now.plain c.args.work.now c.requires.fixed c.requires.job c.zone_left-zone.result
    c.zone_left-zone.ensures
    c.give_entry.new.self.plain (ap (λ (k : KeptState). k.plain) c.give_entry.ensures.rest) c.give_entry.ensures.sets
    c.give_entry.ensures.marks
    c.join_into.new.self.plain (ap (λ (k : KeptState). k.plain) c.join_into.ensures.rest) c.join_into.ensures.joins
    c.zone_blocks-blocks.result (rw c.geometry.ensures at c.zone_blocks-blocks.ensures.value)
    c.give_blocks.new.self.plain
    (ap (λ (k : KeptState). k.plain) c.give_blocks.ensures.rest) c.give_blocks.ensures.gives
    c.release.new.self.plain (ap (λ (k : KeptState). k.plain) c.release.ensures.rest) c.drop_job.new.self.plain
    (ap (λ (k : KeptState). k.plain) c.drop_job.ensures)
    c.reclass.new.self.plain (ap (λ (k : KeptState). k.plain) c.reclass.ensures.rest) c.release.ensures.zones
    c.release.ensures.conv c.release.ensures.order c.reclass.ensures.gives
