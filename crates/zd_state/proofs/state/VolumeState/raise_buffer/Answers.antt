use Rattle.std.proofs.Common.{ap, inl, arith}
use Rattle.zd_model.specs.declared.metadata.MapEntry.{MapEntry}
use Rattle.zd_state.proofs.PromotionSteps.{buffer_field, promotes_in_steps, rules_promoted, zone_low}
use Rattle.zd_state.specs.Seen.{KeptState}
use Rattle.zd_state.proofs.state.VolumeState.raise_buffer.Goals as goal

pub give_entry-requires-clause-zones : goal.give_entry-requires-clause-zones
give_entry-requires-clause-zones c =
    (buffer_field c.args.self.now.plain c.requires.fixed c.args.chunk c.args.zone c.args.buffer c.requires.bare, tt)

pub release-requires-clause-flag : goal.release-requires-clause-flag
release-requires-clause-flag c =
    let low = zone_low c.args.self.now.plain c.requires.fixed c.args.chunk c.args.zone c.args.buffer c.requires.bare in
    let size = c.requires.fixed.named.size in
    rw c.give_entry.ensures.rest (omega (arith, low, size))

pub release-requires-clause-inside : goal.release-requires-clause-inside
release-requires-clause-inside c =
    let low = zone_low c.args.self.now.plain c.requires.fixed c.args.chunk c.args.zone c.args.buffer c.requires.bare in
    let size = c.requires.fixed.uses.count in
    rw c.give_entry.ensures.rest (omega (arith, low, size))

pub release-requires-clause-held : goal.release-requires-clause-held
release-requires-clause-held c =
    rw c.give_entry.ensures.rest
    (c.requires.fixed.uses.named c.args.zone
    (c.args.chunk, inl (ap (λ (e : MapEntry). e.zone) c.requires.bare.entry)))

pub reclass-requires-clause-rules : goal.reclass-requires-clause-rules
reclass-requires-clause-rules c =
    rules_promoted c.args.self.now.plain c.requires.fixed c.args.chunk c.args.zone c.args.buffer c.requires.bare
    c.give_entry.new.self.plain (ap (λ (k : KeptState). k.plain) c.give_entry.ensures.rest) c.give_entry.ensures.sets
    c.give_entry.ensures.marks c.release.new.self.plain (ap (λ (k : KeptState). k.plain) c.release.ensures.rest)

pub returns-clause-promoted : goal.returns-clause-promoted
returns-clause-promoted c =
    promotes_in_steps c.args.self.now.plain c.requires.fixed c.args.chunk c.args.zone c.args.buffer c.requires.bare
    c.give_entry.new.self.plain (ap (λ (k : KeptState). k.plain) c.give_entry.ensures.rest) c.give_entry.ensures.sets
    c.give_entry.ensures.marks c.release.new.self.plain (ap (λ (k : KeptState). k.plain) c.release.ensures.rest)
    c.reclass.new.self.plain (ap (λ (k : KeptState). k.plain) c.reclass.ensures.rest) c.release.ensures.zones
    c.release.ensures.conv c.release.ensures.order c.reclass.ensures.gives
