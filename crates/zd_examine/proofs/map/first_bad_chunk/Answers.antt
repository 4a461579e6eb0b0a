use Rattle.std.proofs.Common.{◌≡◌, ◌+◌, ◌-◌, ◌<◌, ℕ, true, false, List, length, map, sym, ap, ◌∙◌, subst, inl, inr, arith}
use Rattle.std.specs.Prelude.{IsSome}
use Rattle.std.specs.List.{flat_map, range_with_len}
use Rattle.zd_disk.proofs.ToldLaws.{IfSome-each}
use Rattle.zd_model.specs.Faults.{bad_chunk, is_right_entry}
use Rattle.zd_model.specs.Tables.{zones_of}
use Rattle.zd_model.specs.declared.metadata.MapEntry.{MapEntry}
use Rattle.zd_examine.specs.Roles.{AreRoles, roles_with}
use Rattle.zd_tables.specs.Tables.{entry_in_blocks}
use Rattle.zd_examine.proofs.EntryLaws.{wrong_here, right_here, named_more}
use Rattle.zd_examine.proofs.RoleLaws.{beside_zone, in_disk, roles_more}
use Rattle.zd_examine.proofs.map.first_bad_chunk.Goals as goal

pub returns-then-not-is_right-clause-value : goal.returns-then-not-is_right-clause-value
returns-then-not-is_right-clause-value c =
    let g = c.args.geometry.now in
    let l = c.args.layout.now in
    let entry : ℕ → MapEntry = entry_in_blocks c.args.blocks.now in
    let k : ℕ = c.loop-chunk.chunk in
    let earlier : List ℕ = flat_map zones_of (map entry (range_with_len 0 k)) in
    let wrong : is_right_entry g l earlier (entry k) ≡ false =
    ap (is_right_entry g l earlier) (sym c.entry-entry.ensures) ∙ sym (c.is_right.ensures earlier c.loop-chunk.invariant.roles.named) ∙ c.if-not-is_right.true in
    sym (c.loop-chunk.invariant.rest ∙ wrong_here g l entry earlier k l.chunks c.loop-chunk-test.true wrong)

pub give_roles-requires-clause-zone : goal.give_roles-requires-clause-zone
give_roles-requires-clause-zone c =
    let entry : ℕ → MapEntry = entry_in_blocks c.args.blocks.now in
    let earlier : List ℕ = flat_map zones_of (map entry (range_with_len 0 c.loop-chunk.chunk)) in
    let named = c.loop-chunk.invariant.roles.named in
    let right = sym (c.is_right.ensures earlier named) ∙ c.if-not-is_right.false in
    IfSome-each _ _ (λ z is. (let low = in_disk c.args.geometry.now c.args.layout.now earlier c.entry-entry.result z right (inl is) in let count = named.count in omega arith))

pub give_roles-requires-clause-buffer : goal.give_roles-requires-clause-buffer
give_roles-requires-clause-buffer c =
    let entry : ℕ → MapEntry = entry_in_blocks c.args.blocks.now in
    let earlier : List ℕ = flat_map zones_of (map entry (range_with_len 0 c.loop-chunk.chunk)) in
    let named = c.loop-chunk.invariant.roles.named in
    let right = sym (c.is_right.ensures earlier named) ∙ c.if-not-is_right.false in
    IfSome-each c.entry-entry.result.buffer (λ b. (b < length c.loop-chunk.roles) × IsSome c.entry-entry.result.zone) (λ b is. (
      (let low = in_disk c.args.geometry.now c.args.layout.now earlier c.entry-entry.result b right (inr is) in let count = named.count in omega arith),
      beside_zone c.args.geometry.now c.args.layout.now earlier c.entry-entry.result b right is,
    ))

pub loop-chunk-preserved : goal.loop-chunk-preserved
loop-chunk-preserved c =
    let g = c.args.geometry.now in
    let l = c.args.layout.now in
    let entry : ℕ → MapEntry = entry_in_blocks c.args.blocks.now in
    let k : ℕ = c.loop-chunk.chunk in
    let earlier : List ℕ = flat_map zones_of (map entry (range_with_len 0 k)) in
    let right : is_right_entry g l earlier (entry k) ≡ true =
    ap (is_right_entry g l earlier) (sym c.entry-entry.ensures) ∙ sym (c.is_right.ensures earlier c.loop-chunk.invariant.roles.named) ∙ c.if-not-is_right.false in
    record {
      roles = subst (AreRoles g entry (k + 1)) (sym (c.give_roles.ensures ∙ ap (λ (e : MapEntry). roles_with e.zone e.buffer c.loop-chunk.roles) c.entry-entry.ensures)) (roles_more g l entry k c.loop-chunk.roles c.loop-chunk.invariant.roles right);
      rest = c.loop-chunk.invariant.rest ∙ right_here g l entry earlier k l.chunks c.loop-chunk-test.true right
          ∙ ap (λ (zs : List ℕ). bad_chunk g l zs (k + 1) (map entry (range_with_len (k + 1) (l.chunks - (k + 1))))) (sym (named_more entry k));
    }
