-- A zone that is held is there.
use Rattle.std.proofs.Common.{◌≡◌, ℕ, ◌<◌, List, length, inl, inr, sym, ◌∙◌}
use Rattle.std.proofs.lemmas.Bool.{cases_lt}
use Rattle.std.proofs.lemmas.List.{get_or_past}
use Rattle.zd_alloc.specs.Zones.{use_at}
use Rattle.zd_alloc.specs.declared.uses.ZoneUse.{ZoneUse}
use Rattle.zd_alloc.specs.declared.uses.ZoneUse.TheVariants.{Held, Meta}

pub held_there : (uses : List ZoneUse) (z : ℕ) → use_at uses z ≡ Held → z < length uses
held_there uses z held = elim (cases_lt z (length uses)) [
  | inl low ↦ low
  | inr past ↦ absurd (let no : Meta ≡ Held = sym (get_or_past uses z Meta past) ∙ held in let f : ⊥ = cc in f)
]
