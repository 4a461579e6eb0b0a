-- Outcomes whose line is fixed.
use Rattle.zd_model.specs.declared.texts.NoVolume.TheVariants.{BadMap, BadBits}
use Rattle.zd_model.specs.declared.texts.Outcome.{Outcome}
use Rattle.zd_model.specs.declared.texts.Outcome.TheVariants.{BadScript, NoVolume}

-- the outcome's line tells no number, so no memory is needed for it
abbrev pub IsFixedLine : Outcome → Type 0
IsFixedLine (BadScript line why) = ⊥
IsFixedLine (NoVolume (BadMap chunk)) = ⊥
IsFixedLine (NoVolume (BadBits zone block)) = ⊥
IsFixedLine outcome = Unit {0}
