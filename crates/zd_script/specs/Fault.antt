-- Results that tell a bad line.
use Rattle.std.specs.Prelude.{ℕ, Result, Ok, Err, ⊤}
use Rattle.zd_model.specs.declared.texts.BadLine.{BadLine}
use Rattle.zd_script.specs.declared.fault.ScriptFault.{ScriptFault}
use Rattle.zd_script.specs.declared.fault.ScriptFault.TheVariants.{Bad, Source, Memory}

-- where bytes are no script, this holds of the line and of why
abbrev pub IfBad : {T : Type 0} → Result T ScriptFault → (ℕ → BadLine → Type 0) → Type 0
IfBad (Err (Bad line why)) P = P line why
IfBad (Err Source) P = ⊤
IfBad (Err Memory) P = ⊤
IfBad (Ok x) P = ⊤
