-- The rows of the definition, as they are made from left to right.
use Rattle.std.specs.Prelude.{◌≡◌, ℕ, Bool, true, false, ◌==◌, List, ◌++◌, map}
use Rattle.std.specs.List.{join_with_byte}
use Rattle.zd_model.specs.Report.{Row, row_text, with_first}
use Rattle.zd_model.specs.Report.Row.{Zeros, Pattern, Other}
use Rattle.zd_report.specs.declared.rows.Kind.{Kind}
use Rattle.zd_report.specs.declared.rows.Kind.TheVariants as kinds
use Rattle.zd_report.specs.declared.rows.Row.{Row as Kept}

-- so many sectors of a kind; another sector is one by itself
abbrev pub row_with : Kind → ℕ → Row
row_with kinds.Zeros count = Zeros count
row_with (kinds.Pattern seed) count = Pattern seed count
row_with (kinds.Other sector) count = Other sector.now

-- a row of one kind has room for a sector of the next: both are zeros, or patterns of one seed
abbrev pub is_joined : Kind → Kind → Bool
is_joined kinds.Zeros kinds.Zeros = true
is_joined (kinds.Pattern seed) (kinds.Pattern other) = seed == other
is_joined kind next = false

-- a row as the definition has it
abbrev pub row_told : Kept → Row
row_told row = row_with row.kind row.count

-- rows joined by commas
abbrev pub rows_text : List Row → List ℕ
rows_text rows = join_with_byte 44 (map row_text rows)

-- two texts come to the same: one before a row, the next sector's row and any rows after them; the
-- other before their last row alone and the same rows after it
abbrev pub IsOwed : List ℕ → Row → Row → List ℕ → Row → Type 0
IsOwed before row next after last = (rest : List Row) →
    before ++ rows_text (with_first row (with_first next rest))
    ≡ after ++ rows_text (with_first last rest)
