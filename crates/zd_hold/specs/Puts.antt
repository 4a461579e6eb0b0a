-- What a request puts into one sector.
use Rattle.std.specs.Prelude.{ℕ, ◌+◌, ◌||◌, nat_le, nat_lt, if◌then◌else◌, List, Option, None}
use Rattle.std.specs.Option.{option_map}
use Rattle.zd_model.specs.Plain.{ends_past, put_by}
use Rattle.zd_model.specs.Requests.{first_sector, sector_count}
use Rattle.zd_model.specs.declared.requests.What.{What}

-- what is put into sector i of a device of so many; none where nothing is, or where it ends past the device
abbrev pub put_at : ℕ → What → ℕ → Option (List ℕ)
put_at sectors what i =
    if ends_past sectors what || nat_lt i (first_sector what)
    || nat_le (first_sector what + sector_count what) i
    then None else option_map (λ put. put i) (put_by what)
