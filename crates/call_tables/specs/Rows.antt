-- A table of rows, each of a name and of its numbers on several machines, and the table of each machine.
use Rattle.std.specs.Prelude.{◌==◌, ℕ, List, [], ◌∷◌, map, Option, Some, None, option_map, slice_index, if◌then◌else◌}
use Rattle.std.specs.List.{filter_map}
use Rattle.std.specs.Str.{bytes_eq}
use denote.Ref.{Bor}
use Rattle.call_tables.specs.Table.{Table}

abbrev pub Rows : Type 0
Rows = List (List ℕ × List ℕ)

-- the rows without where their names lie in memory
abbrev pub rows : List (Bor (List ℕ) × List ℕ) → Rows
rows = map (λ e. (e.0.now, e.1))

-- the numbers beside the first such name
abbrev pub row_in : Rows → List ℕ → Option (List ℕ)
row_in [] name = None
row_in (e ∷ es) name = if bytes_eq e.0 name then Some e.1 else row_in es name

-- stands where a machine has no call of the name
abbrev pub no_call : ℕ
no_call = 0xffffffff

-- the number in a column of a row, if there is one
abbrev pub number_at : ℕ → List ℕ → Option ℕ
number_at column numbers = if slice_index numbers column == no_call then None else Some (slice_index numbers column)

abbrev pub entry_at : ℕ → List ℕ × List ℕ → Option (List ℕ × ℕ)
entry_at column row = option_map (λ nr. (row.0, nr)) (number_at column row.1)

-- the table of a machine, by its column
abbrev pub column_of : ℕ → Rows → Table
column_of column = filter_map (entry_at column)
