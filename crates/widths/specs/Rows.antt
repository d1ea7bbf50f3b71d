-- Rows, each of the name of a call and of how its six arguments are read.
use Rattle.std.specs.Prelude.{ℕ, List, [], ◌∷◌, map, Option, Some, None, is_some, if◌then◌else◌}
use Rattle.std.specs.Str.{bytes_eq}
use denote.Ref.{Bor}
use Rattle.widths.specs.declared.arguments.reading.Reading.{Reading}

abbrev pub Rows : Type 0
Rows = List (List ℕ × List Reading)

-- the rows without where their names lie in memory
abbrev pub rows : List (Bor (List ℕ) × List Reading) → Rows
rows = map (λ e. (e.0.now, e.1))

-- what stands beside the first such name
abbrev pub readings_in : Rows → List ℕ → Option (List Reading)
readings_in [] name = None
readings_in (e ∷ es) name = if bytes_eq e.0 name then Some e.1 else readings_in es name

-- the same in the first table that has the name
abbrev pub readings_among : List Rows → List ℕ → Option (List Reading)
readings_among [] name = None
readings_among (t ∷ ts) name = if is_some (readings_in t name) then readings_in t name else readings_among ts name
