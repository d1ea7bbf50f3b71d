-- What `ccell manual` tells of the table of commands: a line for each, or the page of one.
use Rattle.std.specs.Prelude.{◌≡◌, ◌++◌, ◌-◌, ℕ, List, [], ◌∷◌, length, Option, Some, None, codes}
use Rattle.std.specs.List.{flat_map, repeat}
use Rattle.command_line.specs.Prose.{prose_text}
use Rattle.command_line.specs.Table.{Row, Text}

abbrev pub line_feed : ℕ
line_feed = 10

-- the line of a command in the list: its name, in ten columns, and what it is for
abbrev pub line_of : Row → Text
line_of row = row.name ++ repeat (10 - length row.name) (codes " ") ++ row.purpose ++ line_feed ∷ []

-- the list of commands: a line for each
abbrev pub list_of : List Row → Text
list_of rows = flat_map line_of rows

-- a text that ends with the prose of the command; none where there is no command
abbrev pub IsPage : Option Row → Option Text → Type 0
IsPage None None = Unit {0}
IsPage (Some row) (Some told) = (head : Text) × (told ≡ head ++ prose_text row.command)
IsPage called told = ⊥
