-- The table of the kinds of lines that each command writes.
use Rattle.std.specs.Prelude.{ℕ, List, [], map, find, Option, Some, None}
use Rattle.std.specs.Str.{bytes_eq}
use denote.Ref.{Bor}
use Rattle.json_lines.specs.Lines.{Text}
use Rattle.json_lines.specs.Shapes.{Shape, shapes_in}
use Rattle.json_lines.specs.declared.table.TheConstants.{TABLE}

-- a command's name, the shapes of its lines, and those of its details
abbrev pub Entry : Type 0
Entry = Text × Text × Text

abbrev pub entry_of : Bor Text × Bor Text × Bor Text → Entry
entry_of entry = (entry.0.now, entry.1.now, entry.2.now)

unfoldable pub table : List Entry
table = map (λ entry. (entry.0.now, entry.1.now, entry.2.now)) TABLE.now

abbrev pub Kinds : Type 0
Kinds = List Shape × List Shape

abbrev pub texts_in : Option Entry → Text × Text
texts_in (Some entry) = (entry.1, entry.2)
texts_in None = ([], [])

abbrev pub texts_of : List Entry → Text → Text × Text
texts_of entries name = texts_in (find (λ (entry : Entry). bytes_eq entry.0 name) entries)

abbrev pub shapes_of : Text × Text → Kinds
shapes_of texts = (shapes_in texts.0, shapes_in texts.1)

-- the shapes of the command of that name
abbrev pub kinds_of : Text → Kinds
kinds_of name = shapes_of (texts_of table name)
