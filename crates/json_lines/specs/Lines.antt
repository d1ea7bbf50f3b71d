-- The lines of an answer, and which of them belong together.
use Rattle.std.specs.Prelude.{ℕ, ◌==◌, if◌then◌else◌, List, [], ◌∷◌, ◌++◌, map, Option, Some, None, codes}
use Rattle.std.specs.List.{flat_map}
use Rattle.texts.specs.Lines.{line_feed}
use Rattle.texts.specs.Splits.{behind}

abbrev pub Text : Type 0
Text = List ℕ

-- a byte in front of the first of these parts
abbrev pub in_front : ℕ → List Text → List Text
in_front b [] = (b ∷ []) ∷ []
in_front b (part ∷ parts) = (b ∷ part) ∷ parts

-- the parts of a text, each without the byte that ends it; nothing may end the last one
abbrev pub parts_by : ℕ → Text → List Text
parts_by end [] = []
parts_by end (b ∷ text) = if b == end then [] ∷ parts_by end text else in_front b (parts_by end text)

-- the lines of a text
abbrev pub lines_of : Text → List Text
lines_of text = parts_by line_feed text

-- A line that begins with two blanks is a detail of the line above it: what it says stands behind them.
abbrev pub blanks : Text
blanks = codes "  "

abbrev pub detail_in : Text → Option Text
detail_in line = behind blanks line

-- a line, and what the details say that stand right behind it
abbrev pub Group : Type 0
Group = Text × List Text

-- a line in front of others, of which the first are details
abbrev pub before : Option Text → Text → List Text × List Group → List Text × List Group
before (Some detail) line others = (detail ∷ others.0, others.1)
before None line others = ([], (line, others.0) ∷ others.1)

-- the details with which lines begin, and the groups behind these
abbrev pub parted : List Text → List Text × List Group
parted [] = ([], [])
parted (line ∷ lines) = before (detail_in line) line (parted lines)

-- the groups of an answer; its first line begins one, whatever it begins with
abbrev pub groups_of : List Text → List Group
groups_of [] = []
groups_of (line ∷ lines) = (line, (parted lines).0) ∷ (parted lines).1

-- the lines that a group stands for, and those of several
abbrev pub lines_in : Group → List Text
lines_in group = group.0 ∷ map (λ detail. blanks ++ detail) group.1

abbrev pub all_lines : List Group → List Text
all_lines = flat_map lines_in

-- lines, each with a line feed behind it
abbrev pub ended : List Text → Text
ended = flat_map (λ line. line ++ line_feed ∷ [])
