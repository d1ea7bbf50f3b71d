-- Shapes of lines: fixed texts, and what stands between them under the name of a member.
use Rattle.std.specs.Prelude.{ℕ, ◌≡◌, Bool, if◌then◌else◌, List, [], ◌∷◌, ◌++◌, map, Option, Some, None, option_and_then, codes}
use Rattle.std.specs.Option.{option_map}
use Rattle.std.specs.Str.{is_utf8}
use Rattle.hex.specs.Hex.{encode_lower}
use Rattle.texts.specs.Lines.{space}
use Rattle.texts.specs.Splits.{behind, split_at}
use Rattle.json_lines.specs.Lines.{Text, lines_of, parts_by}

-- a member: its name, and its text
abbrev pub Member : Type 0
Member = Text × Text

-- A mark: the name of a member, and the fixed text that ends it. A member that no text ends goes to the end of the
-- line.
abbrev pub Mark : Type 0
Mark = Text × Text

-- a shape: the kind of its lines, the text that they begin with, and its marks
pub record Shape : Type 0 where
  pub kind : Text
  pub front : Text
  pub marks : List Mark

-- A shape is written as its kind, a blank and what its lines look like, with the names of members in braces. A shape of one word is of
-- lines that are this word.
abbrev pub open_brace : ℕ
open_brace = 123

abbrev pub close_brace : ℕ
close_brace = 125

abbrev pub parts_or : Text × Text → Option (Text × Text) → Text × Text
parts_or other (Some parts) = parts
parts_or other None = other

abbrev pub mark_in : Text → Mark
mark_in piece = parts_or (piece, []) (split_at close_brace piece)

abbrev pub shaped : Text → List Text → Shape
shaped kind [] = record { kind = kind; front = []; marks = [] }
shaped kind (front ∷ pieces) = record { kind = kind; front = front; marks = map mark_in pieces }

abbrev pub kind_in : Text → Text × Text
kind_in line = parts_or (line, line) (split_at space line)

abbrev pub shape_in : Text → Shape
shape_in line = shaped (kind_in line).0 (parts_by open_brace (kind_in line).1)

-- shapes, a line each
abbrev pub shapes_in : Text → List Shape
shapes_in text = map shape_in (lines_of text)

-- a text at the first place at which this one stands in it
abbrev pub cut : Option Text → ℕ → Option (Text × Text) → Option (Text × Text)
cut (Some rest) b later = Some ([], rest)
cut None b later = option_map (λ parts. (b ∷ parts.0, parts.1)) later

abbrev pub split_on : Text → Text → Option (Text × Text)
split_on mark [] = None
split_on mark (b ∷ text) = cut (behind mark (b ∷ text)) b (split_on mark text)

-- a text up to a mark, and what stands behind the mark
abbrev pub until : Text → Text → Option (Text × Text)
until [] text = Some (text, [])
until (c ∷ mark) text = split_on (c ∷ mark) text

-- the members of a text by marks: each is as short as it can be, and nothing stands behind the last mark
abbrev pub with_member : Text → Text → Option (List Member) → Option (List Member)
with_member name value members = option_map (λ ms. (name, value) ∷ ms) members

abbrev pub members_of : List Mark → Text → Option (List Member)
members_of [] [] = Some []
members_of [] (b ∷ rest) = None
members_of (mark ∷ marks) text =
    option_and_then (λ parts. with_member mark.0 parts.0 (members_of marks parts.1)) (until mark.1 text)

-- the members of a line of this shape
abbrev pub members_by : Shape → Text → Option (List Member)
members_by shape line = option_and_then (members_of shape.marks) (behind shape.front line)

-- what is told of a line: its kind, and its members
abbrev pub Row : Type 0
Row = Text × List Member

-- a line of no shape is told as it is
abbrev pub text_row : Text → Row
text_row line = (codes "text", (codes "text", line) ∷ [])

-- bytes that are no text are told by their hexadecimal digits
abbrev pub bytes_row : Text → Text → Row
bytes_row kind bytes = (kind, (codes "hex", encode_lower bytes) ∷ [])

abbrev pub row_or : Text → Option (List Member) → Row → Row
row_or kind (Some members) other = (kind, members)
row_or kind None other = other

-- what is told of a text by the first of these shapes that it has
abbrev pub text_row_of : List Shape → Text → Row
text_row_of [] line = text_row line
text_row_of (shape ∷ shapes) line = row_or shape.kind (members_by shape line) (text_row_of shapes line)

abbrev pub row_of : List Shape → Text → Row
row_of shapes line = if is_utf8 line then text_row_of shapes line else bytes_row (codes "bytes") line
