-- Nothing is lost: from what is told of a line it can be written again.
use Rattle.std.specs.Prelude.{ℕ, ◌≡◌, ◌≢◌, ◌⊎◌, false, List, [], ◌∷◌, ◌++◌, map, codes, Any, Result, Ok}
use Rattle.std.specs.Str.{is_utf8}
use Rattle.hex.specs.Hex.{decode_of}
use Rattle.std.specs.List.{AllByRecursion}
use Rattle.texts.specs.Lines.{line_feed}
use Rattle.json_lines.specs.Lines.{Text}
use Rattle.json_lines.specs.Shapes.{Mark, Member, Row, Shape, text_row}

-- the texts of members, each with the fixed text of its mark behind it
abbrev pub filled : List Mark → List Member → Text
filled [] members = []
filled (mark ∷ marks) [] = []
filled (mark ∷ marks) (m ∷ ms) = m.1 ++ (mark.1 ++ filled marks ms)

-- the row names the members of a shape, and the shape filled with them is the line
pub record IsOfShape (line : Text) (row : Row) (shape : Shape) : Type 0 where
  pub kind : row.0 ≡ shape.kind
  pub names : map (λ (m : Member). m.0) row.1 ≡ map (λ (m : Mark). m.0) shape.marks
  pub again : line ≡ shape.front ++ filled shape.marks row.1

-- the row has the line's bytes in hexadecimal digits
pub record IsOfBytes (line : Text) (row : Row) : Type 0 where
  pub no_text : is_utf8 line ≡ false
  pub digits : Text
  pub is : row ≡ (codes "bytes", (codes "hex", digits) ∷ [])
  pub again : decode_of digits ≡ Ok line

-- what is told of a line: one of the shapes and what fills it, the line itself, or its bytes
abbrev pub TellsOf : List Shape → Text → Row → Type 0
TellsOf shapes line row = Any (IsOfShape line row) shapes ⊎ ((row ≡ text_row line) ⊎ IsOfBytes line row)

-- the text is one line
abbrev pub IsOneLine : Text → Type 0
IsOneLine text = AllByRecursion (λ b. b ≢ line_feed) text
