-- The objects that are written of an answer (RFC 8259), one a line.
use Rattle.std.specs.Prelude.{ℕ, List, [], ◌∷◌, ◌++◌, map, codes}
use Rattle.std.specs.Fmt.{decimal}
use Rattle.std.specs.List.{flat_map}
use Rattle.json.specs.Json.{Json, number, string, array, object, Members, no_members, member}
use Rattle.json.specs.Print.{print}
use Rattle.json.specs.Tree.{json_tokens}
use Rattle.json.specs.Value.{items_of}
use Rattle.texts.specs.Lines.{line_feed}
use Rattle.json_lines.specs.Kinds.{Kinds}
use Rattle.json_lines.specs.Lines.{Group, Text, groups_of, lines_of}
use Rattle.json_lines.specs.Shapes.{Member, Row, Shape, bytes_row, row_of}

-- members whose values are texts, in front of others
abbrev pub members_then : List Member → Members → Members
members_then [] others = others
members_then (m ∷ ms) others = member m.0 (string m.1) (members_then ms others)

-- the kind and the members of what is told of a line
abbrev pub row_then : Row → Members → Members
row_then row others = member (codes "kind") (string row.0) (members_then row.1 others)

-- the object of a detail
abbrev pub detail_object : List Shape → Text → Json
detail_object shapes line = object (row_then (row_of shapes line) no_members)

-- details are the last member, if there are any
abbrev pub details : List Shape → List Text → Members
details shapes [] = no_members
details shapes (line ∷ lines) = member (codes "details") (array (items_of (map (detail_object shapes) (line ∷ lines)))) no_members

-- the object of a line with its details
abbrev pub group_object : Kinds → Group → Json
group_object kinds group = object (row_then (row_of kinds.0 group.0) (details kinds.1 group.1))

-- the last object: how the command ended
abbrev pub status_object : ℕ → Json
status_object status =
    object (member (codes "kind") (string (codes "status")) (member (codes "status") (number (decimal status)) no_members))

-- the object of a certificate
abbrev pub certificate_object : Text → Json
certificate_object bytes = object (row_then (bytes_row (codes "certificate") bytes) no_members)

-- objects as text, each on a line of its own
abbrev pub object_line : Json → Text
object_line j = print (json_tokens j) ++ line_feed ∷ []

abbrev pub object_lines : List Json → Text
object_lines = flat_map object_line

-- the objects of an answer in lines
abbrev pub objects_of : Kinds → Text → List Json
objects_of kinds text = map (group_object kinds) (groups_of (lines_of text))

-- what is written of an answer and the status behind it
abbrev pub told_lines : Kinds → Text → ℕ → Text
told_lines kinds text status = object_lines (objects_of kinds text) ++ object_line (status_object status)

abbrev pub told_certificate : Text → ℕ → Text
told_certificate bytes status = object_line (certificate_object bytes) ++ object_line (status_object status)
