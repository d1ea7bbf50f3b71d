-- The tokens of parts of an object.
use Rattle.std.specs.Prelude.{ℕ, Bool, List, [], ◌∷◌, ◌++◌, map, drop, is_some, codes}
use Rattle.std.specs.List.{flat_map, prefix_len}
use Rattle.json.specs.Token.{Token, key, string, begin_array, end_array}
use Rattle.json.specs.Tree.{json_tokens}
use Rattle.json_lines.specs.Kinds.{Kinds}
use Rattle.json_lines.specs.Lines.{Text, detail_in, groups_of}
use Rattle.json_lines.specs.Shapes.{Member, Row, Shape}
use Rattle.json_lines.specs.Objects.{detail_object, group_object, object_lines}

abbrev pub member_tokens : Member → List Token
member_tokens m = key m.0 ∷ string m.1 ∷ []

abbrev pub row_tokens : Row → List Token
row_tokens row = key (codes "kind") ∷ string row.0 ∷ flat_map member_tokens row.1

abbrev pub each_tokens : List Shape → List Text → List Token
each_tokens shapes lines = flat_map (λ line. json_tokens (detail_object shapes line)) lines

abbrev pub details_tokens : List Shape → List Text → List Token
details_tokens shapes [] = []
details_tokens shapes (line ∷ lines) = key (codes "details") ∷ begin_array ∷ (each_tokens shapes (line ∷ lines) ++ end_array ∷ [])

-- how many details lines begin with, and what they say
abbrev pub is_detail : Text → Bool
is_detail line = is_some (detail_in line)

abbrev pub count : List Text → ℕ
count lines = prefix_len is_detail lines

abbrev pub said : Text → Text
said line = drop 2 line

-- the objects of lines, as text
abbrev pub objects_in : Kinds → List Text → Text
objects_in kinds lines = object_lines (map (group_object kinds) (groups_of lines))
