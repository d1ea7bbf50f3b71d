-- The table of groups: a row for each group that a review tells of, with a cell for each profile.
use Rattle.std.specs.Prelude.{List, [], ◌∷◌, ◌++◌, codes}
use Rattle.std.specs.List.{flat_map}
use Rattle.texts.specs.Lines.{space}
use Rattle.json_lines.specs.Lines.{Group, Text}
use Rattle.page.specs.Shown.{past, shown, up_to}

-- the parts of `group NAME: STATE; WHY`
abbrev pub name_of : Group → Text
name_of group = up_to 58 (past space group.0)

abbrev pub state_of : Group → Text
state_of group = up_to 59 (past space (past 58 group.0))

abbrev pub why_of : Group → Text
why_of group = past space (past 59 group.0)

-- a line below that
abbrev pub detail_text : Text → Text
detail_text detail = codes "<div>" ++ shown detail ++ codes "</div>"

-- a state, in its colour
abbrev pub state_text : Text → Text
state_text state = codes "<td class=\"" ++ shown state ++ codes "\"><b>" ++ shown state ++ codes "</b>"

-- what a profile leaves open of a group
abbrev pub cell : Group → Text
cell group = state_text (state_of group) ++ flat_map detail_text group.1 ++ codes "</td>"

-- a group, and what another profile leaves open of it
abbrev pub row : Group → Text → Text
row group other =
    codes "<tr><th>" ++ shown (name_of group) ++ codes "</th><td>" ++ shown (why_of group) ++ codes "</td>" ++ cell group ++ other
    ++ codes "</tr>\n"

-- each group, beside the one of the other profile at its place
abbrev pub rows : List Group → List Group → Text
rows [] others = []
rows (group ∷ groups) [] = row group [] ++ rows groups []
rows (group ∷ groups) (other ∷ others) = row group (cell other) ++ rows groups others
