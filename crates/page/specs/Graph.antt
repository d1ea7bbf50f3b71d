-- The graph of a filter: a box for each node that `draw` tells, and below it a link for each edge.
use Rattle.std.specs.Prelude.{if◌then◌else◌, Bool, true, false, [], ◌++◌, codes, drop}
use Rattle.std.specs.List.{flat_map}
use Rattle.texts.specs.Lines.{space}
use Rattle.json_lines.specs.Lines.{Text, lines_of, parts_by}
use Rattle.page.specs.Shown.{has, past, shown, up_to}

-- the number of the first node that a line names
abbrev pub number_in : Text → Text
number_in line = up_to space (past 110 line)

-- ---- the line of a node, `  nNUMBER [label="..\l..\l", fillcolor=COLOUR];`

-- an instruction stands behind one byte, the quote or the `l` of `\l`
abbrev pub instruction_text : Text → Text
instruction_text part = codes "\n" ++ shown (up_to 34 (drop 1 part))

abbrev pub instructions_text : Text → Text
instructions_text line = flat_map instruction_text (parts_by 92 (past 61 line))

abbrev pub colour_in : Text → Text
colour_in line = up_to 93 (past 61 (past 34 (past 34 line)))

-- The box of a node, which the mark and its number name.
abbrev pub node_text : Text → Text → Text
node_text mark line =
    codes "<pre id=\"" ++ mark ++ shown (number_in line) ++ codes "\" style=\"background:" ++ shown (colour_in line)
    ++ codes "\">" ++ instructions_text line ++ codes "</pre>\n"

-- ---- the line of an edge, `  nNUMBER -> nNUMBER [label=WHEN];`

abbrev pub target_in : Text → Text
target_in line = number_in (past 62 line)

abbrev pub edge_text : Text → Text → Text
edge_text mark line =
    codes "<p>" ++ shown (up_to 93 (past 61 line)) ++ codes ": <a href=\"#" ++ mark ++ shown (target_in line)
    ++ codes "\">" ++ shown (target_in line) ++ codes "</a></p>\n"

-- ---- the lines

-- a node has a quote, and an edge an arrow; the other lines are not shown
abbrev pub line_text : Text → Text → Text
line_text mark line = if has 34 line then node_text mark line else if has 62 line then edge_text mark line else []

-- the graph; or why there is none
abbrev pub graph_text : Text → Bool → Text → Text
graph_text mark true text = flat_map (line_text mark) (lines_of text)
graph_text mark false text = codes "<pre>" ++ shown text ++ codes "</pre>\n"
