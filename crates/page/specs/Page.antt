-- The page of a review: one text of HTML, without scripts, and with nothing from elsewhere.
use Rattle.std.specs.Prelude.{Bool, List, [], ◌++◌, codes}
use Rattle.std.specs.List.{flat_map}
use Rattle.json_lines.specs.Lines.{Group, Text, groups_of, lines_of}
use Rattle.page.specs.Graph.{graph_text}
use Rattle.page.specs.Shown.{shown}
use Rattle.page.specs.Table.{rows}
use Rattle.page.specs.declared.front.TheConstants.{FRONT}
use Rattle.page.specs.declared.side.Side.{Side as Lent}

-- What is told of a profile. This is the name of its file, what `review` tells of it, and what `draw` tells of its filter, or why it
-- has none.
pub record Side : Type 0 where
  pub name : Text
  pub review : Text
  pub graph : Text
  pub is_drawn : Bool

-- the same, without where the texts lie in memory
abbrev pub read : Lent → Side
read side = record { name = side.name.now; review = side.review.now; graph = side.graph.now; is_drawn = side.is_drawn }

-- the table: a column for one profile, or for two
abbrev pub groups_told : Text → List Group
groups_told review = groups_of (lines_of review)

abbrev pub head_text : Side → Text
head_text side = codes "<th>" ++ shown side.name ++ codes "</th>"

abbrev pub table_text : Text → Text
table_text heads_and_rows = codes "<table>\n<tr><th>group</th><th>why</th>" ++ heads_and_rows ++ codes "</table>\n"

abbrev pub table_of_one : Side → Text
table_of_one side = table_text (head_text side ++ codes "</tr>\n" ++ rows (groups_told side.review) [])

abbrev pub table_of_two : Side → Side → Text
table_of_two old new =
    table_text (head_text old ++ head_text new ++ codes "</tr>\n" ++ rows (groups_told old.review) (groups_told new.review))

-- the lines of what `compare` tells
abbrev pub change_text : Text → Text
change_text line = codes "<li>" ++ shown line ++ codes "</li>\n"

abbrev pub changes_text : Text → Text
changes_text compared =
    codes "<h2>What differs</h2>\n<ul>\n" ++ flat_map change_text (lines_of compared) ++ codes "</ul>\n"

-- the filter of a profile
abbrev pub filter_text : Text → Side → Text
filter_text mark side =
    codes "<h2>The filter of " ++ shown side.name ++ codes "</h2>\n" ++ graph_text mark side.is_drawn side.graph

-- the page of one profile, and of two with what `compare` tells of them
abbrev pub back : Text
back = codes "</body>\n</html>\n"

abbrev pub page_of_one : Side → Text
page_of_one side = FRONT.now ++ table_of_one side ++ filter_text (codes "a") side ++ back

abbrev pub page_of_two : Side → Side → Text → Text
page_of_two old new compared =
    FRONT.now ++ table_of_two old new ++ changes_text compared ++ filter_text (codes "a") old ++ filter_text (codes "b") new ++ back
