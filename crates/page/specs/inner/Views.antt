-- What the code's values stand for.
use Rattle.std.specs.Prelude.{List, [], map, Option, Some, None}
use Rattle.json_lines.specs.Lines as lines
use Rattle.json_lines.specs.inner.Tokens.{said}
use Rattle.json_lines.specs.inner.Views.{texts}
use Rattle.page.specs.Table.{cell}
use Rattle.page.specs.declared.groups.Group.{Group}

-- a group, without where its lines lie in memory
abbrev pub group : Group → lines.Group
group g = (g.head.now, map said (texts g.details.now))

abbrev pub groups : List Group → List lines.Group
groups = map group

-- the cell of a group that may be there
abbrev pub other_cell : Option lines.Group → lines.Text
other_cell (Some g) = cell g
other_cell None = []
