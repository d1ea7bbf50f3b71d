-- What the tree has under a place.
use Rattle.std.specs.Prelude.{ℕ, ◌-◌, List, length}
use Rattle.processes.specs.Tasks.{Filter}
use Rattle.shared_table.specs.declared.tree.Place.{Place}
use Rattle.shared_table.specs.declared.tree.Tree.{Tree}
use Rattle.shared_table.specs.Tree.{Way, filters_on, way_from}

abbrev pub way_of : Tree → Place → Way
way_of tree place = way_from tree.nodes.items place.at

-- a task's filters are those on the way down from its place
abbrev pub filters_of : Tree → Place → List Filter
filters_of tree place = filters_on (way_of tree place)

-- how many filters stand after the first
abbrev pub loads_of : Tree → ℕ
loads_of tree = length tree.nodes.items - 1
