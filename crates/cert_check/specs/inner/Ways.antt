-- The edges of a node as the code holds them.
use Rattle.std.specs.Prelude.{List, [], ◌∷◌}
use Rattle.cert_check.specs.declared.edges.Way.{Way}
use Rattle.cert_check.specs.declared.edges.Ways.{Ways}
use Rattle.cert_check.specs.declared.edges.Ways.TheVariants.{Nowhere, One, Two}
use Rattle.cert_check.specs.Rules.{Edge}

abbrev pub edge_of : Way → Edge
edge_of way = record { to = way.to; pc = way.pc; fact = way.fact; regs = way.regs }

abbrev pub edge_list : Ways → List Edge
edge_list Nowhere = []
edge_list (One way) = edge_of way ∷ []
edge_list (Two first second) = edge_of first ∷ edge_of second ∷ []
