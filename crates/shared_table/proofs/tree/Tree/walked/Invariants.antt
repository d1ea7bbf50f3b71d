-- The strictest verdict so far counts for the filters that were met.
use Rattle.std.proofs.Common.{◌≡◌, ◌∷◌, []}
use Rattle.call_record.specs.Verdict.{strictest_of}
use Rattle.shared_table.specs.Tree.{way_below, way_from, ways_from}
use Rattle.shared_table.proofs.Ways.{height}
use Rattle.shared_table.proofs.Verdicts.{verdicts_on}
use Rattle.shared_table.proofs.tree.Tree.walked.Given as goal

abbrev pub invariant-down : goal.invariant-down
invariant-down l =
    strictest_of (l.word ∷ verdicts_on l.rec (way_below (ways_from [] l.self.nodes.items) l.next))
    ≡ strictest_of (verdicts_on l.rec (way_from l.self.nodes.items l.fn.place))

abbrev pub decreases-down : goal.decreases-down
decreases-down l = height l.next
