use Rattle.std.proofs.Common.{◌≡◌}
use Rattle.cert_form.specs.Nodes.{on_chain}
use Rattle.cert_form.specs.Reading.{entries_of}
use Rattle.cert_form.proofs.chain.next_sought.Given as goal

abbrev pub invariant-loop-claim : goal.invariant-loop-claim
invariant-loop-claim g l =
    g.T.Sought.among (on_chain (entries_of l.bytes) l.entry) ≡ g.T.Sought.among (on_chain (entries_of l.bytes) l.at)

abbrev pub decreases-loop-claim : goal.decreases-loop-claim
decreases-loop-claim g l = l.entry
