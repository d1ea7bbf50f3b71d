use Rattle.std.proofs.Common.{◌↔◌, length}
use Rattle.std.specs.Prelude.{Contains}
use Rattle.cert_form.specs.Nodes.{literals}
use Rattle.certify.proofs.chain.Chain.states.Given as goal

abbrev pub invariant-loop-literal : goal.invariant-loop-literal
invariant-loop-literal l =
    Contains (literals l.self.entries.now l.self.number) l.wanted ↔ Contains (literals l.self.entries.now l.at) l.wanted

abbrev pub decreases-loop-literal : goal.decreases-loop-literal
decreases-loop-literal l = length (literals l.self.entries.now l.at)
