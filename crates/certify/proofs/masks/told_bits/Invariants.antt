use Rattle.std.proofs.Common.{length}
use Rattle.cert_form.specs.Nodes.{literals}
use Rattle.certify.proofs.masks.told_bits.Given as goal

abbrev pub decreases-loop-literal : goal.decreases-loop-literal
decreases-loop-literal l = length (literals l.known.entries.now l.at)
