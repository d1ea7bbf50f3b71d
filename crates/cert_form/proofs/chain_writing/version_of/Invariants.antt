use Rattle.std.proofs.Common.{◌≡◌, drop}
use Rattle.cert_form.specs.Writing.{version_for}
use Rattle.cert_form.proofs.chain_writing.version_of.Given as goal

abbrev pub invariant-loop-n : goal.invariant-loop-n
invariant-loop-n l = version_for (drop l.n-index l.nodes) ≡ version_for l.nodes
