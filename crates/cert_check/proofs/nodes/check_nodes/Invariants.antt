use Rattle.kernel_check.specs.Lent.{accepted_insns}
use Rattle.cert_form.specs.Views.{bytes_of, nodes_of}
use Rattle.cert_check.specs.inner.Agreed.{AreAgreed}
use Rattle.cert_check.specs.inner.Broken.{KeepBefore}
use Rattle.cert_check.proofs.nodes.check_nodes.Given as goal

abbrev pub invariant-loop-i : goal.invariant-loop-i
invariant-loop-i l = record {
  before : KeepBefore l.profile (accepted_insns l.accepted) (nodes_of l.view) l.i;
  agreed : AreAgreed l.profile (bytes_of l.view) l.agreed;
}
