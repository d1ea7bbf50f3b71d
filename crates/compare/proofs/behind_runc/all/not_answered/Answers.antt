use Rattle.std.proofs.Common.{subst, sym}
use Rattle.maker.specs.declared.evidence.evidence.Counterexample.{Counterexample}
use Rattle.compare.specs.Counterexamples.{Refutes}
use Rattle.compare.proofs.behind_runc.all.not_answered.Goals as goal

pub loop-found-preserved : goal.loop-found-preserved
loop-found-preserved c = record {
  left = c.in_ok-add.ensures.left c.loop-found.invariant.left;
  refute = λ native bundle filter all.
      c.in_ok-add.ensures.refute native bundle filter
      (subst (λ (found : Counterexample). Refutes native bundle filter found) (sym c.found-item.is)
      (all c.loop-found.found-index _ c.loop-found-test.true))
      (c.loop-found.invariant.refute native bundle filter all);
}
