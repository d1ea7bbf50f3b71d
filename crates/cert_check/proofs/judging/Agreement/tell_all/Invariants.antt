use Rattle.std.proofs.Common.{◌≡◌}
use Rattle.cert_check.specs.inner.Asked.{known_of}
use Rattle.cert_check.specs.inner.Told.{AreTold}
use Rattle.cert_check.proofs.judging.Agreement.tell_all.Given as goal

abbrev pub invariant-loop-rule : goal.invariant-loop-rule
invariant-loop-rule g l = record {
  told : AreTold l.self.profile.now (known_of l.self) l.self.word l.table;
  place : l.place ≡ l.rule-index;
}
