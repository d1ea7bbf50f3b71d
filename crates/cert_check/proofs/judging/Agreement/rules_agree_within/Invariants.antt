use Rattle.std.proofs.Common.{◌≡◌}
use Rattle.cert_check.specs.inner.Asked.{known_of, met_of, out_of}
use Rattle.cert_check.specs.inner.Judged.{AreKnownNumbers, IsAnswered, RulesSoFar}
use Rattle.cert_check.proofs.judging.Agreement.rules_agree_within.Given as goal

abbrev pub invariant-loop-rule : goal.invariant-loop-rule
invariant-loop-rule g l = record {
  rules : RulesSoFar (out_of l.self) (met_of l.self) (known_of l.self) l.self.word l.arch l.rule-items l.rule-index l.others;
  place : l.place ≡ l.rule-index;
  numbers : AreKnownNumbers (known_of l.self) l.numbers;
  last : IsAnswered (known_of l.self) l.last;
}
