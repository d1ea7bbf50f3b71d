use Rattle.std.proofs.Common.{inl}
use Rattle.cert_check.proofs.TestLaws.{not_so}
use Rattle.cert_check.proofs.judging.Agreement.weigh.Goals as goal

pub returns-then-number-clause-bearing : goal.returns-then-number-clause-bearing
returns-then-number-clause-bearing g c =
    let number = c.requires.number in (
      λ holds _. not_so c.args.number.own c.if-not-number.true (number.0.1 holds.0),
      inl (inl (number.1.0 c.if-number.true), λ holds. not_so c.args.number.own c.if-not-number.true (number.0.1 holds.0)),
    )
