use Rattle.std.proofs.Common.{◌≡◌, true, false, inr, refl}
use Rattle.cert_check.proofs.TestLaws.{not_so, so}
use Rattle.cert_check.proofs.judging.Agreement.weigh_own.Goals as goal

pub returns-then-not-number-clause-bearing : goal.returns-then-not-number-clause-bearing
returns-then-not-number-clause-bearing g c =
    (λ yes _. not_so c.args.number.own c.if-not-number.true (c.requires.number.0.1 yes.0), inr c.requires.word)

pub returns-then-answer_at-clause-bearing : goal.returns-then-answer_at-clause-bearing
returns-then-answer_at-clause-bearing g c =
    ((c.requires.number.0.0 (so c.args.number.own c.if-not-number.false), c.if-answer_at.ensures.is_so.0 refl), c.requires.word)

pub returns-clause-bearing : goal.returns-clause-bearing
returns-clause-bearing g c = (λ yes _. let e : false ≡ true = c.if-answer_at.ensures.is_so.1 yes.1 in cc, inr c.requires.word)
