use Rattle.std.proofs.Common.{◌≡◌, true, false, inl, inr, refl}
use Rattle.cert_check.proofs.TestLaws.{not_so, so}
use Rattle.cert_check.proofs.judging.Agreement.weigh_left.Goals as goal

pub returns-then-not-number : goal.returns-then-not-number
returns-then-not-number g c = (
  λ no. elim no.0 [
    | inl other ↦ not_so c.args.number.other c.if-not-number.true (c.requires.number.1.1 other)
    | inr one ↦ c.requires.none one
  ],
  c.requires.word,
)

pub returns-then-not-number-2 : goal.returns-then-not-number-2
returns-then-not-number-2 g c =
    let number = c.requires.number in (
      λ _. c.requires.word,
      inl (inl (number.1.0 (so c.args.number.other c.if-not-number.false)), λ yes. not_so c.args.number.own c.if-not-number-2.true (number.0.1 yes.0)),
    )

pub returns-then-ask : goal.returns-then-ask
returns-then-ask g c =
    let number = c.requires.number in
    (λ no. no.1 (number.0.0 (so c.args.number.own c.if-not-number-2.false), c.if-ask.ensures.0 refl), c.requires.word)

pub returns : goal.returns
returns g c =
    let number = c.requires.number in (
      λ _. c.requires.word,
      inl (inl (number.1.0 (so c.args.number.other c.if-not-number.false)), λ yes. let e : false ≡ true = c.if-ask.ensures.1 yes.1 in cc),
    )
