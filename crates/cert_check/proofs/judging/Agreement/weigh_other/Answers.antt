use Rattle.std.proofs.Common.{◌≡◌, true, false, inl, refl}
use Rattle.cert_check.specs.inner.Asked.{known_of, met_of}
use Rattle.cert_check.proofs.MetsLaws.{no_rule}
use Rattle.cert_check.proofs.judging.Agreement.weigh_other.Goals as goal

pub returns-then-answer_at-clause-bearing : goal.returns-then-answer_at-clause-bearing
returns-then-answer_at-clause-bearing g c =
    let a = c.args.self.now in
    let one = c.if-answer_at.ensures.is_so.0 refl in
    (λ _. c.requires.word, inl (no_rule (met_of a) (known_of a) c.args.place c.args.rule.now one))

pub weigh_left-requires-clause-none : goal.weigh_left-requires-clause-none
weigh_left-requires-clause-none g c = λ one. let e : false ≡ true = c.if-answer_at.ensures.is_so.1 one in cc

pub returns-clause-bearing : goal.returns-clause-bearing
returns-clause-bearing g c = c.weigh_left.ensures
