use Rattle.std.proofs.Common.{subst}
use Rattle.cert_check.specs.inner.Asked.{known_of, met_of}
use Rattle.cert_check.specs.inner.Told.{IsToldOf}
use Rattle.cert_check.proofs.TestLaws.{not_so}
use Rattle.cert_check.proofs.ToldLaws.{told_agrees}
use Rattle.cert_check.proofs.judging.Agreement.agrees_at.Goals as goal

pub returns-else-bears : goal.returns-else-bears
returns-else-bears g c = λ t rule stands.
    let a = c.args.self.now in
    let told = subst (IsToldOf (known_of a) a.word rule) c.if-bears.false (c.in-Some.ensures rule stands) in
    told_agrees (met_of a) (known_of a) a.word c.args.place rule told
    (λ own lt has. not_so c.has_some.result t (c.has_some.ensures.1 (own, lt, has)))
