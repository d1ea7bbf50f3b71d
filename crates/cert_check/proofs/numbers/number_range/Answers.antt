use Rattle.std.proofs.Common.{◌≡◌, false, true, inl, inr, arith}
use Rattle.std.proofs.lemmas.Bool.{cases_lt}
use Rattle.cert_check.proofs.NumberLaws.{is_other}
use Rattle.cert_check.proofs.numbers.number_range.Goals as goal

pub returns-clause-range : goal.returns-clause-range
returns-clause-range g c = λ nr small outside.
    is_other (g.S.State.known c.args.facts.now.state.now) c.in-Some.least c.in-Some.greatest nr c.in-Some.ensures outside
    (λ excluded. let e : false ≡ true = c.if-entails.ensures.1 excluded in cc)

pub returns-clause-only : goal.returns-clause-only
returns-clause-only g c = λ one n other.
    is_other (g.S.State.known c.args.facts.now.state.now) c.in-Some.least c.in-Some.greatest n c.in-Some.ensures
    (elim (cases_lt n c.in-Some.least) [ inl below ↦ inl below | inr above ↦ inr (omega (arith, one, other, above)) ])
    (λ excluded. let e : false ≡ true = c.if-entails.ensures.1 excluded in cc)
