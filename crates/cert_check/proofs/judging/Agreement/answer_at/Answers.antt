use Rattle.std.proofs.Common.{◌≡◌, true, false, [], sym, subst}
use Rattle.profile.specs.Rule.{is_narrow_rule}
use Rattle.cert_check.specs.declared.judged.Asked.{Asked}
use Rattle.cert_check.specs.inner.Judged.{IsAnswer}
use Rattle.cert_check.specs.inner.Asked.{known_of, met_of}
use Rattle.cert_check.specs.inner.Told.{turn}
use Rattle.cert_check.proofs.MetsLaws.{none_left}
use Rattle.cert_check.proofs.judging.Agreement.answer_at.Goals as goal

pub returns-clause-is_so : goal.returns-clause-is_so
returns-clause-is_so g c =
    let known = known_of c.args.self.now in
    let met = met_of c.args.self.now in
    let rule = c.args.rule.now in
    none_left c.args.asked (is_narrow_rule rule) met known c.args.place rule.conds.items c.answer_of.result c.answer_of.ensures.few
    (λ own lt has. let e : false ≡ true = c.if-has_some.ensures.1 (own, lt, has) in cc) c.answer_of.ensures.answer

pub returns-in-Some-clause-is_so : goal.returns-in-Some-clause-is_so
returns-in-Some-clause-is_so g c =
    let known = known_of c.args.self.now in
    let met = met_of c.args.self.now in
    let rule = c.args.rule.now in
    let asked = c.args.asked in
    let bears = c.in-Some.bears in
    let told = c.in-Some.ensures rule c.requires.stands in
    let so = turn asked bears in
    let plain = subst (λ (q : Asked). IsAnswer q (is_narrow_rule rule) [] known 0 rule.conds.items (turn q bears)) (sym c.requires.question) told.0 in
    subst (λ b. IsAnswer asked (is_narrow_rule rule) met known c.args.place rule.conds.items b) (sym c.turned.ensures)
    (none_left asked (is_narrow_rule rule) met known c.args.place rule.conds.items so told.1
    (λ own lt has. let e : false ≡ true = c.if-has_some.ensures.1 (own, lt, has) in cc) plain)
