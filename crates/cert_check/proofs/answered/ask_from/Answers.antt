use Rattle.std.proofs.Common.{◌≡◌, Bool, true, false, List, sym, subst}
use Rattle.profile.specs.declared.conditions.Cond.{Cond}
use Rattle.profile.specs.Rule.{is_narrow_rule}
use Rattle.cert_check.specs.inner.Claimed.{mets_of}
use Rattle.cert_check.specs.inner.Judged.{IsAnswer}
use Rattle.cert_check.specs.declared.judged.Asked.{Asked}
use Rattle.cert_check.specs.declared.judged.Asked.TheVariants.{AllYes}
use Rattle.cert_check.proofs.answered.ask_from.Goals as goal

pub returns-in-Some-clause-answer : goal.returns-in-Some-clause-answer
returns-in-Some-clause-answer g c =
    let known = g.S.State.known c.args.facts.now.state.now in
    let met = mets_of c.args.mets.now.node in
    let place = c.args.place in
    let narrow = c.is_narrow-narrow.result in
    let conds = c.as_slice-conds.result.now in
    let unmet : IsAnswer AllYes narrow met known place conds false =
    (λ t. absurd (let e : false ≡ true = t in cc), λ all. absurd (c.in-Some.ensures all)) in
    subst (λ (asked : Asked). IsAnswer asked (is_narrow_rule c.args.rule.now) met known place c.args.rule.now.conds.items false) (sym c.in-AllYes.is)
    (subst (λ (b : Bool). IsAnswer AllYes b met known place c.args.rule.now.conds.items false) c.is_narrow-narrow.ensures
    (subst (λ (cs : List Cond). IsAnswer AllYes narrow met known place cs false) c.as_slice-conds.ensures.value unmet))
