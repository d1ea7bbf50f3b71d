use Rattle.std.proofs.Common.{◌≡◌, true, false, refl, sym, subst, ap, ◌∙◌, inl, inr, arith, length, List}
use Rattle.std.specs.Prelude.{Some, slice_get}
use Rattle.std.proofs.lemmas.Option.{slice_get-get_or, slice_get_within, same_Some}
use Rattle.profile.specs.declared.conditions.Cond.{Cond}
use Rattle.profile.specs.declared.rules.Rule.{Rule}
use Rattle.cert_check.specs.inner.Claimed.{mets_of}
use Rattle.cert_check.specs.Agree.{IsYes}
use Rattle.cert_check.proofs.Elements.{element_at}
use Rattle.cert_check.proofs.MetsLaws.{met_by}
use Rattle.cert_check.proofs.claims.mets.is_met.Goals as goal

pub returns-then-at-rules : goal.returns-then-at-rules
returns-then-at-rules g c = (
  λ t. absurd (let e : false ≡ true = t in cc),
  λ is. absurd (let within = slice_get_within c.args.profile.now.rules c.args.place.0 is.rule is.stands in
      omega (arith, c.if-at-rules.true, within, ap length c.rules-rules.ensures.rules)),
)

pub returns-then-own-conds : goal.returns-then-own-conds
returns-then-own-conds g c =
    let place = c.args.place in
    let rule = c.index-rules-at.result in
    let rules = c.rules-rules.result.now in
    let at : slice_get rules place.0 ≡ Some rule =
    slice_get-get_or rules place.0 rule (omega (arith, c.if-at-rules.false)) ∙ ap Some (sym c.index-rules-at.is) in
    let stands = subst (λ (rs : List Rule). slice_get rs place.0 ≡ Some rule) c.rules-rules.ensures.rules at in
    let value = c.as_slice-conds.ensures.value in (
      λ t. absurd (let e : false ≡ true = t in cc),
      λ is. absurd (let same : is.rule ≡ rule = same_Some is.rule rule (sym is.stands ∙ stands) in
          let within = slice_get_within is.rule.conds.items place.1 is.cond is.its in
          let long = ap length value in
          let alike = ap (λ (x : Rule). length x.conds.items) same in
          omega (arith, c.if-own-conds.true, within, long, alike)),
    )

pub returns-then-has : goal.returns-then-has
returns-then-has g c =
    let known = g.S.State.known c.args.facts.now.state.now in
    let met = mets_of c.args.here.now.node in
    let place = c.args.place in
    let rule = c.index-rules-at.result in
    let rules = c.rules-rules.result.now in
    let at : slice_get rules place.0 ≡ Some rule =
    slice_get-get_or rules place.0 rule (omega (arith, c.if-at-rules.false)) ∙ ap Some (sym c.index-rules-at.is) in
    let stands = subst (λ (rs : List Rule). slice_get rs place.0 ≡ Some rule) c.rules-rules.ensures.rules at in
    let value = c.as_slice-conds.ensures.value in
    let got = element_at rule.conds.items place.1 (omega (arith, c.if-own-conds.false, ap length value)) in
    (λ _. (met_by c.args.profile.now met known place rule got.0 stands got.1).0 (inl (c.if-has.ensures.0 refl)), λ _. refl)

pub returns : goal.returns
returns g c =
    let known = g.S.State.known c.args.facts.now.state.now in
    let met = mets_of c.args.here.now.node in
    let place = c.args.place in
    let rule = c.index-rules-at.result in
    let rules = c.rules-rules.result.now in
    let conds = c.as_slice-conds.result.now in
    let one = c.index-conds-own.result in
    let at : slice_get rules place.0 ≡ Some rule =
    slice_get-get_or rules place.0 rule (omega (arith, c.if-at-rules.false)) ∙ ap Some (sym c.index-rules-at.is) in
    let stands = subst (λ (rs : List Rule). slice_get rs place.0 ≡ Some rule) c.rules-rules.ensures.rules at in
    let here : slice_get conds place.1 ≡ Some one =
    slice_get-get_or conds place.1 one (omega (arith, c.if-own-conds.false)) ∙ ap Some (sym c.index-conds-own.is) in
    let value = c.as_slice-conds.ensures.value in
    let its = subst (λ (cs : List Cond). slice_get cs place.1 ≡ Some one) value here in
    let by = met_by c.args.profile.now met known place rule one stands its in (
      λ t. by.0 (inr (subst (λ b. IsYes b known one) c.is_narrow.ensures (c.is_yes.ensures.0 t))),
      λ is. elim (by.1 is) [
        | inl told ↦ absurd (let e : false ≡ true = c.if-has.ensures.1 told in cc)
        | inr holds ↦ c.is_yes.ensures.1 (subst (λ b. IsYes b known one) (sym c.is_narrow.ensures) holds)
      ],
    )
