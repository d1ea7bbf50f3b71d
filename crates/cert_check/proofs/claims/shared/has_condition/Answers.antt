use Rattle.std.proofs.Common.{◌≡◌, ◌<◌, true, false, sym, subst, ap, ◌∙◌, arith, length, List}
use Rattle.std.specs.Prelude.{Some, slice_get}
use Rattle.std.proofs.lemmas.Option.{slice_get-get_or, slice_get_within, same_Some}
use Rattle.profile.specs.declared.rules.Rule.{Rule}
use Rattle.cert_check.proofs.Elements.{of_some, some_of}
use Rattle.cert_check.proofs.claims.shared.has_condition.Goals as goal

pub returns-then-place-rules : goal.returns-then-place-rules
returns-then-place-rules c = (
  λ t. absurd (let e : false ≡ true = t in cc),
  λ is. absurd (let rules = c.args.profile.now.rules in
      let its = of_some (λ (rule : Rule). c.args.own < length rule.conds.items) (slice_get rules c.args.place) is in
      let within = slice_get_within rules c.args.place its.0 its.1 in
      omega (arith, c.if-place-rules.true, within, ap length c.rules-rules.ensures.rules)),
)

pub returns : goal.returns
returns c =
    let place = c.args.place in
    let rule = c.index-rules-place.result in
    let rules = c.rules-rules.result.now in
    let at : slice_get rules place ≡ Some rule =
    slice_get-get_or rules place rule (omega (arith, c.if-place-rules.false)) ∙ ap Some (sym c.index-rules-place.is) in
    let stands = subst (λ (rs : List Rule). slice_get rs place ≡ Some rule) c.rules-rules.ensures.rules at in
    let long = ap length c.as_slice-conds.ensures.value in
    let Has : Rule → Type 0 = λ rule. c.args.own < length rule.conds.items in
    let found = slice_get c.args.profile.now.rules place in (
      λ t. some_of Has found rule stands (omega (arith, c.is_below.ensures.0 t, long)),
      λ is.
          let its = of_some Has found is in
          let alike = ap (λ (x : Rule). length x.conds.items) (same_Some its.0 rule (sym its.1 ∙ stands)) in
          c.is_below.ensures.1 (omega (arith, its.2, long, alike)),
    )
