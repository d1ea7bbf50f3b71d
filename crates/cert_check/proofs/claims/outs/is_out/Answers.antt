use Rattle.std.proofs.Common.{◌≡◌, true, false, refl, sym, subst, ap, ◌∙◌, inl, inr, arith, length, List}
use Rattle.std.specs.Prelude.{Some, slice_get}
use Rattle.std.proofs.lemmas.Option.{slice_get-get_or, slice_get_within}
use Rattle.profile.specs.declared.rules.Rule.{Rule}
use Rattle.cert_check.specs.inner.Claimed.{outs_of}
use Rattle.cert_check.proofs.Elements.{element_at}
use Rattle.cert_check.proofs.OutsLaws.{out_by}
use Rattle.cert_check.proofs.claims.outs.is_out.Goals as goal

pub returns-then-place-rules : goal.returns-then-place-rules
returns-then-place-rules g c = (
  λ t. absurd (let e : false ≡ true = t in cc),
  λ is. absurd (let within = slice_get_within c.args.profile.now.rules c.args.place is.rule is.stands in
      omega (arith, c.if-place-rules.true, within, ap length c.rules-rules.ensures.rules)),
)

pub returns-then-has : goal.returns-then-has
returns-then-has g c =
    let policy = c.args.profile.now in
    let long = ap length c.rules-rules.ensures.rules in
    let got = element_at policy.rules c.args.place (omega (arith, c.if-place-rules.false, long)) in (
      λ _. (out_by policy (outs_of c.args.here.now.node) (g.S.State.known c.args.facts.now.state.now) c.args.place got.0 got.1).0
          (inl (c.if-has.ensures.0 refl)),
      λ _. refl,
    )

pub returns : goal.returns
returns g c =
    let place = c.args.place in
    let rule = c.index-rules-place.result in
    let rules = c.rules-rules.result.now in
    let at : slice_get rules place ≡ Some rule =
    slice_get-get_or rules place rule (omega (arith, c.if-place-rules.false)) ∙ ap Some (sym c.index-rules-place.is) in
    let stands = subst (λ (rs : List Rule). slice_get rs place ≡ Some rule) c.rules-rules.ensures.rules at in
    let by = out_by c.args.profile.now (outs_of c.args.here.now.node) (g.S.State.known c.args.facts.now.state.now) place rule stands in (
      λ t. by.0 (inr (c.refutes.ensures.0 t)),
      λ is. elim (by.1 is) [
        | inl told ↦ absurd (let e : false ≡ true = c.if-has.ensures.1 told in cc)
        | inr refuted ↦ c.refutes.ensures.1 refuted
      ],
    )
