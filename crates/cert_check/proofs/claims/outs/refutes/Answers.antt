use Rattle.std.proofs.Common.{◌≡◌, ℕ, true, false, refl, sym, subst, ◌∙◌, inl, inr}
use Rattle.cert_state.specs.declared.literal.Lit.TheVariants.{NotBits}
use Rattle.cert_state.specs.Literals.{all_bits}
use Rattle.cert_state.specs.Entailment.{Entails}
use Rattle.profile.specs.Rule.{is_narrow_rule}
use Rattle.cert_check.proofs.MetsLaws.{one_among}
use Rattle.cert_check.proofs.claims.outs.refutes.Goals as goal

pub returns-then-one_no : goal.returns-then-one_no
returns-then-one_no g c =
    let known = g.S.State.known c.args.facts.now.state.now in
    let rule = c.args.rule.now in
    (λ _. inr (inr ((one_among (is_narrow_rule rule) known rule.conds.items).0 (c.requires.0 c.if-one_no.true))), λ _. refl)

pub returns-then-entails : goal.returns-then-entails
returns-then-entails g c =
    let P : ℕ → Type 0 = λ token. Entails (g.S.State.known c.args.facts.now.state.now) (NotBits 1 all_bits token) in
    (λ _. inl (subst P c.token.ensures (c.if-entails.ensures.0 refl)), λ _. refl)

pub returns : goal.returns
returns g c =
    let known = g.S.State.known c.args.facts.now.state.now in
    let rule = c.args.rule.now in
    let P : ℕ → Type 0 = λ token. Entails known (NotBits 1 all_bits token) in (
      λ t. inr (inl (c.entails-2.ensures.0 t)),
      λ h. elim h [
        | inl machine ↦ absurd (let e : false ≡ true = c.if-entails.ensures.1 (subst P (sym c.token.ensures) machine) in cc)
        | inr (inl number) ↦ c.entails-2.ensures.1 number
        | inr (inr some) ↦ absurd (let t = c.requires.1 ((one_among (is_narrow_rule rule) known rule.conds.items).1 some) in
            let e : false ≡ true = sym c.if-one_no.false ∙ t in cc)
      ],
    )
