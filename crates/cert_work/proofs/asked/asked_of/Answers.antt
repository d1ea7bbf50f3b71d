use Rattle.std.proofs.Common.{◌≡◌, inr, refl, arith, subst}
use Rattle.cert_state.specs.declared.literal.Lit.TheVariants.{NotBits}
use Rattle.cert_state.specs.Literals.{all_bits}
use Rattle.cert_state.specs.Entailment.{Entails}
use Rattle.cert_work.proofs.asked.asked_of.Goals as goal

pub returns-in_default : goal.returns-in_default
returns-in_default g c = inr (λ a b whole. c.in_default.ensures a whole.range.least, refl, refl)

pub returns-then-entails : goal.returns-then-entails
returns-then-entails g c =
    let known = g.S.State.known c.args.facts.now.state.now in
    let range = c.in-Some.ensures in
    inr (
      λ a b whole.
          let same : c.in-Some.least ≡ a = omega (arith, (range.between a whole.range.least).0, (whole.range.between c.in-Some.least range.least).0) in
          whole.is_open (subst (λ k. Entails known (NotBits 0 all_bits k)) same (c.if-entails.ensures.0 refl)),
      refl,
      refl,
    )
