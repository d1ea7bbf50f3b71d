use Rattle.std.proofs.Common.{List, sym, subst}
use Rattle.cert_state.specs.declared.literal.Lit.{Lit}
use Rattle.cert_form.specs.Nodes.{literals}
use Rattle.certify.specs.declared.chain.Chain.{Chain}
use Rattle.certify.specs.inner.Plain.{IsUnsettled, PartsAtReturn}
use Rattle.certify.proofs.cuts.cut_of_profile.Goals as goal

pub returns-in-Some : goal.returns-in-Some
returns-in-Some c = λ word nodes is.
    let policy = c.args.profile.now in
    let K : Chain → List Lit = λ k. literals k.entries.now k.number in
    subst (λ k. PartsAtReturn policy (K k) word nodes c.in-Some.cut.one c.in-Some.cut.other) c.of-facts.ensures
    (c.in-Some.ensures word nodes (subst (λ k. IsUnsettled policy (K k) word nodes) (sym c.of-facts.ensures) is))

pub returns-in-None : goal.returns-in-None
returns-in-None c = λ word nodes is.
    let policy = c.args.profile.now in
    let K : Chain → List Lit = λ k. literals k.entries.now k.number in
    absurd (c.in-None.ensures word nodes (subst (λ k. IsUnsettled policy (K k) word nodes) (sym c.of-facts.ensures) is))
