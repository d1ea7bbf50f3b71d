use Rattle.std.proofs.Common.{◌++◌, ◌∷◌, [], false, refl, sym, subst}
use Rattle.cert_state.specs.declared.literal.Lit.{Lit}
use Rattle.cert_state.specs.Literals.{index_of}
use Rattle.cert_state.specs.inner.Gathered.{AreFactsOf}
use Rattle.cert_state.proofs.MoreLaws.{facts_after}
use Rattle.cert_state.proofs.gathered.with_one.Goals as goal

pub returns-then-leaves_ends : goal.returns-then-leaves_ends
returns-then-leaves_ends c =
    let ls = c.args.lits.now in
    let f = c.args.facts.now in
    let exact = c.stays_exact.result in
    let out = c.if-leaves_ends.ensures refl in
    let so = subst (λ (l : Lit). AreFactsOf ls (index_of l) f) c.in-NotBits.is c.requires in
    subst (λ (l : Lit). AreFactsOf (ls ++ l ∷ []) (index_of l) (record f { free = false; exact = exact })) (sym c.in-NotBits.is)
    (facts_after ls c.in-NotBits.field-0 c.in-NotBits.mask c.in-NotBits.datum f exact so (λ a. (out a).0) (λ a. (out a).1)
    (λ t. (c.stays_exact.ensures.0 t).0) (λ t. (c.stays_exact.ensures.0 t).1))
