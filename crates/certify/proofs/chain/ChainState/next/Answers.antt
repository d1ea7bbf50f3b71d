use Rattle.std.proofs.Common.{rules, ◌≡◌, ℕ, suc, ◌-◌, ◌<◌, length, slice_index_or, ap, ◌∙◌, arith, Some}
use Rattle.std.specs.Prelude.{slice_get}
use Rattle.std.proofs.lemmas.Option.{slice_get-get_or}
use Rattle.cert_state.specs.declared.literal.Lit.{Lit}
use Rattle.cert_state.specs.declared.literal.Lit.TheVariants.{In}
use Rattle.cert_form.specs.Nodes.{literals}
use Rattle.certify.specs.Chains.{AreEarlier}
use Rattle.certify.proofs.ChainFacts.{literals_none, literals_past, chain_next}
use Rattle.certify.proofs.chain.ChainState.next.Goals as goal

pub returns-then-at-eq0-clause-more : goal.returns-then-at-eq0-clause-more
returns-then-at-eq0-clause-more c =
    ap (λ n. literals c.args.self.now.entries.now n) c.if-at-eq0.true ∙ literals_none c.args.self.now.entries.now

pub returns-then-at-self-clause-more : goal.returns-then-at-self-clause-more
returns-then-at-self-clause-more c = literals_past c.args.self.now.entries.now c.args.at (omega (arith, c.if-at-self.true))

pub returns-clause-more : goal.returns-clause-more
returns-clause-more c =
    let es = c.args.self.now.entries.now in
    let at = c.args.at in
    let e : ℕ × Lit = slice_index_or es (at - 1) (0, In 0 0 0) in
    let some : at ≡ suc (at - 1) = omega (arith, c.if-at-eq0.false) in
    let inside : at - 1 < length es = omega (arith, c.if-at-eq0.false, c.if-at-self.false) in
    let there : slice_get es (at - 1) ≡ Some e = slice_get-get_or es (at - 1) (0, In 0 0 0) inside in
    let earlier : AreEarlier es = search rules in
    ap (λ n. literals es n) some ∙ chain_next es (at - 1) e there (earlier (at - 1) e there)
