use Rattle.std.proofs.Common.{sym, ◌∙◌}
use Rattle.std.proofs.lemmas.Bool.{cond-false, cond-true}
use Rattle.session.specs.declared.bundles.Bundle.{Bundle}
use Rattle.session.proofs.Found.{called-at, called-end}
use Rattle.session.proofs.bundles.Bundles.find.Goals as goal

pub returns-then-eq : goal.returns-then-eq
returns-then-eq c =
    let here = called-at (λ (b : Bundle). (
      b.name.now,
      b.checked,
    )) c.args.name.now c.args.self.now.list.now c.loop-i.i c.index-self-i.result c.loop-i-test.true in
    sym (c.loop-i.invariant.found ∙ (here ∙ cond-true _ _ _ (sym c.eq.ensures ∙ c.if-eq.true)))

pub loop-i-preserved : goal.loop-i-preserved
loop-i-preserved c =
    let here = called-at (λ (b : Bundle). (
      b.name.now,
      b.checked,
    )) c.args.name.now c.args.self.now.list.now c.loop-i.i c.index-self-i.result c.loop-i-test.true in
    record { found = c.loop-i.invariant.found ∙ (here ∙ cond-false _ _ _ (sym c.eq.ensures ∙ c.if-eq.false)) }

pub returns : goal.returns
returns c =
    sym (c.loop-i.invariant.found
    ∙ called-end (λ (b : Bundle). (b.name.now, b.checked)) c.args.name.now c.args.self.now.list.now c.loop-i.i c.loop-i-test.false)
