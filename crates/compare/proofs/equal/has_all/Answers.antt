use Rattle.std.proofs.Common.{arith, refl, rules, subst, sym}
use Rattle.std.specs.Prelude.{IsTrue}
use Rattle.std.specs.List.{All, Contains}
use Rattle.std.proofs.lemmas.Bool.{true≢false}
use Rattle.std.proofs.lemmas.List.{take_all}
use Rattle.std.proofs.lemmas.List.Elements.{All-more}
use Rattle.profile.specs.declared.rules.Rule.{Rule}
use Rattle.compare.proofs.equal.has_all.Goals as goal

pub loop-rule-preserved : goal.loop-rule-preserved
loop-rule-preserved c =
    let P : Rule → Type 0 = λ rule. Contains c.args.rules.now rule in
    All-more P c.args.these.now c.loop-rule.rule-index c.rule-item.result (search rules) c.loop-rule.invariant
    (subst P c.rule-item.is (c.has.ensures.0 c.if-not-has.false))

pub returns-then-not-has : goal.returns-then-not-has
returns-then-not-has c = (
  λ t. absurd (true≢false (sym t)),
  λ all. subst IsTrue c.if-not-has.true
      (c.has.ensures.1 (subst (λ (rule : Rule). Contains c.args.rules.now rule) (sym c.rule-item.is)
      (all c.loop-rule.rule-index c.rule-item.result (omega (arith, c.loop-rule-test.true))))),
)

pub returns : goal.returns
returns c = (
  λ _. subst (All (λ (rule : Rule). Contains c.args.rules.now rule))
      (take_all c.loop-rule.rule-index c.args.these.now (omega (arith, c.loop-rule-test.false))) c.loop-rule.invariant,
  λ _. refl,
)
