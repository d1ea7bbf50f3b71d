use Rattle.std.proofs.Common.{◌≡◌, true, List, map, sym, ◌∙◌, ap, subst}
use Rattle.std.specs.Prelude.{IfSome, IsSome, None, Option, Some}
use Rattle.std.specs.List.{AllZip}
use Rattle.arrayvec.specs.declared.array_vec.ArrayVec.{ArrayVec}
use Rattle.machines.specs.Arch.{token_of}
use Rattle.profile.specs.declared.conditions.Cond.{Cond}
use Rattle.profile.specs.declared.rules.Rule.{Rule}
use Rattle.profile.specs.Operator.{are_distinct}
use Rattle.widths.specs.Lowered.{IsLowered, RuleFits, StandsFor}
use Rattle.widths.specs.Lowered.IsLowered.{changes}
use Rattle.widths.proofs.LowerLaws.{not_both, same_indexes}
use Rattle.widths.proofs.narrowing.lowering.lowered_rule.Goals as goal

-- the rule that is made of the conditions that stand for those of a rule, if it is made
made_lowered : (made : Option Rule) (rule : Rule) (conds : ArrayVec Cond 6 (Unit {0})) → ¬ RuleFits rule → IfSome made (λ r. r.arch ≡ rule.arch)
    → IfSome made (λ r. r.nr ≡ rule.nr) → IfSome made (λ r. r.conds ≡ conds) → IfSome made (λ r. r.word ≡ rule.word)
    → AllZip (StandsFor (token_of rule.arch) rule.nr) conds.items rule.conds.items → IfSome made (λ r. IsLowered r rule)
made_lowered None rule conds unfit arch nr same word stands = tt
made_lowered (Some r) rule conds unfit arch nr same word stands =
    changes unfit
    (record {
      arch = arch;
      nr = nr;
      word = word;
      conds =
          subst (λ (v : ArrayVec Cond 6 (Unit {0})). AllZip (StandsFor (token_of rule.arch) rule.nr) v.items rule.conds.items) (sym same) stands;
    })

pub returns-in-Some-clause-lowered : goal.returns-in-Some-clause-lowered
returns-in-Some-clause-lowered c =
    made_lowered c.new.result c.args.rule.now c.in-Some.conds
    (λ fit. not_both (sym c.if-rule_fits.false ∙ c.rule_fits.ensures.1 fit)) c.new.ensures.arch_is c.new.ensures.nr_is c.new.ensures.conds_are
    c.new.ensures.verdict_is c.in-Some.ensures.stand

pub returns-in-Some-clause-none : goal.returns-in-Some-clause-none
returns-in-Some-clause-none c =
    λ none.
    let rule = c.args.rule.now in
    let apart : are_distinct (map (λ x. x.index) c.in-Some.conds.items) ≡ true =
    ap are_distinct (same_indexes (token_of rule.arch) rule.nr c.in-Some.conds.items rule.conds.items c.in-Some.ensures.stand) ∙ rule.apart in
    absurd (not_both (subst (λ (o : Option Rule). IsSome o) none (c.new.ensures.made.1 apart)))
