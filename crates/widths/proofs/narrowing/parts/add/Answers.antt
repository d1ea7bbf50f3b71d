use Rattle.std.proofs.Common.{◌≡◌, [], ◌∷◌, ◌++◌, List, sym, ap, subst}
use Rattle.profile.specs.declared.conditions.Cond.{Cond}
use Rattle.widths.specs.declared.narrowing.patterns.Pattern.{Pattern}
use Rattle.widths.specs.Parts.{AreOfPatterns}
use Rattle.widths.proofs.LowBitLaws.{if_ok}
use Rattle.widths.proofs.StepLaws.{missing_some, patterns_more, patterns_skip}
use Rattle.widths.proofs.narrowing.parts.add.Goals as goal

pub returns-in-Some : goal.returns-in-Some
returns-in-Some c =
    if_ok (λ _. c.push.new.list.items ≡ c.args.list.now.items ++ c.in-Some.cond ∷ [])
    (λ _. (before : List Pattern) → AreOfPatterns c.args.index before c.args.list.now.items
    → AreOfPatterns c.args.index (before ++ c.args.pattern.now ∷ []) c.push.new.list.items)
    (λ _ e before are.
    subst (λ (ds : List Cond). AreOfPatterns c.args.index (before ++ c.args.pattern.now ∷ []) ds) (sym e)
    (patterns_more c.args.index before c.args.list.now.items c.args.pattern.now are c.in-Some.cond c.in-Some.ensures.index_is
    c.in-Some.ensures.op_is c.in-Some.ensures.value_is c.in-Some.ensures.datum_is))
    c.push.result c.push.ensures

pub returns-in-None : goal.returns-in-None
returns-in-None c =
    λ before are.
    patterns_skip c.args.index before c.args.list.now.items c.args.pattern.now are c.requires
    (λ is. missing_some c.new.result c.in-None.is (c.new.ensures.made.1 is))
