use Rattle.std.proofs.Common.{◌≡◌, ◌-◌, ◌∙◌, List, [], ◌∷◌, ◌++◌, ap, drop, length, subst, sym, take, true}
use Rattle.std.specs.List.{All}
use Rattle.rule_compile.specs.declared.asked.Open.{Open}
use Rattle.rule_compile.specs.Rules.{begins_here}
use Rattle.rule_compile.specs.inner.Left.{IsAddedLeft}
use Rattle.rule_compile.proofs.LeftLaws.{IsPart, Looked, first_rule, none_come, part_first, part_met, part_next, part_says, rest_is, split_first}
use Rattle.rule_compile.proofs.RulesLaws.{GoesOn}
use Rattle.rule_compile.proofs.remaining.left.Goals as goal

pub loop-rest-init : goal.loop-rest-init
loop-rest-init c = λ are.
    subst (λ os. IsPart c.args.rules.now c.args.rules.now os c.args.subject c.args.number) (sym c.new-questions.ensures.asked)
    (part_first c.args.subject c.args.number c.args.rules.now are)

pub returns-then-branch-clause-says : goal.returns-then-branch-clause-says
returns-then-branch-clause-says c = λ are.
    let part = c.loop-rest.invariant are in
    let others : List Open = take (length c.loop-rest.rest.now - 1) (drop 1 c.loop-rest.rest.now) in
    let behind : others ≡ drop 1 c.loop-rest.rest.now = rest_is c.loop-rest.rest.now in
    let more : List Open = c.split_at.result.0.now in
    let next : List Open = c.split_at.result.1.now in
    let front : more ≡ take c.further.result others = c.split_at.ensures.front in
    let back : next ≡ drop c.further.result others = c.split_at.ensures.back in
    let is : c.loop-rest.rest.now ≡ (c.first-item.result ∷ more) ++ next =
    split_first c.loop-rest.rest.now others more next c.first-item.result c.further.result c.in-len1-up.len_at_least c.first-item.is
    behind front back in
    let goes_on : All GoesOn more = subst (All GoesOn) (sym front) c.further.ensures.further in
    let begins : begins_here next ≡ true = ap begins_here back ∙ c.further.ensures.next in
    let of = first_rule c.args.subject c.args.number c.args.rules.now c.loop-rest.rest.now c.loop-rest.questions.asked.items part
    c.first-item.result more next is goes_on begins in
    let looked = Looked c.args.subject c.args.number (c.first-item.result ∷ more) in
    part_met c.args.subject c.args.number c.args.rules.now c.loop-rest.rest.now c.loop-rest.questions.asked.items part
    c.first-item.result more next is goes_on begins
    (subst (IsAddedLeft c.loop-rest.questions.asked.items c.add_rule.new.questions.asked.items (c.first-item.result ∷ more) looked)
    c.if-branch.true (c.in_ok-add_rule.ensures.says of))

pub loop-rest-preserved : goal.loop-rest-preserved
loop-rest-preserved c = λ are.
    let part = c.loop-rest.invariant are in
    let others : List Open = take (length c.loop-rest.rest.now - 1) (drop 1 c.loop-rest.rest.now) in
    let behind : others ≡ drop 1 c.loop-rest.rest.now = rest_is c.loop-rest.rest.now in
    let more : List Open = c.split_at.result.0.now in
    let next : List Open = c.split_at.result.1.now in
    let front : more ≡ take c.further.result others = c.split_at.ensures.front in
    let back : next ≡ drop c.further.result others = c.split_at.ensures.back in
    let is : c.loop-rest.rest.now ≡ (c.first-item.result ∷ more) ++ next =
    split_first c.loop-rest.rest.now others more next c.first-item.result c.further.result c.in-len1-up.len_at_least c.first-item.is
    behind front back in
    let goes_on : All GoesOn more = subst (All GoesOn) (sym front) c.further.ensures.further in
    let begins : begins_here next ≡ true = ap begins_here back ∙ c.further.ensures.next in
    let of = first_rule c.args.subject c.args.number c.args.rules.now c.loop-rest.rest.now c.loop-rest.questions.asked.items part
    c.first-item.result more next is goes_on begins in
    let looked = Looked c.args.subject c.args.number (c.first-item.result ∷ more) in
    let asked = part.are_asked in
    part_next c.args.subject c.args.number c.args.rules.now c.loop-rest.rest.now c.loop-rest.questions.asked.items part
    c.first-item.result more next is goes_on begins c.add_rule.new.questions.asked.items (c.in_ok-add_rule.ensures.rules of asked)
    (subst (IsAddedLeft c.loop-rest.questions.asked.items c.add_rule.new.questions.asked.items (c.first-item.result ∷ more) looked)
    c.if-branch.false (c.in_ok-add_rule.ensures.says of))
    c.in_ok-add_rule.ensures.less

pub returns-clause-says : goal.returns-clause-says
returns-clause-says c = λ are.
    let empty : c.loop-rest.rest.now ≡ [] = none_come c.loop-rest.rest.now c.in_default.len_below in
    part_says c.args.subject c.args.number c.args.rules.now c.loop-rest.questions.asked.items
    (subst (λ os. IsPart c.args.rules.now os c.loop-rest.questions.asked.items c.args.subject c.args.number) empty
    (c.loop-rest.invariant are))
