use Rattle.std.proofs.Common.{◌≡◌, List, true, false, sym, ◌∙◌, subst}
use Rattle.std.specs.List.{list_any}
use Rattle.std.proofs.lemmas.Bool.{not-true}
use Rattle.differ.specs.Left.{has_part_on}
use Rattle.differ.specs.declared.left.Rest.{Rest}
use Rattle.differ.proofs.LeftLaws.{verdict_without}
use Rattle.differ.proofs.walk.is_passed.Goals as goal

pub returns-clause-one : goal.returns-clause-one
returns-clause-one c = λ yes a b w.
    let none : list_any (has_part_on c.args.index) c.args.one.now.rules.items ≡ false =
    subst (λ (rs : List Rest). list_any (has_part_on c.args.index) rs ≡ false) c.deref.ensures.value (sym c.ask_of.ensures ∙ c.if-ask_of.false) in
    verdict_without c.args.one.now.last c.args.one.now.rules.items c.args.index a b none w.others

pub returns-clause-other : goal.returns-clause-other
returns-clause-other c = λ yes a b w.
    let none : list_any (has_part_on c.args.index) c.args.other.now.rules.items ≡ false =
    subst (λ (rs : List Rest). list_any (has_part_on c.args.index) rs ≡ false) c.deref-2.ensures.value
    (sym c.ask_of-2.ensures ∙ not-true c.ask_of-2.result yes) in
    verdict_without c.args.other.now.last c.args.other.now.rules.items c.args.index a b none w.others
