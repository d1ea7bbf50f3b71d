use Rattle.std.proofs.Common.{◌≡◌, ◌+◌, ◌≤◌, length, length-append, arith, [], ◌∷◌, ◌++◌, List, sym, ◌∙◌, ap, subst}
use Rattle.profile.specs.declared.rules.Rule.{Rule}
use Rattle.widths.specs.Narrowed.{AreNarrowed}
use Rattle.widths.specs.Counts.{most_lists}
use Rattle.widths.proofs.RuleLaws.{narrowed_more}
use Rattle.widths.proofs.narrowing.rules.add_narrowed.Goals as goal

pub returns-clause-ok : goal.returns-clause-ok
returns-clause-ok c =
    λ before are.
    subst (λ (l : List Rule). AreNarrowed (before ++ c.args.rule.now ∷ []) l) (sym (c.in_ok-append.ensures ∙ ap (λ (l : List Rule). c.args.rules.now.items ++ l) c.deref.ensures.value))
    (narrowed_more before c.args.rules.now.items (c.args.rule.now ∷ []) c.in_ok-parts.parts.items are c.in_ok-parts.ensures.ok)

pub returns-clause-few : goal.returns-clause-few
returns-clause-few c =
    let long = ap length c.in_ok-append.ensures in
    let added = length-append c.args.rules.now.items c.deref.result.now in
    let same = ap length c.deref.ensures.value in
    let few = c.in_ok-parts.ensures.few in
    omega (arith, long, added, same, few)
