use Rattle.std.proofs.Common.{◌≡◌, ℕ, ◌+◌, ◌<◌, ◌≤◌, [], ◌∷◌, ◌++◌, List, get_or, length, take, sym, ◌∙◌, ap, subst, arith}
use Rattle.std.proofs.lemmas.List.{take_more, take_all}
use Rattle.std.proofs.lemmas.List.Sums.{sum_by_push, sum_by-take-le}
use Rattle.std.proofs.lemmas.Result.{err_from_is_err_and}
use Rattle.profile.specs.declared.rules.Rule.{Rule}
use Rattle.widths.specs.Counts.{IsCutCause, most_lists, most_narrowed, most_of}
use Rattle.widths.specs.Narrowed.{AreNarrowed}
use Rattle.widths.proofs.CountLaws.{cause_more}
use Rattle.widths.proofs.RuleLaws.{narrowed_none}
use Rattle.widths.proofs.narrowing.rules.narrowed_rules.Goals as goal

-- the rules so far, with the one at the place
taken : (rules : List Rule) (i : ℕ) (rule : Rule) → i < length rules → rule ≡ get_or rules i rule → take (i + 1) rules ≡ take i rules ++ rule ∷ []
taken rules i rule lt is = take_more rules i rule lt ∙ ap (λ (x : Rule). take i rules ++ x ∷ []) (sym is)

counted : (rules : List Rule) (i : ℕ) (rule : Rule) → i < length rules → rule ≡ get_or rules i rule
    → most_narrowed (take (i + 1) rules) ≡ most_narrowed (take i rules) + most_of rule
counted rules i rule lt is = ap most_narrowed (taken rules i rule lt is) ∙ sum_by_push most_of (take i rules) rule

still_few : (rules : List Rule) (i : ℕ) (rule : Rule) (plan : List ℕ) (old new : ℕ) → i < length rules → rule ≡ get_or rules i rule
    → most_lists plan rule.conds.items ≡ most_of rule → old ≤ most_narrowed (take i rules) → new ≤ old + most_lists plan rule.conds.items
    → new ≤ most_narrowed (take (i + 1) rules)
still_few rules i rule plan old new lt is same few more = let all = counted rules i rule lt is in omega (arith, all, same, few, more)

within_all : (rules : List Rule) (i : ℕ) (rule : Rule) (plan : List ℕ) (old : ℕ) → i < length rules → rule ≡ get_or rules i rule
    → most_lists plan rule.conds.items ≡ most_of rule → old ≤ most_narrowed (take i rules)
    → old + most_lists plan rule.conds.items ≤ most_narrowed rules
within_all rules i rule plan old lt is same few =
    let all = counted rules i rule lt is in let within = sum_by-take-le most_of rules (i + 1) in omega (arith, all, same, few, within)

pub loop-rule-init : goal.loop-rule-init
loop-rule-init c = (
  subst (AreNarrowed []) (sym c.new-narrowed.ensures.items) narrowed_none,
  let none = ap length c.new-narrowed.ensures.items in omega (arith, none),
)

pub loop-rule-preserved : goal.loop-rule-preserved
loop-rule-preserved c =
    let rules = c.args.rules.now in
    let i = c.loop-rule.rule-index in
    let rule = c.rule-item.result in (
      subst (λ (l : List Rule). AreNarrowed l c.add_narrowed.new.rules.items) (sym (taken rules i rule c.loop-rule-test.true c.rule-item.is))
          (c.in_ok-add_narrowed.ensures.ok (take i rules) c.loop-rule.invariant.0),
      still_few rules i rule c.own_plan-plan.result _ _ c.loop-rule-test.true c.rule-item.is
          (ap (λ (p : List ℕ). most_lists p rule.conds.items) c.own_plan-plan.ensures.exact) c.loop-rule.invariant.1
          c.in_ok-add_narrowed.ensures.few,
    )

pub returns-in_err-add_narrowed-clause-err : goal.returns-in_err-add_narrowed-clause-err
returns-in_err-add_narrowed-clause-err c =
    let rules = c.args.rules.now in
    let i = c.loop-rule.rule-index in
    let rule = c.rule-item.result in
    let p = err_from_is_err_and c.from_residual.result c.from_residual.ensures.1 in
    rw (p.1, p.2) (cause_more _ _ _
    (within_all rules i rule c.own_plan-plan.result _ c.loop-rule-test.true c.rule-item.is
    (ap (λ (p : List ℕ). most_lists p rule.conds.items) c.own_plan-plan.ensures.exact) c.loop-rule.invariant.1)
    c.in_err-add_narrowed.ensures.err)
