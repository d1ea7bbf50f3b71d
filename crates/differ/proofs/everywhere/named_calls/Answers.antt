use Rattle.std.proofs.Common.{◌≡◌, ◌++◌, List, true, sym, ◌∙◌, ap, subst}
use Rattle.std.specs.List.{list_any}
use Rattle.profile.specs.declared.rules.Rule.{Rule}
use Rattle.differ.specs.OnCall.{is_for}
use Rattle.differ.specs.Named.{is_named}
use Rattle.differ.proofs.everywhere.named_calls.Goals as goal

pub returns-clause-asked : goal.returns-clause-asked
returns-clause-asked c = λ t n h.
    c.in_ok-add_rules-2.ensures.stay t n
    (c.in_ok-add_rules.ensures.stay t n (ap (λ list. is_named list t n) (c.in_ok-extend_from_slice.ensures.items ∙ ap (λ ys. ys ++ c.args.asked.now) c.new-list.ensures.items) ∙ h))

pub returns-clause-first : goal.returns-clause-first
returns-clause-first c = λ t n h.
    c.in_ok-add_rules-2.ensures.stay t n
    (c.in_ok-add_rules.ensures.added t n (subst (λ (xs : List Rule). list_any (is_for t n) xs ≡ true) (sym c.rules-rules.ensures.rules) h))

pub returns-clause-second : goal.returns-clause-second
returns-clause-second c = λ t n h.
    c.in_ok-add_rules-2.ensures.added t n (subst (λ (xs : List Rule). list_any (is_for t n) xs ≡ true) (sym c.rules-others.ensures.rules) h)
