use Rattle.std.proofs.Common.{◌≡◌, List, true, ap, ◌∙◌, subst, sym}
use Rattle.std.proofs.lemmas.List.Elements.{All-push}
use Rattle.std.specs.List.{All, list_any}
use Rattle.compare.specs.Complete.{differences_in, is_on, is_same, told_of}
use Rattle.compare.specs.Difference.{IsChange}
use Rattle.compare.specs.declared.change.Change.{Change}
use Rattle.compare.proofs.CompleteLaws.{told_already, told_first, told_stays}
use Rattle.compare.proofs.change.add_change.Goals as goal

pub returns-then-is_told-clause-told : goal.returns-then-is_told-clause-told
returns-then-is_told-clause-told c = λ t n d on.
    told_already t n d c.args.found.now c.args.changes.now.items (ap (list_any (λ change. list_any (is_same c.args.found.now) (differences_in change))) (sym c.deref.ensures.value)
    ∙ sym c.is_told.ensures ∙ c.if-is_told.true) on

pub returns-clause-kept : goal.returns-clause-kept
returns-clause-kept c = λ t n d told.
    subst (λ (changes : List Change). list_any (is_on t n d) (told_of changes) ≡ true) (sym c.in_ok-push.ensures.items)
    (told_stays (is_on t n d) c.args.changes.now.items c.in_ok-change.change told)

pub returns-clause-told : goal.returns-clause-told
returns-clause-told c = λ t n d on.
    subst (λ (changes : List Change). list_any (is_on t n d) (told_of changes) ≡ true) (sym c.in_ok-push.ensures.items)
    (told_first (is_on t n d) c.args.changes.now.items c.in_ok-change.change (ap (is_on t n d) c.in_ok-change.ensures.first ∙ on))

pub returns-clause-are : goal.returns-clause-are
returns-clause-are c = λ family p q all is told.
    subst (λ (changes : List Change). All (IsChange family p q) changes) (sym c.in_ok-push.ensures.items)
    (All-push (IsChange family p q) c.args.changes.now.items c.in_ok-change.change told (c.in_ok-change.ensures.is family p q is all))
