use Rattle.std.proofs.Common.{◌≡◌, [], length, inl, inr, refl, sym, ◌∙◌, ap, subst, arith, vec_len}
use Rattle.std.proofs.lemmas.Bool.{eqb-false, eqb-true, not-false, not-true}
use Rattle.std.proofs.lemmas.List.{nil_from_length}
use Rattle.differ.specs.declared.direction.Direction.TheVariants.{More}
use Rattle.compare.specs.Past.{IsFinding}
use Rattle.compare.proofs.PastLaws.{left_open, some_is_unlike}
use Rattle.compare.proofs.lint.hints.is_stopped.Goals as goal

pub returns-in-Unlike-clause-some : goal.returns-in-Unlike-clause-some
returns-in-Unlike-clause-some c = λ family p is t.
    let found = subst (IsFinding family p) c.in-Unlike.is is in
    some_is_unlike p More c.in-Unlike.stopped.items found.0.stopped.past
    (λ none. eqb-false (vec_len c.in-Unlike.stopped) 0 (sym c.is_empty.ensures ∙ not-true c.is_empty.result t)
    (let zero : length c.in-Unlike.stopped.items ≡ 0 = ap length none in omega (arith, zero)))

pub returns-in-Undecided-clause-some : goal.returns-in-Undecided-clause-some
returns-in-Undecided-clause-some c = λ family p is t.
    let found = subst (IsFinding family p) c.in-Undecided.is is in
    some_is_unlike p More c.in-Undecided.stopped.items found.0.stopped.past
    (λ none. eqb-false (vec_len c.in-Undecided.stopped) 0 (sym c.is_empty-in-Undecided.ensures ∙ not-true c.is_empty-in-Undecided.result t)
    (let zero : length c.in-Undecided.stopped.items ≡ 0 = ap length none in omega (arith, zero)))

pub returns-in-Nothing-clause-none : goal.returns-in-Nothing-clause-none
returns-in-Nothing-clause-none c = λ family p is t.
    let found = subst (IsFinding family p) c.in-Nothing.is is in inl found.1

pub returns-in-Unlike-clause-none : goal.returns-in-Unlike-clause-none
returns-in-Unlike-clause-none c = λ family p is t.
    let found = subst (IsFinding family p) c.in-Unlike.is is in
    let none : vec_len c.in-Unlike.stopped ≡ 0 = eqb-true (vec_len c.in-Unlike.stopped) 0 (sym c.is_empty.ensures ∙ not-false c.is_empty.result t) in
    inl (found.0.stopped.others (nil_from_length c.in-Unlike.stopped.items (omega (arith, none))) refl)

pub returns-in-Undecided-clause-none : goal.returns-in-Undecided-clause-none
returns-in-Undecided-clause-none c = λ family p is t.
    let found = subst (IsFinding family p) c.in-Undecided.is is in
    let none : vec_len c.in-Undecided.stopped ≡ 0 = eqb-true (vec_len c.in-Undecided.stopped) 0 (sym c.is_empty-in-Undecided.ensures ∙ not-false c.is_empty-in-Undecided.result t) in
    inr (left_open family p More c.in-Undecided.stopped.items c.in-Undecided.field-2.items found.0.stopped
    (nil_from_length c.in-Undecided.stopped.items (omega (arith, none))) found.1)
