use Rattle.std.proofs.Common.{◌+◌, ◌∷◌, sym, ap, ◌∙◌}
use Rattle.std.specs.Prelude.{drop}
use Rattle.std.proofs.lemmas.List.{at_drop_all, at_drop_more}
use Rattle.lifecycle.specs.declared.register.Place.{Place}
use Rattle.lifecycle.specs.Listed.{known_in, listed}
use Rattle.lifecycle.proofs.Places.{name_here, name_in}
use Rattle.lifecycle.proofs.register.Register.name_at.Goals as goal

pub returns-then-left-eq0 : goal.returns-then-left-eq0
unfolding listed
returns-then-left-eq0 c =
    let known = known_in c.args.self.now in
    let items = c.as_slice-place-items.result.now in
    let index = c.loop-place.place-index in
    let p = c.place-item.result in
    sym (name_here known p (drop (index + 1) items) (sym c.if-is_there.ensures))
    ∙ ap (λ (q : Place). name_in known (q ∷ drop (index + 1) items) 0) c.place-item.is
    ∙ sym (at_drop_more (λ ps. name_in known ps 0) items index p c.loop-place-test.true)
    ∙ ap (name_in known (drop index items)) (sym c.if-left-eq0.true)
    ∙ c.loop-place.invariant
    ∙ ap (λ ps. name_in known ps c.args.i) c.as_slice-place-items.ensures.value

pub returns : goal.returns
unfolding listed
returns c =
    let known = known_in c.args.self.now in
    let items = c.as_slice-place-items.result.now in
    sym (at_drop_all (λ ps. name_in known ps c.loop-place.left) items c.loop-place.place-index c.loop-place-test.false)
    ∙ c.loop-place.invariant
    ∙ ap (λ ps. name_in known ps c.args.i) c.as_slice-place-items.ensures.value
