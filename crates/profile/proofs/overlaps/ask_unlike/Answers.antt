use Rattle.std.proofs.Common.{◌≡◌, ℕ, Bool, sym, ◌∙◌, ap, subst, refl, slice_index_or, arith}
use Rattle.profile.specs.declared.conditions.Cond.{Cond}
use Rattle.profile.specs.inner.Meeting.{HasCommon, HaveCommon}
use Rattle.profile.proofs.overlaps.ask_unlike.Goals as goal

pub returns-then-are_unlike : goal.returns-then-are_unlike
unfolding HasCommon
returns-then-are_unlike c =
    let x = c.index-a-place.result in
    let y = c.index-b-place.result in
    let unlike = c.are_unlike.ensures c.if-are_unlike.true in
    let same = sym (ap (λ (d : Cond). d.index) c.index-a-place.is) ∙ unlike.0 ∙ ap (λ (d : Cond). d.index) c.index-b-place.is in
    λ narrow _ all.
    let both = all c.loop-place.place x (omega (arith, c.loop-place-test.true, c.min-place-end.ensures)) c.loop-place.place y
    (omega (arith, c.loop-place-test.true, c.min-place-end.ensures)) same in
    unlike.1 narrow
    (subst (λ (d : Cond). HaveCommon narrow x d) (sym c.index-b-place.is)
    (subst (λ (d : Cond). HaveCommon narrow d (slice_index_or c.args.b.now c.loop-place.place y)) (sym c.index-a-place.is) both))
