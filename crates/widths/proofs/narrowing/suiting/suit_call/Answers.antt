use Rattle.std.proofs.Common.{List, subst, arith}
use Rattle.std.specs.Prelude.{slice_index}
use Rattle.std.specs.List.{All}
use Rattle.std.proofs.lemmas.List.{take_all}
use Rattle.std.proofs.lemmas.List.Elements.{All-more}
use Rattle.profile.specs.declared.conditions.Cond.{Cond}
use Rattle.widths.specs.Cutting.{SuitsAt}
use Rattle.widths.proofs.narrowing.suiting.suit_call.Goals as goal

pub loop-cond-preserved : goal.loop-cond-preserved
loop-cond-preserved c =
    let P : Cond → Type 0 = λ x. SuitsAt c.args.token c.args.nr (slice_index c.args.plan.now x.index) x in
    let here : P c.cond-item.result = c.suits_at.ensures (c.if-not-suits_at.false) in
    All-more P c.args.conds.now c.loop-cond.cond-index c.cond-item.result (omega (arith, c.loop-cond-test.true)) c.loop-cond.invariant
    (subst P c.cond-item.is here)

pub returns : goal.returns
returns c = λ _.
    subst (λ (conds : List Cond). All (λ x. SuitsAt c.args.token c.args.nr (slice_index c.args.plan.now x.index) x) conds)
    (take_all c.loop-cond.cond-index c.args.conds.now c.loop-cond-test.false) c.loop-cond.invariant
