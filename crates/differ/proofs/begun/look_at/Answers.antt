use Rattle.std.proofs.Common.{length, ◌<◌, arith, sym}
use Rattle.std.proofs.lemmas.List.{take_all}
use Rattle.std.proofs.lemmas.List.Elements.{All-push, All-same}
use Rattle.differ.specs.inner.Branch.{Overlooks}
use Rattle.differ.proofs.AlikeLaws.{one_more}
use Rattle.differ.proofs.begun.look_at.Goals as goal

pub loop-cond-preserved : goal.loop-cond-preserved
loop-cond-preserved c =
    let lt : c.loop-cond.cond-index < length c.args.conds.now = omega arith in
    All-same (Overlooks c.args.place) _ _ (one_more c.args.conds.now c.loop-cond.cond-index c.cond-item.result lt c.cond-item.is)
    (All-push (Overlooks c.args.place) _ c.cond-item.result c.loop-cond.invariant (c.looks_at.ensures c.if-looks_at.false))

pub returns : goal.returns
returns c = λ no.
    All-same (Overlooks c.args.place) _ _ (sym (take_all c.loop-cond.cond-index c.args.conds.now (omega arith))) c.loop-cond.invariant
