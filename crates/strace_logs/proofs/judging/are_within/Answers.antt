use Rattle.std.proofs.Common.{List, subst}
use Rattle.std.specs.List.{All}
use Rattle.std.proofs.lemmas.List.{take_all}
use Rattle.std.proofs.lemmas.List.Elements.{All-more}
use Rattle.profile.specs.declared.conditions.Cond.{Cond}
use Rattle.strace_logs.specs.Taken.{IsWithin}
use Rattle.strace_logs.proofs.judging.are_within.Goals as goal

pub loop-cond-preserved : goal.loop-cond-preserved
loop-cond-preserved c =
    All-more (IsWithin c.args.bits.now) c.args.conds.now c.loop-cond.cond-index c.cond-item.result c.loop-cond-test.true c.loop-cond.invariant
    (subst (IsWithin c.args.bits.now) c.cond-item.is (c.is_within.ensures c.if-not-is_within.false))

pub returns : goal.returns
returns c = λ it_is.
    subst (λ (conds : List Cond). All (IsWithin c.args.bits.now) conds)
    (take_all c.loop-cond.cond-index c.args.conds.now c.loop-cond-test.false) c.loop-cond.invariant
