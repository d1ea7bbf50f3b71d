use Rattle.std.proofs.Common.{subst, sym, arith}
use Rattle.std.proofs.lemmas.List.Elements.{All-get_or}
use Rattle.compare.specs.Difference.{IsDifference}
use Rattle.compare.proofs.change.change_of.Goals as goal

pub loop-other-preserved : goal.loop-other-preserved
loop-other-preserved c = λ family p q all.
    c.in_ok-add_like.ensures family p q (c.loop-other.invariant family p q all)
    (subst (IsDifference family p q) (sym c.other-item.is)
    (All-get_or (IsDifference family p q) c.args.others.now c.loop-other.other-index c.other-item.result (omega (arith, c.loop-other-test.true)) all))

pub returns-clause-is : goal.returns-clause-is
returns-clause-is c = λ family p q first all. record { first = first; others = c.loop-other.invariant family p q all }
