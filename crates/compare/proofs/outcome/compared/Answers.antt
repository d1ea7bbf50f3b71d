use Rattle.compare.proofs.EqualLaws.{equal_say_the_same}
use Rattle.compare.proofs.outcome.compared.Goals as goal

pub returns-then-are_equal-clause-is : goal.returns-then-are_equal-clause-is
returns-then-are_equal-clause-is c = equal_say_the_same c.args.first.now c.args.second.now (c.are_equal.ensures.0 c.if-are_equal.true)

pub returns-clause-is : goal.returns-clause-is
returns-clause-is c = c.by_differences.ensures c.deref.result.now c.in_ok-all.ensures
