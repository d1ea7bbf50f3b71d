use Rattle.std.proofs.Common.{length}
use Rattle.recover_others.proofs.other_calls.guard.+fronts.Given as goal

abbrev pub decreases-fronts : goal.decreases-fronts
decreases-fronts l = length l.numbers.now
