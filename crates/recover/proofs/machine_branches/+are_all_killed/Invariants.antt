use Rattle.std.proofs.Common.{length}
use Rattle.recover.proofs.machine_branches.+are_all_killed.Given as goal

abbrev pub decreases-are_all_killed : goal.decreases-are_all_killed
decreases-are_all_killed l = length l.numbers.now
