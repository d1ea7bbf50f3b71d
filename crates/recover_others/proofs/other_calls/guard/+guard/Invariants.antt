use Rattle.std.proofs.Common.{length}
use Rattle.recover_others.proofs.other_calls.guard.+guard.Given as goal

abbrev pub decreases-guard : goal.decreases-guard
decreases-guard l = length l.machines.now
