use Rattle.std.proofs.Common.{length}
use Rattle.strace_logs.proofs.passed_over.+are_read.Given as goal

abbrev pub decreases-are_read : goal.decreases-are_read
decreases-are_read l = length l.logs.now
