use Rattle.std.proofs.Common.{length}
use Rattle.strace_logs.proofs.passed_over.+put_all_unread.Given as goal

abbrev pub decreases-put_all_unread : goal.decreases-put_all_unread
decreases-put_all_unread l = length l.logs.now
