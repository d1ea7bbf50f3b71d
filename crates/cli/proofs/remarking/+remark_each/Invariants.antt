use Rattle.std.proofs.Common.{length}
use Rattle.cli.proofs.remarking.+remark_each.Given as goal

abbrev pub decreases-remark_each : goal.decreases-remark_each
decreases-remark_each g l = length l.names.now
