use Rattle.std.proofs.Common.{length}
use Rattle.cli.proofs.all_behind.+explain_each.Given as goal

abbrev pub decreases-explain_each : goal.decreases-explain_each
decreases-explain_each g l = length l.all.now
