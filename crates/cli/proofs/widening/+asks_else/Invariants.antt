use Rattle.std.proofs.Common.{length}
use Rattle.cli.proofs.widening.+asks_else.Given as goal

abbrev pub decreases-asks_else : goal.decreases-asks_else
decreases-asks_else l = length l.words.now
