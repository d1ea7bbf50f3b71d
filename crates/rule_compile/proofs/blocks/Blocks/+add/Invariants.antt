use Rattle.std.specs.Prelude.{length}
use Rattle.rule_compile.proofs.blocks.Blocks.+add.Given as goal

abbrev pub decreases-add : goal.decreases-add
decreases-add l = length l.rules.now
