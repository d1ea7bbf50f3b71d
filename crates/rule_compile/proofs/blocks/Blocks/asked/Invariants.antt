use Rattle.std.specs.Prelude.{⊤}
use Rattle.rule_compile.proofs.blocks.Blocks.asked.Given as goal

abbrev pub invariant-loop-known : goal.invariant-loop-known
invariant-loop-known l = ⊤
