use Rattle.std.proofs.Common.{take}
use Rattle.widths.specs.Lowered.{AreLowered}
use Rattle.widths.proofs.told.lowered_rules.Given as goal

abbrev pub invariant-loop-rule : goal.invariant-loop-rule
invariant-loop-rule l = AreLowered l.lowers.items (take l.rule-index l.rules)
