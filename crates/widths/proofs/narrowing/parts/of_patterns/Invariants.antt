use Rattle.std.proofs.Common.{take}
use Rattle.widths.specs.Parts.{AreOfPatterns}
use Rattle.widths.proofs.narrowing.parts.of_patterns.Given as goal

abbrev pub invariant-loop-pattern : goal.invariant-loop-pattern
invariant-loop-pattern l = AreOfPatterns l.index (take l.pattern-index l.patterns) l.list.items
