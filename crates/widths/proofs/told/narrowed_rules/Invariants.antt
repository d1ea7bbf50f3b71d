use Rattle.std.proofs.Common.{take}
use Rattle.widths.specs.Narrowed.{AreNarrowed}
use Rattle.widths.proofs.told.narrowed_rules.Given as goal

abbrev pub invariant-loop-rule : goal.invariant-loop-rule
invariant-loop-rule l = AreNarrowed (take l.rule-index l.rules) l.narrowed.items
