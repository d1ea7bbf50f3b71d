use Rattle.std.proofs.Common.{◌≤◌, length, take}
use Rattle.widths.specs.Counts.{most_narrowed}
use Rattle.widths.specs.Narrowed.{AreNarrowed}
use Rattle.widths.proofs.narrowing.rules.narrowed_rules.Given as goal

abbrev pub invariant-loop-rule : goal.invariant-loop-rule
invariant-loop-rule l = AreNarrowed (take l.rule-index l.rules) l.narrowed.items × (length l.narrowed.items ≤ most_narrowed (take l.rule-index l.rules))
