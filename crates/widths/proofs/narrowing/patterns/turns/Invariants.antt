use Rattle.std.proofs.Common.{◌≡◌}
use Rattle.widths.specs.Patterns as spec
use Rattle.widths.proofs.narrowing.patterns.turns.Given as goal

abbrev pub invariant-loop-place : goal.invariant-loop-place
invariant-loop-place l = l.list.items ≡ spec.turns_below l.bits l.value l.up l.down l.place
