use Rattle.std.specs.Prelude.{◌≡◌, ◌<◌, ◌≤◌, IfSome, drop, length, true}
use Rattle.rule_compile.specs.Rules.{begins_here}
use Rattle.rule_compile.proofs.measures.middle.Given as goal

abbrev pub invariant-loop-place : goal.invariant-loop-place
invariant-loop-place l = IfSome l.found (λ place. (1 ≤ place) × (place < length l.rules) × (begins_here (drop place l.rules) ≡ true))
