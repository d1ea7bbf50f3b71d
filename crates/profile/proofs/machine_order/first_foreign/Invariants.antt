use Rattle.std.proofs.Common.{take}
use Rattle.std.specs.List.{All, Contains}
use Rattle.profile.specs.declared.rules.Rule.{Rule}
use Rattle.profile.proofs.machine_order.first_foreign.Given as goal

abbrev pub invariant-loop-place : goal.invariant-loop-place
invariant-loop-place l = All (λ (rule : Rule). Contains l.archs rule.arch) (take l.place l.rules)
