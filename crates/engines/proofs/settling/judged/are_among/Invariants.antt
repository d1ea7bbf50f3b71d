use Rattle.std.proofs.Common.{take}
use Rattle.std.specs.List.{All, Contains}
use Rattle.profile.specs.declared.rules.Rule.{Rule}
use Rattle.engines.proofs.settling.judged.are_among.Given as goal

abbrev pub invariant-loop-rule : goal.invariant-loop-rule
invariant-loop-rule l = All (λ (rule : Rule). Contains l.rules rule) (take l.rule-index l.kept)
