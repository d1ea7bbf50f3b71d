use Rattle.machines.specs.Arch.{token_of}
use Rattle.profile.specs.declared.rules.Rule.{Rule}
use Rattle.profile.specs.Rule.{Clash}
use Rattle.profile.proofs.Walks.{HasCome, height}
use Rattle.profile.proofs.clashes.clashes_before.Given as goal

abbrev pub invariant-loop-next : goal.invariant-loop-next
invariant-loop-next l = HasCome (λ (x : Rule). Clash x l.rule) l.rules (token_of l.rule.arch) l.rule.nr l.second l.next

abbrev pub decreases-loop-next : goal.decreases-loop-next
decreases-loop-next l = height l.next
