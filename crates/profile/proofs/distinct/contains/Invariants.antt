use Rattle.machines.specs.Arch.{token_of}
use Rattle.std.proofs.Common.{◌≡◌, length}
use Rattle.profile.specs.declared.rules.Rule.{Rule}
use Rattle.profile.proofs.Walks.{HasCome, height}
use Rattle.profile.proofs.distinct.contains.Given as goal

abbrev pub invariant-loop-next : goal.invariant-loop-next
invariant-loop-next l = HasCome (λ (x : Rule). x ≡ l.rule) l.rules (token_of l.rule.arch) l.rule.nr (length l.rules) l.next

abbrev pub decreases-loop-next : goal.decreases-loop-next
decreases-loop-next l = height l.next
