use Rattle.std.proofs.Common.{length}
use Rattle.call_record.specs.Record.{words}
use Rattle.profile.specs.declared.rules.Rule.{Rule}
use Rattle.profile.specs.Rule.{Matches}
use Rattle.profile.proofs.Walks.{HasCome, height}
use Rattle.profile.proofs.policy.Profile.decide.Given as goal

abbrev pub invariant-loop-next : goal.invariant-loop-next
invariant-loop-next l = HasCome (λ (x : Rule). Matches x (words l.call)) l.self.rules l.call.arch l.call.nr (length l.self.rules) l.next

abbrev pub decreases-loop-next : goal.decreases-loop-next
decreases-loop-next l = height l.next
