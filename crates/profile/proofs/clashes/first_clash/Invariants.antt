use Rattle.std.proofs.Common.{take}
use Rattle.profile.specs.Policy.{IsClear}
use Rattle.profile.proofs.clashes.first_clash.Given as goal

abbrev pub invariant-loop-second : goal.invariant-loop-second
invariant-loop-second l = IsClear (take l.second l.rules)
