use Rattle.std.proofs.Common.{take}
use Rattle.std.specs.List.{All}
use Rattle.together.specs.OnCall.{Names}
use Rattle.together.proofs.calls.named_calls.Given as goal

abbrev pub invariant-loop-profile : goal.invariant-loop-profile
invariant-loop-profile l = All (Names l.list.items) (take l.profile-index l.profiles)
