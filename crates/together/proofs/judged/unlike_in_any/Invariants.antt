use Rattle.std.proofs.Common.{take}
use Rattle.std.specs.List.{All}
use Rattle.together.specs.OnCall.{AgreesOnCall}
use Rattle.together.proofs.judged.unlike_in_any.Given as goal

abbrev pub invariant-loop-call : goal.invariant-loop-call
invariant-loop-call l = All (λ call. AgreesOnCall l.way l.profiles l.joined call.token call.nr) (take l.call-index l.calls)
