use Rattle.std.proofs.Common.{take}
use Rattle.std.specs.List.{All}
use Rattle.together.specs.OnCall.{AgreesAt}
use Rattle.together.proofs.judged.unlike_among.Given as goal

abbrev pub invariant-loop-args : goal.invariant-loop-args
invariant-loop-args l = All (AgreesAt l.way l.profiles l.joined l.call) (take l.args-index l.args-items)
