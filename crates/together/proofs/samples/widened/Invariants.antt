use Rattle.std.proofs.Common.{◌≡◌, take}
use Rattle.together.specs.OnCall.{widened}
use Rattle.together.proofs.samples.widened.Given as goal

abbrev pub invariant-loop-args : goal.invariant-loop-args
invariant-loop-args l = l.list.items ≡ widened l.index l.values (take l.args-index l.samples)
